-- Ranks that go down show that there is no circle.
use Rattle.std.proofs.Common.{rules, ◌≡◌, ◌⊎◌, ℕ, zero, suc, ◌<◌, ◌≤◌, ◌+◌, ◌-◌, inl, inr, List, [], ◌∷◌, Bool, true, false, Contains, length, get_or, sym, ◌∙◌, ap, subst, arith}
use Rattle.std.specs.Prelude.{map, unwrap_or}
use Rattle.std.specs.List.Sorted.{IsPermutation}
use Rattle.std.proofs.lemmas.Bool.{cases_lt}
use Rattle.std.proofs.lemmas.List.{get_or_default, get_or-map, length-map}
use Rattle.std.proofs.lemmas.List.Sorted.{Contains-permutation}
use Rattle.ra_stamp.specs.declared.entry.Entry.{Entry}
use Rattle.ra_deadlock.specs.declared.request.Stage.{Stage}
use Rattle.ra_deadlock.specs.declared.request.Stage.TheVariants.{Waits, Queued, Holds}
use Rattle.ra_deadlock.specs.declared.request.Request.{Request}
use Rattle.ra_deadlock.specs.declared.search.ranks.Ranked.{Ranked}
use Rattle.ra_deadlock.specs.Deadlock.{IsInTheWay, IsInTheWayAt, EndsAfter, IsCircle, IsDeadlock, IsAnswer, is_granted}
use Rattle.ra_deadlock.specs.Ranks.{Agree, AgreesAt, AgreesWithClient, Descends}

-- ---- Ranked requests

abbrev pub requests_of : List Ranked → List Request
requests_of ranked = map (λ it. it.request) ranked

-- a request of the list has a rank
pub ranked_with : (ranked : List Ranked) (request : Request) → Contains (requests_of ranked) request → (a : Ranked) × Contains ranked a × (a.request ≡ request)
ranked_with ranked request (k, lt, is) =
    let d : Ranked = record { request = request; rank = 0 } in
    let within : k < length ranked = omega (arith, lt, length-map ranked (λ (it : Ranked). it.request)) in (
      get_or ranked k d,
      (k, within, get_or_default ranked k (get_or ranked k d) d within),
      sym (get_or-map (λ (it : Ranked). it.request) ranked k d request within) ∙ is,
    )

-- none is in its own way
pub not_in_its_way : (request : Request) → IsInTheWay request request → ⊥
not_in_its_way request = by_stage request.stage request.entry where
  by_stage : (stage : Stage) (entry : Entry) → IsInTheWayAt stage (record { entry = entry; stage = stage }) entry → ⊥
  by_stage Waits entry = λ way. grind (arith, way)
  by_stage Queued entry = λ way. way
  by_stage Holds entry = λ way. way

-- ---- No circle

-- after so many steps in the circle the rank went down at least as far
down : (ranked : List Ranked) (circle : List Request) (first : Ranked) → Descends ranked → ((k : ℕ) (d : Request) → k < length circle → Contains (requests_of ranked) (get_or circle k d))
    → ((k : ℕ) (d : Request) → k + 1 < length circle → EndsAfter (get_or circle k d) (get_or circle (k + 1) d))
    → Contains ranked first → (d : Request) → first.request ≡ get_or circle 0 d
    → (k : ℕ) → k < length circle → (a : Ranked) × Contains ranked a × (a.request ≡ get_or circle k d) × (a.rank + k ≤ first.rank)
down ranked circle first falls among each has d is zero lt = (first, has, is, omega arith)
down ranked circle first falls among each has d is (suc k) lt =
    let before = down ranked circle first falls among each has d is k (omega (arith, lt)) in
    let (next, there, same) = ranked_with ranked (get_or circle (k + 1) d) (among (k + 1) d (omega (arith, lt))) in
    let less : next.rank < before.0.rank = falls before.0 next before.1 there
    (subst (λ (r : Request). EndsAfter before.0.request r) (sym same)
    (subst (λ (r : Request). EndsAfter r (get_or circle (k + 1) d)) (sym before.2) (each k d (omega (arith, lt))))) in
    let up : k + 1 ≡ suc k = omega arith in
    (next, there, same ∙ ap (λ (m : ℕ). get_or circle m d) up, omega (arith, less, before.3))

pub no_circle : (requests : List Request) (ranked : List Ranked) → IsPermutation requests (requests_of ranked) → Descends ranked → IsDeadlock requests → ⊥
no_circle requests ranked same falls ([], circle) = omega (arith, circle.some)
no_circle requests ranked same falls (d ∷ rest, circle) =
    let among = λ (k : ℕ) (e : Request) (lt : k < length (d ∷ rest)). Contains-permutation requests (requests_of ranked) (get_or (d ∷ rest) k e) same (circle.among k e lt) in
    let (first, has, is) = ranked_with ranked d (among 0 d circle.some) in
    let end = down ranked (d ∷ rest) first falls among circle.each has d is (length (d ∷ rest) - 1) (omega arith) in
    let less : first.rank < end.0.rank = falls end.0 first end.1 has
    (subst (λ (r : Request). EndsAfter end.0.request r) (sym is)
    (subst (λ (r : Request). EndsAfter r d) (sym end.2) (circle.last d))) in
    omega (arith, less, end.3)

-- ---- Ranks that agree go down

-- what two places say of the ranks there
pub descends : (ranked : List Ranked) (rank_of : Request → ℕ)
    → ((a b : Request) → (a.entry.stamp.node ≡ b.entry.stamp.node) → (a.entry.client ≡ b.entry.client) → rank_of a ≡ rank_of b)
    → ((k : ℕ) (d : Ranked) → k < length ranked → AgreesAt (is_granted (get_or ranked k d).request.stage) (get_or ranked k d).rank (rank_of (get_or ranked k d).request))
    → ((k j : ℕ) (d : Ranked) → k < j → j < length ranked → Agree (get_or ranked k d) (get_or ranked j d))
    → Descends ranked
descends ranked rank_of alike clients pairs a b (i, i_lt, i_is) (j, j_lt, j_is) (inl way) =
    elim (cases_lt i j) [
      | inl less ↦
          (subst (λ (x : Ranked). Agree x b) (get_or_default ranked i b a i_lt ∙ i_is)
          (subst (λ (x : Ranked). Agree (get_or ranked i b) x) j_is (pairs i j b less j_lt))).0 way
      | inr above ↦ elim (cases_lt j i) [
        | inl less ↦
            (subst (λ (x : Ranked). Agree x a) (get_or_default ranked j a b j_lt ∙ j_is)
            (subst (λ (x : Ranked). Agree (get_or ranked j a) x) i_is (pairs j i a less i_lt))).1 way
        | inr not ↦
            let at : i ≡ j = omega (arith, above, not) in
            let same : a ≡ b = sym i_is ∙ get_or_default ranked i a b i_lt ∙ ap (λ k. get_or ranked k b) at ∙ j_is in
            absurd (not_in_its_way b.request (subst (λ (x : Ranked). IsInTheWay b.request x.request) same way))
      ]
    ]
descends ranked rank_of alike clients pairs a b (i, i_lt, i_is) (j, j_lt, j_is) (inr (granted, waits, client)) =
    let of_a : AgreesAt (is_granted a.request.stage) a.rank (rank_of a.request) =
    subst (λ (x : Ranked). AgreesAt (is_granted x.request.stage) x.rank (rank_of x.request)) i_is (clients i a i_lt) in
    let of_b : AgreesAt (is_granted b.request.stage) b.rank (rank_of b.request) =
    subst (λ (x : Ranked). AgreesAt (is_granted x.request.stage) x.rank (rank_of x.request)) j_is (clients j b j_lt) in
    let above : rank_of a.request < a.rank = subst (λ (x : Bool). AgreesAt x a.rank (rank_of a.request)) granted of_a in
    let below : b.rank < rank_of b.request = subst (λ (x : Bool). AgreesAt x b.rank (rank_of b.request)) waits of_b in
    omega (arith, above, below, alike a.request b.request client.0 client.1)

-- ---- The answer

pub none_found : (requests found : List Request) → length found ≡ 0 → (IsDeadlock requests → ⊥) → IsAnswer requests found
none_found requests [] none not = not
none_found requests (first ∷ rest) none not = absurd (omega (arith, none))

pub circle_found : (requests found : List Request) → 0 < length found → IsCircle requests found → IsAnswer requests found
circle_found requests [] some circle = absurd (omega (arith, some))
circle_found requests (first ∷ rest) some circle = circle
