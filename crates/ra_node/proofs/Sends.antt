-- Whom the messages of an automaton's steps are for.
use Rattle.std.proofs.Common.{◌≡◌, ℕ, zero, suc, ◌+◌, ◌<◌, ◌≤◌, Bool, true, false, cond, not, T, List, [], ◌∷◌, All, get_or, map, filter, Some, refl, sym, ap, ◌∙◌, subst, arith, inl, inr}
use Rattle.std.specs.Prelude.{◌==◌}
use Rattle.std.specs.List.{range_with_len}
use Rattle.std.specs.Ordering.{nat_cmp, eq_by_cmp, is_eq, is_lt}
use Rattle.std.specs.declared.cmp.Ordering.{Ordering}
use Rattle.std.specs.Cmp.{nat_cmp_total, tied_itself, Equal-is}
use Rattle.std.specs.FinMap as finmap
use Rattle.std.specs.FinMap.Entries.{find, is_sorted, below_all}
use Rattle.std.proofs.lemmas.List.Elements.{All-nil, All-cons, All-map, All-weaker}
use Rattle.ra_stamp.specs.declared.message.Message.{Message}
use Rattle.ra_stamp.specs.declared.message.Message.TheVariants.{Request, Reply}
use Rattle.ra_stamp.specs.Message.{seq_of}
use Rattle.ra_automaton.proofs.Consistent.{not_me}
use Rattle.ra_automaton.specs.State.{State, IsOther, IsAddressed, IsConsistent}
use Rattle.ra_automaton.specs.Steps.{others_of, ReceiveStep}
use Rattle.ra_node.specs.Carried.{IsSend}
use Rattle.ra_node.proofs.Lookups.{true_of}

-- a message of this node about this resource, with a number
abbrev pub IsNumberedSend : State → Message → Type 0
IsNumberedSend s message = IsSend s.me s.nodes s.name message × (1 ≤ seq_of message)

passing_in_range : (p : ℕ → Bool) (first n : ℕ) → All (λ k. (first ≤ k) × (k < first + n) × (p k ≡ true)) (filter p (range_with_len first n))
passing_in_range p first zero = All-nil (λ k. (first ≤ k) × (k < first + zero) × (p k ≡ true))
passing_in_range p first (suc n) =
    let later : All (λ k. (first ≤ k) × (k < first + suc n) × (p k ≡ true)) (filter p (range_with_len (first + 1) n)) =
    All-weaker (λ k. (first + 1 ≤ k) × (k < (first + 1) + n) × (p k ≡ true)) (λ k. (first ≤ k) × (k < first + suc n) × (p k ≡ true)) (λ k h. (omega (arith, h.0), omega (arith, h.1), h.2)) (filter p (range_with_len (first + 1) n)) (passing_in_range p (first + 1) n)
    in
    elim (p first) as (λ b. p first ≡ b → All (λ k. (first ≤ k) × (k < first + suc n) × (p k ≡ true)) (cond b (first ∷ filter p (range_with_len (first + 1) n)) (filter p (range_with_len (first + 1) n)))) [
      | true ↦ λ e. All-cons (λ k. (first ≤ k) × (k < first + suc n) × (p k ≡ true)) first (filter p (range_with_len (first + 1) n)) (omega arith, omega arith, e) later
      | false ↦ λ _. later
    ] refl

all_others : (s : State) → All (IsOther s) (others_of s.me s.nodes)
all_others s =
    All-weaker (λ k. (1 ≤ k) × (k < 1 + s.nodes) × (not (k == s.me) ≡ true)) (IsOther s)
    (λ k h. record { first = h.0; last = omega (arith, h.1); other = not_me k s.me h.2 })
    (others_of s.me s.nodes)
    (passing_in_range (λ k. not (k == s.me)) 1 s.nodes)

pub requests_are_sends : (s : State) (mode : _) (number : ℕ) → 1 ≤ number → All (IsNumberedSend s) (map (λ other. Request s.me other s.name mode number) (others_of s.me s.nodes))
requests_are_sends s mode number low =
    All-map (IsNumberedSend s) (λ other. Request s.me other s.name mode number) (others_of s.me s.nodes)
    (All-weaker (IsOther s) (λ other. IsNumberedSend s (Request s.me other s.name mode number))
    (λ k h. (record { from = refl; to = h; name_is = refl }, low))
    (others_of s.me s.nodes) (all_others s))

-- ---- The deferred nodes

not_tied : (a b : ℕ) → T (is_lt (nat_cmp a b)) → eq_by_cmp nat_cmp b a ≡ false
not_tied a b lt =
    elim (eq_by_cmp nat_cmp b a) as (λ t. eq_by_cmp nat_cmp b a ≡ t → t ≡ false) [
      | true ↦ λ e. absurd (subst (λ (r : Ordering). T (is_lt r)) (ap (nat_cmp a) (finmap.nat_cmp-IsAntisymmetric b a ((Equal-is (nat_cmp b a)).0 e)) ∙ tied_itself nat_cmp_total a) lt)
      | false ↦ λ _. refl
    ] refl

all_above : (k : ℕ) (es : List (ℕ × ℕ)) → T (below_all nat_cmp k es) → All (λ e. eq_by_cmp nat_cmp e.0 k ≡ false) es
all_above k [] t = All-nil (λ e. eq_by_cmp nat_cmp e.0 k ≡ false)
all_above k (e ∷ es) t =
    let both = true_of (is_lt (nat_cmp k e.0)) (below_all nat_cmp k es) t in
    All-cons (λ x. eq_by_cmp nat_cmp x.0 k ≡ false) e es (not_tied k e.0 both.0) (all_above k es both.1)

-- in a list in order each entry is found by its key
each_found : (es : List (ℕ × ℕ)) → T (is_sorted nat_cmp es) → All (λ e. find nat_cmp e.0 es ≡ Some e.1) es
each_found [] t = All-nil (λ e. find nat_cmp e.0 [] ≡ Some e.1)
each_found (e ∷ es) t =
    let both = true_of (below_all nat_cmp e.0 es) (is_sorted nat_cmp es) t in
    let rest = each_found es both.1 in
    let above = all_above e.0 es both.0 in
    All-cons (λ x. find nat_cmp x.0 (e ∷ es) ≡ Some x.1) e es (ap (λ (r : Ordering). cond (is_eq r) (Some e.1) (find nat_cmp e.0 es)) (tied_itself nat_cmp_total e.0))
    (λ k d lt. ap (λ b. cond b (Some e.1) (find nat_cmp (get_or es k d).0 es)) (above k d lt) ∙ rest k d lt)

pub all_deferred : (s : State) → IsConsistent s → All (λ e. IsOther s e.0 × (1 ≤ e.1)) (finmap.entries s.deferred)
all_deferred s h =
    All-weaker (λ e. find nat_cmp e.0 (finmap.entries s.deferred) ≡ Some e.1) (λ e. IsOther s e.0 × (1 ≤ e.1))
    (λ e found. let here = finmap.get-entries s.deferred e.0 ∙ found in (h.deferred_others e.0 e.1 here, (h.deferred_numbers e.0 e.1 here).0))
    (finmap.entries s.deferred)
    (each_found (finmap.entries s.deferred) (finmap.entries_sorted s.deferred))

pub replies_are_sends : (s : State) → IsConsistent s → All (IsNumberedSend s) (map (λ deferred. Reply s.me deferred.0 s.name deferred.1) (finmap.entries s.deferred))
replies_are_sends s h =
    All-map (IsNumberedSend s) (λ e. Reply s.me e.0 s.name e.1) (finmap.entries s.deferred)
    (All-weaker (λ e. IsOther s e.0 × (1 ≤ e.1)) (λ e. IsNumberedSend s (Reply s.me e.0 s.name e.1))
    (λ e k. (record { from = refl; to = k.0; name_is = refl }, k.1))
    (finmap.entries s.deferred) (all_deferred s h))

pub answers_are_sends : (s : State) (message : Message) (sends : List Message) (entered : Bool) (new : State) → IsAddressed s message → ReceiveStep s message sends entered new
    → All (λ sent. IsSend s.me s.nodes s.name sent × (seq_of sent ≡ seq_of message)) sends
answers_are_sends s (Request from to name mode seq) sends entered new addressed step =
    elim step.1 [
      | inl defers ↦ subst (λ (ms : List Message). All (λ sent. IsSend s.me s.nodes s.name sent × (seq_of sent ≡ seq)) ms) (sym defers.sends_are) (All-nil (λ sent. IsSend s.me s.nodes s.name sent × (seq_of sent ≡ seq)))
      | inr replies ↦ subst (λ (ms : List Message). All (λ sent. IsSend s.me s.nodes s.name sent × (seq_of sent ≡ seq)) ms) (sym replies.sends_are)
          (All-cons (λ sent. IsSend s.me s.nodes s.name sent × (seq_of sent ≡ seq)) (Reply s.me from s.name seq) []
          (record { from = refl; to = addressed.from; name_is = refl }, refl)
          (All-nil (λ sent. IsSend s.me s.nodes s.name sent × (seq_of sent ≡ seq))))
    ]
answers_are_sends s (Reply from to name seq) sends entered new addressed step =
    subst (λ (ms : List Message). All (λ sent. IsSend s.me s.nodes s.name sent × (seq_of sent ≡ seq)) ms) (sym step.0) (All-nil (λ sent. IsSend s.me s.nodes s.name sent × (seq_of sent ≡ seq)))
