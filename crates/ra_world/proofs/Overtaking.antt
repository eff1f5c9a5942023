-- Which entries overtake a waiting one in steps of the lock table, if the requests that are made meanwhile have greater
-- numbers.
use Rattle.std.proofs.Common.{◌≡◌, ◌≢◌, ◌⊎◌, ℕ, zero, suc, ◌<◌, List, [], ◌∷◌, ◌++◌, All, Contains, Some, sym, ap, ◌∙◌, subst, arith, inl, inr}
use Rattle.std.proofs.lemmas.Option.{same_Some}
use Rattle.std.proofs.lemmas.Bool.{cases_lt}
use Rattle.std.proofs.lemmas.List.Elements.{All-head, All-tail, All-contains}
use Rattle.ra_stamp.specs.declared.entry.Entry.{Entry}
use Rattle.ra_stamp.specs.declared.entry.Mark.{Mark}
use Rattle.ra_stamp.specs.declared.entry.Mark.TheVariants.{Requested, Entered, Left, Withdrawn}
use Rattle.ra_stamp.specs.declared.mode.Mode.{Mode}
use Rattle.ra_stamp.specs.Mode.{Conflict}
use Rattle.ra_stamp.specs.Stamp.{IsEarlier}
use Rattle.ra_stamp.proofs.StampLaws.{one_is_earlier}
use Rattle.ra_table.specs.Table.{LockTable, Excludes, MayEnter, TableStep, TableSteps}
use Rattle.ra_table.specs.Refusals.{SharesNodeAndName}
use Rattle.ra_table.proofs.Apart.{Apart, All-apart, Contains-put, Contains-cases, Contains-cons_cases}
use Rattle.ra_table.proofs.Sound.{NotOfOneNode, NotOfOneNode-flip, IsSoundTable, step_sound}
use Rattle.ra_world.specs.Fairness.{Overtakes}

-- a request of a node that is At, on the entry's name, has a greater number
abbrev pub IsAbove : (ℕ → Type 0) → Entry → Mark → Type 0
IsAbove At e (Requested f) = At f.stamp.node → f.name ≡ e.name → e.stamp.seq < f.stamp.seq
IsAbove At e (Entered f) = Unit {0}
IsAbove At e (Left f) = Unit {0}
IsAbove At e (Withdrawn f) = Unit {0}

pub steps_sound : (marks : List Mark) (old new : LockTable) → TableSteps old marks new → IsSoundTable old → IsSoundTable new
steps_sound [] old new steps sound = subst IsSoundTable (sym steps) sound
steps_sound (m ∷ marks) old new steps sound = steps_sound marks steps.0 new steps.2 (step_sound old steps.0 m steps.1 sound)

-- an entry waits on until it enters or is withdrawn
waits_on : (e : Entry) (old new : LockTable) (m : Mark) → TableStep old m new → (m ≡ Entered e → ⊥) → (m ≡ Withdrawn e → ⊥) → Contains old.waiting e → Contains new.waiting e
waits_on e old new (Requested x) step other kept at = rw step.1.3 (Contains-put step.1.0 step.1.1 x e (subst (λ (w : List Entry). Contains w e) step.1.2 at))
waits_on e old new (Entered x) step other kept at =
    elim (Contains-cases step.1.0 step.1.1 x e (subst (λ (w : List Entry). Contains w e) step.1.3 at)) [
      | inl same ↦ absurd (other (ap (λ (y : Entry). Entered y) same))
      | inr rest ↦ rw step.1.2 rest
    ]
waits_on e old new (Left x) step other kept at = rw step.1 at
waits_on e old new (Withdrawn x) step other kept at =
    elim (Contains-cases step.1.0 step.1.1 x e (subst (λ (w : List Entry). Contains w e) step.1.3 at)) [
      | inl same ↦ absurd (kept (ap (λ (y : Entry). Withdrawn y) same))
      | inr rest ↦ rw step.1.2 rest
    ]

-- one that waits was just requested, or waited before
waited_before : (f : Entry) (old new : LockTable) (m : Mark) → TableStep old m new → Contains new.waiting f → (m ≡ Requested f) ⊎ Contains old.waiting f
waited_before f old new (Requested x) step at =
    elim (Contains-cases step.1.0 step.1.1 x f (subst (λ (w : List Entry). Contains w f) step.1.3 at)) [
      | inl same ↦ inl (ap (λ (y : Entry). Requested y) same)
      | inr older ↦ inr (rw step.1.2 older)
    ]
waited_before f old new (Entered x) step at = inr (rw step.1.3 (Contains-put step.1.0 step.1.1 x f (subst (λ (w : List Entry). Contains w f) step.1.2 at)))
waited_before f old new (Left x) step at = inr (rw (← step.1) at)
waited_before f old new (Withdrawn x) step at = inr (rw step.1.3 (Contains-put step.1.0 step.1.1 x f (subst (λ (w : List Entry). Contains w f) step.1.2 at)))

-- two entries of one node on one name that wait are one
one_of_node : (xs : List Entry) (a b : Entry) → Apart NotOfOneNode xs → Contains xs a → Contains xs b → SharesNodeAndName a b → a ≡ b
one_of_node [] a b apart at_a at_b same = absurd (omega (arith, at_a.1))
one_of_node (x ∷ xs) a b apart at_a at_b same =
    elim (Contains-cons_cases x xs a at_a) [
      | inl is_a ↦ elim (Contains-cons_cases x xs b at_b) [
        | inl is_b ↦ sym is_a ∙ is_b
        | inr later ↦ absurd (All-contains (NotOfOneNode x) xs b apart.0 later (subst (λ (y : Entry). SharesNodeAndName y b) (sym is_a) same))
      ]
      | inr there ↦ elim (Contains-cons_cases x xs b at_b) [
        | inl is_b ↦ absurd (All-contains (NotOfOneNode x) xs a apart.0 there (subst (λ (y : Entry). SharesNodeAndName y a) (sym is_b) (sym same.0, sym same.1)))
        | inr later ↦ one_of_node xs a b apart.1 there later same
      ]
    ]

never_earlier : (a b : Entry) → IsEarlier a.stamp b.stamp → b.stamp.seq < a.stamp.seq → ⊥
never_earlier a b earlier above = elim earlier [ inl below ↦ omega (arith, below, above) | inr same ↦ omega (arith, same.0, above) ]

later_on : (m : Mark) (ms : List Mark) (place : ℕ) (f e : Entry) → Overtakes (m ∷ ms) (suc place) f e → Overtakes ms place f e
later_on m ms place f e over =
    record { other = over.other; excludes = over.excludes; enters = over.enters; not_yet = λ earlier lt at. over.not_yet (suc earlier) (omega (arith, lt)) at; not_withdrawn = λ earlier lt at. over.not_withdrawn (suc earlier) (omega (arith, lt)) at }

module _ (flips : (a b : Mode) → Conflict a b → Conflict b a) (e : Entry) where
  -- two that wait and exclude each other are of different nodes
  of_another_node : (t : LockTable) (f : Entry) → IsSoundTable t → Contains t.waiting e → Contains t.waiting f → f ≢ e → Excludes f e → f.stamp.node ≢ e.stamp.node
  of_another_node t f sound waits waits_f other excludes node = other (one_of_node t.waiting f e sound.apart_waiting waits_f waits (excludes.0, node))

  -- one that may enter is earlier
  enters_earlier : (t : LockTable) (f : Entry) → IsSoundTable t → Contains t.waiting e → MayEnter t f → f ≢ e → Excludes f e → IsEarlier f.stamp e.stamp
  enters_earlier t f sound waits may other excludes =
      elim (one_is_earlier f.stamp e.stamp) [
        | inl earlier ↦ earlier
        | inr rest ↦ elim rest [
          | inl same ↦ absurd (of_another_node t f sound waits may.waits other excludes (λ i. (same i).node))
          | inr later ↦ absurd (All-contains (λ (x : Entry). Excludes x f → IsEarlier x.stamp f.stamp → ⊥) t.waiting e may.no_earlier waits (sym excludes.0, flips f.mode e.mode excludes.1) later)
        ]
      ]

  still_waits : (m : Mark) (ms : List Mark) (t next : LockTable) (place : ℕ) (f : Entry) → TableStep t m next → Contains t.waiting e → Overtakes (m ∷ ms) (suc place) f e → Contains next.waiting e
  still_waits m ms t next place f step waits over = waits_on e t next m step (λ is. over.not_yet 0 (omega arith) (ap (λ (x : Mark). Some x) is)) (λ is. over.not_withdrawn 0 (omega arith) (ap (λ (x : Mark). Some x) is)) waits

  -- whoever overtakes is earlier, and of another node
  pub overtakes_earlier : (marks : List Mark) (t new : LockTable) → TableSteps t marks new → IsSoundTable t → Contains t.waiting e
      → (place : ℕ) (f : Entry) → Overtakes marks place f e → IsEarlier f.stamp e.stamp × (f.stamp.node ≢ e.stamp.node)
  overtakes_earlier [] t new steps sound waits place f over = let at = over.enters in absurd cc
  overtakes_earlier (m ∷ ms) t new steps sound waits zero f over =
      let step : TableStep t (Entered f) steps.0 = subst (λ (x : Mark). TableStep t x steps.0) (same_Some m (Entered f) over.enters) steps.1 in
      (enters_earlier t f sound waits step.0 over.other over.excludes, of_another_node t f sound waits step.0.waits over.other over.excludes)
  overtakes_earlier (m ∷ ms) t new steps sound waits (suc place) f over =
      overtakes_earlier ms steps.0 new steps.2 (step_sound t steps.0 m steps.1 sound) (still_waits m ms t steps.0 place f steps.1 waits over) place f (later_on m ms place f e over)

  module _ (At : ℕ → Type 0) where
    -- if the requests of its node have greater numbers, it waited
    pub overtakes_waiting : (marks : List Mark) (t new : LockTable) → TableSteps t marks new → IsSoundTable t → Contains t.waiting e → All (IsAbove At e) marks
        → (place : ℕ) (f : Entry) → Overtakes marks place f e → At f.stamp.node → Contains t.waiting f
    overtakes_waiting [] t new steps sound waits above place f over here = let at = over.enters in absurd cc
    overtakes_waiting (m ∷ ms) t new steps sound waits above zero f over here =
        let step : TableStep t (Entered f) steps.0 = subst (λ (x : Mark). TableStep t x steps.0) (same_Some m (Entered f) over.enters) steps.1 in
        step.0.waits
    overtakes_waiting (m ∷ ms) t new steps sound waits above (suc place) f over here =
        let waits' = still_waits m ms t steps.0 place f steps.1 waits over in
        let sound' = step_sound t steps.0 m steps.1 sound in
        let over' = later_on m ms place f e over in
        let earlier = (overtakes_earlier ms steps.0 new steps.2 sound' waits' place f over').0 in
        elim (waited_before f t steps.0 m steps.1 (overtakes_waiting ms steps.0 new steps.2 sound' waits' (All-tail (IsAbove At e) m ms above) place f over' here)) [
          | inr waited ↦ waited
          | inl is ↦
              let greater : IsAbove At e (Requested f) = subst (IsAbove At e) is (All-head (IsAbove At e) m ms above) in
              absurd (never_earlier f e earlier (greater here over.excludes.0))
        ]

    -- and its node does not overtake again
    never_again : (marks : List Mark) (t new : LockTable) → TableSteps t marks new → IsSoundTable t → Contains t.waiting e → All (IsAbove At e) marks
        → (i j : ℕ) (f g : Entry) → Overtakes marks i f e → Overtakes marks j g e → f.stamp.node ≡ g.stamp.node → At g.stamp.node → i < j → ⊥
    never_again [] t new steps sound waits above i j f g first second node here lt = let at = first.enters in absurd cc
    never_again (m ∷ ms) t new steps sound waits above i zero f g first second node here lt = omega (arith, lt)
    never_again (m ∷ ms) t new steps sound waits above zero (suc j) f g first second node here lt =
        let step : TableStep t (Entered f) steps.0 = subst (λ (x : Mark). TableStep t x steps.0) (same_Some m (Entered f) first.enters) steps.1 in
        let waits' = still_waits m ms t steps.0 j g steps.1 waits second in
        let after = overtakes_waiting ms steps.0 new steps.2 (step_sound t steps.0 m steps.1 sound) waits' (All-tail (IsAbove At e) m ms above) j g (later_on m ms j g e second) here in
        let rest : Contains (step.1.0 ++ step.1.1) g = subst (λ (w : List Entry). Contains w g) step.1.2 after in
        let others : All (NotOfOneNode f) (step.1.0 ++ step.1.1) = All-apart NotOfOneNode NotOfOneNode-flip step.1.0 step.1.1 f (rw (← step.1.3) sound.apart_waiting) in
        All-contains (NotOfOneNode f) (step.1.0 ++ step.1.1) g others rest (first.excludes.0 ∙ sym second.excludes.0, node)
    never_again (m ∷ ms) t new steps sound waits above (suc i) (suc j) f g first second node here lt =
        never_again ms steps.0 new steps.2 (step_sound t steps.0 m steps.1 sound) (still_waits m ms t steps.0 i f steps.1 waits first) (All-tail (IsAbove At e) m ms above)
        i j f g (later_on m ms i f e first) (later_on m ms j g e second) node here (omega (arith, lt))

    pub overtakes_once : (marks : List Mark) (t new : LockTable) → TableSteps t marks new → IsSoundTable t → Contains t.waiting e → All (IsAbove At e) marks
        → (i j : ℕ) (f g : Entry) → Overtakes marks i f e → Overtakes marks j g e → f.stamp.node ≡ g.stamp.node → At f.stamp.node → i ≡ j
    overtakes_once marks t new steps sound waits above i j f g first second node here = elim (cases_lt i j) [
      | inl below ↦ absurd (never_again marks t new steps sound waits above i j f g first second node (subst At node here) below)
      | inr not_below ↦ elim (cases_lt j i) [
        | inl beyond ↦ absurd (never_again marks t new steps sound waits above j i g f second first (sym node) here beyond)
        | inr not_beyond ↦ omega (arith, not_below, not_beyond)
      ]
    ]
