-- What each table step keeps of entries that conflict, by laws of modes and stamps.
use Rattle.std.proofs.Common.{◌≡◌, ◌<◌, List, [], ◌∷◌, ◌++◌, get_or, All, sym, ap, subst, arith, inl, inr}
use Rattle.std.specs.Prelude.{◌⊎◌}
use Rattle.std.proofs.lemmas.List.Elements.{All-nil, All-weaker}
use Rattle.ra_stamp.specs.declared.entry.Entry.{Entry}
use Rattle.ra_stamp.specs.declared.entry.Mark.{Mark}
use Rattle.ra_stamp.specs.declared.entry.Mark.TheVariants.{Requested, Entered, Left, Withdrawn}
use Rattle.ra_stamp.specs.declared.mode.Mode.{Mode}
use Rattle.ra_stamp.specs.declared.stamp.Stamp.{Stamp}
use Rattle.ra_stamp.specs.Mode.{compatible, Conflict}
use Rattle.ra_stamp.specs.Stamp.{IsEarlier}
use Rattle.ra_table.specs.Table.{LockTable, empty_table, Excludes, TableStep}
use Rattle.ra_table.specs.Laws.{IsConflictFree}
use Rattle.ra_table.proofs.Apart.{Apart, AllPairs-apart, Apart-from_pairs, All-put, All-taken, Apart-put, Apart-taken, All-apart}
use Rattle.ra_table.proofs.Sound.{NotOfOneNode, NotOfOneNode-flip, IsSoundTable, empty_is_sound, step_sound}

-- the law that conflict does not depend on the order of the modes
abbrev pub ConflictIsSymmetric : Type 0
ConflictIsSymmetric = (a b : Mode) → Conflict a b → Conflict b a

-- the law that one of two different stamps is earlier
abbrev pub StampsAreTotal : Type 0
StampsAreTotal = (a b : Stamp) → IsEarlier a b ⊎ ((a ≡ b) ⊎ IsEarlier b a)

Excludes-flip : ConflictIsSymmetric → (a b : Entry) → Excludes a b → Excludes b a
Excludes-flip symmetric a b e = (sym e.0, symmetric a.mode b.mode e.1)

-- ---- no two that hold exclude each other

abbrev pub DoesNotExclude : Entry → Entry → Type 0
DoesNotExclude a b = Excludes a b → ⊥

DoesNotExclude-flip : ConflictIsSymmetric → (a b : Entry) → DoesNotExclude a b → DoesNotExclude b a
DoesNotExclude-flip symmetric a b n s = n (Excludes-flip symmetric b a s)

pub step_conflict_free : ConflictIsSymmetric → (old new : LockTable) (mark : Mark) → TableStep old mark new
    → Apart DoesNotExclude old.holding → Apart DoesNotExclude new.holding
step_conflict_free symmetric old new (Requested e) step free = rw step.2 free
step_conflict_free symmetric old new (Entered e) step free =
    let flip = DoesNotExclude-flip symmetric in
    let before : Apart DoesNotExclude (step.2.0 ++ step.2.1) = subst (Apart DoesNotExclude) step.2.2 free in
    let not_held : All (λ x. DoesNotExclude x e) (step.2.0 ++ step.2.1) = subst (All (λ x. DoesNotExclude x e)) step.2.2 step.0.not_held in
    rw step.2.3 (Apart-put DoesNotExclude flip step.2.0 step.2.1 e before (All-weaker (λ x. DoesNotExclude x e) (DoesNotExclude e) (λ x. flip x e) (step.2.0 ++ step.2.1) not_held))
step_conflict_free symmetric old new (Left e) step free =
    let before : Apart DoesNotExclude (step.2.0 ++ e ∷ step.2.1) = subst (Apart DoesNotExclude) step.2.3 free in
    rw step.2.2 (Apart-taken DoesNotExclude step.2.0 step.2.1 e before)
step_conflict_free symmetric old new (Withdrawn e) step free = rw step.2 free

-- whether two modes conflict does not depend on their order
conflict_flips : ConflictIsSymmetric
unfolding compatible
conflict_flips a b conflict = grind (arith, conflict)

pub stays_conflict_free : (old new : LockTable) (mark : Mark) → TableStep old mark new → IsConflictFree old.holding → IsConflictFree new.holding
stays_conflict_free old new mark step free =
    AllPairs-apart DoesNotExclude new.holding (step_conflict_free conflict_flips old new mark step (Apart-from_pairs DoesNotExclude old.holding free))

-- ---- those that wait are after the grants

-- of two stamps one is earlier, or they are of one node
earlier_cases : StampsAreTotal → (a b : Stamp) → (IsEarlier b a → ⊥) → (a.node ≡ b.node → ⊥) → IsEarlier a b
earlier_cases total a b not_earlier other_node =
    elim (total a b) [
      | inl earlier ↦ earlier
      | inr rest ↦ elim rest [
        | inl same ↦ absurd (other_node (ap (λ (s : Stamp). s.node) same))
        | inr later ↦ absurd (not_earlier later)
      ]
    ]

-- an entry that waits after a conflicting grant is later than it
abbrev pub IsBehind : Entry → Entry → Type 0
IsBehind g w = Excludes g w → IsEarlier g.stamp w.stamp

-- a sound table, in which each entry that waits is after each grant
pub record IsOrdered (table : LockTable) : Type 0 where
  pub sound : IsSoundTable table
  pub behind : All (λ g. All (IsBehind g) table.waiting) table.granted

pub empty_is_ordered : IsOrdered empty_table
empty_is_ordered = record { sound = empty_is_sound; behind = All-nil (λ g. All (IsBehind g) []) }

behind_requested : (prefix suffix granted : List Entry) (e : Entry) → All (λ g. All (IsBehind g) (prefix ++ suffix)) granted
    → All (λ x. x.name ≡ e.name → x.stamp.seq < e.stamp.seq) granted → All (λ g. All (IsBehind g) (prefix ++ e ∷ suffix)) granted
behind_requested prefix suffix granted e behind above k d lt =
    All-put (IsBehind (get_or granted k d)) prefix suffix e (behind k d lt) (λ ex. inl (above k d lt ex.0))

behind_entered : ConflictIsSymmetric → StampsAreTotal → (prefix suffix prefix' suffix' : List Entry) (e : Entry) → Apart NotOfOneNode (prefix ++ e ∷ suffix)
    → All (λ x. Excludes x e → IsEarlier x.stamp e.stamp → ⊥) (prefix ++ e ∷ suffix)
    → All (λ g. All (IsBehind g) (prefix ++ e ∷ suffix)) (prefix' ++ suffix') → All (λ g. All (IsBehind g) (prefix ++ suffix)) (prefix' ++ e ∷ suffix')
behind_entered symmetric total prefix suffix prefix' suffix' e apart no_earlier behind =
    let others : All (NotOfOneNode e) (prefix ++ suffix) = All-apart NotOfOneNode NotOfOneNode-flip prefix suffix e apart in
    let earlier : All (λ x. Excludes x e → IsEarlier x.stamp e.stamp → ⊥) (prefix ++ suffix) = All-taken (λ x. Excludes x e → IsEarlier x.stamp e.stamp → ⊥) prefix suffix e no_earlier in
    let later : All (IsBehind e) (prefix ++ suffix) = λ k d lt ex.
    let w = get_or (prefix ++ suffix) k d in
    earlier_cases total e.stamp w.stamp (earlier k d lt (Excludes-flip symmetric e w ex)) (λ node. others k d lt (ex.0, node)) in
    All-put (λ g. All (IsBehind g) (prefix ++ suffix)) prefix' suffix' e (λ k d lt. All-taken (IsBehind (get_or (prefix' ++ suffix') k d)) prefix suffix e (behind k d lt)) later

step_behind : ConflictIsSymmetric → StampsAreTotal → (old new : LockTable) (mark : Mark) → TableStep old mark new → IsOrdered old
    → All (λ g. All (IsBehind g) new.waiting) new.granted
step_behind symmetric total old new (Requested e) step ordered =
    let before : All (λ g. All (IsBehind g) (step.1.0 ++ step.1.1)) old.granted = subst (λ (w : List Entry). All (λ g. All (IsBehind g) w) old.granted) step.1.2 ordered.behind in
    rw (step.1.3, step.3) (behind_requested step.1.0 step.1.1 old.granted e before step.0.above)
step_behind symmetric total old new (Entered e) step ordered =
    let apart : Apart NotOfOneNode (step.1.0 ++ e ∷ step.1.1) = subst (Apart NotOfOneNode) step.1.3 ordered.sound.apart_waiting in
    let no_earlier : All (λ x. Excludes x e → IsEarlier x.stamp e.stamp → ⊥) (step.1.0 ++ e ∷ step.1.1) = subst (All (λ x. Excludes x e → IsEarlier x.stamp e.stamp → ⊥)) step.1.3 step.0.no_earlier in
    let before : All (λ g. All (IsBehind g) (step.1.0 ++ e ∷ step.1.1)) (step.3.0 ++ step.3.1) = rw (← step.1.3, ← step.3.2) ordered.behind in
    rw (step.1.2, step.3.3) (behind_entered symmetric total step.1.0 step.1.1 step.3.0 step.3.1 e apart no_earlier before)
step_behind symmetric total old new (Left e) step ordered = rw (step.1, step.3) ordered.behind
step_behind symmetric total old new (Withdrawn e) step ordered =
    let before : All (λ g. All (IsBehind g) (step.1.0 ++ e ∷ step.1.1)) old.granted = subst (λ (w : List Entry). All (λ g. All (IsBehind g) w) old.granted) step.1.3 ordered.behind in
    rw (step.1.2, step.3) (λ k d lt. All-taken (IsBehind (get_or old.granted k d)) step.1.0 step.1.1 e (before k d lt))

pub step_ordered : ConflictIsSymmetric → StampsAreTotal → (old new : LockTable) (mark : Mark) → TableStep old mark new → IsOrdered old → IsOrdered new
step_ordered symmetric total old new mark step ordered =
    record { sound = step_sound old new mark step ordered.sound; behind = step_behind symmetric total old new mark step ordered }
