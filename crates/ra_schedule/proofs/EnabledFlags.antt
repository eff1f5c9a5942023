-- The flags of the clients, and the numbers of those that are set.
use Rattle.std.proofs.Common.{◌≡◌, ℕ, suc, ◌+◌, ◌<◌, ◌≤◌, Bool, true, false, Option, Some, None, List, [], ◌∷◌, ◌++◌, length, drop, slice_index_or, slice_set, refl, sym, ap, ◌∙◌, subst, append_assoc, arith, IsTrue}
use mir.Val.{bool_byte}
use Rattle.std.specs.Prelude.{if◌then◌else◌, sum_by}
use Rattle.std.specs.Option.{IfSome, is_some}
use Rattle.std.specs.Prelude.{IsNone}
use Rattle.std.proofs.lemmas.Bool.{false≢true}
use Rattle.std.proofs.lemmas.List.{append-nil, drop_more}
use Rattle.std.proofs.lemmas.List.Sums.{sum_by-cons, sum_by-set}
use Rattle.ra_world.specs.declared.step.Step.{Step}
use Rattle.ra_world.specs.Traffic.{Move}
use Rattle.ra_schedule.specs.Script.{ScriptState}
use Rattle.ra_schedule.specs.Schedule.{Enables, IsEnabled, AreEnabled}
use Rattle.ra_schedule.specs.Enabled.{IsFlag, AreFlags, numbers_from}
use Rattle.ra_schedule.proofs.EnabledLists.{AreEnabledUpTo, none_so_far, one_more, no_more, these_are_all}

-- ---- How many are set

abbrev pub bit : Bool → ℕ
bit flag = if flag then 1 else 0

-- a flag as a number
pub bit_of : (flag : Bool) → bool_byte flag ≡ bit flag
bit_of true = refl
bit_of false = refl

pub bit_at_most : (flag : Bool) → bit flag ≤ 1
bit_at_most true = omega arith
bit_at_most false = omega arith

how_many : (n : ℕ) (flags : List Bool) → length (numbers_from n flags) ≡ sum_by bit flags
how_many n [] = refl
how_many n (true ∷ flags) =
    let rest = how_many (n + 1) flags in
    let sum : sum_by bit (true ∷ flags) ≡ 1 + sum_by bit flags = sum_by-cons bit true flags in omega arith
how_many n (false ∷ flags) =
    let rest = how_many (n + 1) flags in
    let sum : sum_by bit (false ∷ flags) ≡ 0 + sum_by bit flags = sum_by-cons bit false flags in omega arith

pub at_most : (n : ℕ) (flags : List Bool) → length (numbers_from n flags) ≤ length flags
at_most n [] = omega arith
at_most n (true ∷ flags) = let rest = at_most (n + 1) flags in omega arith
at_most n (false ∷ flags) = let rest = at_most (n + 1) flags in omega arith

-- one of them is set or cleared
pub count_set : (flags : List Bool) (place : ℕ) (on d : Bool) → place < length flags
    → length (numbers_from 1 (slice_set flags place on)) + bit (slice_index_or flags place d) ≡ length (numbers_from 1 flags) + bit on
count_set flags place on d within =
    let old = how_many 1 flags in
    let new = how_many 1 (slice_set flags place on) in
    let sum = sum_by-set bit flags place on d within in
    omega arith

-- ---- Whether one is set

-- an answer says whether a client is enabled
pub flag_of : (script : ScriptState) (moves : List Move) (client : ℕ) (step : Option Step) (on : Bool) → IfSome step (Enables script moves client)
    → (IsNone step → IsEnabled script moves client → ⊥) → on ≡ is_some step → IsFlag script moves client on
flag_of script moves client None on some none is = (λ yes. absurd (false≢true (sym is ∙ yes)), λ enabled. absurd (none refl enabled))
flag_of script moves client (Some step) on some none is = (λ yes. (step, some), λ enabled. is)

-- ---- Which are set

-- the numbers from a place on
pub at_set : (flags : List Bool) (place : ℕ) (d : Bool) → place < length flags → IsTrue (slice_index_or flags place d)
    → numbers_from (place + 1) (drop place flags) ≡ (place + 1) ∷ numbers_from (place + 1 + 1) (drop (place + 1) flags)
at_set flags place d within is =
    ap (numbers_from (place + 1)) (drop_more flags place d within ∙ ap (λ (b : Bool). b ∷ drop (place + 1) flags) is)

pub at_clear : (flags : List Bool) (place : ℕ) (d : Bool) → place < length flags → slice_index_or flags place d ≡ false
    → numbers_from (place + 1) (drop place flags) ≡ numbers_from (place + 1 + 1) (drop (place + 1) flags)
at_clear flags place d within is =
    ap (numbers_from (place + 1)) (drop_more flags place d within ∙ ap (λ (b : Bool). b ∷ drop (place + 1) flags) is)

-- ---- The flags name the enabled clients

numbers_are : (script : ScriptState) (moves : List Move) (n : ℕ) (before : List ℕ) (flags : List Bool) → AreEnabledUpTo script moves n before
    → ((k : ℕ) (d : Bool) → k < length flags → IsFlag script moves (n + k + 1) (slice_index_or flags k d))
    → AreEnabledUpTo script moves (n + length flags) (before ++ numbers_from (n + 1) flags)
numbers_are script moves n before [] are told =
    subst (λ (list : List ℕ). AreEnabledUpTo script moves (n + 0) list) (sym (append-nil before))
    (subst (λ (last : ℕ). AreEnabledUpTo script moves last before) (omega arith) are)
numbers_are script moves n before (true ∷ flags) are told =
    let on : IsEnabled script moves (n + 1) = subst (IsEnabled script moves) (omega arith) ((told 0 true (omega arith)).0 refl) in
    let rest = numbers_are script moves (n + 1) (before ++ (n + 1) ∷ []) flags (one_more script moves n before are on)
    (λ k d within. subst (λ (c : ℕ). IsFlag script moves c (slice_index_or flags k d)) (omega arith) (told (suc k) d (omega arith))) in
    subst (λ (list : List ℕ). AreEnabledUpTo script moves (n + length (true ∷ flags)) list) (append_assoc before ((n + 1) ∷ []) (numbers_from (n + 1 + 1) flags))
    (subst (λ (last : ℕ). AreEnabledUpTo script moves last ((before ++ (n + 1) ∷ []) ++ numbers_from (n + 1 + 1) flags)) (omega arith) rest)
numbers_are script moves n before (false ∷ flags) are told =
    let off : IsEnabled script moves (n + 1) → ⊥ = λ on. false≢true ((told 0 true (omega arith)).1 (subst (IsEnabled script moves) (omega arith) on)) in
    let rest = numbers_are script moves (n + 1) before flags (no_more script moves n before are off)
    (λ k d within. subst (λ (c : ℕ). IsFlag script moves c (slice_index_or flags k d)) (omega arith) (told (suc k) d (omega arith))) in
    subst (λ (last : ℕ). AreEnabledUpTo script moves last (before ++ numbers_from (n + 1 + 1) flags)) (omega arith) rest

pub flags_name : (script : ScriptState) (moves : List Move) (flags : List Bool) → AreFlags script moves flags
    → AreEnabled script moves (numbers_from 1 flags)
flags_name script moves flags are =
    these_are_all script moves (length flags) (numbers_from 1 flags) (let same = are.length_is in omega arith)
    (subst (λ (last : ℕ). AreEnabledUpTo script moves last (numbers_from 1 flags)) (omega arith)
    (numbers_are script moves 0 [] flags (none_so_far script moves)
    (λ k d within. subst (λ (c : ℕ). IsFlag script moves c (slice_index_or flags k d)) (omega arith) (are.each k d within))))
