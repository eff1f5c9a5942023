-- What is under way after one more move, if all messages are different.
use Rattle.std.proofs.Common.{◌≡◌, ◌≢◌, ◌⊎◌, ℕ, suc, ◌+◌, List, [], ◌∷◌, ◌++◌, length, get_or, refl, sym, ap, ◌∙◌, subst, inl, inr, arith}
use Rattle.std.specs.Prelude.{◌↔◌, All, AllPairs, Contains}
use Rattle.std.proofs.lemmas.List.{append-nil, length-append, get_or_append_left, get_or-append-add}
use Rattle.std.proofs.lemmas.List.Elements.{All-cons, All-head, All-tail, Contains-append_left, Contains-append_right, Contains-append_cases}
use Rattle.std.proofs.lemmas.List.Kept.{AllPairs-cons}
use Rattle.ra_stamp.specs.declared.message.Message.{Message}
use Rattle.ra_stamp.specs.declared.entry.Mark.{Mark}
use Rattle.ra_stamp.specs.NodeId.{IsNodeNumber}
use Rattle.ra_world.specs.declared.step.Step.{Step}
use Rattle.ra_world.specs.declared.step.Step.TheVariants.{Ask, Leave, Cancel, Forget, Deliver, Lose, Repeat}
use Rattle.ra_world.specs.Traffic.{Move, TakesEach, LeavesUnderWay, IsUnderWay, sent_by, taken_in, put_in, put_by, repeated_in, repeated_by}
use Rattle.ra_world.specs.Run.{IsRun, IsFit}
use Rattle.ra_world.proofs.Lists.{takes_out}
use Rattle.ra_world.proofs.Moves.{fits_split, repeated_more}

-- ---- Lists of different elements

abbrev pub AreDifferent : List Message → Type 0
AreDifferent ms = AllPairs (λ a b. a ≢ b) ms

-- one of the first ones is not among the others
pub across : (xs ys : List Message) (m : Message) → AreDifferent (xs ++ ys) → Contains xs m → Contains ys m → ⊥
across xs ys m different (i, low, at) (j, within, is) =
    different i (length xs + j) m (omega (arith, low)) (omega (arith, within, length-append xs ys))
    (get_or_append_left xs ys m i low ∙ at ∙ sym (get_or-append-add xs ys j m ∙ is))

pub different_right : (xs ys : List Message) → AreDifferent (xs ++ ys) → AreDifferent ys
different_right xs ys different i j d below within =
    subst (λ (x : Message). x ≢ get_or ys j d) (get_or-append-add xs ys i d)
    (subst (λ (x : Message). get_or (xs ++ ys) (length xs + i) d ≢ x) (get_or-append-add xs ys j d)
    (different (length xs + i) (length xs + j) d (omega (arith, below)) (omega (arith, within, length-append xs ys))))

all_but_one : (P : Message → Type 0) (prefix suffix : List Message) (m : Message) → All P (prefix ++ m ∷ suffix) → All P (prefix ++ suffix)
all_but_one P [] suffix m all = All-tail P m suffix all
all_but_one P (x ∷ prefix) suffix m all =
    All-cons P x (prefix ++ suffix) (All-head P x (prefix ++ m ∷ suffix) all) (all_but_one P prefix suffix m (All-tail P x (prefix ++ m ∷ suffix) all))

different_but_one : (prefix suffix : List Message) (m : Message) → AreDifferent (prefix ++ m ∷ suffix) → AreDifferent (prefix ++ suffix)
different_but_one [] suffix m different = different_right (m ∷ []) suffix different
different_but_one (x ∷ prefix) suffix m different =
    AllPairs-cons (λ a b. a ≢ b) x (prefix ++ suffix)
    (all_but_one (λ y. x ≢ y) prefix suffix m (λ k d low. different 0 (suc k) d (omega arith) (omega (arith, low))))
    (different_but_one prefix suffix m (different_right (x ∷ []) (prefix ++ m ∷ suffix) different))

-- what is left of different messages are different ones
left_different : (old taken new : List Message) → TakesEach old taken new → AreDifferent old → AreDifferent new
left_different old [] new same different = subst AreDifferent (sym same) different
left_different old (m ∷ taken) new (next, takes, rest) different =
    let whole : AreDifferent (takes.prefix ++ m ∷ takes.suffix) = subst AreDifferent takes.old_is different in
    left_different next taken new rest (subst AreDifferent (sym takes.new_is) (different_but_one takes.prefix takes.suffix m whole))

-- the others stay if one of several different messages is taken out
module _ (prefix suffix : List Message) (m x : Message) (different : AreDifferent (prefix ++ m ∷ suffix)) where
  still_there : Contains (prefix ++ m ∷ suffix) x → (m ≢ x) → Contains (prefix ++ suffix) x
  still_there at apart =
      elim (Contains-append_cases prefix (m ∷ suffix) x at) [
        | inl first ↦ Contains-append_left prefix suffix x first
        | inr behind ↦
            elim (Contains-append_cases (m ∷ []) suffix x behind) [
              | inl same ↦ absurd (apart (one_is m x same))
              | inr later ↦ Contains-append_right prefix suffix x later
            ]
      ]
    where
      one_is : (m x : Message) → Contains (m ∷ []) x → m ≡ x
      one_is m x (i, low, is) =
          let first : i ≡ 0 = omega (arith, low) in
          ap (λ (k : ℕ). get_or (m ∷ []) k x) (sym first) ∙ is

  was_there : Contains (prefix ++ suffix) x → Contains (prefix ++ m ∷ suffix) x × (m ≢ x)
  was_there at =
      elim (Contains-append_cases prefix suffix x at) [
        | inl first ↦ (
          Contains-append_left prefix (m ∷ suffix) x first,
          λ same. across prefix (m ∷ suffix) x different first (Contains-append_left (m ∷ []) suffix x (0, omega arith, same)),
        )
        | inr behind ↦ (
          Contains-append_right prefix (m ∷ suffix) x (Contains-append_right (m ∷ []) suffix x behind),
          λ same. across (m ∷ []) suffix x (different_right prefix (m ∷ suffix) different) (0, omega arith, same) behind,
        )
      ]

-- ---- The message that a move takes

abbrev AreLeft : List Message → List Message → List Message → Type 0
AreLeft left taken next = TakesEach left taken next × ((x : Message) → Contains next x ↔ (Contains left x × (Contains taken x → ⊥)))

none_taken : (left : List Message) → AreLeft left [] left
none_taken left = (refl, λ x. (λ at. (at, λ none. omega (arith, none.1)), λ both. both.0))

one_taken : ((a b : Message) → (a ≡ b) ⊎ (a ≢ b)) → (left : List Message) (m : Message) → AreDifferent left → Contains left m
    → (next : List Message) × AreLeft left (m ∷ []) next
one_taken same_or_apart left m different at =
    let out = takes_out same_or_apart left m at in
    let next = out.0 in
    let takes = out.1 in
    let whole : AreDifferent (takes.prefix ++ m ∷ takes.suffix) = subst AreDifferent takes.old_is different in (
      next,
      (
        (next, takes, refl),
        λ x. (
          λ here.
              let was = was_there takes.prefix takes.suffix m x whole (subst (λ (ms : List Message). Contains ms x) takes.new_is here) in
              (subst (λ (ms : List Message). Contains ms x) (sym takes.old_is) was.0, λ one. was.1 (only m x one)),
          λ both.
              subst (λ (ms : List Message). Contains ms x) (sym takes.new_is)
              (still_there takes.prefix takes.suffix m x whole (subst (λ (ms : List Message). Contains ms x) takes.old_is both.0)
              (λ same. both.1 (0, omega arith, same))),
        ),
      ),
    )
  where
    only : (m x : Message) → Contains (m ∷ []) x → m ≡ x
    only m x (i, low, is) =
        let first : i ≡ 0 = omega (arith, low) in
        ap (λ (k : ℕ). get_or (m ∷ []) k x) (sym first) ∙ is

taken_by_step : ((a b : Message) → (a ≡ b) ⊎ (a ≢ b)) → (n : ℕ) (moves : List Move) (step : Step) (sends : List Message) (marks : List Mark) (left : List Message)
    → AreDifferent left → ((message : Message) → IsUnderWay moves message → Contains left message) → IsFit n moves step sends marks
    → (next : List Message) × AreLeft left (taken_in step) next
taken_by_step same_or_apart n moves (Ask node client name mode) sends marks left different among fit = (left, none_taken left)
taken_by_step same_or_apart n moves (Leave node client name) sends marks left different among fit = (left, none_taken left)
taken_by_step same_or_apart n moves (Cancel node client name) sends marks left different among fit = (left, none_taken left)
taken_by_step same_or_apart n moves (Forget node) sends marks left different among fit = (left, none_taken left)
taken_by_step same_or_apart n moves (Deliver message) sends marks left different among fit = one_taken same_or_apart left message different (among message fit)
taken_by_step same_or_apart n moves (Lose message) sends marks left different among fit = one_taken same_or_apart left message different (among message fit.0)
taken_by_step same_or_apart n moves (Repeat message) sends marks left different among fit = (left, none_taken left)

-- ---- One more move

none_of_both : (xs ys : List Message) → xs ++ ys ≡ [] → (xs ≡ []) × (ys ≡ [])
none_of_both [] ys none = (refl, none)
none_of_both (x ∷ xs) ys none = absurd cc

module _
    (same_or_apart : (a b : Message) → (a ≡ b) ⊎ (a ≢ b))
    (exist : (n start : ℕ) (moves : List Move) → IsNodeNumber n → IsRun n start moves → (left : List Message) × LeavesUnderWay moves left)
    (among : (moves : List Move) (left : List Message) (message : Message) → LeavesUnderWay moves left → IsUnderWay moves message ↔ Contains left message)
    (goes_on : (moves : List Move) (move : Move) (left next : List Message) → LeavesUnderWay moves left → TakesEach left (taken_in move.step) next
    → LeavesUnderWay (moves ++ move ∷ []) (next ++ put_in move))
    (put_is_sent : (moves : List Move) → repeated_by moves ≡ [] → put_by moves ≡ sent_by moves)
    (prefixes : (n start : ℕ) (prefix rest : List Move) → IsRun n start (prefix ++ rest) → IsRun n start prefix)
    (apart : (n start : ℕ) (moves : List Move) → IsNodeNumber n → IsRun n start moves → repeated_by moves ≡ [] → AreDifferent (sent_by moves))
  where
    pub go_on : (n start : ℕ) (moves : List Move) (move : Move) (message : Message) → IsNodeNumber n
        → IsRun n start (moves ++ move ∷ []) → repeated_by (moves ++ move ∷ []) ≡ []
        → IsUnderWay (moves ++ move ∷ []) message ↔ ((IsUnderWay moves message × (Contains (taken_in move.step) message → ⊥)) ⊎ Contains move.sends message)
    go_on n start moves move message count run none =
        let none_either = none_of_both (repeated_by moves) (repeated_in move.step) (sym (repeated_more moves move) ∙ none) in
        let before = prefixes n start moves (move ∷ []) run in
        let some = exist n start moves count before in
        let left = some.0 in
        let different : AreDifferent left =
        left_different (put_by moves) _ left some.1 (subst AreDifferent (sym (put_is_sent moves none_either.0)) (apart n start moves count before none_either.0))
        in
        let fit = (fits_split n [] moves (move ∷ []) run.each_fits).1.0 in
        let took = taken_by_step same_or_apart n moves move.step move.sends move.marks left different (λ m. (among moves left m some.1).0) fit in
        let next = took.0 in
        let puts : put_in move ≡ move.sends = ap (λ (ms : List Message). move.sends ++ ms) none_either.1 ∙ append-nil move.sends in
        let now : LeavesUnderWay (moves ++ move ∷ []) (next ++ move.sends) =
        subst (λ (ms : List Message). LeavesUnderWay (moves ++ move ∷ []) (next ++ ms)) puts (goes_on moves move left next some.1 took.1.0)
        in
        let here = among (moves ++ move ∷ []) (next ++ move.sends) message now in
        let there = among moves left message some.1 in
        let kept = took.1.1 message in (
          λ under.
              elim (Contains-append_cases next move.sends message (here.0 under)) [
                | inl was ↦ inl (there.1 (kept.0 was).0, (kept.0 was).1)
                | inr sent ↦ inr sent
              ],
          λ either. here.1 (elim either [
            | inl both ↦ Contains-append_left next move.sends message (kept.1 (there.0 both.0, both.1))
            | inr sent ↦ Contains-append_right next move.sends message sent
          ]),
        )
