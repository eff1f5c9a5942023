-- Steps that are done again, one after the other, and what comes after them.
use Rattle.std.proofs.Common.{◌≡◌, ◌⊎◌, ℕ, zero, suc, ◌+◌, ◌<◌, ◌≤◌, Some, Result, Ok, Err, List, [], ◌∷◌, ◌++◌, length, slice_get, refl, sym, ap, ◌∙◌, subst, arith, inl, inr}
use Rattle.std.specs.Prelude.{OnOk}
use Rattle.std.proofs.lemmas.List as lists
use Rattle.ra_stamp.specs.Sequence.{Listed as Listing}
use Rattle.ra_stamp.specs.declared.message.Message.{Message as Sent}
use Rattle.ra_world.specs.declared.step.Step.{Step}
use Rattle.ra_world.specs.declared.step.Step.TheVariants.{Ask, Leave, Cancel, Deliver, Lose, Repeat, Forget}
use Rattle.ra_world.specs.Traffic.{Move, LeavesUnderWay}
use Rattle.ra_world.specs.World.{WorldState}
use Rattle.ra_world.specs.Run.{IsRun}
use Rattle.ra_schedule.specs.declared.choice.Choice.{Choice}
use Rattle.ra_schedule.specs.declared.choice.Choice.TheVariants.{Message, Lost, Repeated}
use Rattle.ra_schedule.specs.declared.driver.Driver.{Driver}
use Rattle.ra_schedule.specs.declared.error.DriveError.{DriveError}
use Rattle.ra_schedule.specs.Script.{ScriptState}
use Rattle.ra_schedule.specs.Schedule.{StandsFor}
use Rattle.ra_schedule.specs.Listing.{AreChoicesOf}
use Rattle.ra_schedule.specs.Driving.{HasTakenStep, IsMeaning}
use Rattle.ra_schedule.specs.Shrinking.{IsAlikeAt, IsFirstAlike, IsFor, Redone, Replays, IsOldest, GoesOnOldest}
use Rattle.ra_schedule.specs.Replaying.{AreChoicesFor, IsReplay, MadeIfPossible}
use Rattle.ra_schedule.proofs.Lists.{split_last}
use Rattle.ra_schedule.proofs.Choosing.{OneList, no_bad_place, not_refused}
use Rattle.ra_schedule.proofs.OldestChoices.{oldest_can_be_made}

-- ---- Messages that are alike

there_below : {X : Type 0} {x : X} (xs : List X) (k : ℕ) → slice_get xs k ≡ Some x → k < length xs
there_below [] k e = absurd cc
there_below (x ∷ xs) zero e = omega arith
there_below (x ∷ xs) (suc k) e = let less = there_below xs k e in omega arith

-- no place past the end has a message
pub none_alike : OneList → (moves : List Move) (message : Sent) (left : List Sent) (n : ℕ) → LeavesUnderWay moves left → length left ≤ n
    → ((k : ℕ) → k < n → IsAlikeAt moves message k → ⊥) → (place : ℕ) → IsAlikeAt moves message place → ⊥
none_alike one moves message left n leaves few none place (found, (other, leaves', is), same) =
    let lists_same : other ≡ left = one moves other left leaves' leaves in
    let less : place < length left = there_below left place (subst (λ (xs : List Sent). slice_get xs place ≡ Some found) lists_same is) in
    none place (omega arith) (found, (other, leaves', is), same)

-- which of two numbers is less, if one is
compare : (x y : ℕ) → (x < y) ⊎ ((x ≡ y) ⊎ (y < x))
compare zero zero = inr (inl refl)
compare zero (suc y) = inl (omega arith)
compare (suc x) zero = inr (inr (omega arith))
compare (suc x) (suc y) =
    elim (compare x y) [
      | inl less ↦ inl (omega arith)
      | inr rest ↦ elim rest [
        | inl same ↦ inr (inl (ap suc same))
        | inr more ↦ inr (inr (omega arith))
      ]
    ]

first_is_one : (moves : List Move) (message : Sent) (a b : ℕ) → IsFirstAlike moves message a → IsFirstAlike moves message b → a ≡ b
first_is_one moves message a b (at, first) (at', first') =
    elim (compare a b) [
      | inl less ↦ absurd (first' a less at)
      | inr rest ↦ elim rest [
        | inl same ↦ same
        | inr more ↦ absurd (first b more at')
      ]
    ]

-- a step is done again by one choice
for_is_one : (moves : List Move) (step : Step) (a b : Choice) → IsFor moves step a → IsFor moves step b → a ≡ b
for_is_one moves (Ask node client name mode) a b is is' = is ∙ sym is'
for_is_one moves (Leave node client name) a b is is' = is ∙ sym is'
for_is_one moves (Cancel node client name) a b is is' = absurd is
for_is_one moves (Forget node) a b is is' = absurd is
for_is_one moves (Deliver message) a b (place, is, first) (place', is', first') =
    is ∙ ap Message (first_is_one moves message place place' first first') ∙ sym is'
for_is_one moves (Lose message) a b (place, is, first) (place', is', first') =
    is ∙ ap Lost (first_is_one moves message place place' first first') ∙ sym is'
for_is_one moves (Repeat message) a b (place, is, first) (place', is', first') =
    is ∙ ap Repeated (first_is_one moves message place place' first first') ∙ sym is'

-- the step takes this message
abbrev pub Takes : Step → Sent → Type 0
Takes (Ask node client name mode) message = ⊥
Takes (Leave node client name) message = ⊥
Takes (Cancel node client name) message = ⊥
Takes (Forget node) message = ⊥
Takes (Deliver taken) message = taken ≡ message
Takes (Lose taken) message = taken ≡ message
Takes (Repeat taken) message = taken ≡ message

pub takes_one : (step : Step) (taken message : Sent) → (step ≡ Deliver taken) ⊎ ((step ≡ Lose taken) ⊎ (step ≡ Repeat taken)) → message ≡ taken
    → Takes step message
takes_one step taken message (inl is) same = subst (λ (s : Step). Takes s message) (sym is) (sym same)
takes_one step taken message (inr (inl is)) same = subst (λ (s : Step). Takes s message) (sym is) (sym same)
takes_one step taken message (inr (inr is)) same = subst (λ (s : Step). Takes s message) (sym is) (sym same)

-- the choice that takes the message at this place as the step did
abbrev pub taken_at : Step → ℕ → Choice
taken_at (Ask node client name mode) place = Message place
taken_at (Leave node client name) place = Message place
taken_at (Cancel node client name) place = Message place
taken_at (Forget node) place = Message place
taken_at (Deliver taken) place = Message place
taken_at (Lose taken) place = Lost place
taken_at (Repeat taken) place = Repeated place

-- if no message is alike, there is no choice for a step that takes one
pub none_for : (moves : List Move) (step : Step) (message : Sent) (choice : Choice) → ((place : ℕ) → IsAlikeAt moves message place → ⊥)
    → Takes step message → IsFor moves step choice → ⊥
none_for moves (Ask node client name mode) message choice none takes stands = takes
none_for moves (Leave node client name) message choice none takes stands = takes
none_for moves (Cancel node client name) message choice none takes stands = takes
none_for moves (Forget node) message choice none takes stands = takes
none_for moves (Deliver taken) message choice none takes (place, same, first) = none place (subst (λ (m : Sent). IsAlikeAt moves m place) takes first.0)
none_for moves (Lose taken) message choice none takes (place, same, first) = none place (subst (λ (m : Sent). IsAlikeAt moves m place) takes first.0)
none_for moves (Repeat taken) message choice none takes (place, same, first) = none place (subst (λ (m : Sent). IsAlikeAt moves m place) takes first.0)

-- otherwise the first one is taken
pub first_for : (moves : List Move) (step : Step) (message : Sent) (place : ℕ) (choice : Choice) → Takes step message → IsFirstAlike moves message place
    → choice ≡ taken_at step place → IsFor moves step choice
first_for moves (Ask node client name mode) message place choice takes first is = absurd takes
first_for moves (Leave node client name) message place choice takes first is = absurd takes
first_for moves (Cancel node client name) message place choice takes first is = absurd takes
first_for moves (Forget node) message place choice takes first is = absurd takes
first_for moves (Deliver taken) message place choice takes first is = (place, is, subst (λ (m : Sent). IsFirstAlike moves m place) (sym takes) first)
first_for moves (Lose taken) message place choice takes first is = (place, is, subst (λ (m : Sent). IsFirstAlike moves m place) (sym takes) first)
first_for moves (Repeat taken) message place choice takes first is = (place, is, subst (λ (m : Sent). IsFirstAlike moves m place) (sym takes) first)

-- a step that neither loses a message nor repeats one
pub is_delivered : (step : Step) (place : ℕ) → ((message : Sent) → step ≡ Lose message → ⊥) → ((message : Sent) → step ≡ Repeat message → ⊥)
    → Message place ≡ taken_at step place
is_delivered (Ask node client name mode) place not_lost not_repeated = refl
is_delivered (Leave node client name) place not_lost not_repeated = refl
is_delivered (Cancel node client name) place not_lost not_repeated = refl
is_delivered (Forget node) place not_lost not_repeated = refl
is_delivered (Deliver message) place not_lost not_repeated = refl
is_delivered (Lose message) place not_lost not_repeated = absurd (not_lost message refl)
is_delivered (Repeat message) place not_lost not_repeated = absurd (not_repeated message refl)

-- ---- Choices that are made

-- a choice with a fault can't be made
pub cannot : (script : ScriptState) (moves : List Move) (choice : Choice) (meaning : Result Step DriveError) (fault : DriveError) → meaning ≡ Err fault
    → IsMeaning script moves choice meaning → (made : Step) → StandsFor script moves choice made → ⊥
cannot script moves choice (Ok step) fault is means made stands = absurd cc
cannot script moves choice (Err e) fault is means made stands = elim means.err [
  | inl place ↦ no_bad_place script moves choice made stands place.1
  | inr enabled ↦ not_refused script moves choice made stands enabled.1
]

-- what follows from what is so if there is no refusal
pub on_ok : {X E P Q : Type 0} (r : Result X E) → (P → Q) → OnOk r P → OnOk r Q
on_ok (Ok x) follows holds = follows holds
on_ok (Err e) follows holds = tt

at_its_end : {X : Type 0} (xs : List X) (x : X) → slice_get (xs ++ x ∷ []) (length xs) ≡ Some x
at_its_end [] x = refl
at_its_end (y ∷ xs) x = at_its_end xs x

still_there : {X : Type 0} (xs ys : List X) (k : ℕ) (x : X) → slice_get xs k ≡ Some x → slice_get (xs ++ ys) k ≡ Some x
still_there [] ys k x e = absurd cc
still_there (y ∷ xs) ys zero x e = e
still_there (y ∷ xs) ys (suc k) x e = still_there xs ys k x e

not_past : {X : Type 0} (xs : List X) (x : X) → slice_get xs (length xs) ≡ Some x → ⊥
not_past [] x e = cc
not_past (y ∷ xs) x e = not_past xs x e

choices_more : (script : ScriptState) (choices new : List Choice) (moves next : List Move) (move : Move) (choice : Choice)
    → AreChoicesFor script choices moves → StandsFor script moves choice move.step
    → new ≡ choices ++ choice ∷ [] → next ≡ moves ++ move ∷ [] → AreChoicesFor script new next
choices_more script choices new moves next move choice by means kept is = record {
  one_each =
      ap length kept ∙ lists.length-append choices (choice ∷ []) ∙ ap (λ (n : ℕ). n + 1) by.one_each
      ∙ sym (ap length is ∙ lists.length-append moves (move ∷ []));
  each = λ before after this split. elim (split_last moves move before after this (sym is ∙ split)) [
    | inl h ↦ (
      choice,
      ap (λ (cs : List Choice). slice_get cs (length before)) kept
          ∙ ap (slice_get (choices ++ choice ∷ [])) (ap length h.0 ∙ sym by.one_each) ∙ at_its_end choices choice,
      subst (λ (m : Move). StandsFor script before choice m.step) (sym h.1)
          (subst (λ (ms : List Move). StandsFor script ms choice move.step) (sym h.0) means),
    )
    | inr h ↦
        let (chosen, at, stands) = by.each before h.0 this h.2 in (
          chosen,
          ap (λ (cs : List Choice). slice_get cs (length before)) kept ∙ still_there choices (choice ∷ []) (length before) chosen at,
          stands,
        )
  ];
}

-- the choice was made
pub replay_more : (script : ScriptState) (choice : Choice) (world next : WorldState) (driver new : Driver) → IsReplay script world driver
    → HasTakenStep script choice world driver next new → IsReplay script next new × MadeIfPossible script choice world.moves next.moves
replay_more script choice world next driver new replay made =
    let (move, means, moves) = made.made in (
      record {
        driven = made.driven;
        records = made.records ∙ replay.records;
        choices = choices_more script driver.choices.items new.choices.items world.moves next.moves move choice replay.choices means (made.choices replay.records) moves;
      },
      inl (move, means, moves),
    )

-- listed, they make the moves again, and then no choice is left
pub made_by_these : (script : ScriptState) (choices : Listing Choice) (moves : List Move) → IsRun script.nodes 0 moves
    → AreChoicesFor script choices.items moves → AreChoicesOf script choices moves
made_by_these script choices moves run by = (
  record {
    run = run;
    each = λ before after move is. let (choice, at, means) = by.each before after move is in (choice, at, means);
  },
  λ choice picks. not_past choices.items choice (ap (slice_get choices.items) by.one_each ∙ picks),
)

-- ---- Steps that are done again

-- the choice for a step was made, if it can be
pub redone_by : (script : ScriptState) (step : Step) (choice : Choice) (old new : List Move) → IsFor old step choice
    → MadeIfPossible script choice old new → Redone script step old new
redone_by script step choice old new is (inl (move, means, moves)) = inl (choice, move, is, means, moves)
redone_by script step choice old new is (inr (none, same)) = inr (
  λ other made is' means. none made (subst (λ (c : Choice). StandsFor script old c made) (for_is_one old step other choice is' is) means),
  same,
)

-- by one step at most
pub one_at_most : (script : ScriptState) (step : Step) (old new : List Move) (n : ℕ) → Redone script step old new → length old ≤ n → length new ≤ n + 1
one_at_most script step old new n (inl (choice, move, is, means, moves)) few =
    let e = ap length moves ∙ lists.length-append old (move ∷ []) in
    let one : length (move ∷ []) ≡ 1 = refl in
    omega (arith, e, few)
one_at_most script step old new n (inr (none, same)) few = let e = ap length same in omega (arith, e, few)

-- one step more of those that are done again
pub replays_more : (script : ScriptState) (all : List Step) (old new : List Move) (step : Step) (rest later : List Step) → rest ≡ step ∷ later
    → ((after : List Move) → Replays script old rest after → Replays script [] all after) → Redone script step old new
    → (after : List Move) → Replays script new later after → Replays script [] all after
replays_more script all old new step rest later is so_far redone after more =
    so_far after (subst (λ (steps : List Step). Replays script old steps after) (sym is) (new, redone, more))

-- ---- The oldest choices

-- after no more moves
pub goes_on_none : (script : ScriptState) (moves : List Move) → GoesOnOldest script moves moves
goes_on_none script moves = ([], sym (lists.append-nil moves), λ before later move is. absurd (nothing before later move is))
  where
    nothing : (before later : List Move) (move : Move) → [] ≡ before ++ move ∷ later → ⊥
    nothing [] later move is = cc
    nothing (x ∷ before) later move is = cc

-- one more move, by the oldest choice
pub goes_on_more : (script : ScriptState) (start old new : List Move) (choice : Choice) → GoesOnOldest script start old → IsOldest script old choice
    → MadeIfPossible script choice old new → GoesOnOldest script start new × (length new ≡ length old + 1)
goes_on_more script start old new choice (rest, is, each) oldest (inl (move, means, moves)) = (
  (
    rest ++ move ∷ [],
    moves ∙ ap (λ (ms : List Move). ms ++ move ∷ []) is ∙ lists.append_assoc start rest (move ∷ []),
    λ before later this split. elim (split_last rest move before later this split) [
      | inl h ↦
          let here : old ≡ start ++ before = is ∙ ap (λ (ms : List Move). start ++ ms) (sym h.0) in (
            choice,
            subst (λ (ms : List Move). IsOldest script ms choice) here oldest,
            subst (λ (m : Move). StandsFor script (start ++ before) choice m.step) (sym h.1)
                (subst (λ (ms : List Move). StandsFor script ms choice move.step) here means),
          )
      | inr h ↦ each before h.0 this h.2
    ],
  ),
  ap length moves ∙ lists.length-append old (move ∷ []),
)
goes_on_more script start old new choice goes oldest (inr (none, same)) =
    let (step, means) = oldest_can_be_made script old choice oldest in absurd (none step means)

-- a run is not below the limit if the number of its steps is not
pub as_long : (moves steps limit : ℕ) → steps ≡ moves → limit ≤ steps → moves < limit → ⊥
as_long moves steps limit is reached less = omega (arith, is, reached, less)

pub still_shorter : (moves steps limit : ℕ) → steps ≡ moves → steps < limit → moves < limit
still_shorter moves steps limit is less = omega (arith, is, less)
