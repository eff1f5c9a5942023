-- Steps that are left out, and runs that are made shorter.
use Rattle.std.proofs.Common.{◌≡◌, ◌⊎◌, ℕ, zero, suc, ◌+◌, ◌<◌, ◌≤◌, Bool, true, false, Option, Some, None, List, [], ◌∷◌, ◌++◌, length, take, drop, get_or, refl, sym, ap, ◌∙◌, subst, arith, inl, inr}
use Rattle.std.specs.Prelude.{◌↔◌, if◌then◌else◌, IsTrue, MatchOption}
use Rattle.std.proofs.lemmas.Bool.{cases_eq, false≢true}
use Rattle.std.proofs.lemmas.List as lists
use Rattle.ra_stamp.specs.Sequence.{Listed as Listing}
use Rattle.ra_stamp.specs.declared.message.Message.{Message as Sent}
use Rattle.ra_world.specs.declared.step.Step.{Step}
use Rattle.ra_world.specs.declared.step.Step.TheVariants.{Ask, Leave, Cancel, Deliver, Lose, Repeat, Forget}
use Rattle.ra_world.specs.Traffic.{Move, repeated_in, repeated_by}
use Rattle.ra_world.specs.World.{WorldState}
use Rattle.ra_schedule.specs.declared.choice.Choice.{Choice}
use Rattle.ra_schedule.specs.declared.choice.Choice.TheVariants.{Client, Message, Lost, Repeated}
use Rattle.ra_schedule.specs.declared.choice.Policy.{Policy}
use Rattle.ra_schedule.specs.declared.choice.Policy.TheVariants as policies
use Rattle.ra_schedule.specs.declared.driver.Driver.{Driver}
use Rattle.ra_schedule.specs.declared.driver.drive_script.Driven.{Driven}
use Rattle.ra_schedule.specs.declared.driver.shrinking.Listed.{Listed}
use Rattle.ra_schedule.specs.declared.driver.shrinking.ShorterRun.{ShorterRun}
use Rattle.ra_schedule.specs.Script.{ScriptState}
use Rattle.ra_schedule.specs.Schedule.{steps_of}
use Rattle.ra_schedule.specs.Listing.{AreChoicesBy}
use Rattle.ra_schedule.specs.Progress.{recorded}
use Rattle.ra_schedule.specs.Driving.{IsReady, Records}
use Rattle.ra_schedule.specs.Shrinking.{are_of_one_client, others, without_first, cut, IsFor, Redone, Replays, IsOldest, GoesOnOldest, ComesOf, IsInVain, IsLeast, IsLeastOf, IsStuckRun}
use Rattle.ra_schedule.specs.Replaying.{AreInVain, IsReplay, IsStuckList, IsShorter, IsShorterRunOf}
use Rattle.ra_schedule.proofs.ChoicesMade.{made_again}
use Rattle.ra_schedule.proofs.Unrepeated.{IsNoRepeat, no_choice, of_each}
use Rattle.ra_schedule.proofs.Replayed.{made_by_these}

-- ---- What is left of steps

-- a step of the same client is passed over, and any other is kept
pub others_more : (gone step : Step) (list new old rest later : List Step) (all : List Step) → rest ≡ step ∷ later
    → list ++ others gone rest ≡ all → new ≡ (if are_of_one_client gone step then list else list ++ step ∷ [])
    → new ++ others gone later ≡ all
others_more gone step list new old rest later all is so_far kept =
    elim (are_of_one_client gone step) as (λ (b : Bool). list ++ (if b then others gone later else step ∷ others gone later) ≡ all
    → new ≡ (if b then list else list ++ step ∷ []) → new ++ others gone later ≡ all) [
      | true ↦ λ before same. ap (λ (xs : List Step). xs ++ others gone later) same ∙ before
      | false ↦ λ before same. ap (λ (xs : List Step). xs ++ others gone later) same ∙ lists.append_assoc list (step ∷ []) (others gone later) ∙ before
    ] (subst (λ (xs : List Step). list ++ others gone xs ≡ all) is so_far) kept

-- ---- Nothing is repeated that was not

-- no step is a repeat
abbrev pub NoneRepeats : List Step → Type 0
NoneRepeats [] = Unit {0}
NoneRepeats (step ∷ steps) = (repeated_in step ≡ []) × NoneRepeats steps

nil_parts : {X : Type 0} (xs ys : List X) → xs ++ ys ≡ [] → (xs ≡ []) × (ys ≡ [])
nil_parts [] ys e = (refl, e)
nil_parts (x ∷ xs) ys e = absurd cc

of_moves : (moves : List Move) → repeated_by moves ≡ [] → NoneRepeats (steps_of moves)
of_moves [] none = tt
of_moves (move ∷ moves) none =
    let (one, rest) = nil_parts (repeated_in move.step) (repeated_by moves) none in (one, of_moves moves rest)

append_keeps : (a b : List Step) → NoneRepeats a → NoneRepeats b → NoneRepeats (a ++ b)
append_keeps [] b none none' = none'
append_keeps (step ∷ a) b (one, none) none' = (one, append_keeps a b none none')

take_keeps : (n : ℕ) (steps : List Step) → NoneRepeats steps → NoneRepeats (take n steps)
take_keeps zero steps none = tt
take_keeps (suc n) [] none = tt
take_keeps (suc n) (step ∷ steps) (one, none) = (one, take_keeps n steps none)

drop_keeps : (n : ℕ) (steps : List Step) → NoneRepeats steps → NoneRepeats (drop n steps)
drop_keeps zero steps none = none
drop_keeps (suc n) [] none = tt
drop_keeps (suc n) (step ∷ steps) (one, none) = drop_keeps n steps none

others_keep : (gone : Step) (steps : List Step) → NoneRepeats steps → NoneRepeats (others gone steps)
others_keep gone [] none = tt
others_keep gone (step ∷ steps) (one, none) =
    elim (are_of_one_client gone step) as (λ (b : Bool). NoneRepeats (if b then others gone steps else step ∷ others gone steps)) [
      | true ↦ others_keep gone steps none
      | false ↦ (one, others_keep gone steps none)
    ]

first_keeps : (steps : List Step) → NoneRepeats steps → NoneRepeats (without_first steps)
first_keeps [] none = tt
first_keeps (gone ∷ later) (one, none) = others_keep gone later none

cut_keeps : (steps : List Step) (place : ℕ) → NoneRepeats steps → NoneRepeats (cut steps place)
cut_keeps steps place none =
    append_keeps (take place steps) (without_first (drop place steps)) (take_keeps place steps none)
    (first_keeps (drop place steps) (drop_keeps place steps none))

repeated_append : (a b : List Move) → repeated_by a ≡ [] → repeated_by b ≡ [] → repeated_by (a ++ b) ≡ []
repeated_append [] b none none' = none'
repeated_append (move ∷ a) b none none' =
    let (one, rest) = nil_parts (repeated_in move.step) (repeated_by a) none in
    ap (λ (ms : List Sent). ms ++ repeated_by (a ++ b)) one ∙ repeated_append a b rest none'

one_move : (move : Move) → repeated_in move.step ≡ [] → repeated_by (move ∷ []) ≡ []
one_move move none = ap (λ (ms : List Sent). ms ++ []) none

for_no_repeat : (moves : List Move) (step : Step) (choice : Choice) → repeated_in step ≡ [] → IsFor moves step choice → IsNoRepeat choice
for_no_repeat moves (Ask node client name mode) choice none is place e = absurd cc
for_no_repeat moves (Leave node client name) choice none is place e = absurd cc
for_no_repeat moves (Cancel node client name) choice none is place e = is
for_no_repeat moves (Forget node) choice none is place e = is
for_no_repeat moves (Deliver message) choice none (at, is, first) place e = absurd cc
for_no_repeat moves (Lose message) choice none (at, is, first) place e = absurd cc
for_no_repeat moves (Repeat message) choice none is place e = absurd cc

oldest_no_repeat : (script : ScriptState) (moves : List Move) (choice : Choice) → IsOldest script moves choice → IsNoRepeat choice
oldest_no_repeat script moves (Client client) oldest place e = absurd cc
oldest_no_repeat script moves (Message message) oldest place e = absurd cc
oldest_no_repeat script moves (Lost message) oldest place e = oldest
oldest_no_repeat script moves (Repeated message) oldest place e = oldest

redone_none : (script : ScriptState) (step : Step) (old new : List Move) → repeated_in step ≡ [] → repeated_by old ≡ [] → Redone script step old new
    → repeated_by new ≡ []
redone_none script step old new one none (inl (choice, move, is, means, moves)) =
    ap repeated_by moves
    ∙ repeated_append old (move ∷ []) none (one_move move (no_choice script old choice move.step (for_no_repeat old step choice one is) means))
redone_none script step old new one none (inr (not, same)) = ap repeated_by same ∙ none

replays_none : (script : ScriptState) (steps : List Step) (old new : List Move) → NoneRepeats steps → repeated_by old ≡ []
    → Replays script old steps new → repeated_by new ≡ []
replays_none script [] old new steps_none none same = ap repeated_by same ∙ none
replays_none script (step ∷ steps) old new (one, steps_none) none (between, redone, rest) =
    replays_none script steps between new steps_none (redone_none script step old between one none redone) rest

goes_on_unrepeated : (script : ScriptState) (old new : List Move) → repeated_by old ≡ [] → GoesOnOldest script old new → repeated_by new ≡ []
goes_on_unrepeated script old new none (rest, is, each) =
    ap repeated_by is
    ∙ repeated_append old rest none (of_each rest (λ before after move e.
    let (choice, oldest, means) = each before after move e in
    no_choice script (old ++ before) choice move.step (oldest_no_repeat script (old ++ before) choice oldest) means))

comes_none : (script : ScriptState) (steps : List Step) (limit : ℕ) (moves : List Move) → NoneRepeats steps → ComesOf script steps limit moves
    → repeated_by moves ≡ []
comes_none script steps limit moves none comes =
    goes_on_unrepeated script comes.redone moves (replays_none script steps [] comes.redone none refl comes.replays) comes.goes_on

-- ---- From one run to the next

-- each of its choices means the step of its move, so the list makes the run
pub listed_by : (script : ScriptState) (policy : Policy) (choices : Listing Choice) (moves : List Move)
    → AreChoicesBy script policy choices.items moves → AreChoicesBy script (policies.Listed choices) choices.items moves
listed_by script policy choices moves by = record {
  one_each = by.one_each;
  each = λ before after move is. let (choice, at, picks, means) = by.each before after move is in (choice, at, at, means);
}

-- what the driver has before the first turn
pub opening_replay : (script : ScriptState) (policy : Policy) (world : WorldState) (driver : Driver) → IsReady script policy world driver → driver.records ≡ true
    → IsReplay script world driver
opening_replay script policy world driver ready records = record {
  driven = ready.driven;
  records = records;
  choices = let by = ready.choices records in record {
    one_each = by.one_each;
    each = λ before after move is. let (choice, at, picks, means) = by.each before after move is in (choice, at, means);
  };
}

-- which of two numbers is less, or not
at_least_or_less : (x y : ℕ) → (x ≤ y) ⊎ (y < x)
at_least_or_less zero y = inl (omega arith)
at_least_or_less (suc x) zero = inr (omega arith)
at_least_or_less (suc x) (suc y) =
    elim (at_least_or_less x y) [
      | inl more ↦ inl (omega arith)
      | inr less ↦ inr (omega arith)
    ]

-- what was replayed is in vain if it is not shorter and stuck
pub replayed_in_vain : (script : ScriptState) (steps : List Step) (limit : ℕ) (world : WorldState) (driver : Driver) (is : Bool)
    → IsReplay script world driver → ComesOf script steps limit world.moves
    → IsTrue is ↔ ((length world.moves < limit) × IsStuckRun script world.moves) → is ≡ false → IsInVain script steps limit
replayed_in_vain script steps limit world driver is replay comes decides not_kept = record {
  moves = world.moves;
  run = replay.driven.run;
  comes = comes;
  vain = elim (at_least_or_less limit (length world.moves)) [
    | inl more ↦ inl more
    | inr less ↦ inr (λ stuck. false≢true (sym not_kept ∙ decides.1 (less, stuck)))
  ];
}

-- what was replayed is kept if it is
pub replayed_shorter : (script : ScriptState) (steps : List Step) (limit : ℕ) (world : WorldState) (driver : Driver) (is : Bool)
    → IsReplay script world driver → ComesOf script steps limit world.moves
    → IsTrue is ↔ ((length world.moves < limit) × IsStuckRun script world.moves) → IsTrue is
    → IsShorter script steps limit (record { steps = driver.steps; choices = driver.choices })
replayed_shorter script steps limit world driver is replay comes decides kept =
    let (less, stuck) = decides.0 kept in
    record {
      moves = world.moves;
      is = record {
        steps = replay.driven.steps ∙ ap (λ (b : Bool). recorded b world.moves) replay.records;
        by = record {
          one_each = replay.choices.one_each;
          each = λ before after move e. let (choice, at, means) = replay.choices.each before after move e in (choice, at, at, means);
        };
        makes = made_by_these script driver.choices world.moves replay.driven.run replay.choices;
        stuck = stuck;
      };
      comes = comes;
      shorter = less;
    }

-- the list to which a given run has been shrunk so far
pub record SoFar (script : ScriptState) (given : List Move) (list : Listed) : Type 0 where
  pub moves : List Move
  pub is : IsStuckList script moves list
  pub no_longer : length moves ≤ length given
  pub unrepeated : repeated_by given ≡ [] → repeated_by moves ≡ []

as_many : (moves : List Move) → length (steps_of moves) ≡ length moves
as_many [] = refl
as_many (move ∷ moves) = ap suc (as_many moves)

-- a shorter one has fewer steps
pub fewer : (script : ScriptState) (steps : List Step) (limit : ℕ) (list : Listed) → IsShorter script steps limit list → length list.steps.items < limit
fewer script steps limit list shorter =
    let count : length list.steps.items ≡ length shorter.moves = ap length shorter.is.steps ∙ as_many shorter.moves in
    let less = shorter.shorter in
    omega (arith, count, less)

-- a shorter one
pub next_one : (script : ScriptState) (given : List Move) (list next : Listed) (place : ℕ) → SoFar script given list
    → IsShorter script (cut list.steps.items place) (length list.steps.items) next → SoFar script given next
next_one script given list next place so_far shorter =
    let count : length list.steps.items ≡ length so_far.moves = ap length so_far.is.steps ∙ as_many so_far.moves in
    let less = shorter.shorter in
    let few = so_far.no_longer in
    record {
      moves = shorter.moves;
      is = shorter.is;
      no_longer = omega (arith, count, less, few);
      unrepeated = λ none.
          comes_none script (cut list.steps.items place) (length list.steps.items) shorter.moves
          (cut_keeps list.steps.items place (subst NoneRepeats (sym so_far.is.steps) (of_moves so_far.moves (so_far.unrepeated none))))
          shorter.comes;
    }

-- the last one
pub last_one : (script : ScriptState) (given : List Move) (list : Listed) → SoFar script given list → IsLeast script list.steps.items
    → IsLeastOf script given list.choices
last_one script given list so_far least = record {
  moves = so_far.moves;
  by = so_far.is.by;
  makes = so_far.is.makes;
  stuck = so_far.is.stuck;
  no_longer = so_far.no_longer;
  unrepeated = so_far.unrepeated;
  least = subst (IsLeast script) so_far.is.steps least;
}

-- the run of a policy
pub of_policy : (script : ScriptState) (policy : Policy) (limit : ℕ) (driven : Driven) (told : Records script policy limit true driven) → IsTrue driven.stuck
    → IsStuckList script told.moves (record { steps = driven.steps; choices = driven.choices })
of_policy script policy limit driven told stuck =
    let by = told.choices refl in
    record {
      steps = told.steps;
      by = listed_by script policy driven.choices told.moves by;
      makes = made_again script policy driven.choices told.moves told.run.follows by;
      stuck = told.stuck.0 stuck;
    }

-- the step at a place, or some other one past the end
abbrev pub step_there : List Step → ℕ → Step
step_there steps place = get_or steps place (Leave 0 0 [])

-- a shorter one, as it was found among the steps of the one before
pub next_told : (script : ScriptState) (given : List Move) (list : Listed) (next : ShorterRun) (steps : List Step) (found : Option ShorterRun) → steps ≡ list.steps.items
    → found ≡ Some next → MatchOption found (IsLeast script steps) (IsShorterRunOf script steps)
    → SoFar script given list → SoFar script given next.list
next_told script given list next steps found same is told so_far =
    let some : IsShorterRunOf script steps next =
    subst (λ (o : Option ShorterRun). MatchOption o (IsLeast script steps) (IsShorterRunOf script steps)) is told in
    next_one script given list next.list next.place so_far (subst (λ (xs : List Step). IsShorterRunOf script xs next) same some)

-- the last one, as it was found that there is no shorter one
pub last_told : (script : ScriptState) (given : List Move) (list : Listed) (steps : List Step) → steps ≡ list.steps.items → IsLeast script steps
    → SoFar script given list → IsLeastOf script given list.choices
last_told script given list steps same least so_far = last_one script given list so_far (subst (IsLeast script) same least)

-- it has fewer steps
pub next_fewer : (script : ScriptState) (list : Listed) (next : ShorterRun) (steps : List Step) (found : Option ShorterRun) → steps ≡ list.steps.items
    → found ≡ Some next → MatchOption found (IsLeast script steps) (IsShorterRunOf script steps)
    → length next.list.steps.items < length list.steps.items
next_fewer script list next steps found same is told =
    let some : IsShorterRunOf script steps next =
    subst (λ (o : Option ShorterRun). MatchOption o (IsLeast script steps) (IsShorterRunOf script steps)) is told in
    fewer script (cut list.steps.items next.place) (length list.steps.items) next.list (subst (λ (xs : List Step). IsShorterRunOf script xs next) same some)

-- no shorter one was found
pub none_left : (script : ScriptState) (steps : List Step) (found : Option ShorterRun) → ((next : ShorterRun) → found ≡ Some next → ⊥)
    → MatchOption found (IsLeast script steps) (IsShorterRunOf script steps) → IsLeast script steps
none_left script steps None not told = told
none_left script steps (Some next) not told = absurd (not next refl)

-- another step cannot be left out
pub in_vain_more : (script : ScriptState) (steps : List Step) (from place : ℕ) (found : Option Listed) → ((list : Listed) → found ≡ Some list → ⊥)
    → MatchOption found (IsInVain script (cut steps place) (length steps)) (IsShorter script (cut steps place) (length steps))
    → AreInVain script steps from place → AreInVain script steps from (place + 1)
in_vain_more script steps from place (Some list) not told so_far = absurd (not list refl)
in_vain_more script steps from place None not told so_far = λ other first below.
    elim (cases_eq other place) [
      | inl same ↦ subst (λ (n : ℕ). IsInVain script (cut steps n) (length steps)) (sym same) told
      | inr apart ↦ so_far other first (omega (arith, below, apart))
    ]

-- the steps before a place, with the others of those after it, are what is left
pub cut_begins : (steps list : List Step) (place i : ℕ) → place < length steps → i ≤ place → place ≤ i → list ≡ take i steps
    → list ++ others (step_there steps place) (drop (place + 1) steps) ≡ cut steps place
cut_begins steps list place i less not_past reached is =
    let same : i ≡ place = omega (arith, not_past, reached) in
    ap (λ (xs : List Step). xs ++ others (step_there steps place) (drop (place + 1) steps)) (is ∙ ap (λ (n : ℕ). take n steps) same)
    ∙ ap (λ (xs : List Step). take place steps ++ without_first xs) (sym (lists.drop_more steps place (Leave 0 0 []) less))

-- another step is added
pub taken_more : (steps before list new : List Step) (i : ℕ) (step : Step) → i < length steps → step ≡ get_or steps i step → list ≡ before ++ take i steps
    → new ≡ list ++ step ∷ [] → new ≡ before ++ take (i + 1) steps
taken_more steps before list new i step less at so_far pushed =
    pushed ∙ ap (λ (xs : List Step). xs ++ step ∷ []) so_far ∙ lists.append_assoc before (take i steps) (step ∷ [])
    ∙ ap (λ (xs : List Step). before ++ xs) (ap (λ (s : Step). take i steps ++ s ∷ []) at ∙ sym (lists.take_more steps i step less))
