-- Which policies repeat no message: no choice that they make means a repeat.
use Rattle.std.proofs.Common.{◌≡◌, ◌≢◌, ℕ, zero, suc, ◌+◌, ◌%◌, Bool, true, false, List, [], ◌∷◌, ◌++◌, All, length, map, slice_get, Some, refl, sym, ap, ◌∙◌, subst, arith}
use Rattle.std.specs.Prelude.{nat_lt, if◌then◌else◌}
use Rattle.std.specs.List.{range_with_len}
use Rattle.std.proofs.lemmas.List.Elements.{All-head, All-tail}
use Rattle.ra_world.specs.declared.step.Step.{Step}
use Rattle.ra_world.specs.Traffic.{Move, repeated_in, repeated_by}
use Rattle.ra_schedule.specs.declared.script.Op.{Op}
use Rattle.ra_schedule.specs.declared.script.Op.TheVariants.{Lock, Unlock}
use Rattle.ra_schedule.specs.declared.choice.Choice.{Choice}
use Rattle.ra_schedule.specs.declared.choice.Choice.TheVariants.{Client, Message, Lost, Repeated}
use Rattle.ra_schedule.specs.declared.choice.Policy.{Policy}
use Rattle.ra_schedule.specs.declared.choice.Policy.TheVariants.{Oldest, Newest, Seeded, Faulty, Listed}
use Rattle.ra_schedule.specs.Faults.{FaultRates}
use Rattle.ra_schedule.specs.Script.{ScriptState}
use Rattle.ra_schedule.specs.Seeds.{word_of}
use Rattle.ra_schedule.specs.PolicyState.{IsWithoutFault}
use Rattle.ra_schedule.specs.Schedule.{steps_of, words_by, step_of, StandsFor, IsNamedBy, with_fault, Picks, RepeatsNothing, Follows}
use Rattle.ra_schedule.proofs.Choosing.{same_some}

-- the choice is no repeat
abbrev pub IsNoRepeat : Choice → Type 0
IsNoRepeat choice = (place : ℕ) → choice ≢ Repeated place

-- ---- What a word names

is_message : (places : List ℕ) (n : ℕ) (choice : Choice) → slice_get (map Message places) n ≡ Some choice → IsWithoutFault choice
is_message [] n choice is = absurd cc
is_message (place ∷ places) zero choice is = let same : Message place ≡ choice = same_some refl is in subst IsWithoutFault same tt
is_message (place ∷ places) (suc n) choice is = is_message places n choice is

is_client_or_message : (clients places : List ℕ) (n : ℕ) (choice : Choice) → slice_get (map Client clients ++ map Message places) n ≡ Some choice
    → IsWithoutFault choice
is_client_or_message [] places n choice is = is_message places n choice is
is_client_or_message (client ∷ clients) places zero choice is = let same : Client client ≡ choice = same_some refl is in subst IsWithoutFault same tt
is_client_or_message (client ∷ clients) places (suc n) choice is = is_client_or_message clients places n choice is

-- a word names no fault
pub named_without_fault : (script : ScriptState) (moves : List Move) (word : ℕ) (choice : Choice) → IsNamedBy word script moves choice
    → IsWithoutFault choice
named_without_fault script moves word choice (choices, (clients, left, are, leaves, all), is) =
    is_client_or_message clients (range_with_len 0 (length left)) (word % length choices) choice
    (subst (λ (xs : List Choice). slice_get xs (word % length choices) ≡ Some choice) all is)

no_repeat : (choice : Choice) → IsWithoutFault choice → IsNoRepeat choice
no_repeat (Client client) sound place is = cc
no_repeat (Message message) sound place is = cc
no_repeat (Lost message) sound place is = sound
no_repeat (Repeated message) sound place is = sound

-- ---- What faults make of it

-- if no message is to be repeated, no number means a repeat
of_tests : (message : ℕ) (lost repeated : Bool) → repeated ≡ lost
    → IsNoRepeat (if lost then Lost message else if repeated then Repeated message else Message message)
of_tests message true repeated same place is = cc
of_tests message false true same place is = absurd cc
of_tests message false false same place is = cc

still_no_repeat : (faults : FaultRates) (word : ℕ) (named : Choice) → faults.repeat ≡ 0 → IsWithoutFault named
    → IsNoRepeat (with_fault faults word named)
still_no_repeat faults word (Client client) none sound = λ place is. cc
still_no_repeat faults word (Message message) none sound =
    of_tests message (nat_lt (word % 1000) faults.lose) (nat_lt (word % 1000) (faults.lose + faults.repeat))
    (ap (nat_lt (word % 1000)) (omega arith))
still_no_repeat faults word (Lost message) none sound = absurd sound
still_no_repeat faults word (Repeated message) none sound = absurd sound

-- ---- What is picked

of_list : (choices : List Choice) (n : ℕ) (choice : Choice) → All IsNoRepeat choices → slice_get choices n ≡ Some choice → IsNoRepeat choice
of_list [] n choice all is = absurd cc
of_list (x ∷ choices) zero choice all is = subst IsNoRepeat (same_some refl is) (All-head IsNoRepeat x choices all)
of_list (x ∷ choices) (suc n) choice all is = of_list choices n choice (All-tail IsNoRepeat x choices all) is

picks_no_repeat : (script : ScriptState) (policy : Policy) (moves : List Move) (choice : Choice) → RepeatsNothing policy
    → Picks script policy moves choice → IsNoRepeat choice
picks_no_repeat script Oldest moves (Client client) none picks = λ place is. cc
picks_no_repeat script Oldest moves (Message message) none picks = λ place is. cc
picks_no_repeat script Oldest moves (Lost message) none picks = absurd picks
picks_no_repeat script Oldest moves (Repeated message) none picks = absurd picks
picks_no_repeat script Newest moves (Client client) none picks = λ place is. cc
picks_no_repeat script Newest moves (Message message) none picks = λ place is. cc
picks_no_repeat script Newest moves (Lost message) none picks = absurd picks
picks_no_repeat script Newest moves (Repeated message) none picks = absurd picks
picks_no_repeat script (Seeded seed) moves choice none picks =
    no_repeat choice (named_without_fault script moves (word_of seed (length moves)) choice picks)
picks_no_repeat script (Faulty seed faults) moves choice none (named, names, is) =
    let number = words_by (steps_of moves) in
    subst IsNoRepeat (sym is)
    (still_no_repeat faults (word_of seed (number + 1)) named none (named_without_fault script moves (word_of seed number) named names))
picks_no_repeat script (Listed choices) moves choice none picks = of_list choices.items (length moves) choice none picks

no_operation : (node client : ℕ) (op : Op) → repeated_in (step_of node client op) ≡ []
no_operation node client (Lock name mode) = refl
no_operation node client (Unlock name) = refl

-- and a choice that is no repeat means none
pub no_choice : (script : ScriptState) (moves : List Move) (choice : Choice) (step : Step) → IsNoRepeat choice → StandsFor script moves choice step
    → repeated_in step ≡ []
no_choice script moves (Client client) step none means =
    let (who, op, at, is, made) = means.next in ap repeated_in made ∙ no_operation who.node client op
no_choice script moves (Message place) step none (message, at, is) = ap repeated_in is
no_choice script moves (Lost place) step none (message, at, is) = ap repeated_in is
no_choice script moves (Repeated place) step none means = absurd (none place refl)

pub of_each : (moves : List Move)
    → ((before after : List Move) (move : Move) → moves ≡ before ++ move ∷ after → repeated_in move.step ≡ [])
    → repeated_by moves ≡ []
of_each [] each = refl
of_each (move ∷ moves) each =
    let rest = of_each moves (λ before after other e. each (move ∷ before) after other (ap (λ (ms : List Move). move ∷ ms) e)) in
    λ i. each [] moves move refl i ++ rest i

pub nothing_repeated : (script : ScriptState) (policy : Policy) (moves : List Move) → RepeatsNothing policy → Follows script policy moves
    → repeated_by moves ≡ []
nothing_repeated script policy moves none follows =
    of_each moves (λ before after move e.
    let (choice, picked, means) = follows.each before after move e in
    no_choice script before choice move.step (picks_no_repeat script policy before choice none picked) means)
