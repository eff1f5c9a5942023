-- Policies that choose by themselves: each of their choices can be made, and they end only if nothing more can happen.
use Rattle.std.proofs.Common.{◌≡◌, ◌≢◌, ◌⊎◌, ℕ, zero, suc, ◌+◌, ◌-◌, ◌%◌, ◌<◌, ◌≤◌, Bool, true, false, Some, List, [], ◌∷◌, ◌++◌, All, length, map, slice_get, refl, sym, ap, ◌∙◌, subst, arith, inl, inr}
use Rattle.std.specs.Prelude.{Contains, nat_lt, if◌then◌else◌}
use Rattle.std.specs.List.{range_with_len}
use Rattle.std.proofs.lemmas.Bool.{cases_lt}
use Rattle.std.proofs.lemmas.Bool.Decides.{nat_tests}
use Rattle.std.proofs.lemmas.List.{length-append}
use Rattle.std.proofs.lemmas.Option.{slice_get_cases}
use Rattle.std.proofs.lemmas.List.Elements.{All-head, All-tail}
use Rattle.ra_stamp.specs.declared.message.Message.{Message as Sent}
use Rattle.ra_world.specs.declared.step.Step.{Step}
use Rattle.ra_world.specs.declared.step.Step.TheVariants.{Deliver, Lose, Repeat}
use Rattle.ra_world.specs.Traffic.{Move, LeavesUnderWay, lost_in, lost_by}
use Rattle.ra_world.specs.Run.{IsRun, GoesOn}
use Rattle.ra_schedule.specs.declared.choice.Choice.{Choice}
use Rattle.ra_schedule.specs.declared.choice.Choice.TheVariants.{Client, Message, Lost, Repeated}
use Rattle.ra_schedule.specs.declared.choice.Policy.{Policy}
use Rattle.ra_schedule.specs.declared.choice.Policy.TheVariants.{Oldest, Newest, Seeded, Faulty, Listed}
use Rattle.ra_schedule.specs.declared.error.DriveError.{DriveError}
use Rattle.ra_schedule.specs.declared.error.DriveError.TheVariants.{TurnLimit, BadPlace, NotEnabled, Memory}
use Rattle.ra_schedule.specs.Faults.{FaultRates}
use Rattle.ra_schedule.specs.Script.{ScriptState, IsScript}
use Rattle.ra_schedule.specs.Seeds.{word_of}
use Rattle.ra_schedule.specs.PolicyState.{IsWithoutFault}
use Rattle.ra_schedule.specs.Schedule.{steps_of, words_by, IsEnabled, IsFirstEnabled, IsAtPlace, StandsFor, AreEnabled, IsNamedBy, with_fault, Picks, RepeatsNothing, Ends, Follows, Stops}
use Rattle.ra_schedule.specs.Performing.{Performs, IsAtRest, ChoosesItself, LosesNothing, most_turns}
use Rattle.ra_schedule.specs.Below.{LawsBelow}
use Rattle.ra_schedule.specs.BelowFinishing.{LawsOfRuns}
use Rattle.ra_schedule.proofs.EnabledLists.{AreEnabledUpTo, none_so_far, one_more, no_more, these_are_all}
use Rattle.ra_schedule.proofs.Naming.{names_client, names_message}
use Rattle.ra_schedule.proofs.Choosing.{same_some, no_bad_place, not_refused}
use Rattle.ra_schedule.proofs.Following.{follows_more}
use Rattle.ra_schedule.proofs.Unrepeated.{named_without_fault, nothing_repeated}
use Rattle.ra_schedule.proofs.StandingRuns.{under_way_at}
use Rattle.ra_schedule.proofs.CarriedOn.{op_loses_none}
use Rattle.ra_schedule.proofs.TurnBound.{moves_bound_unrepeated}

pub follows_performs : (script : ScriptState) (policy : Policy) (moves : List Move) → Follows script policy moves → Performs script moves
follows_performs script policy moves follows = record {
  run = follows.run;
  each = λ before after move is. let (choice, picks, means) = follows.each before after move is in (choice, means);
}

-- ---- Each choice can be made

in_map : (ks : List ℕ) (make : ℕ → Choice) (k : ℕ) (choice : Choice) → slice_get (map make ks) k ≡ Some choice → (n : ℕ) × Contains ks n × (choice ≡ make n)
in_map [] make k choice is = absurd cc
in_map (n ∷ ks) make zero choice is = (n, (0, omega arith, refl), sym (same_some refl is))
in_map (n ∷ ks) make (suc k) choice is =
    let rest = in_map ks make k choice is in
    (rest.0, (suc rest.1.0, omega (arith, rest.1.1), rest.1.2), rest.2)

in_both : (xs ys : List Choice) (k : ℕ) (choice : Choice) → slice_get (xs ++ ys) k ≡ Some choice
    → (slice_get xs k ≡ Some choice) ⊎ ((j : ℕ) × (slice_get ys j ≡ Some choice))
in_both [] ys k choice is = inr (k, is)
in_both (x ∷ xs) ys zero choice is = inl is
in_both (x ∷ xs) ys (suc k) choice is = in_both xs ys k choice is

in_range : (first count n : ℕ) → Contains (range_with_len first count) n → n < first + count
in_range first zero n has = absurd (omega (arith, has.1))
in_range first (suc count) n (zero, within, is) = omega (arith, is)
in_range first (suc count) n (suc k, within, is) = omega (arith, in_range (first + 1) count n (k, omega (arith, within), is))

message_at : (moves : List Move) (left : List Sent) (place : ℕ) → LeavesUnderWay moves left → place < length left → (message : Sent) × IsAtPlace moves place message
message_at moves left place leaves within = elim (slice_get_cases left place).1 [
  | inl found ↦ (found.0, (left, leaves, found.2))
  | inr past ↦ absurd (omega (arith, past.0, within))
]

-- what the choice names exists, and a client is enabled
abbrev IsFound : ScriptState → List Move → Choice → Type 0
IsFound script moves (Client client) = IsEnabled script moves client
IsFound script moves (Message place) = (message : Sent) × IsAtPlace moves place message
IsFound script moves (Lost place) = (message : Sent) × IsAtPlace moves place message
IsFound script moves (Repeated place) = (message : Sent) × IsAtPlace moves place message

found_stands : (script : ScriptState) (moves : List Move) (choice : Choice) → IsFound script moves choice → (step : Step) × StandsFor script moves choice step
found_stands script moves (Client client) found = found
found_stands script moves (Message place) (message, at) = (Deliver message, (message, at, refl))
found_stands script moves (Lost place) (message, at) = (Lose message, (message, at, refl))
found_stands script moves (Repeated place) (message, at) = (Repeat message, (message, at, refl))

by_tests : (script : ScriptState) (moves : List Move) (place : ℕ) (lost repeated : Bool) → IsFound script moves (Message place)
    → IsFound script moves (if lost then Lost place else if repeated then Repeated place else Message place)
by_tests script moves place true repeated found = found
by_tests script moves place false true found = found
by_tests script moves place false false found = found

still_found : (script : ScriptState) (moves : List Move) (faults : FaultRates) (word : ℕ) (named : Choice) → IsFound script moves named → IsFound script moves (with_fault faults word named)
still_found script moves faults word (Client client) found = found
still_found script moves faults word (Message place) found =
    by_tests script moves place (nat_lt (word % 1000) faults.lose) (nat_lt (word % 1000) (faults.lose + faults.repeat)) found
still_found script moves faults word (Lost place) found = found
still_found script moves faults word (Repeated place) found = found

named_found : (script : ScriptState) (moves : List Move) (word : ℕ) (choice : Choice) → IsNamedBy word script moves choice → IsFound script moves choice
named_found script moves word choice (choices, (clients, left, are, leaves, all), is) =
    let here : slice_get (map Client clients ++ map Message (range_with_len 0 (length left))) (word % length choices) ≡ Some choice =
    subst (λ (xs : List Choice). slice_get xs (word % length choices) ≡ Some choice) all is in
    elim (in_both (map Client clients) (map Message (range_with_len 0 (length left))) (word % length choices) choice here) [
      | inl first ↦
          let at = in_map clients (λ n. Client n) (word % length choices) choice first in
          subst (IsFound script moves) (sym at.2) ((are.each at.0).0 at.1)
      | inr last ↦
          let at = in_map (range_with_len 0 (length left)) (λ n. Message n) last.0 choice last.1 in
          subst (IsFound script moves) (sym at.2) (message_at moves left at.0 leaves (omega (arith, in_range 0 (length left) at.0 at.1)))
    ]

picks_found : (script : ScriptState) (policy : Policy) (moves : List Move) (choice : Choice) → ChoosesItself policy → Picks script policy moves choice → IsFound script moves choice
picks_found script Oldest moves (Client client) itself picks = picks.0
picks_found script Oldest moves (Message place) itself (is, (count, (none, (left, leaves, long)))) = message_at moves left place leaves (omega (arith, is, long))
picks_found script Oldest moves (Lost place) itself picks = absurd picks
picks_found script Oldest moves (Repeated place) itself picks = absurd picks
picks_found script Newest moves (Client client) itself picks = picks.0
picks_found script Newest moves (Message place) itself (none, (left, leaves, long)) = message_at moves left place leaves (omega (arith, long))
picks_found script Newest moves (Lost place) itself picks = absurd picks
picks_found script Newest moves (Repeated place) itself picks = absurd picks
picks_found script (Seeded seed) moves choice itself picks = named_found script moves (word_of seed (length moves)) choice picks
picks_found script (Faulty seed faults) moves choice itself (named, names, is) =
    let number = words_by (steps_of moves) in
    subst (IsFound script moves) (sym is) (still_found script moves faults (word_of seed (number + 1)) named (named_found script moves (word_of seed number) named names))
picks_found script (Listed choices) moves choice itself picks = absurd itself

-- a run goes on with the step of a choice
means_goes_on : LawsBelow → (script : ScriptState) (moves : List Move) (choice : Choice) (step : Step) → IsScript script → IsRun script.nodes 0 moves
    → StandsFor script moves choice step → GoesOn script.nodes 0 moves step
means_goes_on below script moves (Client client) step fit run means = means.goes_on
means_goes_on below script moves (Message place) step fit run (message, at, is) =
    subst (GoesOn script.nodes 0 moves) (sym is) ((below.deliver script.nodes 0 moves fit.count run message).1 (under_way_at moves place message at))
means_goes_on below script moves (Lost place) step fit run (message, at, is) =
    subst (GoesOn script.nodes 0 moves) (sym is) ((below.lose script.nodes 0 moves fit.count run message).1 (under_way_at moves place message at))
means_goes_on below script moves (Repeated place) step fit run (message, at, is) =
    subst (GoesOn script.nodes 0 moves) (sym is) ((below.repeat script.nodes 0 moves fit.count run message).1 (under_way_at moves place message at))

-- ---- It ends only if nothing more can happen

by_first : (script : ScriptState) (moves : List Move) → ((client : ℕ) → IsFirstEnabled script moves client → ⊥) → (client : ℕ) → IsEnabled script moves client → ⊥
by_first script moves none client on = below (client + 1) client (omega arith) on
  where
    below : (n k : ℕ) → k < n → IsEnabled script moves k → ⊥
    below zero k less on = omega (arith, less)
    below (suc n) k less on = none k (on, λ other lower. below n other (omega (arith, less, lower)))

-- there is a list of the enabled clients, as far as what is false depends on it
listed : (script : ScriptState) (moves : List Move) (last : ℕ) → ((clients : List ℕ) → AreEnabledUpTo script moves last clients → ⊥) → ⊥
listed script moves zero none = none [] (none_so_far script moves)
listed script moves (suc last) none =
    let more : (clients : List ℕ) → AreEnabledUpTo script moves (last + 1) clients → ⊥ =
    subst (λ (k : ℕ). (clients : List ℕ) → AreEnabledUpTo script moves k clients → ⊥) (omega arith) none in
    listed script moves last (λ clients are.
    let off : IsEnabled script moves (last + 1) → ⊥ = λ on. more (clients ++ (last + 1) ∷ []) (one_more script moves last clients are on) in
    more clients (no_more script moves last clients are off))

-- if a word names no choice, no choice is made
none_named : (script : ScriptState) (moves : List Move) (word : ℕ) → ((choice : Choice) → IsNamedBy word script moves choice → ⊥)
    → (clients : List ℕ) (left : List Sent) → AreEnabled script moves clients → LeavesUnderWay moves left → length clients + length left ≡ 0
none_named script moves word never clients left are leaves =
    elim (cases_lt 0 (length clients + length left)) [
      | inr none ↦ omega (arith, none)
      | inl some ↦
          let number = word % (length clients + length left) in
          let less : number < length clients + length left = omega (arith, some) in
          elim (slice_get_cases clients number).1 [
            | inl found ↦ absurd (never (Client found.0) (names_client script moves clients left word number found.0 are leaves refl (sym found.2)))
            | inr past ↦ absurd (never (Message (number - length clients)) (names_message script moves clients left word number are leaves refl past.0 less))
          ]
    ]

by_word : (script : ScriptState) (moves : List Move) (word : ℕ) → ((choice : Choice) → IsNamedBy word script moves choice → ⊥)
    → (left : List Sent) → LeavesUnderWay moves left → IsAtRest script moves
by_word script moves word never left leaves =
    let last = length script.clients in
    record {
      none_enabled = λ client on. listed script moves last (λ clients are.
          let all = these_are_all script moves last clients (omega arith) are in
          let none = none_named script moves word never clients left all leaves in
          let has = (all.each client).1 on in
          omega (arith, none, has.1));
      none_under_way = empty left leaves;
    }
  where
    empty : (ms : List Sent) → LeavesUnderWay moves ms → LeavesUnderWay moves []
    empty [] leaves = leaves
    empty (m ∷ ms) leaves = absurd (listed script moves (length script.clients) (λ clients are.
        let all = these_are_all script moves (length script.clients) clients (omega arith) are in
        let none = none_named script moves word never clients (m ∷ ms) all leaves in
        omega (arith, none)))

pub ends_at_rest : (script : ScriptState) (policy : Policy) (moves : List Move) → ChoosesItself policy → Ends script policy moves
    → (left : List Sent) → LeavesUnderWay moves left → IsAtRest script moves
ends_at_rest script Oldest moves itself ends [] leaves =
    record { none_enabled = by_first script moves (λ client first. ends (Client client) first); none_under_way = leaves }
ends_at_rest script Oldest moves itself ends (m ∷ ms) leaves =
    absurd (ends (Message 0) (refl, (length ms, (by_first script moves (λ client first. ends (Client client) first), (m ∷ ms, leaves, omega arith)))))
ends_at_rest script Newest moves itself ends [] leaves =
    record { none_enabled = by_first script moves (λ client first. ends (Client client) first); none_under_way = leaves }
ends_at_rest script Newest moves itself ends (m ∷ ms) leaves =
    absurd (ends (Message (length ms)) (by_first script moves (λ client first. ends (Client client) first), (m ∷ ms, leaves, omega arith)))
ends_at_rest script (Seeded seed) moves itself ends left leaves = by_word script moves (word_of seed (length moves)) ends left leaves
ends_at_rest script (Faulty seed faults) moves itself ends left leaves =
    let number = words_by (steps_of moves) in
    by_word script moves (word_of seed number) (λ choice names. ends (with_fault faults (word_of seed (number + 1)) choice) (choice, names, refl)) left leaves
ends_at_rest script (Listed choices) moves itself ends left leaves = absurd itself

-- ---- What it loses

abbrev IsNoLoss : Choice → Type 0
IsNoLoss choice = (place : ℕ) → choice ≢ Lost place

no_loss : (choice : Choice) → IsWithoutFault choice → IsNoLoss choice
no_loss (Client client) sound place is = cc
no_loss (Message message) sound place is = cc
no_loss (Lost message) sound place is = sound
no_loss (Repeated message) sound place is = sound

none_below : (x : ℕ) → nat_lt x 0 ≡ false
none_below x = grind (arith, nat_tests)

loss_tests : (place : ℕ) (lost repeated : Bool) → lost ≡ false → IsNoLoss (if lost then Lost place else if repeated then Repeated place else Message place)
loss_tests place true repeated none other is = absurd cc
loss_tests place false true none other is = cc
loss_tests place false false none other is = cc

still_no_loss : (faults : FaultRates) (word : ℕ) (named : Choice) → faults.lose ≡ 0 → IsWithoutFault named → IsNoLoss (with_fault faults word named)
still_no_loss faults word (Client client) none sound = λ place is. cc
still_no_loss faults word (Message message) none sound =
    loss_tests message (nat_lt (word % 1000) faults.lose) (nat_lt (word % 1000) (faults.lose + faults.repeat))
    (ap (nat_lt (word % 1000)) none ∙ none_below (word % 1000))
still_no_loss faults word (Lost message) none sound = absurd sound
still_no_loss faults word (Repeated message) none sound = absurd sound

of_list : (choices : List Choice) (n : ℕ) (choice : Choice) → All IsNoLoss choices → slice_get choices n ≡ Some choice → IsNoLoss choice
of_list [] n choice all is = absurd cc
of_list (x ∷ choices) zero choice all is = subst IsNoLoss (same_some refl is) (All-head IsNoLoss x choices all)
of_list (x ∷ choices) (suc n) choice all is = of_list choices n choice (All-tail IsNoLoss x choices all) is

picks_no_loss : (script : ScriptState) (policy : Policy) (moves : List Move) (choice : Choice) → LosesNothing policy → Picks script policy moves choice → IsNoLoss choice
picks_no_loss script Oldest moves (Client client) none picks = λ place is. cc
picks_no_loss script Oldest moves (Message message) none picks = λ place is. cc
picks_no_loss script Oldest moves (Lost message) none picks = absurd picks
picks_no_loss script Oldest moves (Repeated message) none picks = absurd picks
picks_no_loss script Newest moves (Client client) none picks = λ place is. cc
picks_no_loss script Newest moves (Message message) none picks = λ place is. cc
picks_no_loss script Newest moves (Lost message) none picks = absurd picks
picks_no_loss script Newest moves (Repeated message) none picks = absurd picks
picks_no_loss script (Seeded seed) moves choice none picks = no_loss choice (named_without_fault script moves (word_of seed (length moves)) choice picks)
picks_no_loss script (Faulty seed faults) moves choice none (named, names, is) =
    let number = words_by (steps_of moves) in
    subst IsNoLoss (sym is) (still_no_loss faults (word_of seed (number + 1)) named none (named_without_fault script moves (word_of seed number) named names))
picks_no_loss script (Listed choices) moves choice none picks = of_list choices.items (length moves) choice none picks

choice_loses_none : (script : ScriptState) (moves : List Move) (choice : Choice) (step : Step) → IsNoLoss choice → StandsFor script moves choice step → lost_in step ≡ []
choice_loses_none script moves (Client client) step none means = let (who, op, at, is, made) = means.next in ap lost_in made ∙ (op_loses_none who.node client op).0
choice_loses_none script moves (Message place) step none (message, at, is) = ap lost_in is
choice_loses_none script moves (Lost place) step none means = absurd (none place refl)
choice_loses_none script moves (Repeated place) step none (message, at, is) = ap lost_in is

of_each : (moves : List Move) → ((before after : List Move) (move : Move) → moves ≡ before ++ move ∷ after → lost_in move.step ≡ []) → lost_by moves ≡ []
of_each [] each = refl
of_each (move ∷ moves) each =
    let rest = of_each moves (λ before after other e. each (move ∷ before) after other (ap (λ (ms : List Move). move ∷ ms) e)) in
    λ i. each [] moves move refl i ++ rest i

pub nothing_lost : (script : ScriptState) (policy : Policy) (moves : List Move) → LosesNothing policy → Follows script policy moves → lost_by moves ≡ []
nothing_lost script policy moves none follows =
    of_each moves (λ before after move e.
    let (choice, picked, means) = follows.each before after move e in
    choice_loses_none script before choice move.step (picks_no_loss script policy before choice none picked) means)

-- ---- It is refused nothing

module _ (laws : LawsOfRuns) (below : LawsBelow) (script : ScriptState) (fit : IsScript script) (policy : Policy) (unrepeated : RepeatsNothing policy) where
  pub turns_at_most : (moves : List Move) → Follows script policy moves → length moves ≤ most_turns script
  turns_at_most moves follows =
      moves_bound_unrepeated laws script fit moves (follows_performs script policy moves follows) (nothing_repeated script policy moves unrepeated follows)

  pub never_stops : ChoosesItself policy → (limit : ℕ) → most_turns script ≤ limit → (moves : List Move) (cause : DriveError) → Follows script policy moves
      → Stops script policy limit moves cause → ⊥
  never_stops itself limit enough moves TurnLimit follows (long, (choice, picks)) =
      let (step, means) = found_stands script moves choice (picks_found script policy moves choice itself picks) in
      let on = means_goes_on below script moves choice step fit follows.run means in
      let move : Move = record { step = step; sends = on.0; marks = on.1 } in
      let next = follows_more script policy moves move choice follows picks means on.2 in
      omega (arith, enough, long, turns_at_most (moves ++ move ∷ []) next, length-append moves (move ∷ []))
  never_stops itself limit enough moves BadPlace follows (short, (choice, picks, bad)) =
      let (step, means) = found_stands script moves choice (picks_found script policy moves choice itself picks) in
      no_bad_place script moves choice step means bad
  never_stops itself limit enough moves NotEnabled follows (short, (choice, picks, bad)) =
      let (step, means) = found_stands script moves choice (picks_found script policy moves choice itself picks) in
      not_refused script moves choice step means bad
  never_stops itself limit enough moves Memory follows stops = stops
