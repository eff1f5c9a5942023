-- Which choices of a run have words: all, unless a message is repeated. Each message under way is still to be taken, in a
-- turn of its own, so that places are below the most turns of a script.
use Rattle.std.proofs.Common.{◌≡◌, ℕ, zero, suc, ◌+◌, ◌*◌, ◌<◌, ◌≤◌, ◌^◌, Some, List, [], ◌∷◌, ◌++◌, All, length, slice_get, refl, ap, subst, arith}
use Rattle.std.proofs.lemmas.List.{length-append}
use Rattle.std.proofs.lemmas.List.Elements.{All-nil, All-cons}
use Rattle.std.proofs.lemmas.Option.{slice_get_within}
use Rattle.ra_stamp.specs.declared.message.Message.{Message as Sent}
use Rattle.ra_world.specs.declared.step.Step.{Step}
use Rattle.ra_world.specs.declared.step.Step.TheVariants.{Ask, Leave, Cancel, Deliver, Lose, Repeat, Forget}
use Rattle.ra_world.specs.Traffic.{Move, put_in, put_by, taken_in, taken_by, lost_by, repeated_in, repeated_by, TakesEach, LeavesUnderWay}
use Rattle.ra_schedule.specs.declared.choice.Choice.{Choice}
use Rattle.ra_schedule.specs.declared.choice.Choice.TheVariants.{Client, Message, Lost, Repeated}
use Rattle.ra_schedule.specs.declared.choice.Policy.{Policy}
use Rattle.ra_schedule.specs.Listing.{AreChoicesBy}
use Rattle.ra_schedule.specs.Performing.{Performs, IsAtRest, most_turns}
use Rattle.ra_schedule.specs.Schedule.{StandsFor, Follows}
use Rattle.ra_schedule.specs.Script.{ScriptClient, ScriptState, IsScript, client_at}
use Rattle.ra_schedule.specs.ChoicesText.{HasText}

-- ---- How many messages were put under way, taken and repeated

put_more : (moves more : List Move) → length (put_by (moves ++ more)) ≡ length (put_by moves) + length (put_by more)
put_more [] more = omega arith
put_more (move ∷ moves) more =
    omega (arith, length-append (put_in move) (put_by (moves ++ more)), length-append (put_in move) (put_by moves), put_more moves more)

repeated_more : (moves more : List Move) → length (repeated_by (moves ++ more)) ≡ length (repeated_by moves) + length (repeated_by more)
repeated_more [] more = omega arith
repeated_more (move ∷ moves) more =
    omega (
      arith,
      length-append (repeated_in move.step) (repeated_by (moves ++ more)),
      length-append (repeated_in move.step) (repeated_by moves),
      repeated_more moves more,
    )

-- a step takes one message at most
one_taken : (step : Step) → length (taken_in step) ≤ 1
one_taken (Ask node client name mode) = omega arith
one_taken (Leave node client name) = omega arith
one_taken (Cancel node client name) = omega arith
one_taken (Deliver message) = omega arith
one_taken (Lose message) = omega arith
one_taken (Repeat message) = omega arith
one_taken (Forget node) = omega arith

taken_few : (moves : List Move) → length (taken_by moves) ≤ length moves
taken_few [] = omega arith
taken_few (move ∷ moves) = omega (arith, length-append (taken_in move.step) (taken_by moves), one_taken move.step, taken_few moves)

-- what is left and what was taken are together what was put
put_is_taken : (put taken left : List Sent) → TakesEach put taken left → length put ≡ length taken + length left
put_is_taken put [] left is = omega (arith, ap length is)
put_is_taken put (message ∷ taken) left (next, takes, rest) =
    omega (
      arith,
      ap length takes.old_is,
      ap length takes.new_is,
      length-append takes.prefix (message ∷ takes.suffix),
      length-append takes.prefix takes.suffix,
      put_is_taken next taken left rest,
    )

-- ---- Each choice

client_few : (script : ScriptState) (client : ℕ) (who : ScriptClient) → client_at script client ≡ Some who → client ≤ length script.clients
client_few script zero who at = omega arith
client_few script (suc place) who at = omega (arith, slice_get_within script.clients place who at)

module _ (turns : (script : ScriptState) (moves : List Move) → IsScript script → Performs script moves → length moves ≤ most_turns script + 3 * length (repeated_by moves))
    (most : (script : ScriptState) → IsScript script → most_turns script ≤ 8323072)
    (carried_on : (script : ScriptState) (moves : List Move) → IsScript script → Performs script moves
    → (rest : List Move) × Performs script (moves ++ rest) × IsAtRest script (moves ++ rest) × (lost_by rest ≡ []) × (repeated_by rest ≡ []))
    (script : ScriptState) (fit : IsScript script) where
  -- what was put under way so far can all be taken, one message in each turn
  put_few : (moves : List Move) → Performs script moves → repeated_by moves ≡ [] → length (put_by moves) ≤ 8323072
  put_few moves performs none =
      let (rest, goes_on, at_rest, unlost, unrepeated) = carried_on script moves fit performs in
      omega (
        arith,
        put_more moves rest,
        put_is_taken (put_by (moves ++ rest)) (taken_by (moves ++ rest)) [] at_rest.none_under_way,
        taken_few (moves ++ rest),
        turns script (moves ++ rest) fit goes_on,
        repeated_more moves rest,
        ap length none,
        ap length unrepeated,
        most script fit,
      )

  module _ (moves : List Move) (performs : Performs script moves) (none : repeated_by moves ≡ []) (before after : List Move) (move : Move)
      (split : moves ≡ before ++ move ∷ after) where
    place_few : (left : List Sent) (place : ℕ) (message : Sent) → LeavesUnderWay before left → slice_get left place ≡ Some message → place < 10 ^ 9
    place_few left place message leaves at =
        omega (
          arith,
          slice_get_within left place message at,
          put_is_taken (put_by before) (taken_by before) left leaves,
          put_more before (move ∷ after),
          ap (λ (ms : List Move). length (put_by ms)) split,
          put_few moves performs none,
        )

    one_has_text : (choice : Choice) → StandsFor script before choice move.step → HasText choice
    one_has_text (Client client) means = let (who, op, at, next, made) = means.next in omega (arith, client_few script client who at, fit.at_most)
    one_has_text (Message place) (message, (left, leaves, at), is) = place_few left place message leaves at
    one_has_text (Lost place) (message, (left, leaves, at), is) = place_few left place message leaves at
    one_has_text (Repeated place) (message, at, is) =
        omega (
          arith,
          ap length none,
          ap (λ (ms : List Move). length (repeated_by ms)) split,
          repeated_more before (move ∷ after),
          length-append (repeated_in move.step) (repeated_by after),
          ap (λ (step : Step). length (repeated_in step)) is,
        )

  -- ---- All of them

  pub all_have_text : (policy : Policy) (choices : List Choice) (moves : List Move) → Follows script policy moves → AreChoicesBy script policy choices moves
      → repeated_by moves ≡ [] → All HasText choices
  all_have_text policy choices moves follows are none =
      from_each choices moves are.one_each (λ before after move split.
      let (choice, is, picks, means) = are.each before after move split in
      (choice, is, one_has_text moves performs none before after move split choice means))
    where
      performs : Performs script moves
      performs = record {
        run = follows.run;
        each = λ before after move split. let (choice, picks, means) = follows.each before after move split in (choice, means);
      }

      from_each : (choices : List Choice) (moves : List Move) → length choices ≡ length moves
          → ((before after : List Move) (move : Move) → moves ≡ before ++ move ∷ after → (choice : Choice) × (slice_get choices (length before) ≡ Some choice) × HasText choice)
          → All HasText choices
      from_each [] moves same each = All-nil HasText
      from_each (choice ∷ choices) [] same each = absurd (omega (arith, same))
      from_each (choice ∷ choices) (move ∷ moves) same each =
          let (first, is, has) = each [] moves move refl in
          let here : first ≡ choice = cc in
          All-cons HasText choice choices (subst HasText here has)
          (from_each choices moves (omega (arith, same)) (λ before after other split. each (move ∷ before) after other (ap (λ (ms : List Move). move ∷ ms) split)))
