-- Which of the clients that have begun can go on.
use Rattle.std.proofs.Common.{◌≡◌, ℕ, zero, suc, ◌+◌, ◌<◌, ◌≤◌, Some, List, [], ◌∷◌, length, slice_get, slice_index_or, refl, sym, ap, ◌∙◌, subst, arith}
use Rattle.std.specs.Prelude.{◌↔◌}
use Rattle.ra_stamp.specs.declared.message.Message.{Message as Sent}
use Rattle.ra_world.specs.declared.step.Step.{Step}
use Rattle.ra_world.specs.declared.step.Step.TheVariants.{Deliver}
use Rattle.ra_world.specs.Traffic.{Move, LeavesUnderWay}
use Rattle.ra_world.specs.World.{WorldState}
use Rattle.ra_schedule.specs.declared.choice.Choice.{Choice}
use Rattle.ra_schedule.specs.declared.choice.Choice.TheVariants.{Client, Message, Lost, Repeated}
use Rattle.ra_schedule.specs.declared.driver.client_progress.Progress.{Progress}
use Rattle.ra_schedule.specs.Script.{ScriptClient, ScriptState, client_at}
use Rattle.ra_schedule.specs.Schedule.{IsWaiting, IsAtPlace, StandsFor}
use Rattle.ra_schedule.specs.Progress.{Tracks}
use Rattle.ra_schedule.specs.Shrinking.{CanGoOn, IsOldest, IsAtStandstill, Waits}
use Rattle.ra_schedule.specs.Replaying.{SomeoneWaits}
use Rattle.ra_schedule.proofs.Choosing.{OneList}
use Rattle.ra_schedule.proofs.EnabledLists.{nobody_is_zero}
use Rattle.ra_schedule.proofs.Turns.{opening_progress}

past : {X : Type 0} {x : X} (xs : List X) (k : ℕ) → slice_get xs k ≡ Some x → k < length xs
past [] k e = absurd cc
past (x ∷ xs) zero e = omega arith
past (x ∷ xs) (suc k) e = let less = past xs k e in omega arith

there_is_one : {X : Type 0} (xs : List X) (k : ℕ) → k < length xs → (x : X) × (slice_get xs k ≡ Some x)
there_is_one [] k less = absurd (omega arith)
there_is_one (x ∷ xs) zero less = (x, refl)
there_is_one (x ∷ xs) (suc k) less = there_is_one xs k (omega arith)

at_next : (script : ScriptState) (k : ℕ) → client_at script (k + 1) ≡ slice_get script.clients k
at_next script k = let e : k + 1 ≡ suc k = omega arith in ap (client_at script) e

-- of the clients from 1 to n, none; so none below n + 1
pub none_below : (script : ScriptState) (moves : List Move) (n : ℕ) → ((k : ℕ) → k < n → CanGoOn script moves (k + 1) → ⊥)
    → (other : ℕ) → other < n + 1 → CanGoOn script moves other → ⊥
none_below script moves n none zero less on = nobody_is_zero script moves on.1
none_below script moves n none (suc k) less on = none k (omega arith) (subst (CanGoOn script moves) (omega arith) on)

-- there are no more clients than these
pub none_at_all : (script : ScriptState) (moves : List Move) (n : ℕ) → length script.clients ≤ n
    → ((k : ℕ) → k < n → CanGoOn script moves (k + 1) → ⊥) → (client : ℕ) → CanGoOn script moves client → ⊥
none_at_all script moves n few none zero on = nobody_is_zero script moves on.1
none_at_all script moves n few none (suc k) (begun, (step, h)) =
    let within = past script.clients k h.next.2 in
    none k (omega arith) (subst (CanGoOn script moves) (omega arith) (begun, (step, h)))

-- no message is under way
pub nothing_under_way : (moves : List Move) (left : List Sent) (count : ℕ) → LeavesUnderWay moves left → count ≡ length left → count ≡ 0
    → LeavesUnderWay moves []
nothing_under_way moves [] count leaves is none = leaves
nothing_under_way moves (message ∷ left) count leaves is none = absurd (omega arith)

-- there is a first message
pub first_message : (moves : List Move) (left : List Sent) (count : ℕ) → LeavesUnderWay moves left → count ≡ length left → (count ≡ 0 → ⊥)
    → (message : Sent) × IsAtPlace moves 0 message
first_message moves [] count leaves is some = absurd (some is)
first_message moves (message ∷ left) count leaves is some = (message, (message ∷ left, leaves, refl))

-- who waits is a client of the script
pub someone : (script : ScriptState) (world : WorldState) (clients : List Progress) → Tracks script world clients
    → SomeoneWaits clients ↔ ((client : ℕ) × Waits script world.moves client)
someone script world clients tracks = (
  λ h.
      let (place, within, waits) = h in
      let (who, is) = there_is_one script.clients place (let same = tracks.length_is in omega arith) in
      (place + 1, (who, at_next script place ∙ is, (tracks.each place opening_progress within).waiting.0 (waits opening_progress))),
  λ h. let (client, (who, is, waits)) = h in named client who is waits,
)
  where
    named : (client : ℕ) (who : ScriptClient) → client_at script client ≡ Some who → IsWaiting client world.moves → SomeoneWaits clients
    named zero who is waits = absurd cc
    named (suc k) who is waits =
        let within : k < length clients = let less = past script.clients k is in let same = tracks.length_is in omega arith in
        (k, within, λ d. (tracks.each k d within).waiting.1 (subst (λ (n : ℕ). IsWaiting n world.moves) (omega arith) waits))

-- with an oldest choice it is not quiet
pub not_quiet : OneList → (script : ScriptState) (moves : List Move) (choice : Choice) → IsOldest script moves choice → IsAtStandstill script moves → ⊥
not_quiet one script moves (Client client) first quiet = quiet.none_goes_on client first.0
not_quiet one script moves (Message place) (none, is, (message, (left, leaves, at))) quiet =
    let same : left ≡ [] = one moves left [] leaves quiet.none_under_way in
    let clash : slice_get [] 0 ≡ Some message = subst (λ (xs : List Sent). slice_get xs 0 ≡ Some message) same at in
    absurd cc
not_quiet one script moves (Lost place) first quiet = first
not_quiet one script moves (Repeated place) first quiet = first

-- the oldest choice can be made
pub oldest_can_be_made : (script : ScriptState) (moves : List Move) (choice : Choice) → IsOldest script moves choice
    → (step : Step) × StandsFor script moves choice step
oldest_can_be_made script moves (Client client) first = first.0.1
oldest_can_be_made script moves (Message place) (none, is, (message, at)) =
    (Deliver message, (message, subst (λ (p : ℕ). IsAtPlace moves p message) (sym is) at, refl))
oldest_can_be_made script moves (Lost place) first = absurd first
oldest_can_be_made script moves (Repeated place) first = absurd first

-- the value that exists does not depend on what would be taken otherwise
pub one_there : {X : Type 0} (xs : List X) (k : ℕ) (d e : X) → k < length xs → slice_index_or xs k d ≡ slice_index_or xs k e
one_there [] k d e less = absurd (omega arith)
one_there (x ∷ xs) zero d e less = refl
one_there (x ∷ xs) (suc k) d e less = one_there xs k d e (omega arith)
