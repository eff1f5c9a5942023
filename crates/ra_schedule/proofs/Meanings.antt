-- What a choice means, or why it can't be made.
use Rattle.std.proofs.Common.{◌≡◌, ◌≢◌, ℕ, zero, suc, ◌+◌, ◌-◌, ◌<◌, ◌≤◌, ltb, Bor, Option, Some, None, Result, Ok, Err, List, [], length, slice_get, get_or, refl, sym, ap, ◌∙◌, subst, arith, inl, inr}
use Rattle.std.specs.Prelude.{IfOk, IfErr, IfSome, IsNone, is_some, option_copied}
use Rattle.std.proofs.lemmas.Bool.{ltb-true, ltb-false}
use Rattle.std.specs.Option.{ok_or}
use Rattle.std.proofs.lemmas.Option.{slice_get_past, slice_get-get_or}
use Rattle.ra_stamp.specs.declared.message.Message.{Message as Sent}
use Rattle.ra_world.specs.declared.step.Step.{Step}
use Rattle.ra_world.specs.declared.step.Step.TheVariants.{Deliver, Lose, Repeat}
use Rattle.ra_world.specs.Traffic.{Move, LeavesUnderWay}
use Rattle.ra_world.specs.World.{WorldState}
use Rattle.ra_schedule.specs.declared.choice.Choice.{Choice}
use Rattle.ra_schedule.specs.declared.choice.Choice.TheVariants.{Client, Message, Lost, Repeated}
use Rattle.ra_schedule.specs.declared.error.DriveError.{DriveError}
use Rattle.ra_schedule.specs.declared.error.DriveError.TheVariants.{BadPlace, NotEnabled, Memory}
use Rattle.ra_schedule.specs.declared.driver.client_progress.Progress.{Progress}
use Rattle.ra_schedule.specs.Script.{ScriptClient, ScriptState, client_at}
use Rattle.ra_schedule.specs.Schedule.{Enables, IsEnabled, IsAtPlace, StandsFor}
use Rattle.ra_schedule.specs.Progress.{Tracks, IsProgress}
use Rattle.ra_schedule.specs.Driving.{HasFault}
use Rattle.ra_schedule.proofs.Choosing.{OneList}

-- ---- Messages

-- the message at a place of the list under way, or none
abbrev pub AtPlace : List Move → ℕ → Option Sent → Type 0
AtPlace moves place found = (left : List Sent) × LeavesUnderWay moves left × (found ≡ slice_get left place)

pub delivered : (script : ScriptState) (moves : List Move) (choice : Choice) (place : ℕ) (message : Sent) → choice ≡ Message place
    → AtPlace moves place (Some message) → StandsFor script moves choice (Deliver message)
delivered script moves choice place message is (left, leaves, at) =
    subst (λ (c : Choice). StandsFor script moves c (Deliver message)) (sym is) (message, (left, leaves, sym at), refl)

pub lost : (script : ScriptState) (moves : List Move) (choice : Choice) (place : ℕ) (message : Sent) → choice ≡ Lost place
    → AtPlace moves place (Some message) → StandsFor script moves choice (Lose message)
lost script moves choice place message is (left, leaves, at) =
    subst (λ (c : Choice). StandsFor script moves c (Lose message)) (sym is) (message, (left, leaves, sym at), refl)

pub repeated : (script : ScriptState) (moves : List Move) (choice : Choice) (place : ℕ) (message : Sent) → choice ≡ Repeated place
    → AtPlace moves place (Some message) → StandsFor script moves choice (Repeat message)
repeated script moves choice place message is (left, leaves, at) =
    subst (λ (c : Choice). StandsFor script moves c (Repeat message)) (sym is) (message, (left, leaves, sym at), refl)

pub absent : OneList → (moves : List Move) (place : ℕ) → AtPlace moves place None → (message : Sent) → IsAtPlace moves place message → ⊥
absent one moves place (left, leaves, none) message (other, leaves', got) =
    let same : left ≡ other = one moves left other leaves leaves' in
    let clash : None ≡ Some message = none ∙ ap (λ (xs : List Sent). slice_get xs place) same ∙ got in
    absurd cc

pub none_delivered : OneList → (script : ScriptState) (moves : List Move) (choice : Choice) (place : ℕ) → choice ≡ Message place → AtPlace moves place None
    → HasFault script moves choice BadPlace
none_delivered one script moves choice place is at = subst (λ (c : Choice). HasFault script moves c BadPlace) (sym is) (inl (refl, absent one moves place at))

pub none_lost : OneList → (script : ScriptState) (moves : List Move) (choice : Choice) (place : ℕ) → choice ≡ Lost place → AtPlace moves place None
    → HasFault script moves choice BadPlace
none_lost one script moves choice place is at = subst (λ (c : Choice). HasFault script moves c BadPlace) (sym is) (inl (refl, absent one moves place at))

pub none_repeated : OneList → (script : ScriptState) (moves : List Move) (choice : Choice) (place : ℕ) → choice ≡ Repeated place → AtPlace moves place None
    → HasFault script moves choice BadPlace
none_repeated one script moves choice place is at = subst (λ (c : Choice). HasFault script moves c BadPlace) (sym is) (inl (refl, absent one moves place at))

-- ---- Clients

pub some_number : (client : ℕ) → (client ≡ 0 → ⊥) → 1 ≤ client
some_number client not = omega (arith, not)

-- a number of a client is a place of the list of what is known of them
pub place_of_client : (script : ScriptState) (client count : ℕ) (clients : List Progress) → (client ≡ 0 → ⊥) → client ≤ count → count ≡ length script.clients
    → length clients ≡ length script.clients → client - 1 < length clients
place_of_client script client count clients not within count_is long = omega (arith, not, within, count_is, long)

-- in this case it is known at which names the client is
pub progress_of : (script : ScriptState) (world : WorldState) (clients : List Progress) (client : ℕ) (d : Progress) → Tracks script world clients → (client ≡ 0 → ⊥)
    → client - 1 < length clients → IsProgress client world.moves (get_or clients (client - 1) d)
progress_of script world clients client d tracks not within =
    let number : client - 1 + 1 ≡ client = omega (arith, not) in
    subst (λ (n : ℕ). IsProgress n world.moves (get_or clients (client - 1) d)) number (tracks.each (client - 1) d within)

pub no_zero : (script : ScriptState) (client : ℕ) → client ≡ 0 → client_at script client ≡ None
no_zero script zero is = refl
no_zero script (suc place) is = absurd (omega arith)

pub nobody_above : (script : ScriptState) (client count : ℕ) → count < client → count ≡ length script.clients → client_at script client ≡ None
nobody_above script zero count above is = refl
nobody_above script (suc place) count above is = slice_get_past script.clients place (omega arith)

pub somebody : (script : ScriptState) (client count : ℕ) → (client ≡ 0 → ⊥) → client ≤ count → count ≡ length script.clients → client_at script client ≢ None
somebody script zero count not within is none = not refl
somebody script (suc place) count not within is none =
    let who : ScriptClient = record { node = 0; ops = [] } in
    let there : slice_get script.clients place ≡ Some (get_or script.clients place who) = slice_get-get_or script.clients place who (omega (arith, within, is)) in
    absurd cc

-- nobody has this number
pub nobody : (script : ScriptState) (moves : List Move) (choice : Choice) (client : ℕ) → choice ≡ Client client → client_at script client ≡ None
    → HasFault script moves choice BadPlace
nobody script moves choice client is none = subst (λ (c : Choice). HasFault script moves c BadPlace) (sym is) (inl (refl, none))

pub number_zero : (script : ScriptState) (moves : List Move) (choice : Choice) (client : ℕ) → choice ≡ Client client → client ≡ 0 → HasFault script moves choice BadPlace
number_zero script moves choice client is none = nobody script moves choice client is (no_zero script client none)

-- a client's number means its step if the client is enabled
pub enabled_stands : (script : ScriptState) (moves : List Move) (choice : Choice) (client : ℕ) (found : Option Step) (r : Result Step DriveError)
    → choice ≡ Client client → r ≡ ok_or found NotEnabled → IfSome found (Enables script moves client) → IfOk r (StandsFor script moves choice)
enabled_stands script moves choice client (Some step) r is r_is some =
    subst (λ (m : Result Step DriveError). IfOk m (StandsFor script moves choice)) (sym r_is)
    (subst (λ (c : Choice). StandsFor script moves c step) (sym is) some)
enabled_stands script moves choice client None r is r_is some =
    subst (λ (m : Result Step DriveError). IfOk m (StandsFor script moves choice)) (sym r_is) tt

pub disabled_fault : (script : ScriptState) (moves : List Move) (choice : Choice) (client : ℕ) (found : Option Step) (r : Result Step DriveError)
    → choice ≡ Client client → r ≡ ok_or found NotEnabled → (IsNone found → IsEnabled script moves client → ⊥) → client_at script client ≢ None
    → IfErr r (HasFault script moves choice)
disabled_fault script moves choice client (Some step) r is r_is none there =
    subst (λ (m : Result Step DriveError). IfErr m (HasFault script moves choice)) (sym r_is) tt
disabled_fault script moves choice client None r is r_is none there =
    subst (λ (m : Result Step DriveError). IfErr m (HasFault script moves choice)) (sym r_is)
    (subst (λ (c : Choice). HasFault script moves c NotEnabled) (sym is) (inr (refl, (there, none refl))))

-- a fault of a choice is not that memory ran out
pub not_memory : (script : ScriptState) (moves : List Move) (choice : Choice) (m : Result Step DriveError) (fault : DriveError) → m ≡ Err fault
    → IfErr m (HasFault script moves choice) → fault ≡ Memory → ⊥
not_memory script moves choice (Ok step) fault is bad memory = absurd cc
not_memory script moves choice (Err e) fault is bad memory =
    elim bad [
      | inl place ↦ let why = place.0 in absurd cc
      | inr enabled ↦ let why = enabled.0 in absurd cc
    ]

-- ---- What is looked up in a list

pub looked_up : {X : Type 0} (xs : List X) (i : ℕ) (found : Option (Bor X)) → is_some found ≡ ltb i (length xs)
    → IfSome found (λ x. x.now ≡ get_or xs i x.now) → option_copied found ≡ slice_get xs i
looked_up xs i (Some x) inside at = ap Some at ∙ sym (slice_get-get_or xs i x.now (ltb-true i (length xs) (sym inside)))
looked_up xs i None outside at = sym (slice_get_past xs i (ltb-false i (length xs) (sym outside)))

pub at_number : (script : ScriptState) (client : ℕ) → (client ≡ 0 → ⊥) → client_at script client ≡ slice_get script.clients (client - 1)
at_number script zero not = absurd (not refl)
at_number script (suc place) not = ap (slice_get script.clients) (omega arith)
