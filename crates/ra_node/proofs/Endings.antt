-- What a leave and a withdrawal have in common at a resource: the current request ends, each deferred REPLY goes out, and no client
-- uses the resource.
use Rattle.std.proofs.Common.{◌≡◌, ◌⊎◌, ℕ, List, Option, Some, None, refl, sym, ◌∙◌, inl, inr}
use Rattle.std.proofs.lemmas.Option.{none-some}
use Rattle.ra_stamp.specs.declared.entry.Entry.{Entry}
use Rattle.ra_stamp.specs.declared.message.Message.{Message}
use Rattle.ra_automaton.specs.declared.phase.Phase.{Phase}
use Rattle.ra_automaton.specs.State.{State}
use Rattle.ra_automaton.proofs.Ending.{EndStep, leave_ends, withdraw_ends}
use Rattle.ra_node.specs.Resource.{Resource, use_in, held_entry, holder_of, waiting_entry, waiter_of}
use Rattle.ra_node.specs.Turns.{Leaves, Withdraws}
use Rattle.ra_node.proofs.Uses.{some_is}

-- the current request, with this entry, ends
pub record IsEnded (old : Resource) (entry : Entry) (sends : List Message) (new : Resource) : Type 0 where
  pub step : EndStep old.state sends new.state
  pub client_is : new.client ≡ None
  pub queue_is : new.queue ≡ old.queue
  pub somebody : (client : ℕ) × (old.client ≡ Some client)
  pub was : (holder_of old ≡ Some entry) ⊎ (waiter_of old ≡ Some entry)

-- each such end is the end of the current request
abbrev pub AreEnded : Resource → (Entry → List Message → Resource → Type 0) → Type 0
AreEnded old Ends = (entry : Entry) (sends : List Message) (new : Resource) → Ends entry sends new → IsEnded old entry sends new

-- and there is one end at most
abbrev pub EndsOnce : (Entry → List Message → Resource → Type 0) → Type 0
EndsOnce Ends = (e f : Entry) (ms ns : List Message) (a b : Resource) → Ends e ms a → Ends f ns b → (e ≡ f) × (ms ≡ ns) × (a ≡ b)

-- somebody is current if a request waits or is granted
current_holds : (s : State) (phase : Phase) (client : Option ℕ) (e : Entry) → held_entry (use_in s phase client) ≡ Some e → (c : ℕ) × (client ≡ Some c)
current_holds s phase None e is = absurd (none-some e is)
current_holds s phase (Some c) e is = (c, refl)

current_waits : (s : State) (phase : Phase) (client : Option ℕ) (e : Entry) → waiting_entry (use_in s phase client) ≡ Some e → (c : ℕ) × (client ≡ Some c)
current_waits s phase None e is = absurd (none-some e is)
current_waits s phase (Some c) e is = (c, refl)

pub leaves_ended : (old : Resource) (client : ℕ) → AreEnded old (Leaves old client)
leaves_ended old client entry sends new leaves =
    record {
      step = leave_ends old.state sends new.state leaves.step;
      client_is = leaves.client_is;
      queue_is = leaves.queue_is;
      somebody = current_holds old.state old.state.phase old.client entry leaves.holds.granted;
      was = inl leaves.holds.granted;
    }

pub withdraws_ended : (old : Resource) (client : ℕ) → AreEnded old (Withdraws old client)
withdraws_ended old client entry sends new withdraws =
    record {
      step = withdraw_ends old.state sends new.state withdraws.step;
      client_is = withdraws.client_is;
      queue_is = withdraws.queue_is;
      somebody = current_waits old.state old.state.phase old.client entry withdraws.waits.requested;
      was = inr withdraws.waits.requested;
    }

same_parts : (a b : Resource) → a.state ≡ b.state → a.client ≡ b.client → a.queue ≡ b.queue → a ≡ b
same_parts a b s c q = λ i. record { state = s i; client = c i; queue = q i }

pub leaves_once : (old : Resource) (client : ℕ) → EndsOnce (Leaves old client)
leaves_once old client e f ms ns a b p q = (
  some_is e f (sym p.holds.granted ∙ q.holds.granted),
  p.step.sends_are ∙ sym q.step.sends_are,
  same_parts a b (p.step.new_is ∙ sym q.step.new_is) (p.client_is ∙ sym q.client_is) (p.queue_is ∙ sym q.queue_is),
)

pub withdraws_once : (old : Resource) (client : ℕ) → EndsOnce (Withdraws old client)
withdraws_once old client e f ms ns a b p q = (
  some_is e f (sym p.waits.requested ∙ q.waits.requested),
  p.step.sends_are ∙ sym q.step.sends_are,
  same_parts a b (p.step.new_is ∙ sym q.step.new_is) (p.client_is ∙ sym q.client_is) (p.queue_is ∙ sym q.queue_is),
)
