-- Why a client does not ask, leave or cancel.
use Rattle.std.specs.Prelude.{◌≡◌, ℕ}
use Rattle.ra_stamp.specs.declared.entry.Entry.{Entry}
use Rattle.ra_node.specs.declared.error.AskError.{AskError}
use Rattle.ra_node.specs.declared.error.AskError.TheVariants as asking
use Rattle.ra_node.specs.declared.error.CancelError.{CancelError}
use Rattle.ra_node.specs.declared.error.CancelError.TheVariants as cancelling
use Rattle.ra_node.specs.declared.error.LeaveError.{LeaveError}
use Rattle.ra_node.specs.declared.error.LeaveError.TheVariants as leaving
use Rattle.ra_automaton.specs.Steps.{greatest_number}
use Rattle.ra_node.specs.Resource.{Resource, Holds, IsKeptWaiting, IsBusy}
use Rattle.ra_node.specs.Turns.{MayAsk}

-- a client does not ask if it is busy, if no number is left, or if it may ask and memory runs out
abbrev pub IsAskRefusal : Resource → ℕ → AskError → Type 0
IsAskRefusal r client asking.Busy = IsBusy r client
IsAskRefusal r client asking.Exhausted = (IsBusy r client → ⊥) × (r.state.highest ≡ greatest_number)
IsAskRefusal r client asking.Memory = MayAsk r client

-- a client does not leave if it does not hold, or if it does and memory runs out
abbrev pub IsLeaveRefusal : Resource → ℕ → LeaveError → Type 0
IsLeaveRefusal r client leaving.NotHeld = (entry : Entry) → Holds r client entry → ⊥
IsLeaveRefusal r client leaving.Memory = (entry : Entry) × Holds r client entry

-- a client does not cancel if it neither waits nor is queued, or if it does and memory runs out
abbrev pub IsCancelRefusal : Resource → ℕ → CancelError → Type 0
IsCancelRefusal r client cancelling.NotWaiting = IsKeptWaiting r client → ⊥
IsCancelRefusal r client cancelling.Memory = IsKeptWaiting r client
