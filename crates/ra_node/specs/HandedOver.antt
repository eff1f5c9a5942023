-- The one step in which the request of a client ends and the next client asks. No public contract speaks of it.
use Rattle.std.specs.Prelude.{◌≡◌, Bool, List, ◌∷◌, ◌++◌, Some}
use Rattle.ra_stamp.specs.declared.entry.Mark.{Mark}
use Rattle.ra_stamp.specs.declared.message.Message.{Message}
use Rattle.ra_automaton.specs.State.{State}
use Rattle.ra_automaton.specs.Steps.{EndAndRequestStep}
use Rattle.ra_node.specs.declared.queued_client.Queued.{Queued}
use Rattle.ra_node.specs.Resource.{Resource}
use Rattle.ra_node.specs.Turns.{request_marks, next_entry}

-- the automaton ends its request in this way, and requests for the first client of the queue, which is then the current
-- one; its marks come after those before
pub record IsHandedOver (Ends : List Message → State → Type 0) (old : Resource) (next : Queued) (sends : List Message)
    (before marks : List Mark) (new : Resource) : Type 0 where
  pub entered : Bool
  pub step : EndAndRequestStep Ends next.mode sends entered new.state
  pub marks_are : marks ≡ before ++ request_marks entered (next_entry old next.client next.mode)
  pub client_is : new.client ≡ Some next.client
  pub queue_was : old.queue ≡ next ∷ new.queue
