-- What a host's clients hold, and what may end it.
use Rattle.std.specs.Prelude.{◌≡◌, Some}
use Rattle.ra_stamp.specs.declared.entry.Entry.{Entry}
use Rattle.ra_node.specs.Node.{NodeState, resource_at}
use Rattle.ra_node.specs.Resource.{holder_of}
use Rattle.ra_book.specs.declared.book.event.BookKind.{BookKind}
use Rattle.ra_book.specs.declared.book.event.BookKind.TheVariants.{Ask, Leave, Cancel, Receive, Forget}
use Rattle.ra_book.specs.Book.{LeadsTo}
use Rattle.ra_host.specs.Host.{Host}
use Rattle.ra_host.specs.Hosts.{Event}
use Rattle.ra_host.specs.Hosts.Event.{Start, Connects, Comes, Replays, Does, Syncs, Says_hello, Says_ack, Says_old, Says_frame, Crashes, Put_back}

-- the request is granted at the node to which the host's book leads
pub record IsHeld (h : Host) (entry : Entry) : Type 0 where
  pub node : NodeState
  pub leads : LeadsTo h.book node
  pub holds : holder_of (resource_at node entry.name) ≡ Some entry

-- the client of this request leaves its name
abbrev pub IsItsLeave : Entry → BookKind → Type 0
IsItsLeave entry (Ask client name mode) = ⊥
IsItsLeave entry (Leave client name) = (client ≡ entry.client) × (name ≡ entry.name)
IsItsLeave entry (Cancel client name) = ⊥
IsItsLeave entry (Receive frame) = ⊥
IsItsLeave entry Forget = ⊥

-- the event may end the grant: the client leaves, or the host crashes or its book is put back
abbrev pub MayEnd : Entry → Event → Type 0
MayEnd entry (Start nonce) = ⊥
MayEnd entry (Connects j) = ⊥
MayEnd entry (Comes j which) = ⊥
MayEnd entry Replays = ⊥
MayEnd entry (Does kind) = IsItsLeave entry kind
MayEnd entry Syncs = ⊥
MayEnd entry (Says_hello j) = ⊥
MayEnd entry (Says_ack j) = ⊥
MayEnd entry (Says_old j) = ⊥
MayEnd entry (Says_frame j number) = ⊥
MayEnd entry (Crashes count) = Unit {0}
MayEnd entry (Put_back count) = Unit {0}
