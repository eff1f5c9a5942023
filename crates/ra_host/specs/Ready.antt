-- A host that is ready: its node is there, with the frames that others have not acknowledged.
use Rattle.std.specs.Prelude.{◌≡◌, ℕ, ◌-◌, ◌≤◌, true, Some, slice_get, Option, None, IsTrue}
use Rattle.ra_frame.specs.declared.frame.Frame.{Frame}
use Rattle.ra_node.specs.declared.outcome.Outcome.{Outcome}
use Rattle.ra_link.specs.declared.link.Link.{Link}
use Rattle.ra_book.specs.declared.book.event.BookKind.{BookKind}
use Rattle.ra_book.specs.Book.{next_clock}
use Rattle.ra_book.specs.History.{frames_at}
use Rattle.ra_host.specs.declared.links.Links.{Links}
use Rattle.ra_host.specs.Host.{Host, Happens, IsOther, is_taken}
use Rattle.ra_host.specs.Outgoing.{Outgoing}
use Rattle.ra_host.specs.Played.{IsPlayedOf, PlayedState}
use Rattle.ra_host.specs.Running.{AreLinksOf}

-- the link to a host goes with the frames for it: those that it has acknowledged are not kept, and no more are on the
-- disk than were made
pub record GoWith (l : Link) (o : Outgoing) : Type 0 where
  pub ready : l.ready ≡ true
  pub made : l.made ≡ o.made
  pub acknowledged : l.acknowledged ≡ o.dropped
  pub sent : l.sent ≤ l.made

-- the node had the events of the host's book, and its frames go with its links
pub record IsReadyWith (p : PlayedState) (h : Host) : Type 0 where
  pub book : IsPlayedOf p h.book
  pub each : (j : ℕ) (o : Outgoing) → IsOther h j → slice_get p.outgoing (j - 1) ≡ Some o → GoWith (h.links j) o

-- these are the links and the node of this host, which is up and ready
pub record AreOf (links : Links) (p : PlayedState) (h : Host) : Type 0 where
  pub held : AreLinksOf links h
  pub ready : IsReadyWith p h

-- the frame came from another host, whose next one it is, and names that host and this one
abbrev pub IsNext : Host → ℕ → ℕ → ℕ → Frame → Type 0
IsNext h j start number frame = IsOther h j × IsTrue (is_taken h j start number frame)

-- the event happens at the host with this outcome, and then these are its links and its node
pub record Happened (old : Host) (kind : BookKind) (outcome : Outcome) (links : Links) (p : PlayedState) : Type 0 where
  pub new : Host
  pub happens : Happens old kind new
  pub frames : happens.frames ≡ frames_at (next_clock old.book kind) outcome.sends.items
  pub marks : happens.marks ≡ outcome.marks.items
  pub are : AreOf links p new

-- both, if each is there
abbrev pub both : {A B : Type 0} → Option A → Option B → Option (A × B)
both None b = None
both (Some x) None = None
both (Some x) (Some y) = Some (x, y)
