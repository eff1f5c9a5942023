-- What a host keeps while it runs, and of which host of the machine it is that.
use Rattle.std.specs.Prelude.{◌≡◌, ℕ, ◌-◌, true, Some, List, length, slice_get, ◌==◌, ◌&&◌, Bool}
use Rattle.ra_stamp.specs.Message.{from_of, to_of}
use Rattle.ra_frame.specs.declared.frame.Frame.{Frame}
use Rattle.ra_automaton.specs.State.{IsOtherNode}
use Rattle.ra_book.specs.Book.{BookState}
use Rattle.ra_book.specs.Pairs.{come_from}
use Rattle.ra_host.specs.declared.links.Links.{Links}
use Rattle.ra_host.specs.Host.{Host, IsOther}

-- so many frames came from each other host, by the book
abbrev pub HasTaken : BookState → List ℕ → Type 0
HasTaken book taken =
    (j : ℕ) → IsOtherNode book.me book.nodes j → slice_get taken (j - 1) ≡ Some (length (come_from j book))

-- the frame names these hosts as its sender and its receiver
abbrev pub names : Frame → ℕ → ℕ → Bool
names frame from to = from_of frame.message == from && to_of frame.message == to

-- these are the links of this host, which is up
pub record AreLinksOf (links : Links) (h : Host) : Type 0 where
  pub up : h.up ≡ true
  pub me : h.book.me ≡ links.me
  pub nodes : h.book.nodes ≡ length links.links.items
  pub each : (j : ℕ) → IsOther h j → slice_get links.links.items (j - 1) ≡ Some (h.links j)
