-- Books of two hosts, as the link between them sees them.
use Rattle.std.specs.Prelude.{◌≡◌, ◌≢◌, ℕ, true, false, List, length, All}
use Rattle.std.specs.List.{AllZip}
use Rattle.ra_frame.specs.declared.frame.Frame.{Frame}
use Rattle.ra_frame.specs.FrameText.{IsFrameText}
use Rattle.ra_link.specs.Pair as pair
use Rattle.ra_book.specs.Book.{BookState}
use Rattle.ra_book.specs.Cut.{first_of}
use Rattle.ra_book.specs.Pairs.{sent_to, come_from}

-- these are the texts of the frames, in order
abbrev pub AreTexts : List (List ℕ) → List Frame → Type 0
AreTexts texts frames = AllZip IsFrameText texts frames

-- Two hosts after some events of their link: this one took the frames that came at its node from the other one, and
-- those that came in its book's first events are on its disk. The other one made the frames that its node sent to this
-- one, and those that its book's first events sent are on its disk.
pub record IsLinked (at : BookState) (at_kept : ℕ) (other : BookState) (other_kept : ℕ) : Type 0 where
  pub events : List (pair.Who × pair.Event)
  pub who : pair.Who
  pub taken : AreTexts (pair.this who (pair.after events)).taken (come_from other.me at)
  pub taken_kept : (pair.this who (pair.after events)).taken_kept ≡ length (come_from other.me (first_of at_kept at))
  pub sent : AreTexts (pair.other who (pair.after events)).sent (sent_to at.me other)
  pub sent_kept : (pair.other who (pair.after events)).sent_kept ≡ length (sent_to at.me (first_of other_kept other))

-- Any two different nodes of the cluster are linked. This many events of each book are on the disk, by node. No frame
-- is flagged lost.
pub record AreLinked (kept : ℕ → ℕ) (books : List BookState) : Type 0 where
  pub linked : All (λ at. All (λ other. at.me ≢ other.me → IsLinked at (kept at.me) other (kept other.me)) books) books
  pub none_lost : All (λ b. All (λ s. s.lost ≡ false) b.sent) books

-- the other host is up and ready, and this one has acknowledged all frames that were made for it
abbrev pub IsAcknowledged : {at : BookState} {at_kept : ℕ} {other : BookState} {other_kept : ℕ}
    → IsLinked at at_kept other other_kept → Type 0
IsAcknowledged linked =
    let sender = pair.other linked.who (pair.after linked.events) in
    (sender.up ≡ true) × (sender.link.ready ≡ true) × (sender.link.acknowledged ≡ sender.link.made)

-- the same as `AreLinked`, and all hosts are up and ready, and have acknowledged all frames that were made for them
pub record AreAcknowledged (kept : ℕ → ℕ) (books : List BookState) : Type 0 where
  pub linked : All (λ at. All (λ other. at.me ≢ other.me
      → (linked : IsLinked at (kept at.me) other (kept other.me)) × IsAcknowledged linked) books) books
  pub none_lost : All (λ b. All (λ s. s.lost ≡ false) b.sent) books
