-- The frames of a book that were lost.
use Rattle.std.specs.Prelude.{List, map}
use Rattle.std.specs.List.{filter}
use Rattle.ra_frame.specs.declared.frame.Frame.{Frame}
use Rattle.ra_book.specs.declared.book.sent.Sent.{Sent}

-- the sent frames that are flagged lost, in order of sending
abbrev pub lost_frames : List Sent → List Frame
lost_frames sent = map (λ s. s.frame) (filter (λ s. s.lost) sent)
