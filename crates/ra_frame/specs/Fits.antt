-- Which frames may be sent.
use Rattle.std.specs.Prelude.{◌≡◌, ℕ, ◌≤◌, ◌^◌}
use Rattle.ra_stamp.specs.Message.{from_of, to_of, seq_of}
use Rattle.ra_frame.specs.declared.frame.Frame.{Frame}

-- a clock is 1 to 2^62
abbrev pub IsClock : ℕ → Type 0
IsClock clock = (1 ≤ clock) × (clock ≤ 2 ^ 62)

-- the frame may be sent: its clock is 1 to 2^62, its number is 1 or more, and it goes from one node to another
pub record Fits (frame : Frame) : Type 0 where
  pub clock : IsClock frame.clock
  pub seq : 1 ≤ seq_of frame.message
  pub apart : from_of frame.message ≡ to_of frame.message → ⊥
