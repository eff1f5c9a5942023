-- Marks and messages that have a number.
use Rattle.std.specs.Prelude.{◌≤◌}
use Rattle.ra_stamp.specs.declared.entry.Mark.{Mark}
use Rattle.ra_stamp.specs.declared.entry.Mark.TheVariants.{Requested, Entered, Left, Withdrawn}
use Rattle.ra_stamp.specs.declared.message.Message.{Message}
use Rattle.ra_stamp.specs.Message.{seq_of}

-- the request of the mark has a number, 1 or more
abbrev pub IsNumberedMark : Mark → Type 0
IsNumberedMark (Requested entry) = 1 ≤ entry.stamp.seq
IsNumberedMark (Entered entry) = 1 ≤ entry.stamp.seq
IsNumberedMark (Left entry) = 1 ≤ entry.stamp.seq
IsNumberedMark (Withdrawn entry) = 1 ≤ entry.stamp.seq

-- the message has a number, 1 or more
abbrev pub IsNumberedMessage : Message → Type 0
IsNumberedMessage message = 1 ≤ seq_of message
