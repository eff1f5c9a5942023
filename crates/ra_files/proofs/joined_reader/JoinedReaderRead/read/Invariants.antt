use Rattle.std.proofs.Common.{◌≡◌, length, drop}
use Rattle.std.specs.Io.KnownBytes.{Keeps}
use Rattle.ra_files.specs.Joined.{joined}
use Rattle.ra_files.proofs.joined_reader.JoinedReaderRead.read.Given as goal

-- the readers so far are at their end, and had nothing
abbrev pub invariant-loop-place : goal.invariant-loop-place
invariant-loop-place g l = record {
  done : l.self.done ≡ l.place;
  long : length l.buf ≡ length l.fn.buf;
  kept : Keeps (joined g.R.Read.remaining (drop l.fn.self.done l.fn.self.parts.items))
      (joined g.R.Read.remaining (drop l.place l.self.parts.items));
}
