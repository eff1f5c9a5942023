use Rattle.std.proofs.Common.{◌≡◌, List, ℕ, ◌++◌, false, length}
use Rattle.std.specs.Io.KnownBytes.{Appends}
use Rattle.ra_text.proofs.io.whole_output.write_to.Given as goal

abbrev pub invariant-loop-rest : goal.invariant-loop-rest
invariant-loop-rest g l = record {
  unfailed : l.target.failed ≡ false;
  same_reference : l.target.writer.ghost_name ≡ l.fn.target.writer.ghost_name;
  written : (written : List ℕ) × (l.bytes ≡ written ++ l.rest) × Appends (g.W.Write.contents l.fn.target.writer.now) (g.W.Write.contents l.target.writer.now) written;
}

abbrev pub decreases-loop-rest : goal.decreases-loop-rest
decreases-loop-rest g l = length l.rest
