use Rattle.std.proofs.Common.{◌≢◌}
use Rattle.std.specs.Prelude.{All, take}
use Rattle.ra_text.proofs.cutting.cut.Given as goal

abbrev pub invariant-loop-place : goal.invariant-loop-place
invariant-loop-place l = All (λ other. other ≢ l.byte) (take l.place l.text)
