use Rattle.ra_world.proofs.Numbered.{numbered}
use Rattle.ra_world.proofs.WorldLaws.{laws_below}
use Rattle.ra_world.proofs.WorldLaws.{marks_kept}
use Rattle.ra_world.proofs.laws.marks_of_runs_are_numbered.Goals as goal

pub returns-clause-marks : goal.returns-clause-marks
returns-clause-marks c n start moves count run = (numbered laws_below marks_kept n start count moves run).0

pub returns-clause-taken : goal.returns-clause-taken
returns-clause-taken c n start moves count run = (numbered laws_below marks_kept n start count moves run).1
