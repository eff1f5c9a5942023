use Rattle.ra_disk.proofs.BookLemmas.{leaves_front, leaves_each}
use Rattle.ra_disk.proofs.laws.a_crash_leaves_a_front.Goals as goal

pub returns-clause-only : goal.returns-clause-only
returns-clause-only c = leaves_front

pub returns-clause-each : goal.returns-clause-each
returns-clause-each c = leaves_each
