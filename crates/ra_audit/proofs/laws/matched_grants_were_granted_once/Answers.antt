use Rattle.ra_world.specs.Run.{marks_of}
use Rattle.ra_audit.proofs.AuditLaws.{runs_meet_the_theorem}
use Rattle.ra_audit.proofs.EnteredOnce.{granted_once}
use Rattle.ra_audit.proofs.laws.matched_grants_were_granted_once.Goals as goal

-- the marks of a run are a run of the lock table
pub returns : goal.returns
returns c = λ nodes start moves grants count run all.
    let table = (runs_meet_the_theorem nodes start moves count run).table_run in
    granted_once (marks_of moves) table.0 grants table.1 all
