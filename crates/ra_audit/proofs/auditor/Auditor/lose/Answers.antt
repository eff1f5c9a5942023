use Rattle.std.proofs.Common.{◌++◌, subst, sym}
use Rattle.std.specs.Prelude.{All}
use Rattle.ra_audit.specs.Audit.{HasLost, WasSentIn}
use Rattle.ra_audit.proofs.Tracking.{same_lost}
use Rattle.ra_audit.proofs.auditor.Auditor.lose.Goals as goal

pub invariant_of-self : goal.invariant_of-self
invariant_of-self c =
    let inside = c.self.inside in
    let same = same_lost inside.losses c.note.new.self (inside.losses.losing ++ c.args.frames.now) (inside.losses.noted ++ c.args.frames.now) c.note.result c.note.ensures.ok c.note.ensures.err in (
      c.self.invariant.0,
      c.self.invariant.1,
      c.self.invariant.2,
      subst (HasLost inside.world.moves) (sym same) c.self.invariant.3,
      c.self.invariant.4,
      subst (All (WasSentIn inside.nodes.items inside.world.moves)) (sym same) c.self.invariant.5,
    )

pub returns-clause-sent : goal.returns-clause-sent
returns-clause-sent c = record { came = (invariant_of-self c).4.came; losses = (invariant_of-self c).5 }
