use Rattle.std.proofs.Common.{inr}
use Rattle.ra_audit.specs.Audit.{HandsOver}
use Rattle.ra_audit.proofs.AuditRounds.{accepted, takes_over, in_any_case}
use Rattle.ra_audit.proofs.auditor.node_progress.NodeProgress.accept.Goals as goal

pub returns-clause-takes : goal.returns-clause-takes
returns-clause-takes c =
    let a = accepted c.args.self.now c.keep.new.self c.take_kept.new.self c.args.handed.events.items c.take_kept.result c.requires.kept c.keep.ensures c.take_kept.ensures.ok c.take_kept.ensures.err in
    let over : HandsOver c.args.self.now c.take_kept.new.self c.args.handed.lost.items = (c.args.handed.events.items, a.1, c.requires.handing) in
    takes_over c.args.self.now c.take_kept.new.self c.take_kept.result c.take_kept.ensures.not_next c.take_kept.ensures.memory c.take_kept.ensures.others
    c.args.handed.lost.items a.0 (inr over) (in_any_case (HandsOver c.args.self.now c.take_kept.new.self c.args.handed.lost.items) c.take_kept.result over) a.2 a.3

pub returns-clause-handed : goal.returns-clause-handed
returns-clause-handed c =
    (accepted c.args.self.now c.keep.new.self c.take_kept.new.self c.args.handed.events.items c.take_kept.result c.requires.kept c.keep.ensures c.take_kept.ensures.ok c.take_kept.ensures.err).1
