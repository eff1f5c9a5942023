use Rattle.std.proofs.Common.{◌≡◌, List, ◌++◌, length, take, drop, vec_len, arith, ap, sym, subst}
use Rattle.ra_audit.specs.Audit.{ProgressState, IsAudited, Takes}
use Rattle.ra_audit.proofs.AuditSteps.{taken_audited, slice_back}
use Rattle.ra_audit.proofs.Tracking.{tracked_taken, written_back}
use Rattle.ra_audit.proofs.auditor.Auditor.take.Goals as goal

pub invariant_of-self : goal.invariant_of-self
invariant_of-self c =
    let inside = c.self.inside in
    let items = inside.nodes.items in
    let new = c.take_into.new.nodes in
    let len = ap (λ (xs : List ProgressState). length xs) c.as_mut_slice.ensures.value in
    let back = take (vec_len inside.nodes) (new ++ drop (length new) items) in
    let same : back ≡ new = slice_back (vec_len inside.nodes) new items (omega (arith, c.as_mut_slice.ensures.len, len)) (omega (arith, c.take_into.auto.nodes, len)) in
    let takes : Takes items c.args.node c.args.after c.args.events.now c.take_into.result new =
    subst (λ (ns : List ProgressState). Takes ns c.args.node c.args.after c.args.events.now c.take_into.result new) c.as_mut_slice.ensures.value c.take_into.ensures
    in
    let known =
    written_back items back new inside.world.moves inside.flights inside.losses.lost same
    (tracked_taken items new c.args.node c.args.after c.args.events.now c.take_into.result inside.world.moves inside.flights takes c.self.invariant.4) c.self.invariant.5
    in (
      subst (IsAudited inside.world) (sym same) (taken_audited inside.world items new c.args.node c.args.after c.args.events.now c.take_into.result c.self.invariant.0 takes),
      c.self.invariant.1,
      c.self.invariant.2,
      c.self.invariant.3,
      known.0,
      known.1,
    )

pub returns-clause-audited : goal.returns-clause-audited
returns-clause-audited c = (invariant_of-self c).0

pub returns-clause-sent : goal.returns-clause-sent
returns-clause-sent c = record { came = (invariant_of-self c).4.came; losses = (invariant_of-self c).5 }
