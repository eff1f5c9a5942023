use Rattle.std.proofs.Common.{◌≡◌, All, List, ◌++◌, map, length, take, drop, vec_len, arith, ap, sym, subst}
use Rattle.std.specs.List.{range_with_len}
use Rattle.ra_audit.specs.Audit.{ProgressState, IsAudited, HasLost, WasSentIn, TakesHanded}
use Rattle.ra_audit.proofs.AuditSteps.{handed_audited, slice_back}
use Rattle.ra_frame.specs.declared.frame.Frame.{Frame}
use Rattle.ra_audit.proofs.Tracking.{tracked_handed, written_back}
use Rattle.ra_audit.proofs.auditor.Auditor.take_handed.Goals as goal

pub take_handed_into-requires-clause-numbers : goal.take_handed_into-requires-clause-numbers
take_handed_into-requires-clause-numbers r c =
    let n = c.self.inside.world.count in
    (n, subst (λ (ns : List ProgressState). map (λ p. p.node) ns ≡ range_with_len 1 n) (sym c.as_mut_slice.ensures.value) c.self.invariant.0.numbers)

pub invariant_of-self : goal.invariant_of-self
invariant_of-self r c =
    let inside = c.self.inside in
    let items = inside.nodes.items in
    let new = c.take_handed_into.new.nodes in
    let losing = inside.losses.losing in
    let losing' = c.take_handed_into.new.losses.losing in
    let len = ap (λ (xs : List ProgressState). length xs) c.as_mut_slice.ensures.value in
    let back = take (vec_len inside.nodes) (new ++ drop (length new) items) in
    let same : back ≡ new = slice_back (vec_len inside.nodes) new items (omega (arith, c.as_mut_slice.ensures.len, len)) (omega (arith, c.take_handed_into.auto.nodes, len)) in
    let takes : TakesHanded items losing c.args.site.now.node c.take_handed_into.result new losing' =
    subst (λ (ns : List ProgressState). TakesHanded ns losing c.args.site.now.node c.take_handed_into.result new losing') c.as_mut_slice.ensures.value c.take_handed_into.ensures.handed
    in
    let known =
    written_back items back new inside.world.moves inside.flights inside.losses.lost same
    (tracked_handed items new losing losing' c.args.site.now.node c.take_handed_into.result inside.world.moves inside.flights takes c.self.invariant.4) c.self.invariant.5
    in (
      subst (IsAudited inside.world) (sym same) (handed_audited inside.world items new losing losing' c.args.site.now.node c.take_handed_into.result c.self.invariant.0 takes),
      c.self.invariant.1,
      c.self.invariant.2,
      subst (λ (fs : List Frame). HasLost inside.world.moves fs) (sym c.take_handed_into.ensures.lost) c.self.invariant.3,
      known.0,
      subst (λ (fs : List Frame). All (WasSentIn back inside.world.moves) fs) (sym c.take_handed_into.ensures.lost) known.1,
    )

pub returns-clause-audited : goal.returns-clause-audited
returns-clause-audited r c = (invariant_of-self r c).0

pub returns-clause-sent : goal.returns-clause-sent
returns-clause-sent r c = record { came = (invariant_of-self r c).4.came; losses = (invariant_of-self r c).5 }
