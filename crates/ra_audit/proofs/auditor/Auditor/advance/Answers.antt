use Rattle.std.proofs.Common.{◌≡◌, ◌<◌, ◌∙◌, All, List, [], ◌∷◌, ◌++◌, inl, inr, length, take, drop, vec_len, arith, ap, sym, subst}
use Rattle.ra_audit.specs.Audit.{ProgressState, AuditState, IsAudited, AllWereSent, WasSentIn, HasLost, PutsLosses, NoneIsReady, NoneIsReached, CanGoOn, IsNotLost, RunTheorem}
use Rattle.ra_audit.specs.AuditKeeping.{HasInRun, IsTracked}
use Rattle.ra_audit.proofs.AuditLaws.{runs_meet_the_theorem}
use Rattle.ra_audit.proofs.AuditLosses.{puts_none}
use Rattle.ra_audit.proofs.AuditSteps.{on_done, slice_back}
use Rattle.ra_audit.proofs.auditor.Auditor.advance.Goals as goal

pub returns-in-Some-clause-theorem : goal.returns-in-Some-clause-theorem
returns-in-Some-clause-theorem g c =
    let w = c.self.inside.world in
    subst (λ (a : AuditState). RunTheorem a.world.count a.world.moves) c.self.view_is
    (runs_meet_the_theorem w.count w.start w.moves c.self.invariant.0.count c.self.invariant.0.run)

pub returns-in-Some-clause-losses : goal.returns-in-Some-clause-losses
returns-in-Some-clause-losses g c = puts_none c.args.self.now.nodes c.args.self.now.losing c.args.self.now.lost

pub returns-in-Some-clause-lost : goal.returns-in-Some-clause-lost
returns-in-Some-clause-lost g c = subst (λ (a : AuditState). HasLost a.world.moves a.lost) c.self.view_is c.self.invariant.3

pub returns-clause-theorem : goal.returns-clause-theorem
returns-clause-theorem g c =
    let w = c.put_events_and_losses-answer.new.world in
    let a = c.put_events_and_losses-answer.ensures.advances.audited in
    runs_meet_the_theorem w.count w.start w.moves a.count a.run

pub returns-clause-losses : goal.returns-clause-losses
returns-clause-losses g c =
    let items = c.self.inside.nodes.items in
    let new = c.put_events_and_losses-answer.new.nodes in
    let losses = c.put_events_and_losses-answer.new.losses in
    let len = ap (λ (xs : List ProgressState). length xs) c.as_mut_slice.ensures.value in
    let back = take (vec_len c.self.inside.nodes) (new ++ drop (length new) items) in
    let same : back ≡ new =
    slice_back (vec_len c.self.inside.nodes) new items (omega (arith, c.as_mut_slice.ensures.len, len)) (omega (arith, c.put_events_and_losses-answer.auto.nodes, len))
    in
    subst (λ (a : AuditState). PutsLosses back a.losing a.lost losses.losing losses.lost) c.self.view_is
    (subst (λ (ns : List ProgressState). PutsLosses ns c.self.inside.losses.losing c.self.inside.losses.lost losses.losing losses.lost) (sym same)
    c.put_events_and_losses-answer.ensures.losses)

pub returns-clause-ok : goal.returns-clause-ok
returns-clause-ok g c =
    let items = c.self.inside.nodes.items in
    let new = c.put_events_and_losses-answer.new.nodes in
    let losses = c.put_events_and_losses-answer.new.losses in
    let len = ap (λ (xs : List ProgressState). length xs) c.as_mut_slice.ensures.value in
    let back = take (vec_len c.self.inside.nodes) (new ++ drop (length new) items) in
    let same : back ≡ new =
    slice_back (vec_len c.self.inside.nodes) new items (omega (arith, c.as_mut_slice.ensures.len, len)) (omega (arith, c.put_events_and_losses-answer.auto.nodes, len))
    in
    on_done (NoneIsReady new × NoneIsReached new losses.losing) (NoneIsReady back) c.put_events_and_losses-answer.result (λ both. subst NoneIsReady (sym same) both.0)
    c.put_events_and_losses-answer.ensures.ok

pub returns-clause-none_reached : goal.returns-clause-none_reached
returns-clause-none_reached g c =
    let items = c.self.inside.nodes.items in
    let new = c.put_events_and_losses-answer.new.nodes in
    let losses = c.put_events_and_losses-answer.new.losses in
    let len = ap (λ (xs : List ProgressState). length xs) c.as_mut_slice.ensures.value in
    let back = take (vec_len c.self.inside.nodes) (new ++ drop (length new) items) in
    let same : back ≡ new =
    slice_back (vec_len c.self.inside.nodes) new items (omega (arith, c.as_mut_slice.ensures.len, len)) (omega (arith, c.put_events_and_losses-answer.auto.nodes, len))
    in
    on_done (NoneIsReady new × NoneIsReached new losses.losing) (NoneIsReached back losses.losing) c.put_events_and_losses-answer.result
    (λ both. subst (λ (ns : List ProgressState). NoneIsReached ns losses.losing) (sym same) both.1)
    c.put_events_and_losses-answer.ensures.ok

pub returns-clause-not_lost : goal.returns-clause-not_lost
returns-clause-not_lost g c frame is =
    let items = c.self.inside.nodes.items in
    let new = c.put_events_and_losses-answer.new.nodes in
    let world = c.put_events_and_losses-answer.new.world in
    let losses = c.put_events_and_losses-answer.new.losses in
    let len = ap (λ (xs : List ProgressState). length xs) c.as_mut_slice.ensures.value in
    let back = take (vec_len c.self.inside.nodes) (new ++ drop (length new) items) in
    let same : back ≡ new =
    slice_back (vec_len c.self.inside.nodes) new items (omega (arith, c.as_mut_slice.ensures.len, len)) (omega (arith, c.put_events_and_losses-answer.auto.nodes, len))
    in
    let both = c.put_events_and_losses-answer.ensures.not_lost frame is in (
      subst NoneIsReady (sym same) both.0,
      subst (λ (ns : List ProgressState). IsNotLost world ns losses.losing frame) (sym same) both.1,
    )

pub returns-in-Some-clause-sent : goal.returns-in-Some-clause-sent
returns-in-Some-clause-sent g c =
    subst (λ (a : AuditState). AllWereSent a.nodes a.world.moves a.lost) c.self.view_is (record { came = c.self.invariant.4.came; losses = c.self.invariant.5 })

pub returns-clause-sent : goal.returns-clause-sent
returns-clause-sent g c =
    let items = c.self.inside.nodes.items in
    let new = c.put_events_and_losses-answer.new.nodes in
    let world = c.put_events_and_losses-answer.new.world in
    let losses = c.put_events_and_losses-answer.new.losses in
    let len = ap (λ (xs : List ProgressState). length xs) c.as_mut_slice.ensures.value in
    let back = take (vec_len c.self.inside.nodes) (new ++ drop (length new) items) in
    let same : back ≡ new =
    slice_back (vec_len c.self.inside.nodes) new items (omega (arith, c.as_mut_slice.ensures.len, len)) (omega (arith, c.put_events_and_losses-answer.auto.nodes, len))
    in
    subst (λ (ns : List ProgressState). AllWereSent ns world.moves losses.lost) (sym same)
    (record { came = c.put_events_and_losses-answer.ensures.run.tracked.came; losses = c.put_events_and_losses-answer.ensures.run.sent })

pub put_events_and_losses-answer-requires : goal.put_events_and_losses-answer-requires
put_events_and_losses-answer-requires g c =
    let inside = c.self.inside in
    subst (λ (ns : List ProgressState). HasInRun inside.world ns inside.flights inside.losses) (sym c.as_mut_slice.ensures.value)
    (record { audited = c.self.invariant.0; lost = c.self.invariant.3; tracked = c.self.invariant.4; sent = c.self.invariant.5 })

pub invariant_of-self : goal.invariant_of-self
invariant_of-self g c =
    let items = c.self.inside.nodes.items in
    let new = c.put_events_and_losses-answer.new.nodes in
    let world = c.put_events_and_losses-answer.new.world in
    let losses = c.put_events_and_losses-answer.new.losses in
    let flights = c.put_events_and_losses-answer.new.flights in
    let puts = c.put_events_and_losses-answer.ensures in
    let len = ap (λ (xs : List ProgressState). length xs) c.as_mut_slice.ensures.value in
    let back = take (vec_len c.self.inside.nodes) (new ++ drop (length new) items) in
    let same : back ≡ new =
    slice_back (vec_len c.self.inside.nodes) new items (omega (arith, c.as_mut_slice.ensures.len, len)) (omega (arith, c.put_events_and_losses-answer.auto.nodes, len))
    in (
      subst (IsAudited world) (sym same) puts.advances.audited,
      c.self.invariant.1 ∙ sym puts.advances.count,
      c.self.invariant.2 ∙ sym puts.advances.start,
      puts.run.lost,
      subst (λ (ns : List ProgressState). IsTracked ns world.moves flights) (sym same) puts.run.tracked,
      subst (λ (ns : List ProgressState). All (WasSentIn ns world.moves) losses.lost) (sym same) puts.run.sent,
    )

not_none : {X : Type 0} (xs : List X) → 0 < length xs → xs ≡ [] → ⊥
not_none [] some is = omega (arith, some)
not_none (x ∷ xs) some is = cc

pub returns-clause-memory : goal.returns-clause-memory
returns-clause-memory g c is =
    let items = c.self.inside.nodes.items in
    let new = c.put_events_and_losses-answer.new.nodes in
    let world = c.put_events_and_losses-answer.new.world in
    let losses = c.put_events_and_losses-answer.new.losses in
    let len = ap (λ (xs : List ProgressState). length xs) c.as_mut_slice.ensures.value in
    let back = take (vec_len c.self.inside.nodes) (new ++ drop (length new) items) in
    let same : back ≡ new =
    slice_back (vec_len c.self.inside.nodes) new items (omega (arith, c.as_mut_slice.ensures.len, len)) (omega (arith, c.put_events_and_losses-answer.auto.nodes, len))
    in
    elim (c.put_events_and_losses-answer.ensures.memory is) [
      | inl more ↦ inl (subst (CanGoOn world) (sym same) more)
      | inr none ↦ inr (subst NoneIsReady (sym same) none.0, not_none losses.losing none.1)
    ]
