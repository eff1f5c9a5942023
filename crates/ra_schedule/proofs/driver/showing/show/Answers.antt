use Rattle.std.proofs.Common.{◌∙◌, Err, true, ap}
use Rattle.std.proofs.lemmas.Result.{err_from_is_err_and}
use Rattle.ra_schedule.specs.StateText.{IsShown}
use Rattle.ra_schedule.proofs.Ended.{came_to_end, recorded_all, was_stopped}
use Rattle.ra_schedule.proofs.HandedOn.{memory_ran_out}
use Rattle.ra_schedule.proofs.ThoroughPolicies.{follows_performs}
use Rattle.ra_schedule.proofs.driver.showing.show.Goals as goal

pub finish-requires-clause-opened : goal.finish-requires-clause-opened
finish-requires-clause-opened c = c.in_ok-cluster.ensures.opened

pub finish-requires-clause-ready : goal.finish-requires-clause-ready
finish-requires-clause-ready c = c.in_ok-cluster.ensures.ready

pub text_of-requires-clause-fit : goal.text_of-requires-clause-fit
text_of-requires-clause-fit c = c.in_ok-cluster.ensures.fit

pub text_of-requires-clause-performs : goal.text_of-requires-clause-performs
text_of-requires-clause-performs c =
    follows_performs c.args.script.now c.args.policy.now c.finish.new.world.moves c.in_ok-finish.ensures.ok.0.follows

pub text_of-requires-clause-tracked : goal.text_of-requires-clause-tracked
text_of-requires-clause-tracked c = c.in_ok-finish.ensures.ok.0.tracks

pub text_of-requires-clause-steps : goal.text_of-requires-clause-steps
text_of-requires-clause-steps c =
    recorded_all c.args.script.now c.args.policy.now c.finish.new.world c.finish.new.self c.in_ok-finish.ensures.ok.0
    (c.in_ok-finish.ensures.records ∙ c.in_ok-cluster.ensures.records_as)

pub ended-driven-requires : goal.ended-driven-requires
ended-driven-requires c = c.in_ok-finish.ensures.ok.0.tracks

pub returns : goal.returns
returns c =
    let script = c.args.script.now in
    let policy = c.args.policy.now in
    let limit = c.args.limit in
    let began = c.in_ok-cluster.ensures in
    let (at_end, within) = c.in_ok-finish.ensures.ok in
    came_to_end script began.fit policy limit (IsShown script policy limit) c.finish.new.world c.finish.new.self _ at_end within (record {
      moves = c.finish.new.world.moves;
      report = c.ended-driven.result.summary.report;
      run = c.ended-driven.ensures.run policy limit true
          (record { fit = began.fit; at_end = at_end; within = within; records_as = c.in_ok-finish.ensures.records ∙ began.records_as });
      state = c.in_ok-text.ensures;
    })

pub returns-in_err-text : goal.returns-in_err-text
returns-in_err-text c =
    let p = err_from_is_err_and c.from_residual-in_err-text.result c.from_residual-in_err-text.ensures.1 in
    memory_ran_out c.args.script.now c.args.policy.now c.args.limit (IsShown c.args.script.now c.args.policy.now c.args.limit) _ p.0 p.1 p.2

pub returns-in_err-finish : goal.returns-in_err-finish
returns-in_err-finish c =
    let p = err_from_is_err_and c.from_residual-in_err-finish.result c.from_residual-in_err-finish.ensures.1 in
    let script = c.args.script.now in
    let policy = c.args.policy.now in
    let limit = c.args.limit in
    was_stopped script c.in_ok-cluster.ensures.fit policy limit (IsShown script policy limit) _ _ _ (p.1 ∙ ap Err p.2) c.in_err-finish.ensures.err

pub returns-in_err-cluster : goal.returns-in_err-cluster
returns-in_err-cluster c =
    let p = err_from_is_err_and c.from_residual.result c.from_residual.ensures.1 in
    memory_ran_out c.args.script.now c.args.policy.now c.args.limit (IsShown c.args.script.now c.args.policy.now c.args.limit) _ p.0 p.1 p.2
