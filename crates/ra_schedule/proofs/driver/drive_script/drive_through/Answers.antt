use Rattle.std.proofs.Common.{Err, ap, ◌∙◌}
use Rattle.std.proofs.lemmas.Result.{err_from_is_err_and}
use Rattle.ra_schedule.specs.Driving.{Records}
use Rattle.ra_schedule.proofs.Ended.{came_to_end, was_stopped}
use Rattle.ra_schedule.proofs.HandedOn.{memory_ran_out}
use Rattle.ra_schedule.proofs.driver.drive_script.drive_through.Goals as goal

pub finish-requires-clause-opened : goal.finish-requires-clause-opened
finish-requires-clause-opened c = c.in_ok-cluster.ensures.opened

pub finish-requires-clause-ready : goal.finish-requires-clause-ready
finish-requires-clause-ready c = c.in_ok-cluster.ensures.ready

pub ended-requires : goal.ended-requires
ended-requires c = c.in_ok-finish.ensures.ok.0.tracks

pub returns : goal.returns
returns c =
    let script = c.args.script.now in
    let policy = c.args.policy.now in
    let limit = c.args.limit in
    let began = c.in_ok-cluster.ensures in
    let (at_end, within) = c.in_ok-finish.ensures.ok in
    came_to_end script began.fit policy limit (Records script policy limit c.args.records) c.finish.new.world c.finish.new.self c.ended.result at_end within
    (c.ended.ensures.made policy limit c.args.records
    (record { fit = began.fit; at_end = at_end; within = within; records_as = c.in_ok-finish.ensures.records ∙ began.records_as }))

pub returns-in_err-finish : goal.returns-in_err-finish
returns-in_err-finish c =
    let p = err_from_is_err_and c.from_residual-in_err-finish.result c.from_residual-in_err-finish.ensures.1 in
    let script = c.args.script.now in
    let policy = c.args.policy.now in
    let limit = c.args.limit in
    was_stopped script c.in_ok-cluster.ensures.fit policy limit (Records script policy limit c.args.records) _ _ _ (p.1 ∙ ap Err p.2) c.in_err-finish.ensures.err

pub returns-in_err-cluster : goal.returns-in_err-cluster
returns-in_err-cluster c =
    let p = err_from_is_err_and c.from_residual.result c.from_residual.ensures.1 in
    memory_ran_out c.args.script.now c.args.policy.now c.args.limit (Records c.args.script.now c.args.policy.now c.args.limit c.args.records) _ p.0 p.1 p.2
