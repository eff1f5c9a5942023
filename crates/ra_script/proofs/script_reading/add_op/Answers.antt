use Rattle.std.proofs.Common.{◌≡◌, Some, None, Err, ap, inl}
use Rattle.std.proofs.lemmas.Bool.{false≢true}
use Rattle.std.proofs.lemmas.Result.{err_from_is_err_and}
use Rattle.ra_script.specs.Operation.{op_of}
use Rattle.ra_script.proofs.Names.{op_of-spelling, op_of-none}
use Rattle.ra_script.proofs.Adding.{added, refused, next_op-none}
use Rattle.ra_script.proofs.script_reading.add_op.Goals as goal

pub returns-in_default-clause-err : goal.returns-in_default-clause-err
returns-in_default-clause-err c base node done is few =
    let none : op_of c.args.string.now ≡ None = op_of-none c.args.string.now (λ op spelled named. false≢true (c.in_default.ensures.all op spelled named)) in
    inl (next_op-none done c.args.string.now none)

pub returns-in_err-add_op-clause-err : goal.returns-in_err-add_op-clause-err
returns-in_err-add_op-clause-err c =
    let p = err_from_is_err_and c.from_residual.result c.from_residual.ensures.1 in
    let read : op_of c.args.string.now ≡ Some c.in-Some.op = op_of-spelling c.args.string.now c.in-Some.op c.in-Some.ensures.spelled.0 c.in-Some.ensures.spelled.1 in
    let e = c.in_err-add_op.ensures in
    rw (p.1, p.2) (λ base node done is few. refused base c.args.script.now node done c.args.string.now c.in-Some.op c.in_err-add_op.field-0.0 read
    (λ k. e.clients.0 (ap Err k)) (λ k. e.limit.0 (ap Err k)) (λ k. e.not_held.0 (ap Err k)) (λ k. e.already_held.0 (ap Err k)) is few)

pub returns-clause-ok : goal.returns-clause-ok
returns-clause-ok c base node done is few =
    let read : op_of c.args.string.now ≡ Some c.in-Some.op = op_of-spelling c.args.string.now c.in-Some.op c.in-Some.ensures.spelled.0 c.in-Some.ensures.spelled.1 in
    let both = added base c.args.script.now c.add_op.new.self node done c.args.string.now c.in-Some.op read c.in_ok-add_op.ensures.ok (c.in_ok-add_op.ensures.allowed.0 tt) is in
    (c.in-Some.op, both.0, both.1)
