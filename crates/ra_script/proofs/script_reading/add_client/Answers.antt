use Rattle.std.proofs.Common.{◌<◌, ◌≤◌, length, arith}
use Rattle.std.proofs.lemmas.Result.{err_from_is_err_and}
use Rattle.ra_script.specs.Document.{texts}
use Rattle.ra_script.proofs.Adding.{IsAddedTo-more, IsAddedTo-refused, script_ops-few, length-texts, text_at}
use Rattle.ra_script.proofs.script_reading.add_client.Goals as goal

pub returns-in_err-add_op-clause-err : goal.returns-in_err-add_op-clause-err
returns-in_err-add_op-clause-err c =
    let same = length-texts c.args.strings.now in
    let in-strings : c.loop-string.string-index < length c.args.strings.now = omega arith in
    let lt : c.loop-string.string-index < length (texts c.args.strings.now) = omega arith in
    let few : length (texts c.args.strings.now) ≤ 1024 = omega arith in
    let p = err_from_is_err_and c.from_residual-in_err-add_op.result c.from_residual-in_err-add_op.ensures.1 in
    rw (p.1, p.2, script_ops-few (texts c.args.strings.now) few)
    (IsAddedTo-refused c.args.script.now c.args.node (texts c.args.strings.now) c.loop-string.string-index c.loop-string.script _ _ lt
    (text_at c.args.strings.now c.loop-string.string-index _ in-strings) few c.in_err-add_op.ensures.err c.loop-string.invariant)

pub loop-string-preserved : goal.loop-string-preserved
loop-string-preserved c =
    let same = length-texts c.args.strings.now in
    let in-strings : c.loop-string.string-index < length c.args.strings.now = omega arith in
    let lt : c.loop-string.string-index < length (texts c.args.strings.now) = omega arith in
    let few : length (texts c.args.strings.now) ≤ 1024 = omega arith in
    IsAddedTo-more c.args.script.now c.args.node (texts c.args.strings.now) c.loop-string.string-index c.loop-string.script c.add_op.new.script _ lt
    (text_at c.args.strings.now c.loop-string.string-index _ in-strings) few c.in_ok-add_op.ensures.ok c.in_ok-add_op.ensures.script c.loop-string.invariant
