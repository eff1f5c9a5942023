use Rattle.std.proofs.Common.{◌≡◌, sym}
use Rattle.ra_script.proofs.Names.{spelled_by, all_by}
use Rattle.ra_script.specs.Operation.{op_of}
use Rattle.ra_script.proofs.script_reading.operation.operation.Goals as goal

pub returns-clause-spelled : goal.returns-clause-spelled
returns-clause-spelled c =
    let read : op_of c.args.string.now ≡ c.operation_of.result = rw c.as_bytes.ensures.value at (sym c.operation_of.ensures) in
    spelled_by c.args.string.now c.operation_of.result read

pub returns-clause-all : goal.returns-clause-all
returns-clause-all c =
    let read : op_of c.args.string.now ≡ c.operation_of.result = rw c.as_bytes.ensures.value at (sym c.operation_of.ensures) in
    all_by c.args.string.now c.operation_of.result read
