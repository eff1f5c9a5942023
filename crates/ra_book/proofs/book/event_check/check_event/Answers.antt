use Rattle.ra_book.proofs.EventChecked.{passed_why, checked_clock, clock_not_memory}
use Rattle.ra_book.proofs.book.event_check.check_event.Goals as goal

pub returns-in_err-check_node : goal.returns-in_err-check_node
returns-in_err-check_node c =
    let passed = passed_why c.args.node.now c.args.clock c.args.kind.now c.in_err-check_node.field-0.0 c.in_err-check_node.ensures c.from_residual.result
    c.from_residual.ensures.1 in
    record { checked = passed.0; no_memory = passed.1 }

pub returns : goal.returns
returns c = record {
  checked = checked_clock c.args.node.now c.args.clock c.args.kind.now c.in_ok-check_node.ensures c.clock_after.result c.clock_after.ensures;
  no_memory = clock_not_memory c.args.clock c.args.kind.now c.clock_after.result c.clock_after.ensures;
}
