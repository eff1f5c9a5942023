use Rattle.ra_book.proofs.EventChecked.{asking_refused, address_refused}
use Rattle.ra_book.proofs.book.event_check.check_node.Goals as goal

pub returns-in_err-may_ask-in-Ask : goal.returns-in_err-may_ask-in-Ask
returns-in_err-may_ask-in-Ask c =
    let refused = c.in_err-may_ask-in-Ask in
    asking_refused c.args.node.now c.args.kind.now _ _ _ c.in-Ask.is refused.field-0.0 refused.ensures.told c.from_residual.result c.from_residual.ensures.1

pub returns-in_err-check_address-in-Receive : goal.returns-in_err-check_address-in-Receive
returns-in_err-check_address-in-Receive c =
    let refused = c.in_err-check_address-in-Receive in
    let passed = c.from_residual-in_err-check_address-in-Receive in
    address_refused c.args.node.now c.args.kind.now _ c.in-Receive.is refused.field-0.0 refused.ensures.address refused.ensures.no_memory passed.result passed.ensures.1
