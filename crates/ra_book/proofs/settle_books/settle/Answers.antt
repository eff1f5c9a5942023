use Rattle.ra_book.specs.declared.error.SettleError.TheVariants.{NotSent, Twice, GrantMissing, GrantTwice, Memory}
use Rattle.ra_book.proofs.Causes as settling
use Rattle.ra_book.proofs.settle_books.settle.Goals as goal

pub returns-in_err-check_received-clause-settled_run : goal.returns-in_err-check_received-clause-settled_run
returns-in_err-check_received-clause-settled_run c =
    settling.settled_run c.args.books.now c.args.grants.now c.from_residual.result
    (settling.by_received c.args.books.now c.args.grants.now c.in_err-check_received.field-0.0 c.in_err-check_received.ensures c.from_residual.result c.from_residual.ensures.1)

pub returns-in_err-check_received-clause-main_theorem : goal.returns-in_err-check_received-clause-main_theorem
returns-in_err-check_received-clause-main_theorem c =
    settling.main_theorem c.args.books.now c.args.grants.now c.from_residual.result
    (settling.by_received c.args.books.now c.args.grants.now c.in_err-check_received.field-0.0 c.in_err-check_received.ensures c.from_residual.result c.from_residual.ensures.1)

pub returns-in_err-check_received-clause-steps : goal.returns-in_err-check_received-clause-steps
returns-in_err-check_received-clause-steps c =
    settling.steps c.args.books.now c.args.grants.now c.from_residual.result
    (settling.by_received c.args.books.now c.args.grants.now c.in_err-check_received.field-0.0 c.in_err-check_received.ensures c.from_residual.result c.from_residual.ensures.1)

pub returns-in_err-check_received-clause-fit : goal.returns-in_err-check_received-clause-fit
returns-in_err-check_received-clause-fit c =
    settling.fit c.args.books.now c.args.grants.now c.from_residual.result
    (settling.by_received c.args.books.now c.args.grants.now c.in_err-check_received.field-0.0 c.in_err-check_received.ensures c.from_residual.result c.from_residual.ensures.1)

pub returns-in_err-check_received-clause-granted : goal.returns-in_err-check_received-clause-granted
returns-in_err-check_received-clause-granted c =
    settling.granted c.args.books.now c.args.grants.now c.from_residual.result
    (settling.by_received c.args.books.now c.args.grants.now c.in_err-check_received.field-0.0 c.in_err-check_received.ensures c.from_residual.result c.from_residual.ensures.1)

pub returns-in_err-check_received-clause-once : goal.returns-in_err-check_received-clause-once
returns-in_err-check_received-clause-once c =
    settling.once c.args.books.now c.args.grants.now c.from_residual.result
    (settling.by_received c.args.books.now c.args.grants.now c.in_err-check_received.field-0.0 c.in_err-check_received.ensures c.from_residual.result c.from_residual.ensures.1)

pub returns-in_err-check_received-clause-not_sent : goal.returns-in_err-check_received-clause-not_sent
returns-in_err-check_received-clause-not_sent c =
    settling.cause c.args.books.now c.args.grants.now c.from_residual.result
    (settling.by_received c.args.books.now c.args.grants.now c.in_err-check_received.field-0.0 c.in_err-check_received.ensures c.from_residual.result c.from_residual.ensures.1) NotSent

pub returns-in_err-check_received-clause-twice : goal.returns-in_err-check_received-clause-twice
returns-in_err-check_received-clause-twice c =
    settling.cause c.args.books.now c.args.grants.now c.from_residual.result
    (settling.by_received c.args.books.now c.args.grants.now c.in_err-check_received.field-0.0 c.in_err-check_received.ensures c.from_residual.result c.from_residual.ensures.1) Twice

pub returns-in_err-check_received-clause-missing : goal.returns-in_err-check_received-clause-missing
returns-in_err-check_received-clause-missing c =
    settling.cause c.args.books.now c.args.grants.now c.from_residual.result
    (settling.by_received c.args.books.now c.args.grants.now c.in_err-check_received.field-0.0 c.in_err-check_received.ensures c.from_residual.result c.from_residual.ensures.1) GrantMissing

pub returns-in_err-check_received-clause-grant_twice : goal.returns-in_err-check_received-clause-grant_twice
returns-in_err-check_received-clause-grant_twice c =
    settling.cause c.args.books.now c.args.grants.now c.from_residual.result
    (settling.by_received c.args.books.now c.args.grants.now c.in_err-check_received.field-0.0 c.in_err-check_received.ensures c.from_residual.result c.from_residual.ensures.1) GrantTwice

pub returns-in_err-check_received-clause-memory : goal.returns-in_err-check_received-clause-memory
returns-in_err-check_received-clause-memory c =
    settling.cause c.args.books.now c.args.grants.now c.from_residual.result
    (settling.by_received c.args.books.now c.args.grants.now c.in_err-check_received.field-0.0 c.in_err-check_received.ensures c.from_residual.result c.from_residual.ensures.1) Memory

pub returns-in_err-check_received-clause-found_unsent : goal.returns-in_err-check_received-clause-found_unsent
returns-in_err-check_received-clause-found_unsent c =
    settling.found_unsent c.args.books.now c.args.grants.now c.from_residual.result
    (settling.by_received c.args.books.now c.args.grants.now c.in_err-check_received.field-0.0 c.in_err-check_received.ensures c.from_residual.result c.from_residual.ensures.1)

pub returns-in_err-check_received-clause-found_twice : goal.returns-in_err-check_received-clause-found_twice
returns-in_err-check_received-clause-found_twice c =
    settling.found_twice c.args.books.now c.args.grants.now c.from_residual.result
    (settling.by_received c.args.books.now c.args.grants.now c.in_err-check_received.field-0.0 c.in_err-check_received.ensures c.from_residual.result c.from_residual.ensures.1)

pub returns-in_err-check_received-clause-found_missing : goal.returns-in_err-check_received-clause-found_missing
returns-in_err-check_received-clause-found_missing c =
    settling.found_missing c.args.books.now c.args.grants.now c.from_residual.result
    (settling.by_received c.args.books.now c.args.grants.now c.in_err-check_received.field-0.0 c.in_err-check_received.ensures c.from_residual.result c.from_residual.ensures.1)

pub returns-in_err-check_received-clause-found_grant_twice : goal.returns-in_err-check_received-clause-found_grant_twice
returns-in_err-check_received-clause-found_grant_twice c =
    settling.found_grant_twice c.args.books.now c.args.grants.now c.from_residual.result
    (settling.by_received c.args.books.now c.args.grants.now c.in_err-check_received.field-0.0 c.in_err-check_received.ensures c.from_residual.result c.from_residual.ensures.1)

pub returns-in_err-check_received-clause-settles : goal.returns-in_err-check_received-clause-settles
returns-in_err-check_received-clause-settles c =
    settling.settles c.args.books.now c.args.grants.now c.from_residual.result
    (settling.by_received c.args.books.now c.args.grants.now c.in_err-check_received.field-0.0 c.in_err-check_received.ensures c.from_residual.result c.from_residual.ensures.1)

pub returns-clause-settled_run : goal.returns-clause-settled_run
returns-clause-settled_run c = settling.settled_run c.args.books.now c.args.grants.now c.settle_with.result c.settle_with.ensures

pub returns-clause-main_theorem : goal.returns-clause-main_theorem
returns-clause-main_theorem c = settling.main_theorem c.args.books.now c.args.grants.now c.settle_with.result c.settle_with.ensures

pub returns-clause-steps : goal.returns-clause-steps
returns-clause-steps c = settling.steps c.args.books.now c.args.grants.now c.settle_with.result c.settle_with.ensures

pub returns-clause-fit : goal.returns-clause-fit
returns-clause-fit c = settling.fit c.args.books.now c.args.grants.now c.settle_with.result c.settle_with.ensures

pub returns-clause-granted : goal.returns-clause-granted
returns-clause-granted c = settling.granted c.args.books.now c.args.grants.now c.settle_with.result c.settle_with.ensures

pub returns-clause-once : goal.returns-clause-once
returns-clause-once c = settling.once c.args.books.now c.args.grants.now c.settle_with.result c.settle_with.ensures

pub returns-clause-not_sent : goal.returns-clause-not_sent
returns-clause-not_sent c = settling.cause c.args.books.now c.args.grants.now c.settle_with.result c.settle_with.ensures NotSent

pub returns-clause-twice : goal.returns-clause-twice
returns-clause-twice c = settling.cause c.args.books.now c.args.grants.now c.settle_with.result c.settle_with.ensures Twice

pub returns-clause-missing : goal.returns-clause-missing
returns-clause-missing c = settling.cause c.args.books.now c.args.grants.now c.settle_with.result c.settle_with.ensures GrantMissing

pub returns-clause-grant_twice : goal.returns-clause-grant_twice
returns-clause-grant_twice c = settling.cause c.args.books.now c.args.grants.now c.settle_with.result c.settle_with.ensures GrantTwice

pub returns-clause-memory : goal.returns-clause-memory
returns-clause-memory c = settling.cause c.args.books.now c.args.grants.now c.settle_with.result c.settle_with.ensures Memory

pub returns-clause-found_unsent : goal.returns-clause-found_unsent
returns-clause-found_unsent c = settling.found_unsent c.args.books.now c.args.grants.now c.settle_with.result c.settle_with.ensures

pub returns-clause-found_twice : goal.returns-clause-found_twice
returns-clause-found_twice c = settling.found_twice c.args.books.now c.args.grants.now c.settle_with.result c.settle_with.ensures

pub returns-clause-found_missing : goal.returns-clause-found_missing
returns-clause-found_missing c = settling.found_missing c.args.books.now c.args.grants.now c.settle_with.result c.settle_with.ensures

pub returns-clause-found_grant_twice : goal.returns-clause-found_grant_twice
returns-clause-found_grant_twice c = settling.found_grant_twice c.args.books.now c.args.grants.now c.settle_with.result c.settle_with.ensures

pub returns-clause-settles : goal.returns-clause-settles
returns-clause-settles c = settling.settles c.args.books.now c.args.grants.now c.settle_with.result c.settle_with.ensures

pub settle_with-requires : goal.settle_with-requires
settle_with-requires c = record { cluster = c.requires; fit = c.in_ok-check_received.ensures }
