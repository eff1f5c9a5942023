use Rattle.ra_cluster.specs.Outcome.{RefusesSound}
use Rattle.ra_cluster.proofs.Endings.{refused, never, unsettled, unreported, outcome_by, done_by}
use Rattle.ra_cluster.proofs.settled_script.settle_sound.Goals as goal

pub returns-then-not-are_of : goal.returns-then-not-are_of
returns-then-not-are_of c = λ are sound. never (c.are_of.ensures.1 are) c.if-not-are_of.true

pub returns-in-Err : goal.returns-in-Err
returns-in-Err c =
    unsettled c.args.script.now c.args.books.now c.args.grants.now c.in-Err.refused c.refusal_of.result (c.are_of.ensures.0 c.if-not-are_of.false) c.refusal_of.ensures
    c.in-Err.ensures.not_sent c.in-Err.ensures.twice c.in-Err.ensures.missing c.in-Err.ensures.grant_twice c.in-Err.ensures.memory

pub returns-in_err-check_report : goal.returns-in_err-check_report
returns-in_err-check_report c =
    let e = c.in_err-check_report.field-0.0 in
    let books = c.args.books.now in
    let settled = c.in-Ok.ensures in
    let outcome = outcome_by books c.args.script.now c.args.grants.now c.in-Ok.settled (c.are_of.ensures.0 c.if-not-are_of.false)
    settled.settled_run settled.main_theorem settled.steps settled.fit settled.granted settled.once in
    refused _ (RefusesSound c.args.script.now books c.args.grants.now) e
    (unreported c.args.script.now books c.args.grants.now c.in-Ok.settled e outcome c.in_err-check_report.ensures) c.from_residual.result c.from_residual.ensures.1

pub returns : goal.returns
returns c =
    let books = c.args.books.now in
    let settled = c.in-Ok.ensures in
    let outcome = outcome_by books c.args.script.now c.args.grants.now c.in-Ok.settled (c.are_of.ensures.0 c.if-not-are_of.false)
    settled.settled_run settled.main_theorem settled.steps settled.fit settled.granted settled.once in
    (outcome, done_by books c.args.script.now c.args.grants.now c.in-Ok.settled outcome c.in_ok-check_report.ensures)
