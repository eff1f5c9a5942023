use Rattle.ra_table.proofs.Next.{allows_request, allows_enter, allows_leave, allows_withdrawal}
use Rattle.ra_trace.proofs.marked_table.allows.Goals as goal

pub returns-in-Requested : goal.returns-in-Requested
returns-in-Requested c =
    let law = allows_request c.args.table.now c.in-Requested.entry in
    let told = c.can_request.ensures.allowed in
    rw c.in-Requested.is (λ yes. law.1 (told.0 yes), λ allowed. told.1 (law.0 allowed))

pub returns-in-Entered : goal.returns-in-Entered
returns-in-Entered c =
    let law = allows_enter c.args.table.now c.in-Entered.entry in
    let told = c.can_enter.ensures.allowed in
    rw c.in-Entered.is (λ yes. law.1 (told.0 yes), λ allowed. told.1 (law.0 allowed))

pub returns-in-Left : goal.returns-in-Left
returns-in-Left c =
    let law = allows_leave c.args.table.now c.in-Left.entry in
    let told = c.holds.ensures.held in
    rw c.in-Left.is (λ yes. law.1 (told.0 yes), λ allowed. told.1 (law.0 allowed))

pub returns-in-Withdrawn : goal.returns-in-Withdrawn
returns-in-Withdrawn c =
    let law = allows_withdrawal c.args.table.now c.in-Withdrawn.entry in
    let told = c.waits.ensures.waits in
    rw c.in-Withdrawn.is (λ yes. law.1 (told.0 yes), λ allowed. told.1 (law.0 allowed))
