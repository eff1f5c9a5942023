use Rattle.std.proofs.Common.{◌≡◌, ◌+◌, ◌<◌, ◌≤◌, arith}
use Rattle.ra_stamp.specs.Message.{from_of}
use Rattle.ra_audit.proofs.UnsentFrames.{may_come_of, may_come_of_nobody, is_of_none}
use Rattle.ra_audit.proofs.auditor.never_sent.may_come.Goals as goal

pub returns-in-Some-clause-may : goal.returns-in-Some-clause-may
returns-in-Some-clause-may c = λ yes.
    let place = c.place.result in
    let number : place + 1 ≡ from_of c.in-Receive.frame.message = omega (arith, c.place.ensures.value, c.place.ensures.valid.0, c.from.ensures) in
    may_come_of c.args.nodes.now c.args.kind.now c.in-Receive.frame c.requires.0 place c.requires.1 number c.in-Receive.is c.in-Some.progress.now (c.args.known < c.args.came)
    c.in-Some.ensures.lookup.0 c.in-Some.ensures.lookup.1 (c.may_come_from.ensures.may yes)

pub returns-in-Some-clause-none : goal.returns-in-Some-clause-none
returns-in-Some-clause-none c = λ no.
    let place = c.place.result in
    let number : place + 1 ≡ from_of c.in-Receive.frame.message = omega (arith, c.place.ensures.value, c.place.ensures.valid.0, c.from.ensures) in
    is_of_none c.args.nodes.now c.args.kind.now c.in-Receive.frame c.requires.0 place c.requires.1 number c.in-Receive.is c.in-Some.progress.now (c.args.came ≤ c.args.known)
    c.in-Some.ensures.lookup.0 c.in-Some.ensures.lookup.1 (c.may_come_from.ensures.none no)

pub returns-in-None-clause-may : goal.returns-in-None-clause-may
returns-in-None-clause-may c = λ yes.
    let place = c.place.result in
    let number : place + 1 ≡ from_of c.in-Receive.frame.message = omega (arith, c.place.ensures.value, c.place.ensures.valid.0, c.from.ensures) in
    may_come_of_nobody c.args.nodes.now c.args.kind.now c.in-Receive.frame c.requires.0 place c.requires.1 number c.in-Receive.is (c.args.known < c.args.came) c.in-None.ensures.lookup.0
