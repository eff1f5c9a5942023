use Rattle.std.proofs.Common.{sym, ◌∙◌}
use Rattle.ra_trace.specs.Version.{has_sends}
use Rattle.ra_trace.specs.Checking.{unsent_of, due_of}
use Rattle.ra_trace.proofs.Due.{sent_is_due, some_is_due, mark_is_due, none_is_due}
use Rattle.ra_trace.proofs.checker.Checker.next_due.Goals as goal

pub returns-in-Some : goal.returns-in-Some
returns-in-Some c =
    let checker = c.args.self.now in
    sent_is_due (has_sends checker.version) checker.sends.items checker.told (due_of checker) c.in-Some.message (sym c.at.ensures ∙ c.in-Some.is) (c.has_unsent.ensures.some c.if-has_unsent.true)

pub returns-in-None : goal.returns-in-None
returns-in-None c =
    let checker = c.args.self.now in
    absurd (some_is_due (has_sends checker.version) checker.sends.items checker.told (sym c.at.ensures ∙ c.in-None.is) (c.has_unsent.ensures.some c.if-has_unsent.true))

pub returns-in-Some-at : goal.returns-in-Some-at
returns-in-Some-at c =
    let checker = c.args.self.now in
    mark_is_due (unsent_of checker) checker.marks.items checker.come c.in-Some-at.mark (sym c.at-2.ensures ∙ c.in-Some-at.is) (c.has_unsent.ensures.none c.if-has_unsent.false)

pub returns-in-None-at : goal.returns-in-None-at
returns-in-None-at c =
    let checker = c.args.self.now in
    none_is_due (unsent_of checker) checker.marks.items checker.come (sym c.at-2.ensures ∙ c.in-None-at.is) (c.has_unsent.ensures.none c.if-has_unsent.false)
