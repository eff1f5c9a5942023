use Rattle.std.proofs.Common.{◌≡◌, ◌+◌, true, drop, sym, ◌∙◌, arith}
use Rattle.ra_trace.specs.Forms.{allows_sent}
use Rattle.ra_trace.proofs.Taking.{sent_not_allowed, all_are_told, sent_is_not_next, sent_is_taken, sent_is_not_last}
use Rattle.ra_trace.proofs.checker.Checker.take_sent.Goals as goal

pub returns-then-not-allows_sent-clause-judged : goal.returns-then-not-allows_sent-clause-judged
returns-then-not-allows_sent-clause-judged c = sent_not_allowed c.args.self.now c.args.message.now (sym c.allows_sent.ensures ∙ c.if-not-allows_sent.true)

pub returns-then-not-is_next-clause-judged : goal.returns-then-not-is_next-clause-judged
returns-then-not-is_next-clause-judged c =
    let checker = c.args.self.now in
    let message = c.args.message.now in
    let allowed : allows_sent checker.version message ≡ true = sym c.allows_sent.ensures ∙ c.if-not-allows_sent.false in
    let all = all_are_told checker.version message (drop checker.told checker.sends.items) allowed in
    sent_is_not_next checker message allowed (λ others e. c.is_next.ensures.other c.if-not-is_next.true others (sym all ∙ e))

pub overflow_add-self : goal.overflow_add-self
overflow_add-self c = omega (arith, c.is_next.ensures.fits c.if-not-is_next.false)

pub returns-clause-judged : goal.returns-clause-judged
returns-clause-judged c =
    let checker = c.args.self.now in
    let message = c.args.message.now in
    let allowed : allows_sent checker.version message ≡ true = sym c.allows_sent.ensures ∙ c.if-not-allows_sent.false in
    let left = drop (checker.told + 1) checker.sends.items in (
      sent_is_not_last message,
      sent_is_taken checker message left allowed
          (all_are_told checker.version message (drop checker.told checker.sends.items) allowed ∙ c.is_next.ensures.next c.if-not-is_next.false)
          (all_are_told checker.version message left allowed),
    )
