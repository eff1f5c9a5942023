use Rattle.std.proofs.Common.{◌≡◌, ℕ, ◌+◌, ◌<◌, ◌^◌, sym, subst, arith, rules}
use Rattle.std.proofs.lemmas.Result.{err_from_is_err_and}
use Rattle.ra_cli.specs.Answer.{AreLines, clock_after}
use Rattle.ra_cli.proofs.AnswerCallLemmas.{unwanted, of_clock, of_memory, of_message}
use Rattle.ra_cli.proofs.commands.answer_command.answer_to.Goals as goal

pub returns-in_err-frame : goal.returns-in_err-frame
returns-in_err-frame c =
    let p = err_from_is_err_and c.from_residual.result c.from_residual.ensures.1 in
    rw (p.1, p.2) (c.in_err-frame.ensures.0 c.args.me.node c.args.me.nodes c.requires, c.in_err-frame.ensures.1)

pub returns-in_err-reaction : goal.returns-in_err-reaction
returns-in_err-reaction c =
    let p = err_from_is_err_and c.from_residual-in_err-reaction.result c.from_residual-in_err-reaction.ensures.1 in
    rw (p.1, p.2) (
      unwanted c.args.me.node c.args.me.nodes c.args.input.now c.in_ok-frame.frame _ c.requires c.in_ok-frame.ensures.0 c.in_err-reaction.ensures.err,
      of_message c.args.me.node c.args.me.nodes c.in_ok-frame.frame.message _ c.in_err-reaction.ensures.err,
    )

pub returns : goal.returns
returns c = (c.requires, of_memory)

pub returns-then-frame-eq-MAX_CLOCK : goal.returns-then-frame-eq-MAX_CLOCK
returns-then-frame-eq-MAX_CLOCK c =
    let late : 2 ^ 62 < clock_after 0 c.in_ok-frame.frame.clock = omega (arith, c.if-frame-eq-MAX_CLOCK.true) in
    ((c.requires, c.in_ok-frame.frame, c.in_ok-frame.ensures.0, c.in_ok-reaction.ensures.addressed, late), of_clock)

pub returns-in-Ok : goal.returns-in-Ok
returns-in-Ok c =
    let sends = c.in_ok-reaction.reaction.sends.items in
    let after : clock_after 0 c.in_ok-frame.frame.clock ≡ c.in_ok-frame.frame.clock + 1 = omega arith in
    record {
      frame = c.in_ok-frame.frame;
      sends = sends;
      entered = c.in_ok-reaction.reaction.entered;
      member = c.requires;
      carries = c.in_ok-frame.ensures.0;
      is_for = c.in_ok-reaction.ensures.addressed;
      clock_left = search rules;
      reacts = c.in_ok-reaction.ensures.ok;
      lines = subst (λ (clock : ℕ). AreLines clock sends c.in-Ok.lines.items) (sym after) c.in-Ok.ensures.ok;
    }
