use Rattle.std.proofs.Common.{◌<◌, List, length, arith, subst, sym, ◌∙◌}
use Rattle.std.proofs.lemmas.List.{take_all, take_more}
use Rattle.ra_stamp.specs.declared.message.Message.{Message}
use Rattle.ra_cli.specs.Answer.{AreLines}
use Rattle.ra_cli.proofs.Replies.{AreLines-push}
use Rattle.ra_cli.proofs.commands.answer_command.lines_of.Goals as goal

pub loop-message-preserved : goal.loop-message-preserved
loop-message-preserved c =
    let line = c.in_ok-push_line.ensures.ok in
    let more : c.loop-message.message-index < length c.as_slice-message-items.result.now = omega arith in
    rw (take_more c.as_slice-message-items.result.now c.loop-message.message-index c.message-item.result, sym c.message-item.is, line.2)
    (AreLines-push c.args.clock _ c.message-item.result line.0 _ c.loop-message.invariant line.1)

pub returns : goal.returns
returns c =
    let all = take_all c.loop-message.message-index c.as_slice-message-items.result.now c.loop-message-test.false in
    record {
      ok = subst (λ (messages : List Message). AreLines c.args.clock messages c.loop-message.text.items) (all ∙ c.as_slice-message-items.ensures)
          c.loop-message.invariant;
    }
