use Rattle.std.proofs.Common.{◌≡◌, ◌++◌, ◌+◌, flat_map, take, take_all, ap, append_assoc, arith}
use Rattle.std.proofs.lemmas.Grind.{common_steps}
use Rattle.ra_text.proofs.Drafts.{adds_as, adds_both, adds_nothing}
use Rattle.ra_cli.specs.WrongLineChecks.{wrong_line}
use Rattle.ra_cli.proofs.commands.wrong_lines_text.push_wrong_lines.Goals as goal

pub loop-wrong-init : goal.loop-wrong-init
loop-wrong-init c = adds_nothing

pub loop-wrong-preserved : goal.loop-wrong-preserved
loop-wrong-preserved c =
    let items = c.args.firsts.now in
    let i = c.loop-wrong.wrong-index in
    let more : flat_map wrong_line (take i items) ++ wrong_line c.wrong-item.result ≡ flat_map wrong_line (take (i + 1) items) =
    grind (arith, common_steps, append_assoc) in
    adds_as (adds_both c.loop-wrong.invariant c.push_wrong_line.ensures) more

pub returns : goal.returns
returns c =
    adds_as c.loop-wrong.invariant (ap (flat_map wrong_line) (take_all c.loop-wrong.wrong-index c.args.firsts.now c.loop-wrong-test.false))
