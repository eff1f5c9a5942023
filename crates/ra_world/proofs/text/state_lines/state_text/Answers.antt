use Rattle.std.proofs.Common.{[], length, ap}
use Rattle.std.specs.Prelude.{codes}
use Rattle.ra_world.specs.Keeping.{nodes_of}
use Rattle.ra_text.specs.Lines.{total_line}
use Rattle.ra_world.specs.StateLines.{state_text}
use Rattle.ra_text.proofs.Drafts.{adds_as, adds_both}
use Rattle.ra_world.proofs.text.state_lines.state_text.Goals as goal

pub returns : goal.returns
returns c =
    let text = state_text (length c.args.nodes.now) c.args.steps c.args.names.now (nodes_of c.args.nodes.now) c.args.under_way.now.items c.args.clients.now in
    c.finish.ensures.text text
    ((adds_both (adds_both (adds_both (adds_both (adds_as c.push_total_line.ensures (ap (total_line (codes "steps")) c.from.ensures)) c.push_nodes.ensures)
    c.push_messages.ensures) c.push.ensures) c.push_table.ensures).says [] c.new-text.ensures.says)
