use Rattle.std.proofs.Common.{[], ◌++◌, codes, arith}
use Rattle.ra_text.specs.Drafting.{Says}
use Rattle.ra_trace.specs.declared.line.Line.TheVariants.{First}
use Rattle.ra_trace.specs.TraceText.{line_text}
use Rattle.ra_trace.specs.Writing.{prefix_text}
use Rattle.ra_trace.proofs.Traced.{traced_none, all_numbered, traced_all}
use Rattle.ra_trace.proofs.trace_writing.trace_run.Goals as goal

pub returns-in-Err : goal.returns-in-Err
returns-in-Err c empty opened =
    let n = c.args.first.nodes in
    let start = c.args.first.start in
    let first : Says c.push_first.new.text (line_text (First c.args.first.version n start)) = c.push_first.ensures.says [] empty in
    c.in-Err.ensures.traced n start (traced_none c.args.first.version n start c.args.world.now c.push_first.new.text opened first)

pub returns : goal.returns
returns c empty opened =
    let version = c.args.first.version in
    let n = c.args.first.nodes in
    let start = c.args.first.start in
    let law = c.marks_of_runs_are_numbered.ensures in
    let world = c.trace_steps.new.world in
    let first : Says c.push_first.new.text (line_text (First version n start)) = c.push_first.ensures.says [] empty in
    let traced = c.in-Ok.ensures.traced n start (traced_none version n start c.args.world.now c.push_first.new.text opened first) in
    let numbers = all_numbered n start world.moves traced.number traced.run (law.marks n start world.moves traced.number traced.run) (law.taken n start world.moves traced.number traced.run) in
    let trace = traced_all version n start c.args.steps.now.items world c.trace_steps.new.text c.requires traced (omega arith) numbers in
    let text = prefix_text version n start world.moves in
    (world.moves, text ++ codes "end\n", traced.made, trace, c.push.ensures.says text traced.says)
