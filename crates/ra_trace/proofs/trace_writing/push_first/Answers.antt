use Rattle.std.proofs.Common.{◌++◌, codes, append_assoc}
use Rattle.std.specs.Prelude.{decimal}
use Rattle.ra_text.specs.Lines.{field}
use Rattle.ra_text.proofs.Drafts.{adds_as, adds_both}
use Rattle.ra_trace.specs.Version.{version_word, first_end}
use Rattle.ra_trace.proofs.trace_writing.push_first.Goals as goal

pub returns : goal.returns
returns c =
    let numbers = codes "trace" ++ field (version_word c.args.first.version) ++ field (decimal c.args.first.nodes) ++ field (decimal c.args.first.start) in
    let first = adds_both (adds_both (adds_as c.push.ensures c.first_words.ensures) c.push_number.ensures) c.push_number-2.ensures in
    adds_as (adds_both (adds_both first (adds_as c.push-2.ensures c.last_words.ensures)) c.end_line.ensures) (append_assoc numbers (first_end c.args.first.version) (codes "\n"))
