use Rattle.std.proofs.Common.{ap, ◌∙◌}
use Rattle.std.proofs.lemmas.Result.{IfOk-weaker}
use Rattle.serde_json.specs.Written.{has_float}
use Rattle.ra_json.specs.Objects.{line_of}
use Rattle.ra_json.proofs.Floats.{none_in_marks_verdict}
use Rattle.ra_json.proofs.verdicts.marks_verdict_line.Goals as goal

pub line_of-requires : goal.line_of-requires
line_of-requires c = ap has_float c.in_ok-object.ensures ∙ none_in_marks_verdict c.args.complete c.args.verdict.now

pub returns : goal.returns
returns c = IfOk-weaker c.line_of.result _ _ (λ line is. is ∙ ap line_of c.in_ok-object.ensures) c.line_of.ensures
