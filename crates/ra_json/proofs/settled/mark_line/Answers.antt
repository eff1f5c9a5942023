use Rattle.std.proofs.Common.{ap, ap₂, ◌∙◌}
use Rattle.std.proofs.lemmas.Result.{IfOk-weaker}
use Rattle.serde_json.specs.Written.{has_float}
use Rattle.ra_json.specs.Objects.{line_of}
use Rattle.ra_json.specs.Settled.{entry_object}
use Rattle.ra_json.proofs.settled.mark_line.Goals as goal

pub line_of-requires : goal.line_of-requires
line_of-requires c = ap has_float c.in_ok-object.ensures

pub returns : goal.returns
returns c = IfOk-weaker c.line_of.result _ _ (λ line is. is ∙ ap line_of (c.in_ok-object.ensures ∙ ap₂ entry_object c.word.ensures c.entry.ensures)) c.line_of.ensures
