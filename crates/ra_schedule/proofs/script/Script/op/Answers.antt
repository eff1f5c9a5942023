use Rattle.std.proofs.Common.{List, slice_get, ap, ◌∙◌}
use Rattle.std.specs.Prelude.{option_and_then}
use Rattle.ra_schedule.specs.declared.script.Op.{Op}
use Rattle.ra_schedule.specs.Script.{ScriptClient}
use Rattle.ra_schedule.proofs.Meanings.{looked_up}
use Rattle.ra_schedule.proofs.script.Script.op.Goals as goal

pub returns-in-Some-clause-value : goal.returns-in-Some-clause-value
returns-in-Some-clause-value c =
    c.copied.ensures
    ∙ looked_up c.deref.result.now c.args.place c.get.result c.get.ensures.lookup.0 c.get.ensures.lookup.1
    ∙ ap (λ (ops : List Op). slice_get ops c.args.place) (c.deref.ensures.value ∙ ap (λ (who : ScriptClient). who.ops) c.client-in-Some.view_is)
    ∙ ap (option_and_then (λ (who : ScriptClient). slice_get who.ops c.args.place)) c.in-Some.ensures.value
