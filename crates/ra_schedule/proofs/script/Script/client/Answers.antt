use Rattle.std.proofs.Common.{◌-◌, List, slice_get, sym, ap, ◌∙◌, subst}
use Rattle.ra_schedule.specs.Script.{IsScript, ScriptClient, ScriptState}
use Rattle.ra_schedule.proofs.Meanings.{at_number, looked_up, no_zero, some_number}
use Rattle.ra_schedule.proofs.script.Script.client.Goals as goal

pub returns-then-client-eq0-clause-value : goal.returns-then-client-eq0-clause-value
returns-then-client-eq0-clause-value c = sym (no_zero c.args.self.now c.args.client c.if-client-eq0.true)

pub returns-then-client-eq0-clause-script : goal.returns-then-client-eq0-clause-script
returns-then-client-eq0-clause-script c = subst IsScript c.self.view_is c.self.invariant

pub overflow_sub-client : goal.overflow_sub-client
overflow_sub-client c = some_number c.args.client c.if-client-eq0.false

pub returns-clause-script : goal.returns-clause-script
returns-clause-script c = subst IsScript c.self.view_is c.self.invariant

pub returns-clause-value : goal.returns-clause-value
returns-clause-value c =
    looked_up c.deref.result.now (c.args.client - 1) c.get.result c.get.ensures.lookup.0 c.get.ensures.lookup.1
    ∙ ap (λ (xs : List ScriptClient). slice_get xs (c.args.client - 1)) (c.deref.ensures.value ∙ ap (λ (s : ScriptState). s.clients) c.self.view_is)
    ∙ sym (at_number c.args.self.now c.args.client c.if-client-eq0.false)
