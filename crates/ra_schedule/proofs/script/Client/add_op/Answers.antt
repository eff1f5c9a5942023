use Rattle.std.proofs.Common.{◌≡◌, List, ap, ◌∙◌, subst, refl}
use Rattle.std.proofs.lemmas.Result.{err_from_is_err_and}
use Rattle.ra_schedule.specs.declared.script.Op.{Op}
use Rattle.ra_schedule.specs.Script.{ScriptClient}
use Rattle.ra_schedule.specs.AddedOps.{HasRoomFor, IsFault}
use Rattle.ra_schedule.proofs.OpAnswers.{fault_told}
use Rattle.ra_schedule.proofs.Plans.{op_pushed}
use Rattle.ra_schedule.proofs.script.Client.add_op.Goals as goal

pub returns-in-Some : goal.returns-in-Some
returns-in-Some c =
    let ops-is : c.deref.result.now ≡ c.args.self.now.ops = c.deref.ensures.value ∙ ap (λ (t : ScriptClient). t.ops) c.self.view_is in
    (fault_told _ _ c.in-Some.fault (subst (λ (xs : List Op). IsFault xs c.args.op c.in-Some.fault) ops-is c.in-Some.ensures), refl)

pub returns-in_err-push : goal.returns-in_err-push
returns-in_err-push c =
    let ops-is : c.deref.result.now ≡ c.args.self.now.ops = c.deref.ensures.value ∙ ap (λ (t : ScriptClient). t.ops) c.self.view_is in
    let p = err_from_is_err_and c.from_residual.result c.from_residual.ensures.1 in
    rw (p.1, p.2) (
      subst (λ (xs : List Op). HasRoomFor xs c.args.op) ops-is c.in_default.ensures,
      (λ k. record { node = c.self.inside.node; ops = c.in_err-push.ensures.items k }) ∙ c.self.view_is,
    )

pub returns : goal.returns
returns c =
    let ops-is : c.deref.result.now ≡ c.args.self.now.ops = c.deref.ensures.value ∙ ap (λ (t : ScriptClient). t.ops) c.self.view_is in (
      subst (λ (xs : List Op). HasRoomFor xs c.args.op) ops-is c.in_default.ensures,
      op_pushed c.self.inside.node c.self.inside.ops.items c.push.new.self.items c.args.self.now c.args.op c.self.view_is c.in_ok-push.ensures.items,
    )
