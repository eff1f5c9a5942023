use Rattle.std.proofs.Common.{◌≡◌, ◌+◌, ◌≤◌, Bool, false, Option, Some, None, cond, sym, ap, ◌∙◌, subst, arith}
use Rattle.std.specs.Prelude.{is_some, not, option_map}
use Rattle.std.proofs.lemmas.Bool.{false≢true, iff_false, not-false}
use Rattle.ra_stamp.specs.declared.entry.Entry.{Entry}
use Rattle.ra_schedule.specs.Script.{ScriptClient, client_at}
use Rattle.ra_cluster.specs.Plan.{marks_of_client, client_of_mark, is_request}
use Rattle.ra_cluster.proofs.Planned.{SameLeft, skip_mark, no_operation, wrong_mark, take_mark, all_marks, of_client}
use Rattle.ra_book.proofs.Truth.{no, none_of}
use Rattle.ra_cluster.proofs.script_plan.follows_ops.Goals as goal
use Rattle.ra_cluster.proofs.script_plan.follows_ops.Goals.{then-not-requested, else-not-requested}

pub returns-in_default-op : goal.returns-in_default-op
returns-in_default-op c =
    let client = c.args.client in
    let marks = c.args.marks.now in
    let o = client_at c.args.script.now client in
    let mine : client_of_mark c.mark-item.result ≡ client = sym (ap (λ (e : Entry). e.client) c.entry.ensures) ∙ c.if-entry-client.false in
    no (λ followed.
    no_operation c.in-Some.node o client marks c.loop-mark.requested c.loop-mark.place c.loop-mark.mark-index c.mark-item.result (omega arith) c.mark-item.is mine (sym c.in_default-op.is ∙ c.op.ensures.value) c.loop-mark.invariant.left ((of_client o c.in-Some.node (marks_of_client client marks) c.in-Some.ensures.value).0 followed))

pub returns-then-not-is_next : goal.returns-then-not-is_next
returns-then-not-is_next c =
    let client = c.args.client in
    let marks = c.args.marks.now in
    let o = client_at c.args.script.now client in
    let mine : client_of_mark c.mark-item.result ≡ client = sym (ap (λ (e : Entry). e.client) c.entry.ensures) ∙ c.if-entry-client.false in
    no (λ followed.
    wrong_mark c.in-Some.node o client marks c.loop-mark.requested c.loop-mark.place c.loop-mark.mark-index c.mark-item.result c.in-Some-op.op (omega arith) c.mark-item.is mine (sym c.in-Some-op.is ∙ c.op.ensures.value) (iff_false c.is_next.ensures c.if-not-is_next.true) c.loop-mark.invariant.left ((of_client o c.in-Some.node (marks_of_client client marks) c.in-Some.ensures.value).0 followed))

pub loop-mark-preserved : goal.loop-mark-preserved
loop-mark-preserved c =
    let client = c.args.client in
    let marks = c.args.marks.now in
    let o = client_at c.args.script.now client in
    let place = c.loop-mark.place in
    let next = c.if-not-requested.place in
    let asked = is_request c.mark-item.result in
    let mine : client_of_mark c.mark-item.result ≡ client = sym (ap (λ (e : Entry). e.client) c.entry.ensures) ∙ c.if-entry-client.false in
    let moved : next ≡ cond asked place (place + 1) =
    elim c.if-not-requested.branch [
      | then-not-requested w ↦ w.place-is ∙ sym (ap (λ (b : Bool). cond b place (place + 1)) (sym c.is_request-requested.ensures ∙ w.if-not-requested.true))
      | else-not-requested w ↦ w.place-is ∙ sym (ap (λ (b : Bool). cond b place (place + 1)) (sym c.is_request-requested.ensures ∙ w.if-not-requested.false))
    ] in
    let few : next ≤ c.loop-mark.mark-index + 1 =
    elim c.if-not-requested.branch [
      | then-not-requested w ↦ omega (arith, w.place-is, c.loop-mark.invariant.few)
      | else-not-requested w ↦ omega (arith, w.place-is, c.loop-mark.invariant.few)
    ] in
    let P : Bool → Type 0 = λ b. SameLeft c.in-Some.node o client marks b next (c.loop-mark.mark-index + 1) in
    let left : P asked =
    take_mark c.in-Some.node o client marks c.loop-mark.requested place c.loop-mark.mark-index c.mark-item.result c.in-Some-op.op next (omega arith) c.mark-item.is mine (sym c.in-Some-op.is ∙ c.op.ensures.value) (c.is_next.ensures.0 c.if-not-is_next.false) moved c.loop-mark.invariant.left in
    record {
      few = few;
      left = subst P (sym c.is_request-requested.ensures) left;
    }

pub returns : goal.returns
returns c =
    let client = c.args.client in
    let marks = c.args.marks.now in
    let o = client_at c.args.script.now client in
    let all = all_marks c.in-Some.node o client marks c.loop-mark.requested c.loop-mark.place c.loop-mark.mark-index (omega arith) c.loop-mark.invariant.left in
    let of = of_client o c.in-Some.node (marks_of_client client marks) c.in-Some.ensures.value in (
      λ says.
          let none : is_some c.op-2.result ≡ false = c.is_none.ensures ∙ ap not says in
          of.1 (all.1 (c.if-requested.false, none_of c.op-2.result none ∙ c.op-2.ensures.value)),
      λ followed.
          let none = all.0 (of.0 followed) in
          not-false c.is_none.result (sym c.is_none.ensures ∙ ap is_some (c.op-2.ensures.value ∙ sym none.1)),
    )

-- a client that is not there does nothing
nobody : (o : Option ScriptClient) (who : ScriptClient) → None ≡ option_map (λ (c : ScriptClient). c.node) o → o ≡ Some who → ⊥
nobody None who none is = cc
nobody (Some other) who none is = cc

pub returns-in_default : goal.returns-in_default
returns-in_default c = no (λ followed. nobody (client_at c.args.script.now c.args.client) followed.0 c.in_default.ensures.value followed.1)

pub returns-then-requested : goal.returns-then-requested
returns-then-requested c =
    let client = c.args.client in
    let marks = c.args.marks.now in
    let o = client_at c.args.script.now client in
    let all = all_marks c.in-Some.node o client marks c.loop-mark.requested c.loop-mark.place c.loop-mark.mark-index (omega arith) c.loop-mark.invariant.left in
    let of = of_client o c.in-Some.node (marks_of_client client marks) c.in-Some.ensures.value in
    no (λ followed. let none = all.0 (of.0 followed) in false≢true (sym none.0 ∙ c.if-requested.true))

-- a mark of another client
pub loop-mark-preserved-then-entry-client : goal.loop-mark-preserved-then-entry-client
loop-mark-preserved-then-entry-client c =
    let client = c.args.client in
    let o = client_at c.args.script.now client in
    let other = λ (mine : client_of_mark c.mark-item.result ≡ client). c.if-entry-client.true (ap (λ (e : Entry). e.client) c.entry.ensures ∙ mine) in
    record {
      few = omega (arith, c.loop-mark.invariant.few);
      left = skip_mark c.in-Some.node o client c.args.marks.now c.loop-mark.requested c.loop-mark.place c.loop-mark.mark-index c.mark-item.result (omega arith) c.mark-item.is other c.loop-mark.invariant.left;
    }
