-- proofs/text/state_lines/push_others/Answers.antt
use Rattle.std.proofs.Common.{◌≡◌, ◌+◌, ℕ, Bool, [], flat_map, refl, sym, ap, ◌∙◌, arith}
use Rattle.std.specs.Prelude.{decimal, if◌then◌else◌}
use Rattle.std.specs.List.{range_with_len}
use Rattle.ra_node.specs.Node.{resource_at}
use Rattle.ra_text.specs.Lines.{field}
use Rattle.ra_world.specs.StateLines.{awaits_line, awaited_line, awaited_lines, defers_line, deferred_line, deferred_lines}
use Rattle.ra_text.specs.Drafting.{Adds}
use Rattle.ra_text.proofs.Drafts.{adds_nothing, adds_as, adds_to, adds_both}
use Rattle.ra_world.proofs.StateTexts.{next_lines, no_others, nothing}
use Rattle.ra_world.proofs.text.state_lines.push_others.Goals as goal
use Rattle.ra_world.proofs.text.state_lines.push_others.Goals.{then-waits_for, else-waits_for, in-Some, in_default}

pub returns-then-is_none-2 : goal.returns-then-is_none-2
returns-then-is_none-2 c =
    adds_as adds_nothing (sym (no_others c.args.nodes c.args.me c.args.name.now c.args.node.now c.waiter.ensures.consistent
    (sym c.waiter.ensures.value ∙ nothing c.waiter.result c.is_none.result c.is_none.ensures c.if-is_none.true)
    (sym c.holder.ensures.value ∙ nothing c.holder.result c.is_none-then-is_none.result c.is_none-then-is_none.ensures c.if-is_none-2.true)))

pub loop-awaited-init : goal.loop-awaited-init
loop-awaited-init c = adds_nothing

pub loop-awaited-preserved : goal.loop-awaited-preserved
loop-awaited-preserved c =
    let name = c.args.name.now in
    let line = awaited_line c.args.me name (resource_at c.args.node.now name).state in
    let other = c.at-other.result in
    let choose = λ (b : Bool). if b then awaits_line c.args.me name other else [] in
    let adds : Adds c.loop-awaited.text (line other) c.if-waits_for.text =
    elim c.if-waits_for.branch [
      | then-waits_for w ↦
          adds_to w.text-is (adds_as (adds_both (adds_both w.push_at.ensures (adds_as w.push_number.ensures (ap (λ (n : ℕ). field (decimal n)) w.get.ensures.value))) w.end_line.ensures)
          (ap choose (sym w.if-waits_for.true ∙ c.waits_for.ensures.value)))
      | else-waits_for w ↦ adds_to w.text-is (adds_as adds_nothing (ap choose (sym w.if-waits_for.false ∙ c.waits_for.ensures.value)))
    ] in
    adds_as (adds_both c.loop-awaited.invariant adds)
    (next_lines line [] (flat_map line (range_with_len 1 c.loop-awaited.awaited)) _ c.loop-awaited.awaited other refl
    (c.at-other.ensures ∙ ap (λ (n : ℕ). n + 1) c.from.ensures) refl)

pub loop-deferred-init : goal.loop-deferred-init
loop-deferred-init c = adds_nothing

pub loop-deferred-preserved : goal.loop-deferred-preserved
loop-deferred-preserved c =
    let name = c.args.name.now in
    let line = deferred_line c.args.me name (resource_at c.args.node.now name).state in
    let other = c.at-other-in-loop-deferred.result in
    let adds : Adds c.loop-deferred.text (line other) c.match-deferred.text =
    elim c.match-deferred.branch [
      | in-Some w ↦
          adds_to w.text-is (adds_as
          (adds_both (adds_both (adds_both w.push_at-in-Some.ensures (adds_as w.push_number-in-Some.ensures (ap (λ (n : ℕ). field (decimal n)) w.get-in-Some.ensures.value)))
          w.push_number-in-Some-2.ensures) w.end_line-in-Some.ensures)
          (ap (defers_line c.args.me name other) w.in-Some.ensures.value))
      | in_default w ↦ adds_to w.text-is (adds_as adds_nothing (ap (defers_line c.args.me name other) w.in_default.ensures.value))
    ] in
    adds_as (adds_both c.loop-deferred.invariant adds)
    (next_lines line [] (flat_map line (range_with_len 1 c.loop-deferred.deferred)) _ c.loop-deferred.deferred other refl
    (c.at-other-in-loop-deferred.ensures ∙ ap (λ (n : ℕ). n + 1) c.from-in-loop-deferred.ensures) refl)

pub returns : goal.returns
returns c =
    let name = c.args.name.now in
    let state = (resource_at c.args.node.now name).state in
    let all_awaited : c.loop-awaited.awaited ≡ c.args.nodes = omega (arith, c.get-awaited-end.ensures.value, c.loop-awaited-test.false, c.loop-awaited.auto.awaited-end) in
    let all_deferred : c.loop-deferred.deferred ≡ c.args.nodes = omega (arith, c.get-deferred-end.ensures.value, c.loop-deferred-test.false, c.loop-deferred.auto.deferred-end) in
    adds_both (adds_as c.loop-awaited.invariant (ap (λ (n : ℕ). awaited_lines n c.args.me name state) all_awaited))
    (adds_as c.loop-deferred.invariant (ap (λ (n : ℕ). deferred_lines n c.args.me name state) all_deferred))
