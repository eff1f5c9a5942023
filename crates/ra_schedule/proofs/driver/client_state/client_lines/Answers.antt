use Rattle.std.proofs.Common.{◌≡◌, ℕ, ◌+◌, ◌++◌, ◌<◌, [], arith, length, refl, sym, ap, subst}
use Rattle.std.specs.Prelude.{decimal}
use Rattle.std.proofs.lemmas.Result.{IfOk-weaker}
use Rattle.ra_text.specs.Lines.{field}
use Rattle.ra_text.proofs.Drafts.{adds_as, adds_both}
use Rattle.ra_schedule.specs.StateText.{AreClientLines, client_line}
use Rattle.ra_schedule.proofs.ClientLines.{is_there, line_of, next_line, all_lines}
use Rattle.ra_schedule.proofs.driver.client_state.client_lines.Goals as goal

pub unreachable-requires : goal.unreachable-requires
unreachable-requires c =
    let script = c.args.script.now in
    let within : c.loop-place.place < length script.clients = omega (arith, c.loop-place-test.true, c.clients-place-end.ensures.value) in
    is_there script (c.loop-place.place + 1) c.loop-place.place refl within c.in_default.ensures.value

pub loop-place-init : goal.loop-place-init
loop-place-init c = ([], refl, c.new-text.ensures.says)

pub loop-place-preserved : goal.loop-place-preserved
loop-place-preserved c =
    let script = c.args.script.now in
    let moves = c.args.world.now.moves in
    let place = c.loop-place.place in
    let (so_far, lines, said) = c.loop-place.invariant in
    let line = client_line (place + 1) c.in-Some.node c.state_of-state.result in
    let adds = adds_both (adds_both (adds_both (adds_both c.push.ensures c.push_number.ensures)
    (adds_as c.push_number-in-loop-place.ensures (ap (λ (n : ℕ). field (decimal n)) c.get.ensures.value))) c.push_state.ensures) c.end_line.ensures in (
      so_far ++ line,
      next_line script moves place (place + 1) so_far line (so_far ++ line) refl lines
          (line_of script moves (place + 1) c.in-Some.node c.state_of-state.result (sym c.in-Some.ensures.value) c.state_of-state.ensures) refl,
      adds.says so_far said,
    )

pub returns : goal.returns
returns c =
    let script = c.args.script.now in
    let moves = c.args.world.now.moves in
    let (so_far, lines, said) = c.loop-place.invariant in
    let all : c.loop-place.place ≡ length script.clients = omega (arith, c.loop-place-test.false, c.clients-place-end.ensures.value) in
    let are = all_lines script moves c.loop-place.place so_far all lines in
    IfOk-weaker c.finish.result _ _ (λ text is. subst (AreClientLines script moves (length script.clients)) (sym is) are) (c.finish.ensures.text so_far said)
