use Rattle.std.proofs.Common.{◌≡◌, ◌≤◌, arith, sym, ap, ◌∙◌, subst}
use Rattle.std.proofs.lemmas.Result.{on_ok_weaker}
use Rattle.ra_world.specs.declared.world.kept_steps.KeptSteps.{KeptSteps}
use Rattle.ra_world.proofs.world.kept_steps.KeptSteps.make_room.Goals as goal
use Rattle.ra_world.proofs.world.kept_steps.KeptSteps.make_room.Goals.{then-sends-gt0+in_ok-reserve, else-sends-gt0}

pub returns-clause-messages : goal.returns-clause-messages
returns-clause-messages g c = elim c.if-sends-gt0.branch [
  | then-sends-gt0+in_ok-reserve w ↦ ap (λ (kept : KeptSteps g.row.KEEPS_MARKS). kept.under_way.items) w.self-is ∙ w.reserve.ensures.same
  | else-sends-gt0 w ↦ ap (λ (kept : KeptSteps g.row.KEEPS_MARKS). kept.under_way.items) w.self-is
]

pub returns-clause-moves : goal.returns-clause-moves
returns-clause-moves g c =
    let same : c.if-sends-gt0.self.log.moves ≡ c.args.self.now.log.moves = elim c.if-sends-gt0.branch [
      | then-sends-gt0+in_ok-reserve w ↦ ap (λ (kept : KeptSteps g.row.KEEPS_MARKS). kept.log.moves) w.self-is
      | else-sends-gt0 w ↦ ap (λ (kept : KeptSteps g.row.KEEPS_MARKS). kept.log.moves) w.self-is
    ] in
    c.reserve-2.ensures.same ∙ same

pub returns-clause-bag_room : goal.returns-clause-bag_room
returns-clause-bag_room g c =
    let room : c.args.sends ≤ c.if-sends-gt0.self.under_way.spare = elim c.if-sends-gt0.branch [
      | then-sends-gt0+in_ok-reserve w ↦ subst (λ (kept : KeptSteps g.row.KEEPS_MARKS). c.args.sends ≤ kept.under_way.spare) (sym w.self-is) w.in_ok-reserve.ensures.ok
      | else-sends-gt0 w ↦ omega (arith, w.if-sends-gt0.false)
    ] in
    on_ok_weaker c.reserve-2.result (λ _. room) c.reserve-2.ensures.ok
