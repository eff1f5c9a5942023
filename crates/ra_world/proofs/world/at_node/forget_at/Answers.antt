use Rattle.std.proofs.Common.{lit<, ◌≡◌, ◌⊎◌, ◌≤◌, ◌++◌, ◌∷◌, [], List, length, arith, refl, sym, ap, ◌∙◌, subst, inl, inr}
use Rattle.ra_stamp.specs.declared.message.Message.{Message}
use Rattle.ra_stamp.specs.declared.entry.Mark.{Mark}
use Rattle.ra_node.specs.Events.{NodeEvent}
use Rattle.ra_node.specs.Events.{Event as acts}
use Rattle.ra_world.specs.declared.error.StepError.TheVariants.{Memory}
use Rattle.ra_world.specs.Traffic.{Move}
use Rattle.ra_world.specs.Trying.{IsEventRefusal, TriesAt}
use Rattle.ra_world.specs.World.{IsFull}
use Rattle.ra_world.proofs.StepTries.{at_err, room_for}
use Rattle.ra_world.proofs.world.at_node.forget_at.Goals as goal

-- room for nothing is refused only if no further step can be counted
only_full : (moves : List Move) → (1 ≤ 0) ⊎ (1 ≤ 0) ⊎ IsFull moves → IsFull moves
only_full moves refused = elim refused [
  | inl sends ↦ omega (arith, sends)
  | inr rest ↦ elim rest [ inl marks ↦ omega (arith, marks) | inr full ↦ full ]
]

pub returns-in_err-make_room : goal.returns-in_err-make_room
returns-in_err-make_room g c =
    let old = c.args.node.now in
    let kept = c.args.kept.now in
    at_err c.from_residual.result (λ e. e ≡ Memory)
    (λ q. TriesAt c.args.step.now acts.Forget old kept q old c.make_room.new.self) c.from_residual.ensures.1
    (λ e is. (
      refl,
      c.make_room.ensures.messages,
      c.make_room.ensures.moves,
      subst (IsEventRefusal old kept.log.moves acts.Forget) (sym is) (only_full kept.log.moves c.in_err-make_room.ensures.err),
    ))

pub keep-requires : goal.keep-requires
keep-requires g c =
    let outcome = c.nothing-outcome.result in
    let none = c.nothing-outcome.ensures in (
      lit< tt,
      (
        omega (arith, ap length none.sends),
        room_for c.make_room.new.self.log (length outcome.marks.items) 0 c.in_ok-make_room.ensures.log_room (omega (arith, ap length none.marks)),
      ),
    )

pub returns : goal.returns
returns g c =
    let outcome = c.nothing-outcome.result in
    let none = c.nothing-outcome.ensures in
    let move : Move = record { step = c.args.step.now; sends = outcome.sends.items; marks = outcome.marks.items } in (
      subst (λ (made : List Message × List Mark). NodeEvent c.args.node.now acts.Forget made.0 made.1 c.forget.new.self) (λ k. (sym none.sends k, sym none.marks k)) c.forget.ensures.forgotten,
      (
        c.args.kept.now.under_way.items,
        refl,
        c.keep.ensures.messages ∙ ap (λ (ms : List Message). ms ++ outcome.sends.items) c.make_room.ensures.messages,
      ),
      c.keep.ensures.moves ∙ ap (λ (ms : List Move). ms ++ move ∷ []) c.make_room.ensures.moves,
    )
