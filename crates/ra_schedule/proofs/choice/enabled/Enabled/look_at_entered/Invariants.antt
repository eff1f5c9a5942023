use Rattle.std.proofs.Common.{All, take}
use Rattle.ra_schedule.specs.Schedule.{Enters}
use Rattle.ra_schedule.proofs.LookingAgain.{SoFar}
use Rattle.ra_schedule.proofs.choice.enabled.Enabled.look_at_entered.Given as goal

-- the clients that entered by the marks so far were looked at again
abbrev pub invariant-loop-mark : goal.invariant-loop-mark
invariant-loop-mark l = SoFar l.script l.world.moves l.fn.self.flags.items l.self.flags.items l.self.count
    (λ client. All (λ mark. Enters client mark → ⊥) (take l.mark-index l.marks))
