use Rattle.std.proofs.Common.{take}
use Rattle.std.specs.Prelude.{Contains}
use Rattle.ra_schedule.proofs.LookingAgain.{SoFar}
use Rattle.ra_schedule.proofs.choice.enabled.Enabled.look_at_all.Given as goal

-- the members so far were looked at again
abbrev pub invariant-loop-member : goal.invariant-loop-member
invariant-loop-member l = SoFar l.script l.world.moves l.fn.self.flags.items l.self.flags.items l.self.count
    (λ client. Contains (take l.member-index l.members) client → ⊥)
