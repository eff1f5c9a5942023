use Rattle.std.proofs.Common.{◌+◌, ℕ, List, take, get_or, sym, ◌∙◌, subst, arith, inl, inr}
use Rattle.std.specs.Prelude.{Contains}
use Rattle.std.proofs.lemmas.List.{take_all}
use Rattle.ra_schedule.proofs.LookingAgain.{one_more, not_met}
use Rattle.ra_schedule.proofs.choice.enabled.Enabled.look_at_all.Goals as goal

pub loop-member-preserved : goal.loop-member-preserved
loop-member-preserved c =
    let members = c.args.members.now in
    let i = c.loop-member.member-index in
    let so_far = c.loop-member.invariant in
    record {
      alike = c.look_at.ensures.counted.one_each ∙ sym c.requires.counted.one_each;
      count_is = c.look_at.ensures.counted.count_is;
      each = one_more c.args.script.now c.args.world.now.moves c.args.self.now.flags.items c.loop-member.self.flags.items c.look_at.new.self.flags.items
          (get_or members i 0) (λ client. Contains (take i members) client → ⊥) (λ client. Contains (take (i + 1) members) client → ⊥)
          so_far.alike so_far.each c.look_at.ensures.this c.look_at.ensures.others (λ other apart not. not_met members i 0 other c.loop-member-test.true apart not);
    }

pub look_at-requires-clause-counted : goal.look_at-requires-clause-counted
look_at-requires-clause-counted c =
    record { one_each = c.loop-member.invariant.alike ∙ c.requires.counted.one_each; count_is = c.loop-member.invariant.count_is }

pub returns-clause-counted : goal.returns-clause-counted
returns-clause-counted c =
    record { one_each = c.loop-member.invariant.alike ∙ c.requires.counted.one_each; count_is = c.loop-member.invariant.count_is }

pub returns-clause-flags : goal.returns-clause-flags
returns-clause-flags c k d within =
    elim (c.loop-member.invariant.each k d within) [
      | inl right ↦ inl right
      | inr left ↦ inr (
        left.0,
        subst (λ (ms : List ℕ). Contains ms (k + 1) → ⊥) (take_all c.loop-member.member-index c.args.members.now (let past = c.loop-member-test.false in omega arith)) left.1,
      )
    ]
