use Rattle.std.proofs.Common.{◌≡◌, ◌+◌, ◌++◌, ◌∷◌, [], ℕ, List, All, take, sym, ap, ◌∙◌, subst, arith, inl, inr}
use Rattle.std.proofs.lemmas.List.{take_more, take_all}
use Rattle.std.proofs.lemmas.List.Elements.{All-push}
use Rattle.ra_stamp.specs.declared.entry.Mark.{Mark}
use Rattle.ra_schedule.specs.declared.choice.enabled.Enabled.{Enabled}
use Rattle.ra_schedule.specs.Schedule.{Enters}
use Rattle.ra_schedule.proofs.LookingAgain.{SoFar, one_more, no_more}
use Rattle.ra_schedule.proofs.Waiting.{no_entry}
use Rattle.ra_schedule.proofs.choice.enabled.Enabled.look_at_entered.Goals as goal
use Rattle.ra_schedule.proofs.choice.enabled.Enabled.look_at_entered.Goals.{in-Entered, in_default}

-- the client entered by none of these marks
abbrev IsSilent : List Mark → ℕ → Type 0
IsSilent marks client = All (λ mark. Enters client mark → ⊥) marks

pub loop-mark-preserved : goal.loop-mark-preserved
loop-mark-preserved c =
    let script = c.args.script.now in
    let moves = c.args.world.now.moves in
    let old = c.args.self.now.flags.items in
    let marks = c.args.marks.now in
    let i = c.loop-mark.mark-index in
    let mark = c.mark-item.result in
    let so_far = c.loop-mark.invariant in
    let more : take (i + 1) marks ≡ take i marks ++ mark ∷ [] =
    take_more marks i mark c.loop-mark-test.true ∙ ap (λ (m : Mark). take i marks ++ m ∷ []) (sym c.mark-item.is) in
    let silent : (client : ℕ) → (Enters client mark → ⊥) → IsSilent (take i marks) client → IsSilent (take (i + 1) marks) client =
    λ client not all. subst (λ (ms : List Mark). IsSilent ms client) (sym more) (All-push (λ m. Enters client m → ⊥) (take i marks) mark all not) in
    elim c.match-mark.branch [
      | in-Entered w ↦
          let entry = w.in-Entered.entry in
          subst (λ (e : Enabled). SoFar script moves old e.flags.items e.count (IsSilent (take (i + 1) marks))) (sym w.self-is)
          (record {
            alike = w.look_at.ensures.counted.one_each ∙ sym c.requires.counted.one_each;
            count_is = w.look_at.ensures.counted.count_is;
            each = one_more script moves old c.loop-mark.self.flags.items w.look_at.new.self.flags.items entry.client (IsSilent (take i marks)) (IsSilent (take (i + 1) marks))
                so_far.alike so_far.each w.look_at.ensures.this w.look_at.ensures.others
                (λ other apart all. silent other (λ h. apart (sym (subst (λ (m : Mark). Enters other m) w.in-Entered.is h))) all);
          })
      | in_default w ↦
          subst (λ (e : Enabled). SoFar script moves old e.flags.items e.count (IsSilent (take (i + 1) marks))) (sym w.self-is)
          (record {
            alike = so_far.alike;
            count_is = so_far.count_is;
            each = no_more script moves old c.loop-mark.self.flags.items (IsSilent (take i marks)) (IsSilent (take (i + 1) marks)) so_far.each
                (λ other all. silent other (no_entry other mark w.in_default.not-Entered) all);
          })
    ]

pub look_at-requires-clause-counted : goal.look_at-requires-clause-counted
look_at-requires-clause-counted c =
    record { one_each = c.loop-mark.invariant.alike ∙ c.requires.counted.one_each; count_is = c.loop-mark.invariant.count_is }

pub returns-clause-counted : goal.returns-clause-counted
returns-clause-counted c =
    record { one_each = c.loop-mark.invariant.alike ∙ c.requires.counted.one_each; count_is = c.loop-mark.invariant.count_is }

pub returns-clause-flags : goal.returns-clause-flags
returns-clause-flags c k d within =
    elim (c.loop-mark.invariant.each k d within) [
      | inl right ↦ inl right
      | inr left ↦ inr (
        left.0,
        subst (λ (ms : List Mark). IsSilent ms (k + 1)) (take_all c.loop-mark.mark-index c.args.marks.now (let past = c.loop-mark-test.false in omega arith)) left.1,
      )
    ]
