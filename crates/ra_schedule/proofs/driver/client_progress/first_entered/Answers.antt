use Rattle.std.proofs.Common.{◌≡◌, ◌+◌, List, ◌++◌, ◌∷◌, [], All, take, sym, ap, ◌∙◌, subst, arith}
use Rattle.std.proofs.lemmas.List.{take_more, take_all}
use Rattle.std.proofs.lemmas.List.Elements.{All-push}
use Rattle.ra_stamp.specs.declared.entry.Mark.{Mark}
use Rattle.ra_schedule.specs.Schedule.{Enters}
use Rattle.ra_schedule.specs.Progress.{NoneEnters}
use Rattle.ra_schedule.proofs.Waiting.{no_entry}
use Rattle.ra_schedule.proofs.driver.client_progress.first_entered.Goals as goal
use Rattle.ra_schedule.proofs.driver.client_progress.first_entered.Goals.{in-Entered, in_default}

pub loop-mark-preserved : goal.loop-mark-preserved
loop-mark-preserved c =
    let marks = c.args.marks.now in
    let i = c.loop-mark.mark-index in
    let mark = c.mark-item.result in
    let more : take (i + 1) marks ≡ take i marks ++ mark ∷ [] =
    take_more marks i mark c.loop-mark-test.true ∙ ap (λ (m : Mark). take i marks ++ m ∷ []) (sym c.mark-item.is) in
    let so_far = c.loop-mark.invariant in
    let not_past = so_far.not_past in
    elim c.match-mark.branch [
      | in-Entered w ↦
          let is = w.place-is in
          let least = w.min-place.ensures in
          let number = w.saturating_sub.ensures in
          record {
            not_past = omega (arith, is, least, not_past);
            none = λ k less.
                subst (λ (ms : List Mark). All (λ m. Enters (k + 1) m → ⊥) ms) (sym more)
                (All-push (λ m. Enters (k + 1) m → ⊥) (take i marks) mark (so_far.none k (omega (arith, is, least, less)))
                (λ enters. let same = subst (Enters (k + 1)) w.in-Entered.is enters in absurd (omega (arith, is, least, number, less, same))));
          }
      | in_default w ↦
          let is = w.place-is in
          record {
            not_past = omega (arith, is, not_past);
            none = λ k less.
                subst (λ (ms : List Mark). All (λ m. Enters (k + 1) m → ⊥) ms) (sym more)
                (All-push (λ m. Enters (k + 1) m → ⊥) (take i marks) mark (so_far.none k (omega (arith, is, less)))
                (no_entry (k + 1) mark w.in_default.not-Entered));
          }
    ]

pub returns-clause-none : goal.returns-clause-none
returns-clause-none c =
    subst (NoneEnters c.loop-mark.place) (take_all c.loop-mark.mark-index c.args.marks.now (let past = c.loop-mark-test.false in omega arith)) c.loop-mark.invariant.none
