use Rattle.std.proofs.Common.{arith, ℕ, ◌≡◌, ◌<◌, ◌≤◌, ◌++◌, ◌∷◌, [], List, length, ap, ◌∙◌, subst, sym, refl}
use Rattle.ra_stamp.specs.declared.entry.Mark.{Mark}
use Rattle.ra_world.specs.Quiet.{requests_in, withdrawn_in}
use Rattle.ra_node.specs.declared.outcome.Outcome.{Outcome}
use Rattle.ra_world.specs.declared.step.Step.{Step}
use Rattle.ra_world.specs.StepLog.{LogState, room_of, move_of, moves_of}
use Rattle.ra_world.proofs.LogCounts.{lost-le, repeated-le, lost_in_le, repeated_in_le, made_more, pushed}
use Rattle.ra_world.proofs.world.step_log.StepLog.push.Goals as goal

pub overflow_add-self : goal.overflow_add-self
overflow_add-self g c =
    let l = c.self.inside in
    let fits : length (moves_of l.made.items) < 18446744073709551615 =
    subst (λ (s : LogState). length s.moves < 18446744073709551615) (sym c.self.view_is) c.requires.for_step in
    omega (arith, c.self.invariant.steps_are, fits)

pub overflow_add-self-2 : goal.overflow_add-self-2
overflow_add-self-2 g c =
    let l = c.self.inside in
    let fits : length (moves_of l.made.items) < 18446744073709551615 =
    subst (λ (s : LogState). length s.moves < 18446744073709551615) (sym c.self.view_is) c.requires.for_step in
    omega (arith, c.self.invariant.steps_are, c.self.invariant.sent_fits, c.len.type_inv, c.len.ensures, c.from.ensures, fits)

pub overflow_add-self-3 : goal.overflow_add-self-3
overflow_add-self-3 g c =
    let l = c.self.inside in
    let fits : length (moves_of l.made.items) < 18446744073709551615 =
    subst (λ (s : LogState). length s.moves < 18446744073709551615) (sym c.self.view_is) c.requires.for_step in
    omega (arith, c.self.invariant.steps_are, c.self.invariant.requests_fit, c.from-2.ensures, fits)

pub overflow_add-self-4 : goal.overflow_add-self-4
overflow_add-self-4 g c =
    let l = c.self.inside in
    let fits : length (moves_of l.made.items) < 18446744073709551615 =
    subst (λ (s : LogState). length s.moves < 18446744073709551615) (sym c.self.view_is) c.requires.for_step in
    omega (arith, c.self.invariant.steps_are, c.self.invariant.withdrawn_fit, c.from-3.ensures, fits)

pub overflow_add-self-5 : goal.overflow_add-self-5
overflow_add-self-5 g c =
    let l = c.self.inside in
    let fits : length (moves_of l.made.items) < 18446744073709551615 =
    subst (λ (s : LogState). length s.moves < 18446744073709551615) (sym c.self.view_is) c.requires.for_step in
    omega (
      arith,
      c.self.invariant.steps_are,
      fits,
      lost-le g.row.KEEPS_MARKS (moves_of l.made.items) l.steps l.marks.items l.sent l.requests l.lost l.repeated l.withdrawn c.self.invariant,
      lost_in_le c.args.step.now,
    )

pub overflow_add-self-6 : goal.overflow_add-self-6
overflow_add-self-6 g c =
    let l = c.self.inside in
    let fits : length (moves_of l.made.items) < 18446744073709551615 =
    subst (λ (s : LogState). length s.moves < 18446744073709551615) (sym c.self.view_is) c.requires.for_step in
    omega (
      arith,
      c.self.invariant.steps_are,
      fits,
      repeated-le g.row.KEEPS_MARKS (moves_of l.made.items) l.steps l.marks.items l.sent l.requests l.lost l.repeated l.withdrawn c.self.invariant,
      repeated_in_le c.args.step.now,
    )

pub invariant_of-self : goal.invariant_of-self
invariant_of-self g c =
    let l = c.self.inside in
    let o = c.args.outcome.now in
    let few : length o.sends.items ≤ 18446744073709551615 = omega (arith, c.len.type_inv, c.len.ensures) in
    let made : c.changes_of-requests.result.0 ≡ requests_in o.marks.items = c.changes_of-requests.ensures.requests ∙ ap requests_in c.as_slice-2.ensures in
    let undone : c.changes_of-requests.result.1 ≡ withdrawn_in o.marks.items = c.changes_of-requests.ensures.withdrawn ∙ ap withdrawn_in c.as_slice-2.ensures in
    let fewer : requests_in o.marks.items ≤ 18446744073709551615 = omega (arith, made) in
    let fewest : withdrawn_in o.marks.items ≤ 18446744073709551615 = omega (arith, undone) in
    pushed g.row.KEEPS_MARKS l.made.items c.and_pair-self-inside.result.items l.steps _ l.marks.items c.keep_marks.new.kept.items
    l.sent c.from.result l.requests c.from-2.result l.lost c.fates_of-lost.result.0 l.repeated c.fates_of-lost.result.1 l.withdrawn c.from-3.result
    c.args.step.now o c.self.invariant few fewer fewest
    c.and_pair-self-inside.ensures refl
    (λ kept. c.keep_marks.ensures kept ∙ ap (λ (xs : List Mark). l.marks.items ++ xs) c.as_slice.ensures)
    (c.from.ensures ∙ c.len.ensures)
    (c.from-2.ensures ∙ made)
    c.fates_of-lost.ensures.lost
    c.fates_of-lost.ensures.repeated
    (c.from-3.ensures ∙ undone)

pub returns : goal.returns
returns g c =
    let one : Step × Outcome = (c.args.step.now, c.args.outcome.now) in
    ap moves_of c.and_pair-self-inside.ensures
    ∙ made_more c.self.inside.made.items one
    ∙ ap (λ (s : LogState). s.moves ++ move_of one ∷ []) c.self.view_is

pub keep_marks-requires : goal.keep_marks-requires
keep_marks-requires g c kept =
    let l = c.self.inside in
    let marks = c.args.outcome.now.marks.items in
    let room = subst (λ (s : LogState). length marks ≤ s.marks_room) (sym c.self.view_is) c.requires.for_marks in
    let here : length marks ≤ l.marks.spare = subst (λ (keeps : ℕ). length marks ≤ room_of keeps l.marks.spare) kept room in
    omega (arith, here, ap length c.as_slice.ensures)
