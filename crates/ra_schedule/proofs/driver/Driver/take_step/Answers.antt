use Rattle.std.proofs.Common.{◌≡◌, List, Result, Err, IfOk, IfErr, drop, length, refl, sym, ap, ◌∙◌, subst, arith, inr}
use Rattle.std.specs.Option.{IfSome}
use Rattle.ra_stamp.specs.declared.entry.Mark.{Mark}
use Rattle.ra_world.specs.declared.step.Step.{Step}
use Rattle.ra_world.specs.Traffic.{Move}
use Rattle.ra_world.specs.World.{WorldState}
use Rattle.ra_schedule.specs.declared.driver.client_progress.Progress.{Progress}
use Rattle.ra_schedule.specs.declared.error.DriveError.{DriveError}
use Rattle.ra_schedule.specs.declared.error.DriveError.TheVariants.{Memory}
use Rattle.ra_schedule.specs.Schedule.{StandsFor}
use Rattle.ra_schedule.specs.Driving.{HasFault}
use Rattle.ra_schedule.specs.PolicyState.{IsRandomStateElsewhere}
use Rattle.ra_schedule.specs.Progress.{Tracks, AreCountable, OfEach, IsProgressAfter, NoneEnters}
use Rattle.ra_schedule.proofs.HandedOn.{no_ok, one_refusal}
use Rattle.ra_schedule.proofs.Meanings.{not_memory}
use Rattle.ra_schedule.proofs.Turns.{tracks_on, random_before, driven_more, countable, whole}
use Rattle.ra_schedule.proofs.ScheduleLaws.{schedules_rest_on_runs}
use Rattle.ra_schedule.proofs.driver.Driver.take_step.Goals as goal

pub note_move-requires : goal.note_move-requires
note_move-requires c =
    subst AreCountable (sym c.deref_mut.ensures.value)
    (countable c.args.script.now c.args.world.now c.args.self.now.clients.items c.requires.driven.tracks c.requires.countable)

pub note_step_in-requires-clause-tracked : goal.note_step_in-requires-clause-tracked
note_step_in-requires-clause-tracked c =
    let clients = c.args.self.now.clients in
    let outcome = c.in-Ok-step_near.outcome in
    let move : Move = record { step = c.in-Ok.step; sends = outcome.sends.items; marks = outcome.marks.items } in
    let after = c.note_move.ensures move refl (sym c.as_slice-marks.ensures) in
    let len : length c.note_move.new.list ≡ clients.len = let same = c.note_move.auto.list in let lent = c.deref_mut.ensures.len in omega arith in
    let back = whole c.note_move.new.list (drop (length c.note_move.new.list) clients.items) clients.len (sym len) in
    subst (λ (list : List Progress). Tracks c.args.script.now c.step_near.new.self list) (sym (c.deref.ensures.value ∙ back))
    (tracks_on c.args.script.now c.args.world.now c.step_near.new.self clients.items c.note_move.new.list move c.requires.driven.tracks c.in-Ok-step_near.ensures.ok
    (c.note_move.auto.list ∙ ap length c.deref_mut.ensures.value)
    (subst (λ (list : List Progress). OfEach (IsProgressAfter move) list c.note_move.new.list) c.deref_mut.ensures.value after))

pub note_step_in-requires-clause-random : goal.note_step_in-requires-clause-random
note_step_in-requires-clause-random c =
    let means = subst (λ (m : Result Step DriveError). IfOk m (StandsFor c.args.script.now c.args.world.now.moves c.args.picked.now.choice)) c.in-Ok.is
    c.requires.meaning.ok in
    let outcome = c.in-Ok-step_near.outcome in
    let move : Move = record { step = c.in-Ok.step; sends = outcome.sends.items; marks = outcome.marks.items } in
    let kept = random_before c.args.script.now c.args.world.now c.step_near.new.self c.args.self.now move c.requires.driven c.in-Ok-step_near.ensures.ok c.in-Ok-step_near.ensures.run
    schedules_rest_on_runs c.args.picked.now.choice means in
    subst (λ (ms : List Mark). IfSome c.args.self.now.random (IsRandomStateElsewhere c.in-Ok.step ms c.args.script.now c.step_near.new.self.moves)) (sym c.as_slice-marks.ensures) kept

pub returns-clause-ok : goal.returns-clause-ok
returns-clause-ok c =
    let means = subst (λ (m : Result Step DriveError). IfOk m (StandsFor c.args.script.now c.args.world.now.moves c.args.picked.now.choice)) c.in-Ok.is
    c.requires.meaning.ok in
    let script = c.args.script.now in
    let clients = c.args.self.now.clients in
    let outcome = c.in-Ok-step_near.outcome in
    let move : Move = record { step = c.in-Ok.step; sends = outcome.sends.items; marks = outcome.marks.items } in
    let next = c.in-Ok-step_near.ensures.ok in
    let len : length c.note_move.new.list ≡ clients.len = let same = c.note_move.auto.list in let lent = c.deref_mut.ensures.len in omega arith in
    let back = whole c.note_move.new.list (drop (length c.note_move.new.list) clients.items) clients.len (sym len) in
    let after = subst (λ (list : List Progress). OfEach (IsProgressAfter move) list c.note_move.new.list) c.deref_mut.ensures.value
    (c.note_move.ensures move refl (sym c.as_slice-marks.ensures)) in
    record {
      driven = driven_more script c.args.world.now c.step_near.new.self c.args.self.now move c.requires.driven next c.in-Ok-step_near.ensures.run _
          (subst (λ (list : List Progress). Tracks script c.step_near.new.self list) (sym back)
          (tracks_on script c.args.world.now c.step_near.new.self clients.items c.note_move.new.list move c.requires.driven.tracks next
          (c.note_move.auto.list ∙ ap length c.deref_mut.ensures.value) after))
          (subst (λ (list : List Progress). OfEach (IsProgressAfter move) clients.items list) (sym back) after)
          c.first_entered-self.ensures.not_past (subst (NoneEnters c.first_entered-self.result) c.as_slice-marks.ensures c.first_entered-self.ensures.none)
          c.note_step_in.ensures.random
          (c.in_ok-keep.ensures.steps c.args.world.now.moves move refl c.requires.driven.steps);
      drawn = c.note_step_in.ensures.generator;
      records = refl;
      choices = λ kept. c.in_ok-keep.ensures.choices kept;
      made = (move, means, ap (λ (w : WorldState). w.moves) next);
    }

pub returns-clause-memory : goal.returns-clause-memory
returns-clause-memory c is = absurd (no_ok is)

pub returns-in-Err-clause-err : goal.returns-in-Err-clause-err
returns-in-Err-clause-err c =
    inr (subst (λ (m : Result Step DriveError). IfErr m (HasFault c.args.script.now c.args.world.now.moves c.args.picked.now.choice)) c.in-Err.is c.requires.meaning.err)

pub returns-in-Err-clause-memory : goal.returns-in-Err-clause-memory
returns-in-Err-clause-memory c is =
    absurd (not_memory c.args.script.now c.args.world.now.moves c.args.picked.now.choice c.args.picked.now.meaning c.in-Err.fault c.in-Err.is c.requires.meaning.err
    (one_refusal {X = Unit {0}} (Err c.in-Err.fault) c.in-Err.fault Memory refl is))

pub returns-in_err-keep-clause-memory : goal.returns-in_err-keep-clause-memory
returns-in_err-keep-clause-memory c is = (
  c.in-Ok.step,
  subst (λ (m : Result Step DriveError). IfOk m (StandsFor c.args.script.now c.args.world.now.moves c.args.picked.now.choice)) c.in-Ok.is c.requires.meaning.ok,
)

pub returns-in_default-clause-memory : goal.returns-in_default-clause-memory
returns-in_default-clause-memory c is = (
  c.in-Ok.step,
  subst (λ (m : Result Step DriveError). IfOk m (StandsFor c.args.script.now c.args.world.now.moves c.args.picked.now.choice)) c.in-Ok.is c.requires.meaning.ok,
)
