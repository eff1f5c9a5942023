use Rattle.std.proofs.Common.{rules, ◌≡◌, Result, Ok, Err, sym, ap, ◌∙◌, inl, inr}
use Rattle.std.proofs.Math.Logic.{∥∥₁_map}
use Rattle.ra_book.specs.History.{clock_of}
use Rattle.ra_book.specs.Book.{BookState}
use Rattle.ra_site.specs.Losses.{lost_frames}
use Rattle.ra_site.proofs.LostFrames.{none_as_before}
use Rattle.ra_site.proofs.Waiters.{wait_as_before, wait_through_taking}
use Rattle.ra_site.specs.declared.site.take_error.TakeError.{TakeError}
use Rattle.ra_site.specs.declared.site.take_error.TakeError.TheVariants.{OutOfTurn}
use Rattle.ra_site.proofs.site.desk.Desk.hand_over.Goals as goal

pub returns-clause-handed : goal.returns-clause-handed
returns-clause-handed c = record {
  me = search rules;
  history = c.me.ensures.history;
  clock = sym c.taken_clock.ensures.value ∙ c.if-taken_clock-after.false;
  events_are = c.in_ok-events.ensures.events;
  lost_are = c.in_ok-lost.ensures;
}

-- what is handed over is not refused
made : {X : Type 0} (x : X) → ◌≡◌ {A = Result X TakeError} (Ok x) (Err OutOfTurn) → ⊥
made x is = cc

pub returns-clause-out_of_turn : goal.returns-clause-out_of_turn
returns-clause-out_of_turn c =
    let me : c.args.self.now.book.me ≡ c.args.node = search rules in
    let clock : clock_of c.args.self.now.book.taken.events ≡ c.args.after = sym c.taken_clock.ensures.value ∙ c.if-taken_clock-after.false in (
      λ is. absurd (made _ is),
      λ other. elim other [
        | inl another ↦ absurd (another me)
        | inr past ↦ absurd (past (sym clock))
      ],
    )

pub invariant_of-self : goal.invariant_of-self
invariant_of-self c =
    let was = c.args.self.now in
    let same = c.in_err-events.ensures.err in
    record { flagged = none_as_before was.book _ same was.may_have_lost was.flagged; once = was.once; waits = wait_as_before was.book _ same was.waiters.items was.waits }

pub invariant_of-self-2 : goal.invariant_of-self-2
invariant_of-self-2 c =
    let was = c.args.self.now in
    let taken = c.in_ok-events.ensures.ok in
    record {
      flagged = λ not. ap (λ (b : BookState). lost_frames b.sent) taken;
      once = was.once;
      waits = ∥∥₁_map was.waits (wait_through_taking was.book c.take_all.new.self taken was.waiters.items);
    }
