use Rattle.std.proofs.Common.{List, refl, sym, subst}
use Rattle.std.proofs.Math.Logic.{∥∥₁_map}
use Rattle.ra_frame.specs.declared.frame.Frame.{Frame}
use Rattle.ra_book.specs.declared.book.event.BookKind.TheVariants.{Cancel}
use Rattle.ra_book.specs.Book.{Adds}
use Rattle.ra_site.specs.Waiting.{WaitsNot, entry_let_in}
use Rattle.ra_site.proofs.GivenGrants.{given, told_is_given}
use Rattle.ra_site.proofs.Telling.{same_none, same_some, first_of_none}
use Rattle.ra_site.proofs.LostFrames.{still_none, none_as_before}
use Rattle.ra_site.proofs.Waiters.{wait_as_before, wait_on_once, others_go_on}
use Rattle.ra_book.specs.Keeping.{RefusesCancel}
use Rattle.ra_book.specs.declared.error.BookError.{BookError}
use Rattle.ra_book.specs.declared.error.BookError.TheVariants.{Memory}
use Rattle.ra_site.proofs.Refusing.{same_cause, not_cancelled, not_refused}
use Rattle.ra_site.proofs.site.desk.Desk.cancel.Goals as goal

pub take-given_up-requires : goal.take-given_up-requires
take-given_up-requires g c = c.args.self.now.once

pub made_by-requires : goal.made_by-requires
made_by-requires g c = record {
  once = c.take-given_up.ensures.left.once;
  fit = c.in_ok-posted.ensures.fits;
  given = given c.args.self.now.book _ c.in_ok-posted.posted.frames.items c.in_ok-posted.posted.marks.items c.cancel.new.self c.in_ok-posted.ensures.ok c.in_ok-posted.ensures.history;
}

pub invariant_of-self : goal.invariant_of-self
invariant_of-self g c =
    let was = c.args.self.now in
    let same = c.in_err-posted.ensures.err in
    record { flagged = none_as_before was.book _ same was.may_have_lost was.flagged; once = was.once; waits = wait_as_before was.book _ same was.waiters.items was.waits }

pub invariant_of-self-2 : goal.invariant_of-self-2
invariant_of-self-2 g c =
    let was = c.args.self.now in
    let posted = c.in_ok-posted.posted in
    let marks = posted.marks.items in
    let kind = Cancel c.args.client c.args.name in
    record {
      flagged = still_none was.book kind posted.frames.items marks c.cancel.new.self c.in_ok-posted.ensures.ok was.may_have_lost was.flagged;
      once = wait_on_once (entry_let_in marks) c.take-given_up.new.waiters.items c.made_by.new.waiters.items c.made_by.ensures.left c.take-given_up.ensures.left.once;
      waits = ∥∥₁_map was.waits
          (λ all. others_go_on was.book c.args.client c.args.name posted.frames.items marks c.cancel.new.self c.in_ok-posted.ensures.ok c.in_ok-posted.ensures.history
          was.waiters.items c.take-given_up.new.waiters.items c.made_by.new.waiters.items c.take-given_up.ensures.left c.made_by.ensures.left all);
    }

pub returns : goal.returns
returns g c =
    let marks = c.in_ok-posted.posted.marks.items in
    let kind = Cancel c.args.client c.args.name in
    record {
      made = (marks, subst (λ (fs : List Frame). Adds c.args.self.now.book kind fs marks c.cancel.new.self) (sym c.made_by.ensures.frames) c.in_ok-posted.ensures.ok);
      told = same_some _ _ _ c.made_by.ensures.given_up c.take-given_up.ensures.some;
      nobody = same_none (WaitsNot c.args.client c.args.name c.args.self.now.waiters.items) _ _ c.made_by.ensures.given_up (first_of_none _ _ _ c.take-given_up.ensures.none);
      err = tt;
      me = c.in_default.ensures refl;
      refused = λ why is. absurd cc;
      no_memory = λ is. absurd cc;
      others = λ is. absurd cc;
      given = told_is_given c.args.self.now.book _ c.in_ok-posted.posted.frames.items c.in_ok-posted.posted.marks.items c.cancel.new.self c.in_ok-posted.ensures.ok
          _ _ _ refl refl c.made_by.ensures.entered;
    }

pub returns-in_err-posted-clause-others : goal.returns-in_err-posted-clause-others
returns-in_err-posted-clause-others g c = not_cancelled c.in_err-posted.field-0.0 c.from_residual.result c.from_residual.ensures.1

pub returns-in_err-posted-clause-no_memory : goal.returns-in_err-posted-clause-no_memory
returns-in_err-posted-clause-no_memory g c =
    not_refused c.in_err-posted.field-0.0 Memory c.from_residual.result c.from_residual.ensures.1 c.in_err-posted.ensures.no_memory

pub returns-in_err-posted-clause-refused : goal.returns-in_err-posted-clause-refused
returns-in_err-posted-clause-refused g c = λ why is.
    let told = c.in_err-posted.ensures in
    subst (λ (e : BookError). RefusesCancel c.args.self.now.book c.args.client c.args.name e)
    (same_cause c.in_err-posted.field-0.0 why c.from_residual.result c.from_residual.ensures.1 is)
    (record { failed = told.failed; not_waiting = told.not_waiting; clock_full = told.clock_full; allowed = told.allowed })
