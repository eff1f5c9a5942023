use Rattle.std.proofs.Common.{List, [], ◌∷◌, ◌++◌, All, refl, sym, ap, ◌∙◌, subst}
use Rattle.std.proofs.Math.Logic.{∥∥₁_map}
use Rattle.ra_frame.specs.declared.frame.Frame.{Frame}
use Rattle.ra_book.specs.declared.book.event.BookKind.TheVariants.{Ask}
use Rattle.ra_book.specs.Book.{Adds}
use Rattle.ra_site.specs.declared.site.waiters.Waiter.{Waiter}
use Rattle.ra_site.specs.Waiting.{IsEachOnce, WaitOn, WaitsIn, entry_let_in}
use Rattle.ra_site.proofs.GivenGrants.{given, told_is_given}
use Rattle.ra_site.proofs.LostFrames.{still_none, none_as_before}
use Rattle.ra_site.proofs.Waiters.{wait_as_before, wait_on_once, asked_once, asker_goes_on, waits_if_untold}
use Rattle.ra_book.specs.Keeping.{RefusesAsk}
use Rattle.ra_book.specs.declared.error.BookError.{BookError}
use Rattle.ra_site.proofs.Refusing.{same_cause, not_cancelled}
use Rattle.ra_site.proofs.site.desk.Desk.ask.Goals as goal

pub invariant_of-self : goal.invariant_of-self
invariant_of-self g c =
    let was = c.args.self.now in
    let same = c.make_waiter.ensures.same in
    record {
      flagged = was.flagged;
      once = subst IsEachOnce (sym {A = List Waiter} same) was.once;
      waits = subst (λ (ws : List Waiter). ∥ All (WaitsIn was.book) ws ∥₁) (sym {A = List Waiter} same) was.waits;
    }

pub invariant_of-self-in-Break-1 : goal.invariant_of-self-in-Break-1
invariant_of-self-in-Break-1 g c =
    let was = c.args.self.now in
    let same = c.make_waiter.ensures.same in
    let as_before = c.in_err-posted.ensures.err in
    record {
      flagged = none_as_before was.book _ as_before was.may_have_lost was.flagged;
      once = subst IsEachOnce (sym {A = List Waiter} same) was.once;
      waits = subst (λ (ws : List Waiter). ∥ All (WaitsIn c.ask.new.self) ws ∥₁) (sym {A = List Waiter} same) (wait_as_before was.book _ as_before was.waiters.items was.waits);
    }

pub made_by-requires : goal.made_by-requires
made_by-requires g c =
    let was = c.args.self.now in
    let asked = c.args.request.now in
    let posted = c.in_ok-posted.posted in
    let waiter = c.in-Some-make_waiter.waiter in
    let adds = c.in_ok-posted.ensures.ok in
    let all = c.push_reserved.ensures.items ∙ ap (λ (ws : List Waiter). ws ++ waiter ∷ []) c.make_waiter.ensures.same in
    record {
      once = subst IsEachOnce (sym {A = List Waiter} all)
          (asked_once was.book asked.client asked.name asked.mode posted.frames.items posted.marks.items c.ask.new.self adds was.waiters.items waiter c.in-Some-make_waiter.ensures.client was.waits was.once);
      fit = c.in_ok-posted.ensures.fits;
      given = given was.book _ posted.frames.items posted.marks.items c.ask.new.self adds c.in_ok-posted.ensures.history;
    }

pub invariant_of-self-2 : goal.invariant_of-self-2
invariant_of-self-2 g c =
    let was = c.args.self.now in
    let asked = c.args.request.now in
    let posted = c.in_ok-posted.posted in
    let marks = posted.marks.items in
    let waiter = c.in-Some-make_waiter.waiter in
    let is = c.in-Some-make_waiter.ensures.client in
    let adds = c.in_ok-posted.ensures.ok in
    let left = c.made_by.new.waiters.items in
    let all = c.push_reserved.ensures.items ∙ ap (λ (ws : List Waiter). ws ++ waiter ∷ []) c.make_waiter.ensures.same in
    let on : WaitOn (entry_let_in marks) (was.waiters.items ++ waiter ∷ []) left = subst (λ (ws : List Waiter). WaitOn (entry_let_in marks) ws left) all c.made_by.ensures.left in
    record {
      flagged = still_none was.book _ posted.frames.items marks c.ask.new.self adds was.may_have_lost was.flagged;
      once = wait_on_once (entry_let_in marks) (was.waiters.items ++ waiter ∷ []) left on
          (asked_once was.book asked.client asked.name asked.mode posted.frames.items marks c.ask.new.self adds was.waiters.items waiter is was.waits was.once);
      waits = ∥∥₁_map was.waits
          (asker_goes_on was.book asked.client asked.name asked.mode posted.frames.items marks c.ask.new.self adds c.in_ok-posted.ensures.history waiter is was.waiters.items left on);
    }

pub returns : goal.returns
returns g c =
    let asked = c.args.request.now in
    let posted = c.in_ok-posted.posted in
    let marks = posted.marks.items in
    let kind = Ask asked.client asked.name asked.mode in
    record {
      made = (marks, subst (λ (fs : List Frame). Adds c.args.self.now.book kind fs marks c.ask.new.self) (sym c.made_by.ensures.frames) c.in_ok-posted.ensures.ok);
      waits = waits_if_untold c.made_by.result.told asked.client asked.name c.make_waiter.new.waiters.items c.in-Some-make_waiter.waiter _ _ c.in-Some-make_waiter.ensures.client c.push_reserved.ensures.items
          c.made_by.ensures.nobody;
      err = tt;
      refused = λ why is. absurd cc;
      others = λ is. absurd cc;
      given = told_is_given c.args.self.now.book _ posted.frames.items marks c.ask.new.self c.in_ok-posted.ensures.ok _ _ _ refl refl c.made_by.ensures.entered;
    }

pub returns-in_err-posted-clause-others : goal.returns-in_err-posted-clause-others
returns-in_err-posted-clause-others g c = not_cancelled c.in_err-posted.field-0.0 c.from_residual.result c.from_residual.ensures.1

pub returns-in_err-posted-clause-refused : goal.returns-in_err-posted-clause-refused
returns-in_err-posted-clause-refused g c = λ why is.
    let told = c.in_err-posted.ensures in
    let asked = c.args.request.now in
    let cause = c.in_err-posted.field-0.0 in
    subst (λ (e : BookError). RefusesAsk c.args.self.now.book asked.client asked.name asked.mode e)
    (same_cause cause why c.from_residual.result c.from_residual.ensures.1 is)
    (record { failed = told.failed; busy = told.busy; exhausted = told.exhausted; clock_full = told.clock_full; allowed = told.allowed })
