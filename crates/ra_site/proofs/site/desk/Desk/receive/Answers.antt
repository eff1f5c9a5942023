use Rattle.std.proofs.Common.{refl}
use Rattle.std.proofs.Math.Logic.{∥∥₁_map}
use Rattle.ra_book.specs.declared.book.event.BookKind.TheVariants.{Receive}
use Rattle.ra_site.specs.Waiting.{entry_let_in}
use Rattle.ra_site.proofs.GivenGrants.{given, told_is_given}
use Rattle.ra_site.proofs.LostFrames.{still_none, none_as_before}
use Rattle.ra_site.proofs.Waiters.{wait_as_before, wait_on_once, all_go_on}
use Rattle.ra_site.proofs.site.desk.Desk.receive.Goals as goal

pub made_by-requires : goal.made_by-requires
made_by-requires g c =
    let frame = c.in_ok-posted.ensures.ok in
    record {
      once = c.args.self.now.once;
      fit = c.in_ok-posted.ensures.fits;
      given = given c.args.self.now.book _ c.in_ok-posted.posted.frames.items c.in_ok-posted.posted.marks.items c.receive.new.self frame.2 c.in_ok-posted.ensures.history;
    }

pub invariant_of-self : goal.invariant_of-self
invariant_of-self g c =
    let was = c.args.self.now in
    let same = c.in_err-posted.ensures.err in
    record { flagged = none_as_before was.book _ same was.may_have_lost was.flagged; once = was.once; waits = wait_as_before was.book _ same was.waiters.items was.waits }

pub invariant_of-self-2 : goal.invariant_of-self-2
invariant_of-self-2 g c =
    let was = c.args.self.now in
    let posted = c.in_ok-posted.posted in
    let marks = posted.marks.items in
    let frame = c.in_ok-posted.ensures.ok in
    let left = c.made_by.new.waiters.items in
    record {
      flagged = still_none was.book (Receive frame.0) posted.frames.items marks c.receive.new.self frame.2 was.may_have_lost was.flagged;
      once = wait_on_once (entry_let_in marks) was.waiters.items left c.made_by.ensures.left was.once;
      waits = ∥∥₁_map was.waits
          (all_go_on was.book (Receive frame.0) posted.frames.items marks c.receive.new.self frame.2 c.in_ok-posted.ensures.history
          (λ client name is. cc) was.waiters.items left c.made_by.ensures.left);
    }

pub returns : goal.returns
returns g c =
    let frame = c.in_ok-posted.ensures.ok in
    record {
      given = told_is_given c.args.self.now.book _ c.in_ok-posted.posted.frames.items c.in_ok-posted.posted.marks.items c.receive.new.self frame.2
          _ _ _ refl refl c.made_by.ensures.entered;
    }
