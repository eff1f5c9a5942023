use Rattle.std.proofs.Common.{List, inl, refl, sym, ap, ◌∙◌}
use Rattle.ra_stamp.specs.declared.message.Message.{Message}
use Rattle.ra_link.specs.Link as rule
use Rattle.ra_book.specs.declared.book.event.BookKind.TheVariants.{Receive}
use Rattle.ra_host.specs.declared.error.EventError.TheVariants.{NotNext, Full}
use Rattle.ra_host.specs.Host.{linked}
use Rattle.ra_host.specs.Making.{makes_each}
use Rattle.ra_host.proofs.LinksHeld.{never_both, other_of}
use Rattle.ra_host.proofs.ReadyNodes.{frame_taken, happened}
use Rattle.ra_host.proofs.Refusals.{full_exactly, is_no_order, no_host, not_next_is_not_full, ok_is_no_error}
use Rattle.ra_host.proofs.host.Host.take_frame.Goals as goal

-- ---- It is not the next one

pub returns-in_default-clause-not_next : goal.returns-in_default-clause-not_next
returns-in_default-clause-not_next c h are =
    let a = c.args in
    (λ same next. no_host a.self.now.links h a.other a.start a.number a.frame.now c.heard.result are.held c.heard.ensures.other c.in_default.not-Ok next, λ not. refl)

pub returns-in_default-clause-full : goal.returns-in_default-clause-full
returns-in_default-clause-full c h are =
    let a = c.args in (
      λ same. absurd (not_next_is_not_full same),
      λ both. absurd (no_host a.self.now.links h a.other a.start a.number a.frame.now c.heard.result are.held c.heard.ensures.other c.in_default.not-Ok both.0),
    )

pub returns-in_default-heard : goal.returns-in_default-heard
returns-in_default-heard c =
    record {
      next = tt;
      happened = tt;
      not_next = λ h are. (λ same next. c.in_default-heard.not-Next ((c.in-Ok.ensures.host h are.held).1 next.1), λ not. refl);
      full = λ h are. (
        λ same. absurd (not_next_is_not_full same),
        λ both. absurd (c.in_default-heard.not-Next ((c.in-Ok.ensures.host h are.held).1 both.0.1)),
      );
      refused = (refl, inl refl);
    }

-- ---- The node refuses it

pub returns-in-Err-clause-not_next : goal.returns-in-Err-clause-not_next
returns-in-Err-clause-not_next c h are =
    let other = other_of c.args.self.now.links h c.args.other are.held (c.in-Ok.ensures.other.0 refl) in (
      λ same. absurd (is_no_order c.args.self.now.played (Receive c.args.frame.now) c.in-Err.why c.in-Err.ensures.taken.1 same),
      λ not. absurd (not (other, (c.in-Ok.ensures.host h are.held).0 c.in-Next.is)),
    )

pub returns-in-Err-clause-full : goal.returns-in-Err-clause-full
returns-in-Err-clause-full c h are =
    let other = other_of c.args.self.now.links h c.args.other are.held (c.in-Ok.ensures.other.0 refl) in
    let full = full_exactly c.args.self.now.played (Receive c.args.frame.now) c.in-Err.why c.in-Err.ensures.taken.1 in
    (λ same. ((other, (c.in-Ok.ensures.host h are.held).0 c.in-Next.is), full.0 same), λ both. full.1 both.1)

-- ---- It is taken

pub returns-clause-next : goal.returns-clause-next
returns-clause-next c h are =
    (other_of c.args.self.now.links h c.args.other are.held (c.in-Ok.ensures.other.0 refl), (c.in-Ok.ensures.host h are.held).0 c.in-Next.is)

pub returns-clause-happened : goal.returns-clause-happened
returns-clause-happened c h are =
    let old = c.args.self.now in
    let j = c.args.other in
    let other = other_of old.links h j are.held (c.in-Ok.ensures.other.0 refl) in
    let taken = linked h j (rule.hears_frame (h.links j) c.args.start c.args.number) in
    happened c.take_frame.new.self c.make_frames.new.self old.played c.take.new.self taken (Receive c.args.frame.now) c.in-Ok-take.outcome
    (c.take_frame.ensures h are.held other) (frame_taken old.played h j c.args.start c.args.number are.ready) c.in-Ok-take.ensures.taken (c.in-Ok-take.ensures.book h.book are.ready.book)
    c.make_frames.ensures.me (c.make_frames.ensures.links ∙ ap (λ (ms : List Message). makes_each c.take_frame.new.self.links.items ms) c.as_slice.ensures)

pub returns-clause-not_next : goal.returns-clause-not_next
returns-clause-not_next c h are =
    let other = other_of c.args.self.now.links h c.args.other are.held (c.in-Ok.ensures.other.0 refl) in (
      λ same. absurd (ok_is_no_error c.in-Ok-take.outcome NotNext same),
      λ not. absurd (not (other, (c.in-Ok.ensures.host h are.held).0 c.in-Next.is)),
    )

pub returns-clause-full : goal.returns-clause-full
returns-clause-full c h are = (
  λ same. absurd (ok_is_no_error c.in-Ok-take.outcome Full same),
  λ both. absurd (never_both (sym both.1 ∙ c.in-Ok-take.ensures.taken.numbers)),
)
