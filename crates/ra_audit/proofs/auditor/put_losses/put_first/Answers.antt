use Rattle.std.proofs.Common.{All, List, [], ◌++◌, inl, inr, refl, ap, subst, sym, ◌∙◌}
use Rattle.std.proofs.lemmas.Bool.{false≢true}
use Rattle.ra_frame.specs.declared.frame.Frame.{Frame}
use Rattle.ra_world.specs.World.{WorldState}
use Rattle.ra_audit.specs.Audit.{HasLost, WasSentIn}
use Rattle.ra_audit.proofs.AuditSteps.{advances_none}
use Rattle.ra_audit.proofs.AuditLosses.{some_first, first_is, first_reached, first_not_reached, room_for_one, lost_too, not_lost}
use Rattle.ra_audit.proofs.Tracking.{lost_still, sent_more_lost}
use Rattle.ra_audit.proofs.auditor.put_losses.put_first.Goals as goal

pub unreachable-requires : goal.unreachable-requires
unreachable-requires c = some_first c.args.losses.now.losing c.requires.some (sym c.in_default.is ∙ c.first.ensures)

pub is_reached-requires : goal.is_reached-requires
is_reached-requires c = (c.args.world.now.count, c.requires.run.audited.numbers)

pub returns-then-not-is_reached-clause-advances : goal.returns-then-not-is_reached-clause-advances
returns-then-not-is_reached-clause-advances c = λ told. advances_none c.args.world.now c.args.nodes.now told c.requires.run.audited

pub returns-then-not-is_reached-clause-ok : goal.returns-then-not-is_reached-clause-ok
returns-then-not-is_reached-clause-ok c =
    inr (
      c.defer.ensures,
      first_not_reached c.args.nodes.now c.args.losses.now.losing c.in-Some.frame c.in-Some.ensures
          (λ reached. false≢true (sym c.if-not-is_reached.true ∙ c.is_reached.ensures.1 reached)),
    )

pub returns-then-not-is_reached-clause-run : goal.returns-then-not-is_reached-clause-run
returns-then-not-is_reached-clause-run c =
    let same = sym c.defer.ensures.lost in
    record {
      audited = c.requires.run.audited;
      lost = subst (λ (fs : List Frame). HasLost c.args.world.now.moves fs) same c.requires.run.lost;
      tracked = c.requires.run.tracked;
      sent = subst (λ (fs : List Frame). All (WasSentIn c.args.nodes.now c.args.world.now.moves) fs) same c.requires.run.sent;
    }

pub put-requires : goal.put-requires
put-requires c = record {
  taken = c.requires.taken;
  some = c.requires.some;
  room = room_for_one c.args.world.now.moves c.put_loss.new.world.moves c.args.losses.now.lost c.in-Some.frame.message c.requires.run.lost c.in-Ok.ensures.lost c.in-Ok.ensures.few;
}

pub put_loss-requires : goal.put_loss-requires
put_loss-requires c = record { audited = c.requires.run.audited; tracked = c.requires.run.tracked }

pub returns-in-Ok-clause-advances : goal.returns-in-Ok-clause-advances
returns-in-Ok-clause-advances c = c.in-Ok.ensures.advances

pub returns-in-Ok-clause-run : goal.returns-in-Ok-clause-run
returns-in-Ok-clause-run c =
    let lost = c.args.losses.now.lost in
    let one_more = c.put.ensures.lost ∙ ap (λ (fs : List Frame). lost ++ fs) (first_is c.args.losses.now.losing c.in-Some.frame c.in-Some.ensures) in
    record {
      audited = (c.in-Ok.ensures.advances []).audited;
      lost = lost_too c.args.world.now.moves c.put_loss.new.world.moves lost c.put.new.self.lost c.in-Some.frame c.requires.run.lost c.in-Ok.ensures.lost one_more;
      tracked = c.in-Ok.ensures.tracked;
      sent = sent_more_lost c.args.nodes.now c.args.world.now.moves c.put_loss.new.world.moves lost c.put.new.self.lost c.in-Some.frame c.in-Ok.ensures.stay
          c.requires.run.sent c.in-Ok.ensures.sent one_more;
    }

pub returns-in-Ok-clause-ok : goal.returns-in-Ok-clause-ok
returns-in-Ok-clause-ok c =
    inl (c.put.ensures, first_reached c.args.nodes.now c.args.losses.now.losing c.in-Some.frame c.in-Some.ensures (c.is_reached.ensures.0 c.if-not-is_reached.false))

pub returns-in-Err-clause-advances : goal.returns-in-Err-clause-advances
returns-in-Err-clause-advances c = c.in-Err.ensures.advances

pub returns-in-Err-clause-run : goal.returns-in-Err-clause-run
returns-in-Err-clause-run c =
    let lost = c.args.losses.now.lost in
    record {
      audited = (c.in-Err.ensures.advances []).audited;
      lost = subst (λ (w : WorldState). HasLost w.moves lost) (sym c.in-Err.ensures.err) c.requires.run.lost;
      tracked = c.in-Err.ensures.tracked;
      sent = lost_still c.args.nodes.now c.args.nodes.now c.args.world.now.moves c.put_loss.new.world.moves lost c.in-Err.ensures.stay c.requires.run.sent;
    }

pub returns-in-Err-clause-not_lost : goal.returns-in-Err-clause-not_lost
returns-in-Err-clause-not_lost c = λ found is.
    let losing = c.args.losses.now.losing in
    not_lost c.put_loss.new.world c.args.nodes.now losing losing c.in-Some.frame found refl c.in-Some.ensures (c.is_reached.ensures.0 c.if-not-is_reached.false)
    (c.in-Err.ensures.not_lost found is)
