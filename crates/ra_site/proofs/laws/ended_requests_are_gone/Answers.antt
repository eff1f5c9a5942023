use Rattle.ra_book.specs.declared.book.event.BookKind.TheVariants.{Leave, Cancel}
use Rattle.ra_site.proofs.GivenGrants.{GivingLaws, consistent_before, made_after}
use Rattle.ra_site.proofs.EndedRequests.{gone_by_cancel, gone_by_leave}
use Rattle.ra_site.proofs.laws.ended_requests_are_gone.Goals as goal

pub returns : goal.returns
returns c =
    let kept = c.histories_keep_a_node_consistent.ensures in
    let laws : GivingLaws = record {
      consistent = kept.from_opening;
      stays = kept.node;
      makes = c.events_keep_a_node_consistent.ensures.marks;
      one_event = c.events_are_determined.ensures.event;
      splits = c.events_go_on.ensures.splits;
      one_node = c.histories_are_determined.ensures.node;
    } in
    record {
      given_up = λ node client name after by leads.
          let kind = Cancel client name in
          let made = made_after laws by.before kind by.frames by.marks by.book by.adds by.history after leads in
          gone_by_cancel by.adds.before after client name made.0 made.1
          (consistent_before laws by.before kind by.frames by.marks by.book by.adds by.history) made.2;
      given_back = λ node client name after by leads.
          let kind = Leave client name in
          let made = made_after laws by.before kind by.frames by.marks by.book by.adds by.history after leads in
          gone_by_leave by.adds.before after client name made.0 made.1
          (consistent_before laws by.before kind by.frames by.marks by.book by.adds by.history) made.2;
    }
