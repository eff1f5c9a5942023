use Rattle.ra_site.proofs.GivenGrants.{GivingLaws, is_in_book}
use Rattle.ra_site.proofs.laws.given_grants_are_in_books.Goals as goal

pub returns : goal.returns
returns c = λ grant giver.
    let kept = c.histories_keep_a_node_consistent.ensures in
    let laws : GivingLaws = record {
      consistent = kept.from_opening;
      stays = kept.node;
      makes = c.events_keep_a_node_consistent.ensures.marks;
      one_event = c.events_are_determined.ensures.event;
      splits = c.events_go_on.ensures.splits;
      one_node = c.histories_are_determined.ensures.node;
    } in
    is_in_book laws grant giver
