-- The laws of nodes and of histories on which the proofs of this crate rest.
use Rattle.ra_node.specs.Node.{opening_node}
use Rattle.ra_node.proofs.Chains.{history_kept, history_same_node, events_split}
use Rattle.ra_node.proofs.Determined.{event_one}
use Rattle.ra_node.proofs.EventsKept.{node_kept, event_marks}
use Rattle.ra_node.proofs.NodeLemmas.{opening_is_consistent}
use Rattle.ra_book.proofs.Histories.{determined}
use Rattle.ra_site.proofs.GivenGrants.{GivingLaws}

pub laws : GivingLaws
laws = record {
  consistent = λ me nodes start new happened count member. history_kept node_kept happened (opening_node me nodes start) new (opening_is_consistent me nodes start count member);
  stays = λ old new happened. history_same_node happened old new;
  makes = λ old new event sends marks h for happens. event_marks old new event sends marks h (node_kept old new event sends marks h for happens) happens;
  one_event = λ old a b event sends sends' marks marks'. event_one old a b event sends sends' marks marks';
  splits = events_split;
  one_node = λ me n start events sent sent' a b left right. (determined event_one me n start events sent sent' a b left right).1;
}
