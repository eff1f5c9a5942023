use Rattle.ra_node.proofs.Determined.{event_one, events_one}
use Rattle.ra_node.proofs.laws.events_are_determined.Goals as goal

pub returns : goal.returns
returns c = record {
  event = λ old a b event sends sends' marks marks'. event_one old a b event sends sends' marks marks';
  events = λ old a b happened. events_one happened old a b;
}
