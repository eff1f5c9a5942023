use Rattle.ra_node.proofs.NodeLemmas.{opening_is_consistent}
use Rattle.ra_node.proofs.EventLemmas.{receive_event_room_of}
use Rattle.ra_node.proofs.EventsKept.{node_kept, event_sends, event_numbers, event_answers, event_marks, event_room, event_leads}
use Rattle.ra_node.proofs.laws.events_keep_a_node_consistent.Goals as goal

pub returns : goal.returns
returns c =
    record {
      opening = opening_is_consistent;
      consistent = node_kept;
      sends = event_sends;
      numbered = event_numbers;
      answers = event_answers;
      room_by_event = event_room;
      room_by_message = receive_event_room_of;
      marks = λ old new event sends marks h for happens. event_marks old new event sends marks h (node_kept old new event sends marks h for happens) happens;
      one_request = event_leads;
    }
