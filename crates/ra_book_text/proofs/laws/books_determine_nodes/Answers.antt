use Rattle.ra_book_text.proofs.NodeBooks.{history}
use Rattle.ra_book_text.proofs.Replay.{again, kept_again, same_kept, told}
use Rattle.ra_book_text.proofs.Told.{one_answer}
use Rattle.ra_book_text.proofs.laws.books_determine_nodes.Goals as goal

pub returns-clause-told : goal.returns-clause-told
returns-clause-told c =
    told (one_answer c.round_trip.ensures.one_frame c.one_spelling.ensures c.events_are_determined.ensures.event)

pub returns-clause-kept : goal.returns-clause-kept
returns-clause-kept c = kept_again

pub returns-clause-determined : goal.returns-clause-determined
returns-clause-determined c =
    same_kept (one_answer c.round_trip.ensures.one_frame c.one_spelling.ensures c.events_are_determined.ensures.event)

pub returns-clause-again : goal.returns-clause-again
returns-clause-again c =
    again c.lines_are_read_in_one_way.ensures.event c.lines_are_read_in_one_way.ensures.is_read
    (one_answer c.round_trip.ensures.one_frame c.one_spelling.ensures c.events_are_determined.ensures.event)

pub returns-clause-history : goal.returns-clause-history
returns-clause-history c = history c.timed_nodes_have_histories.ensures.history
