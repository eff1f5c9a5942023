use Rattle.ra_book_text.proofs.NodeBooks.{are_right, book_of, driven_by, read_as, settles_as}
use Rattle.ra_book_text.proofs.ToldLines.{told_lines}
use Rattle.ra_book_text.proofs.laws.node_books.books_say_what_nodes_answered.Goals as goal

pub returns-clause-driven : goal.returns-clause-driven
returns-clause-driven c = driven_by

pub returns-clause-book : goal.returns-clause-book
returns-clause-book c = book_of c.timed_nodes_have_histories.ensures.history

pub returns-clause-lines : goal.returns-clause-lines
returns-clause-lines c = told_lines

pub returns-clause-right : goal.returns-clause-right
returns-clause-right c = are_right

pub returns-clause-read : goal.returns-clause-read
returns-clause-read c =
    read_as c.timed_nodes_have_histories.ensures.history (record {
      first = c.lines_are_read_in_one_way.ensures.first;
      event = c.lines_are_read_in_one_way.ensures.event;
      apart = c.lines_are_read_in_one_way.ensures.apart;
      is_read = c.lines_are_read_in_one_way.ensures.is_read;
    }) (record {
      node = c.histories_are_determined.ensures.node;
      frames = c.histories_are_determined.ensures.frames;
      splits = c.events_go_on.ensures.splits;
    })

pub returns-clause-settled : goal.returns-clause-settled
returns-clause-settled c =
    settles_as c.timed_nodes_have_histories.ensures.history (record {
      first = c.lines_are_read_in_one_way.ensures.first;
      event = c.lines_are_read_in_one_way.ensures.event;
      apart = c.lines_are_read_in_one_way.ensures.apart;
      is_read = c.lines_are_read_in_one_way.ensures.is_read;
    }) (record {
      node = c.histories_are_determined.ensures.node;
      frames = c.histories_are_determined.ensures.frames;
      splits = c.events_go_on.ensures.splits;
    })
