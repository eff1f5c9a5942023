use Rattle.ra_book_text.proofs.OneReading.{one_said, one_text}
use Rattle.ra_book_text.proofs.OneBooks.{all_right, one_books, one_cause, one_version_of}
use Rattle.ra_book_text.proofs.laws.text_verdicts.texts_of_books_are_read_in_one_way.Goals as goal

pub returns-clause-lines : goal.returns-clause-lines
returns-clause-lines c = one_text

pub returns-clause-said : goal.returns-clause-said
returns-clause-said c =
    one_said (record {
      first = c.lines_are_read_in_one_way.ensures.first;
      event = c.lines_are_read_in_one_way.ensures.event;
      apart = c.lines_are_read_in_one_way.ensures.apart;
      is_read = c.lines_are_read_in_one_way.ensures.is_read;
    })

pub returns-clause-books : goal.returns-clause-books
returns-clause-books c =
    one_books (record {
      first = c.lines_are_read_in_one_way.ensures.first;
      event = c.lines_are_read_in_one_way.ensures.event;
      apart = c.lines_are_read_in_one_way.ensures.apart;
      is_read = c.lines_are_read_in_one_way.ensures.is_read;
    }) (record {
      node = c.histories_are_determined.ensures.node;
      frames = c.histories_are_determined.ensures.frames;
      splits = c.events_go_on.ensures.splits;
    })

pub returns-clause-version : goal.returns-clause-version
returns-clause-version c =
    one_version_of (record {
      first = c.lines_are_read_in_one_way.ensures.first;
      event = c.lines_are_read_in_one_way.ensures.event;
      apart = c.lines_are_read_in_one_way.ensures.apart;
      is_read = c.lines_are_read_in_one_way.ensures.is_read;
    }) (record {
      node = c.histories_are_determined.ensures.node;
      frames = c.histories_are_determined.ensures.frames;
      splits = c.events_go_on.ensures.splits;
    })

pub returns-clause-right : goal.returns-clause-right
returns-clause-right c =
    all_right (record {
      first = c.lines_are_read_in_one_way.ensures.first;
      event = c.lines_are_read_in_one_way.ensures.event;
      apart = c.lines_are_read_in_one_way.ensures.apart;
      is_read = c.lines_are_read_in_one_way.ensures.is_read;
    }) (record {
      node = c.histories_are_determined.ensures.node;
      frames = c.histories_are_determined.ensures.frames;
      splits = c.events_go_on.ensures.splits;
    })

pub returns-clause-cause : goal.returns-clause-cause
returns-clause-cause c =
    one_cause (record {
      first = c.lines_are_read_in_one_way.ensures.first;
      event = c.lines_are_read_in_one_way.ensures.event;
      apart = c.lines_are_read_in_one_way.ensures.apart;
      is_read = c.lines_are_read_in_one_way.ensures.is_read;
    }) (record {
      node = c.histories_are_determined.ensures.node;
      frames = c.histories_are_determined.ensures.frames;
      splits = c.events_go_on.ensures.splits;
    })
