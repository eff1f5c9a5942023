use Rattle.ra_book_text.proofs.Forms.{first_once, first_no_form}
use Rattle.ra_book_text.proofs.Told.{one_event, event_is_read}
use Rattle.ra_book_text.proofs.laws.lines_are_read_in_one_way.Goals as goal

pub returns-clause-first : goal.returns-clause-first
returns-clause-first c = first_once

pub returns-clause-event : goal.returns-clause-event
returns-clause-event c = one_event c.round_trip.ensures.one_frame

pub returns-clause-apart : goal.returns-clause-apart
returns-clause-apart c = first_no_form

pub returns-clause-is_read : goal.returns-clause-is_read
returns-clause-is_read c = event_is_read c.round_trip.ensures.no_fault
