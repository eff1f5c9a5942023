use Rattle.ra_host_text.proofs.Frames.{one_frame}
use Rattle.ra_host_text.proofs.Messages.{one_message}
use Rattle.ra_host_text.proofs.HostLines.{line_free, not_both, one_cause, one_line}
use Rattle.ra_host_text.proofs.laws.host_lines_are_read_in_one_way.Goals as goal

pub returns-clause-message : goal.returns-clause-message
returns-clause-message c = one_message (one_frame c.round_trip.ensures.one_frame)

pub returns-clause-line : goal.returns-clause-line
returns-clause-line c = one_line (one_frame c.round_trip.ensures.one_frame)

pub returns-clause-heard : goal.returns-clause-heard
returns-clause-heard c = not_both (one_frame c.round_trip.ensures.one_frame)

pub returns-clause-cause : goal.returns-clause-cause
returns-clause-cause c = one_cause (one_frame c.round_trip.ensures.one_frame)

pub returns-clause-feed : goal.returns-clause-feed
returns-clause-feed c = line_free
