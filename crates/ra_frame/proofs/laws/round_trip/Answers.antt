use Rattle.ra_frame.specs.declared.format.Format.TheVariants.{V2}
use Rattle.ra_frame.proofs.Texts.{one_frame, no_fault, has_frame, written_again}
use Rattle.ra_frame.proofs.laws.round_trip.Goals as goal

pub returns-clause-no_fault : goal.returns-clause-no_fault
returns-clause-no_fault c = no_fault

pub returns-clause-one_frame : goal.returns-clause-one_frame
returns-clause-one_frame c = one_frame

pub returns-clause-has_frame : goal.returns-clause-has_frame
returns-clause-has_frame c = has_frame

pub returns-clause-written_is_read : goal.returns-clause-written_is_read
returns-clause-written_is_read c bytes frame written = (V2, written)

pub returns-clause-read_is_written : goal.returns-clause-read_is_written
returns-clause-read_is_written c = written_again
