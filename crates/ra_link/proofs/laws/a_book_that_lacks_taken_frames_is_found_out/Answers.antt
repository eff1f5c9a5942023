use Rattle.ra_link.proofs.Prefixes.{found_out}
use Rattle.ra_link.proofs.laws.a_book_that_lacks_taken_frames_is_found_out.Goals as goal

pub returns : goal.returns
returns c = found_out
