use Rattle.std.proofs.Common.{ap, ◌∙◌}
use Rattle.ra_stamp.specs.Member.{Membership}
use Rattle.ra_book.specs.Book.{opening_book}
use Rattle.ra_book.proofs.book.Book.new.Goals as goal

pub returns-clause-ok : goal.returns-clause-ok
returns-clause-ok c = c.of.ensures.value ∙ ap (λ (m : Membership). opening_book m.node m.nodes c.args.start) c.in_ok-member.ensures.ok
