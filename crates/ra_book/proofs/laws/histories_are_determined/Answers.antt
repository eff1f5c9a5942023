use Rattle.std.proofs.Common.{sym, ap, ◌∙◌}
use Rattle.ra_node.proofs.Determined.{event_one}
use Rattle.ra_book.specs.History.{frames_of}
use Rattle.ra_book.proofs.Histories.{determined}
use Rattle.ra_book.proofs.laws.histories_are_determined.Goals as goal

pub returns-clause-postings : goal.returns-clause-postings
returns-clause-postings c = λ me n start events sent sent' a b left right.
    (determined event_one me n start events sent sent' a b left right).0

pub returns-clause-node : goal.returns-clause-node
returns-clause-node c = λ me n start events sent sent' a b left right.
    (determined event_one me n start events sent sent' a b left right).1

pub returns-clause-frames : goal.returns-clause-frames
returns-clause-frames c = λ me n start events sent sent' a b left right.
    left.sent_are ∙ ap frames_of (determined event_one me n start events sent sent' a b left right).0 ∙ sym right.sent_are
