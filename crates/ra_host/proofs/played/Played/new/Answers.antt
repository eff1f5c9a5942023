use Rattle.std.proofs.Common.{◌≤◌, ℕ, List, length, map, ap, ◌∙◌, arith}
use Rattle.std.proofs.lemmas.List.{take_all}
use Rattle.ra_host.specs.Outgoing.{none_of, outgoing_of}
use Rattle.ra_host.proofs.PlayedBooks.{opened}
use Rattle.ra_host.proofs.played.Played.new.Goals as goal

pub returns-clause-book : goal.returns-clause-book
returns-clause-book c long =
    let dropped = c.args.dropped.now in
    let all : length dropped ≤ c.loop-count.count-index = omega (arith, c.loop-count-test.false) in
    opened c.args.member.node c.args.member.nodes c.args.start dropped (record { timed = c.new-2.result; outgoing = map outgoing_of c.loop-count.outboxes.items }) c.new-2.ensures
    (c.loop-count.invariant ∙ ap (λ (counts : List ℕ). map none_of counts) (take_all c.loop-count.count-index dropped all)) long
