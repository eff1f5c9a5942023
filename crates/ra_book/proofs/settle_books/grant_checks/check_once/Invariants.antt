use Rattle.std.proofs.Common.{◌≢◌, map, take}
use Rattle.std.specs.Prelude.{AllPairs}
use Rattle.ra_book.specs.Keys.{HasKeys, entry_key}
use Rattle.ra_book.proofs.settle_books.grant_checks.check_once.Given as goal

-- the requests of the grants so far, which are all different
abbrev pub invariant-loop-grant : goal.invariant-loop-grant
invariant-loop-grant l =
    HasKeys l.seen (map (λ g. entry_key g.entry) (take l.grant-index l.grants)) × AllPairs (λ a b. a ≢ b) (take l.grant-index l.grants)
