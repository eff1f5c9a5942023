use Rattle.std.proofs.Common.{map, take}
use Rattle.std.specs.Prelude.{All, Contains}
use Rattle.ra_book.specs.Keys.{HasKeys, entered_in, entry_key}
use Rattle.ra_book.proofs.settle_books.grant_checks.check_grants.Given as goal

-- each grant so far is of a request that is granted
abbrev pub invariant-loop-grant : goal.invariant-loop-grant
invariant-loop-grant l = All (λ g. Contains (entered_in l.marks) g.entry) (take l.grant-index l.grants)

-- the requests of the marks so far
abbrev pub invariant-loop-mark : goal.invariant-loop-mark
invariant-loop-mark l = HasKeys l.entered (map (λ e. entry_key e) (entered_in (take l.mark-index l.marks)))
