use Rattle.std.proofs.Common.{take}
use Rattle.std.specs.Prelude.{All}
use Rattle.ra_book.specs.Settled.{WasSent}
use Rattle.ra_book_text.proofs.text_settling.searching.first_unsent.Given as goal

-- those so far were sent
abbrev pub invariant-loop-one : goal.invariant-loop-one
invariant-loop-one l = All (λ one. WasSent l.books one.frame) (take l.one-index l.came)
