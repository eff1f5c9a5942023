use Rattle.std.proofs.Common.{◌≡◌, drop}
use Rattle.ra_site.specs.Waiting.{entry_let_in}
use Rattle.ra_site.proofs.site.waiters.entry_let_in.Given as goal

-- none of the marks so far let anybody in
abbrev pub invariant-loop-mark : goal.invariant-loop-mark
invariant-loop-mark l = entry_let_in l.marks ≡ entry_let_in (drop l.mark-index l.marks)
