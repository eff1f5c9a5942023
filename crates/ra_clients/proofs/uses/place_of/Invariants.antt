use Rattle.std.proofs.Common.{◌≡◌, ℕ, ◌<◌, false, get_or}
use Rattle.ra_clients.specs.declared.uses.NameUse.{NameUse}
use Rattle.ra_clients.specs.Uses.{is_of}
use Rattle.ra_clients.proofs.uses.place_of.Given as goal

-- none of the uses so far is of this name
abbrev pub invariant-loop-place : goal.invariant-loop-place
invariant-loop-place l = (k : ℕ) (d : NameUse) → k < l.place → is_of l.name (get_or l.uses k d) ≡ false
