-- Whom a call is to tell.
use Rattle.std.proofs.Common.{◌≡◌, Option, Some, None, sym, subst}
use Rattle.std.specs.Prelude.{IfNone, IfSome}

-- what holds if nobody has to be told holds of the same answer elsewhere
pub same_none : {T : Type 0} (P : Type 0) (a b : Option T) → a ≡ b → IfNone b P → IfNone a P
same_none {T} P a b is none = subst (λ (o : Option T). IfNone o P) (sym is) none

-- and so does what holds of the one who is
pub same_some : {T : Type 0} (P : T → Type 0) (a b : Option T) → a ≡ b → IfSome b P → IfSome a P
same_some {T} P a b is some = subst (λ (o : Option T). IfSome o P) (sym is) some

-- the first of two facts
pub first_of_none : {T : Type 0} (P Q : Type 0) (o : Option T) → IfNone o (P × Q) → IfNone o P
first_of_none P Q None both = both.0
first_of_none P Q (Some x) both = tt

-- what holds of the one to whom an answer is equal
pub of_some : {T : Type 0} (P : T → Type 0) (o : Option T) (x : T) → o ≡ Some x → IfSome o P → P x
of_some {T} P o x is some = subst (λ (a : Option T). IfSome a P) is some
