-- Results that are not the same.
use Rattle.std.proofs.Common.{◌≡◌, Result, Ok, Err}
use Rattle.ra_book_text.specs.declared.error.BookFault.{BookFault}
use Rattle.ra_book_text.specs.declared.error.BookFault.TheVariants.{Read, Write}

pub ok_no_err : {T E : Type 0} {x : T} {e : E} → Ok x ≡ Err e → ⊥
ok_no_err is = cc

pub write_no_read : {T : Type 0} (a b : Result T BookFault) → a ≡ Err Write → b ≡ Err Read → a ≡ b → ⊥
write_no_read a b at_a at_b is = cc

pub fault_is : {T : Type 0} (a b : BookFault) (x y : Result T BookFault) → x ≡ Err a → y ≡ Err b → x ≡ y → a ≡ b
fault_is a b x y at_x at_y is = cc
