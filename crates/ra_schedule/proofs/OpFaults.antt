-- What an operation can be refused for.
use Rattle.std.proofs.Common.{◌≡◌, ◌<◌, ◌≤◌, ℕ, Bool, true, false, List, Result, Ok, Err, sym, subst, ◌∙◌, nat_eq, arith}
use Rattle.std.proofs.lemmas.Bool.{false≢true}
use Rattle.ra_stamp.specs.declared.mode.Mode.{Mode}
use Rattle.ra_schedule.specs.declared.error.AddOpError.{AddOpError}
use Rattle.ra_schedule.specs.declared.error.AddOpError.TheVariants.{Clients, Limit, NotHeld, AlreadyHeld, Memory}
use Rattle.ra_schedule.specs.declared.script.Op.{Op}
use Rattle.ra_schedule.specs.declared.script.Op.TheVariants.{Lock, Unlock}

-- a number for each fault
abbrev pub number_of : AddOpError → ℕ
number_of Clients = 0
number_of Limit = 1
number_of NotHeld = 2
number_of AlreadyHeld = 3
number_of Memory = 4

-- whether two results are alike, with the same fault or with none
abbrev pub alike : {T : Type 0} → Result T AddOpError → Result T AddOpError → Bool
alike (Ok x) (Ok y) = true
alike (Ok x) (Err e) = false
alike (Err d) (Ok y) = false
alike (Err d) (Err e) = nat_eq (number_of d) (number_of e)

-- what is not alike is not one
pub other : {T : Type 0} (r s : Result T AddOpError) → alike r s ≡ false → alike r r ≡ true → r ≡ s → ⊥
other r s apart itself e = false≢true (sym apart ∙ subst (λ x. alike r x ≡ true) e itself)

pub other_fault : (d e : AddOpError) → nat_eq (number_of d) (number_of e) ≡ false → nat_eq (number_of d) (number_of d) ≡ true → d ≡ e → ⊥
other_fault d e apart itself is = false≢true (sym apart ∙ subst (λ x. nat_eq (number_of d) (number_of x) ≡ true) is itself)

-- what was done was refused for nothing
pub no_fault : {T : Type 0} {x : T} {e : AddOpError} → Ok x ≡ Err e → ⊥
no_fault is = absurd cc

-- there is room, or not
pub no_room : (count : ℕ) → 1024 ≤ count → count < 1024 → ⊥
no_room count full room = omega arith

-- an operation does one thing
pub one_kind : (op : Op) (locked unlocked : List ℕ) (mode : Mode) → op ≡ Lock locked mode → op ≡ Unlock unlocked → ⊥
one_kind op locked unlocked mode e f = absurd (let clash : Lock locked mode ≡ Unlock unlocked = sym e ∙ f in cc)

-- about one name
pub one_locked : (op : Op) (a b : List ℕ) (m n : Mode) → op ≡ Lock a m → op ≡ Lock b n → a ≡ b
one_locked op a b m n e f = let same : Lock a m ≡ Lock b n = sym e ∙ f in cc

pub one_unlocked : (op : Op) (a b : List ℕ) → op ≡ Unlock a → op ≡ Unlock b → a ≡ b
one_unlocked op a b e f = let same : Unlock a ≡ Unlock b = sym e ∙ f in cc
