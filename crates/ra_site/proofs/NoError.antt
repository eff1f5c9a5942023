-- What holds of a call that has not failed.
use Rattle.std.proofs.Common.{◌≡◌, false, Result, Ok, Err}
use Rattle.std.specs.Prelude.{is_err, OnOk}
use Rattle.std.proofs.lemmas.Bool.{false≢true}

pub not_err : {T E : Type 0} (A : Type 0) (r : Result T E) → false ≡ is_err r → OnOk r A → A
not_err A (Ok v) ok holds = holds
not_err A (Err e) ok holds = absurd (false≢true ok)
