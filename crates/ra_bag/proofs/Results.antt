-- What a result has if it is no error.
use Rattle.std.proofs.Common.{◌≡◌, false, Result, Ok, Err}
use Rattle.std.specs.Prelude.{OnOk, is_err}
use Rattle.std.proofs.lemmas.Bool.{true≢false}

pub on_ok : {T E : Type 0} (result : Result T E) (P : Type 0) → is_err result ≡ false → OnOk result P → P
on_ok (Ok x) P is holds = holds
on_ok (Err e) P is holds = absurd (true≢false is)
