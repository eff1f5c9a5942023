-- What a call of a file leaves if it fails.
use Rattle.std.specs.Prelude.{◌≡◌, ◌<◌, ℕ, Result, OnErr, OnOk}
use Rattle.ra_disk.specs.Contents.{Contents, crashes}

-- as a crash would leave what the call leaves if it succeeds
abbrev pub IsCut : Contents → Contents → Type 0
IsCut done new = (size : ℕ) × (new ≡ crashes size done)

-- an error has a cause: the file has failed once more
abbrev pub HasCause : {T E : Type 0} → Result T E → ℕ → ℕ → Type 0
HasCause result before now = OnOk result (now ≡ before) × OnErr result (before < now)
