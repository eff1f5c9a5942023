-- Which fault of an opening becomes which cause.
use Rattle.std.specs.Prelude.{◌≡◌, ◌≢◌, ◌⊎◌}
use Rattle.std.specs.IoError.{error_kind}
use Rattle.std.specs.declared.io.Error.{Error}
use Rattle.std.specs.declared.io.ErrorKind.TheVariants.{OutOfMemory}
use Rattle.std.specs.declared.fs.locks.TryLockError.{TryLockError}
use Rattle.std.specs.declared.fs.locks.TryLockError.TheVariants as lock
use Rattle.ra_disk.specs.declared.open.OpenError.{OpenError}
use Rattle.ra_disk.specs.declared.open.OpenError.TheVariants.{Io, Busy, Memory}

-- a call that failed for lack of memory is `Memory`, and one that failed otherwise is told as it is
abbrev pub IsCauseOfCall : Error → OpenError → Type 0
IsCauseOfCall error cause =
    ((error_kind error ≡ OutOfMemory) × (cause ≡ Memory)) ⊎ ((error_kind error ≢ OutOfMemory) × (cause ≡ Io error))

-- a lock that another has is `Busy`, and a lock that failed is as any call that failed
abbrev pub IsCauseOfLock : TryLockError → OpenError → Type 0
IsCauseOfLock lock.WouldBlock cause = cause ≡ Busy
IsCauseOfLock (lock.Error error) cause = IsCauseOfCall error cause
