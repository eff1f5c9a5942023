-- The calls of a file of the operating system, and what it holds by them.
use Rattle.std.specs.Prelude.{◌==◌, ◌+◌, ◌∷◌, [], ℕ, zero, suc, List, Bool, true, if◌then◌else◌, length, slice_index}
use Rattle.ra_disk.specs.Contents.{Contents, settled, appends, cuts, syncs, crashes}

-- a call with its answer: which call, a size, whether it succeeded, and bytes
abbrev pub Call : Type 0
Call = ℕ × ℕ × Bool × List ℕ

abbrev pub call_of : List ℕ → List ℕ → Call
call_of numbers bytes = (slice_index numbers 0, slice_index numbers 1, slice_index numbers 2 == 1, bytes)

-- it was opened, and these bytes were read. Nobody knows which of them are on the disk
abbrev pub opened : List ℕ → Call
opened bytes = (0, 0, true, bytes)

abbrev pub appended : List ℕ → Bool → Call
appended bytes ok = (1, 0, ok, bytes)

abbrev pub cut : ℕ → Bool → Call
cut size ok = (2, size, ok, [])

abbrev pub synced : Bool → Call
synced ok = (3, 0, ok, [])

-- a test made it crash
abbrev pub crashed : ℕ → Call
crashed size = (4, size, true, [])

-- a call that fails is taken at its worst: all is gone but what is on the disk
abbrev pub if_ok : Bool → Contents → Contents
if_ok ok f = if ok then f else crashes 0 f

abbrev pub after_call : ℕ → ℕ → Bool → List ℕ → Contents → Contents
after_call zero size ok bytes f = record { written = bytes; size = length bytes; kept = 0 }
after_call (suc zero) size ok bytes f = if_ok ok (appends bytes f)
after_call (suc (suc zero)) size ok bytes f = if_ok ok (cuts size f)
after_call (suc (suc (suc zero))) size ok bytes f = if ok then syncs f else crashes 0 f
after_call (suc (suc (suc (suc more)))) size ok bytes f = crashes size f

-- what it holds after these calls, the newest of them first
abbrev pub held : List Call → Contents
held [] = settled []
held (call ∷ earlier) = after_call call.0 call.1 call.2 call.3 (held earlier)

-- what it held before each call since it was opened
abbrev pub held_before : List Call → List Contents
held_before [] = []
held_before (call ∷ earlier) = if call.0 == 0 then [] else held earlier ∷ held_before earlier

abbrev pub failures : List Call → ℕ
failures [] = 0
failures (call ∷ earlier) = if call.2 then failures earlier else failures earlier + 1
