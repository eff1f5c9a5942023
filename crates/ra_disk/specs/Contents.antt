-- What the file of a book holds, on the disk and on its way there, and what its calls and crashes make of it.
use Rattle.std.specs.Prelude.{◌≡◌, ◌++◌, ℕ, List, min, max, take, length}

-- A crash leaves some front of what was written, with at least what is on the disk. Until the next sync, another crash
-- may leave another front.
pub record Contents : Type 0 where
  pub written : List ℕ
  -- a read returns this many of these bytes. The others were cut, or a crash took them
  pub size : ℕ
  -- this many are on the disk
  pub kept : ℕ

-- what a read returns
abbrev pub seen : Contents → List ℕ
seen f = take f.size f.written

-- what every crash leaves
abbrev pub on_disk : Contents → List ℕ
on_disk f = take f.kept f.written

-- these bytes, all of them on the disk
abbrev pub settled : List ℕ → Contents
settled bytes = record { written = bytes; size = length bytes; kept = length bytes }

-- nothing was cut or taken since the last sync
abbrev pub IsEven : Contents → Type 0
IsEven f = f.size ≡ length f.written

abbrev pub appends : List ℕ → Contents → Contents
appends bytes f = record f { written = f.written ++ bytes; size = length (f.written ++ bytes) }

abbrev pub cuts : ℕ → Contents → Contents
cuts size f = record f { size = size; kept = min size f.kept }

abbrev pub syncs : Contents → Contents
syncs f = settled (seen f)

-- this many bytes are left, or those on the disk if these are more
abbrev pub crashes : ℕ → Contents → Contents
crashes size f = record f { size = max f.kept (min size (length f.written)) }

-- what a crash may leave
abbrev pub MayLeave : Contents → List ℕ → Type 0
MayLeave f bytes = (size : ℕ) × (bytes ≡ seen (crashes size f))
