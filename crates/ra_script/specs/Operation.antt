-- How operations are written.
use Rattle.std.specs.Prelude.{ℕ, nat_le, ◌==◌, ◌&&◌, Bool, List, [], ◌∷◌, ◌++◌, length, Option, Some, None, option_map, option_and_then, codes, if◌then◌else◌}
use Rattle.std.specs.List.{list_all}
use Rattle.std.specs.Str.{bytes_eq}
use Rattle.ra_stamp.specs.Name.{is_name_byte}
use Rattle.ra_stamp.specs.declared.mode.Mode.TheVariants.{Shared, Exclusive, IntentShared, IntentExclusive, SharedIntentExclusive}
use Rattle.ra_schedule.specs.declared.script.Op.{Op}
use Rattle.ra_schedule.specs.declared.script.Op.TheVariants.{Lock, Unlock}
use Rattle.ra_stamp.specs.Mode.{mode_word}

-- whether the bytes are a name
abbrev pub is_name : List ℕ → Bool
is_name bytes = (nat_le 1 (length bytes) && nat_le (length bytes) 32) && list_all is_name_byte bytes

-- the name that the bytes are, if they are one
abbrev pub name_of : List ℕ → Option (List ℕ)
name_of bytes = if is_name bytes then Some bytes else None

-- the operation of a word and a name: the word of a mode locks the name in that mode, and `U` unlocks it
abbrev pub op_with : List ℕ → List ℕ → Option Op
op_with word name =
    if bytes_eq word (codes "X") then Some (Lock name Exclusive)
    else if bytes_eq word (codes "S") then Some (Lock name Shared)
    else if bytes_eq word (codes "IS") then Some (Lock name IntentShared)
    else if bytes_eq word (codes "IX") then Some (Lock name IntentExclusive)
    else if bytes_eq word (codes "SIX") then Some (Lock name SharedIntentExclusive)
    else if bytes_eq word (codes "U") then Some (Unlock name)
    else None

-- the text before the first space and the text after it, if there is a space
abbrev pub cut : List ℕ → Option (List ℕ × List ℕ)
cut [] = None
cut (b ∷ bs) = if b == 32 then Some ([], bs) else option_map (λ parts. (b ∷ parts.0, parts.1)) (cut bs)

-- the operation that a text spells, with the word before the first space and the name after it
abbrev pub op_of : List ℕ → Option Op
op_of text = option_and_then (λ parts. option_and_then (op_with parts.0) (name_of parts.1)) (cut text)

-- an operation as it is written
abbrev pub spelling : Op → List ℕ
spelling (Lock name mode) = mode_word mode ++ 32 ∷ name
spelling (Unlock name) = 85 ∷ 32 ∷ name

-- the name of an operation
abbrev pub name_in : Op → List ℕ
name_in (Lock name mode) = name
name_in (Unlock name) = name
