-- What all objects that are printed have in common: the members are in ascending order of the bytes of their names, and
-- an object is a line.
use Rattle.std.specs.Prelude.{ℕ, ◌^◌, List, ◌++◌, nat_lt, if◌then◌else◌, codes, decimal}
use Rattle.serde_json.specs.Data.{Data, number, string, unsigned}
use Rattle.serde_json.specs.Written.{compact_text}

-- a count: a number if that fits in 64 bits, and otherwise the text of its digits
abbrev pub count : ℕ → Data
count n = if nat_lt n (2 ^ 64) then number (unsigned n) else string (decimal n)

-- the line of an object, without spaces between its parts
abbrev pub line_of : Data → List ℕ
line_of value = compact_text value ++ codes "\n"
