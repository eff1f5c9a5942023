-- How many lines a text has.
use Rattle.std.specs.Prelude.{ℕ, ◌==◌, List, if◌then◌else◌, sum_by}

-- 1 if a byte is a line feed, and otherwise 0
abbrev pub feed_count : ℕ → ℕ
feed_count byte = if byte == 10 then 1 else 0

-- how many lines a text has, which is how many line feeds
abbrev pub line_count : List ℕ → ℕ
line_count text = sum_by feed_count text
