-- Which lines of a text are drawn.
use Rattle.std.specs.Prelude.{ℕ, ◌-◌, min}

-- how many of this many lines are from one to another, both included and counted from 1; subtraction ends at 0
abbrev pub lines_between : ℕ → ℕ → ℕ → ℕ
lines_between from to lines = min to lines - (from - 1)
