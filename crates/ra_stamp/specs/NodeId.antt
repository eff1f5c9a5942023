-- Which numbers nodes may have.
use Rattle.std.specs.Prelude.{ℕ, ◌≤◌}

-- nodes are numbered from 1 to at most 64
abbrev pub IsNodeNumber : ℕ → Type 0
IsNodeNumber number = (1 ≤ number) × (number ≤ 64)
