-- For how long clients wait.
use Rattle.std.specs.Prelude.{ℕ, ◌≤◌, ◌^◌}

-- a client waits for 2^53 milliseconds at most
abbrev pub IsWait : ℕ → Type 0
IsWait milliseconds = milliseconds ≤ 2 ^ 53
