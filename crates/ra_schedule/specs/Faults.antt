-- How often chance loses or repeats a message.
use Rattle.std.specs.Prelude.{ℕ, ◌+◌, ◌≤◌}

-- how many of each thousand messages that chance takes are lost, and how many are repeated, on average
pub record FaultRates : Type 0 where
  pub lose : ℕ
  pub repeat : ℕ

-- the two are at most 1,000 together, and at most 400 are repeats, so that on average copies do not multiply without
-- end
pub record AreFaults (faults : FaultRates) : Type 0 where
  pub at_most_all : faults.lose + faults.repeat ≤ 1000
  pub few_repeats : faults.repeat ≤ 400
