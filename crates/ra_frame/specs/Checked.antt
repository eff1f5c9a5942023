-- The checks, grouped as they are made, and what holds if all of them pass. No public contract speaks of it.
use Rattle.std.specs.Prelude.{◌≡◌, ◌⊎◌, ℕ, ◌+◌, ◌^◌, ◌≤◌, true, List, length, take, drop, slice_index, slice_range}
use Rattle.std.specs.List.{list_all}
use Rattle.ra_stamp.specs.Name.{is_name_byte}
use Rattle.ra_frame.specs.declared.format.Format.{Format}
use Rattle.ra_frame.specs.Format.{version_byte, to_place, mode_place, greatest_node}
use Rattle.ra_frame.specs.Faults.{Check, checks_of, node_at, number_at, greatest_mode_of}

-- the checks of the kind and the two nodes
abbrev pub head_checks : Format → List ℕ → List Check
head_checks format bytes = take 4 (checks_of format bytes)

-- the checks of the mode, the sequence number and the clock
abbrev pub numbers_checks : Format → List ℕ → List Check
numbers_checks format bytes = take 3 (drop 4 (checks_of format bytes))

-- the checks of the name, and that nothing follows it
abbrev pub name_checks : Format → List ℕ → List Check
name_checks format bytes = drop 7 (checks_of format bytes)

-- the clock in the bytes, at its place in this version
abbrev pub clock_in : Format → List ℕ → ℕ
clock_in format bytes = number_at bytes (mode_place format + 9)

-- the name in the bytes, at its place in this version, as long as the byte before it says
abbrev pub name_in : Format → List ℕ → List ℕ
name_in format bytes =
    let name = mode_place format + 18 in slice_range bytes name (name + slice_index bytes (mode_place format + 17))

-- what holds of bytes of a version that pass all checks
pub record IsChecked (format : Format) (bytes : List ℕ) : Type 0 where
  pub long : length bytes ≡ mode_place format + 18 + slice_index bytes (mode_place format + 17)
  pub version : slice_index bytes 0 ≡ version_byte format
  pub kind : (slice_index bytes 1 ≡ 1) ⊎ (slice_index bytes 1 ≡ 2)
  pub from_low : 1 ≤ node_at format bytes 2
  pub from_high : node_at format bytes 2 ≤ greatest_node format
  pub to_low : 1 ≤ node_at format bytes (to_place format)
  pub to_high : node_at format bytes (to_place format) ≤ greatest_node format
  pub apart : node_at format bytes 2 ≡ node_at format bytes (to_place format) → ⊥
  pub mode : slice_index bytes (mode_place format) ≤ greatest_mode_of format (slice_index bytes 1)
  pub seq : 1 ≤ number_at bytes (mode_place format + 1)
  pub clock_low : 1 ≤ clock_in format bytes
  pub clock_high : clock_in format bytes ≤ 2 ^ 62
  pub name_low : 1 ≤ slice_index bytes (mode_place format + 17)
  pub name_high : slice_index bytes (mode_place format + 17) ≤ 32
  pub name : list_all is_name_byte (name_in format bytes) ≡ true
