-- Which bytes are a name.
use Rattle.std.specs.Prelude.{◌≡◌, ℕ, ◌-◌, ◌≤◌, Bool, ◌||◌, ◌&&◌, List, ◌++◌, length, take, replicate, ◌==◌, nat_le}
use Rattle.std.specs.List.{AllPass}

-- whether a byte is an ASCII letter or digit, '_', '-' or '.'
abbrev pub is_name_byte : ℕ → Bool
is_name_byte b =
    (nat_le 65 b && nat_le b 90) || (nat_le 97 b && nat_le b 122) || (nat_le 48 b && nat_le b 57) || b == 95 || b == 45
    || b == 46

-- a name is 1 to 32 of these bytes: ASCII letters, digits, '_', '-' and '.'
pub record IsName (bytes : List ℕ) : Type 0 where
  pub not_empty : 1 ≤ length bytes
  pub not_long : length bytes ≤ 32
  pub each : AllPass is_name_byte bytes

-- a name in an array of 32 bytes: its own bytes, and then zeros
abbrev pub padded : List ℕ → List ℕ
padded bytes = bytes ++ replicate (32 - length bytes) 0

-- the first `len` bytes of an array are a name, and all others are zeros
pub record IsPadded (len : ℕ) (bytes : List ℕ) : Type 0 where
  pub name : IsName (take len bytes)
  pub len_is : length (take len bytes) ≡ len
  pub bytes_is : padded (take len bytes) ≡ bytes
