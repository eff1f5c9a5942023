-- What is wrong with bytes that are not the text of a frame.
use Rattle.std.specs.Prelude.{ℕ, ◌+◌, ◌^◌, Bool, not, ◌&&◌, ◌||◌, List, [], ◌∷◌, length, slice_index, slice_range, Option, Some, None, Result, Ok, Err, ◌==◌, nat_lt, nat_le, if◌then◌else◌}
use Rattle.std.specs.List.{list_all}
use Rattle.std.specs.Int.{w16, w64, from_be_bytes}
use Rattle.ra_stamp.specs.Name.{is_name_byte}
use Rattle.ra_frame.specs.declared.format.Format.{Format}
use Rattle.ra_frame.specs.declared.format.Format.TheVariants.{V1, V2}
use Rattle.ra_frame.specs.declared.error.FrameError.{FrameError}
use Rattle.ra_frame.specs.declared.error.FrameError.TheVariants.{Short, Version, Kind, From, To, SameNode, Mode, Seq, Clock, NameLength, NameByte, Trailing}
use Rattle.ra_frame.specs.Format.{to_place, mode_place, greatest_node, greatest_mode}

-- a check of one field: how many bytes the text needs up to its end, whether the field is right, and the fault if it is
-- not
pub record Check : Type 0 where
  pub end : ℕ
  pub is_right : Bool
  pub fault : FrameError

-- the fault of the first check that fails; a field with missing bytes is `Short`
abbrev pub first_failing : ℕ → List Check → Option FrameError
first_failing len [] = None
first_failing len (check ∷ checks) =
    if nat_lt len check.end then Some Short
    else if check.is_right then first_failing len checks else Some check.fault

-- the number of a node that begins at this place, highest byte first
abbrev pub node_at : Format → List ℕ → ℕ → ℕ
node_at V1 bytes place = slice_index bytes place
node_at V2 bytes place = from_be_bytes w16 (slice_range bytes place (place + 2))

-- the number in the eight bytes that begin at this place, highest byte first
abbrev pub number_at : List ℕ → ℕ → ℕ
number_at bytes place = from_be_bytes w64 (slice_range bytes place (place + 8))

-- whether n is in the range from low to high, both included
abbrev pub is_within : ℕ → ℕ → ℕ → Bool
is_within low high n = nat_le low n && nat_le n high

-- the greatest mode byte of a kind: 0 in a REPLY, which has no mode
abbrev pub greatest_mode_of : Format → ℕ → ℕ
greatest_mode_of format kind = if kind == 1 then greatest_mode format else 0

-- the checks of all fields but the version, in the order of the fields
abbrev pub checks_of : Format → List ℕ → List Check
checks_of format bytes =
    let byte = slice_index bytes in
    let from = node_at format bytes 2 in
    let to = node_at format bytes (to_place format) in
    let mode = mode_place format in
    let name = mode + 18 in
    let end = name + byte (mode + 17) in
    record { end = 2; is_right = byte 1 == 1 || byte 1 == 2; fault = Kind } ∷
    record { end = to_place format; is_right = is_within 1 (greatest_node format) from; fault = From } ∷
    record { end = mode; is_right = is_within 1 (greatest_node format) to; fault = To } ∷
    record { end = mode; is_right = not (from == to); fault = SameNode } ∷
    record { end = mode + 1; is_right = nat_le (byte mode) (greatest_mode_of format (byte 1)); fault = Mode } ∷
    record { end = mode + 9; is_right = nat_le 1 (number_at bytes (mode + 1)); fault = Seq } ∷
    record { end = mode + 17; is_right = is_within 1 (2 ^ 62) (number_at bytes (mode + 9)); fault = Clock } ∷
    record { end = name; is_right = is_within 1 32 (byte (mode + 17)); fault = NameLength } ∷
    record { end = end; is_right = list_all is_name_byte (slice_range bytes name end); fault = NameByte } ∷
    record { end = end; is_right = length bytes == end; fault = Trailing } ∷ []

-- the first field after the version that is short or not right, in the order of the fields, or None if all are right
abbrev pub first_fault_of : Format → List ℕ → Option FrameError
first_fault_of format bytes = first_failing (length bytes) (checks_of format bytes)

-- the version that the first byte names, or what is wrong with it
abbrev pub format_of : List ℕ → Result Format FrameError
format_of [] = Err Short
format_of (byte ∷ bytes) = if byte == 1 then Ok V1 else if byte == 2 then Ok V2 else Err Version

-- the first field that is short or not right: the version, or a later field as that version has it
abbrev pub fault_by : Result Format FrameError → List ℕ → Option FrameError
fault_by (Err fault) bytes = Some fault
fault_by (Ok format) bytes = first_fault_of format bytes

-- the fault of the bytes: the fault of the first field, in order, that is short or not right, or None if all are right
abbrev pub first_fault : List ℕ → Option FrameError
first_fault bytes = fault_by (format_of bytes) bytes
