-- Which bytes represent which frame, in each version of the format.
use Rattle.std.specs.Prelude.{◌≡◌, ℕ, ◌<◌, ◌≤◌, ◌^◌, List, ◌∷◌, ◌++◌, length}
use Rattle.std.specs.Int.{w64, to_be_bytes}
use Rattle.ra_stamp.specs.declared.mode.Mode.{Mode}
use Rattle.ra_stamp.specs.declared.mode.Mode.TheVariants.{Shared, Exclusive, IntentShared, IntentExclusive, SharedIntentExclusive}
use Rattle.ra_stamp.specs.declared.message.Message.{Message}
use Rattle.ra_stamp.specs.declared.message.Message.TheVariants.{Request, Reply}
use Rattle.ra_stamp.specs.Name.{IsName}
use Rattle.ra_frame.specs.declared.frame.Frame.{Frame}
use Rattle.ra_frame.specs.declared.format.Format.{Format}
use Rattle.ra_frame.specs.declared.format.Format.TheVariants.{V2}
use Rattle.ra_frame.specs.Fits.{IsClock}
use Rattle.ra_frame.specs.Format.{version_byte, node_bytes, greatest_node, greatest_mode}

-- the byte of a mode
abbrev pub mode_byte : Mode → ℕ
mode_byte Shared = 0
mode_byte Exclusive = 1
mode_byte IntentShared = 2
mode_byte IntentExclusive = 3
mode_byte SharedIntentExclusive = 4

-- The bytes have these fields in this order, each in its range in this version, and nothing after the name. The
-- sequence number and the clock are eight bytes each, highest first, and the name follows its length.
pub record HasFields (format : Format) (bytes : List ℕ) (kind from to mode seq clock : ℕ) (name : List ℕ) : Type 0 where
  pub from_range : (1 ≤ from) × (from ≤ greatest_node format)
  pub to_range : (1 ≤ to) × (to ≤ greatest_node format)
  pub apart : from ≡ to → ⊥
  pub mode_range : mode ≤ greatest_mode format
  pub seq_range : (1 ≤ seq) × (seq < 2 ^ 64)
  pub clock_range : IsClock clock
  pub is_name : IsName name
  pub spelled : bytes ≡ version_byte format ∷ kind ∷ (node_bytes format from ++ (node_bytes format to ++ mode
      ∷ (to_be_bytes w64 seq ++ (to_be_bytes w64 clock ++ length name ∷ name))))

-- the bytes represent a message that is sent at a clock: the kind is 1 for a REQUEST and 2 for a REPLY, and the mode of
-- a REPLY is 0
abbrev pub IsMessageText : Format → List ℕ → ℕ → Message → Type 0
IsMessageText format bytes clock (Request from to name mode seq) =
    HasFields format bytes 1 from to (mode_byte mode) seq clock name
IsMessageText format bytes clock (Reply from to name seq) = HasFields format bytes 2 from to 0 seq clock name

-- the bytes are the text of the frame in this version
abbrev pub IsFrameTextOf : Format → List ℕ → Frame → Type 0
IsFrameTextOf format bytes frame = IsMessageText format bytes frame.clock frame.message

-- what may be read: the bytes are the text of the frame in one of the versions
abbrev pub IsFrameText : List ℕ → Frame → Type 0
IsFrameText bytes frame = (format : Format) × IsFrameTextOf format bytes frame

-- what is written: the bytes are its text in version 2
abbrev pub IsWrittenText : List ℕ → Frame → Type 0
IsWrittenText bytes frame = IsFrameTextOf V2 bytes frame
