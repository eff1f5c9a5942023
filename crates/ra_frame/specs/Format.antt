-- How the versions of the format differ.
use Rattle.std.specs.Prelude.{ℕ, ◌+◌, List, [], ◌∷◌}
use Rattle.std.specs.Int.{w16, to_be_bytes}
use Rattle.ra_frame.specs.declared.format.Format.{Format}
use Rattle.ra_frame.specs.declared.format.Format.TheVariants.{V1, V2}

-- the first byte of each frame
abbrev pub version_byte : Format → ℕ
version_byte V1 = 1
version_byte V2 = 2

-- how many bytes a node's number takes
abbrev pub node_width : Format → ℕ
node_width V1 = 1
node_width V2 = 2

-- the bytes of a node's number, highest first
abbrev pub node_bytes : Format → ℕ → List ℕ
node_bytes V1 node = node ∷ []
node_bytes V2 node = to_be_bytes w16 node

-- the place of the receiver, which is after the version, the kind and the sender; the first byte of a frame has place 0
abbrev pub to_place : Format → ℕ
to_place format = 2 + node_width format

-- the place of the mode, which is after the receiver
abbrev pub mode_place : Format → ℕ
mode_place format = 2 + node_width format + node_width format

-- the place at which each field begins, from the version to the name
abbrev pub places : Format → List ℕ
places format =
    let mode = mode_place format in
    0 ∷ 1 ∷ 2 ∷ to_place format ∷ mode ∷ (mode + 1) ∷ (mode + 9) ∷ (mode + 17) ∷ (mode + 18) ∷ []

-- nodes are numbered from 1 to this
abbrev pub greatest_node : Format → ℕ
greatest_node V1 = 16
greatest_node V2 = 64

-- the greatest byte of a mode: version 1 has only the modes shared and exclusive
abbrev pub greatest_mode : Format → ℕ
greatest_mode V1 = 1
greatest_mode V2 = 4
