-- The order of stamps.
use Rattle.std.specs.Prelude.{◌≡◌, ◌<◌, ◌⊎◌}
use Rattle.std.specs.declared.cmp.Ordering.{Ordering}
use Rattle.std.specs.Ordering.{nat_cmp, ordering_then}
use Rattle.ra_stamp.specs.declared.stamp.Stamp.{Stamp}

-- a stamp is earlier than another if its number is smaller, or if the numbers are equal and its node is smaller
abbrev pub IsEarlier : Stamp → Stamp → Type 0
IsEarlier a b = (a.seq < b.seq) ⊎ ((a.seq ≡ b.seq) × (a.node < b.node))

-- the order of two stamps: by number, and then by node
abbrev pub stamp_cmp : Stamp → Stamp → Ordering
stamp_cmp a b = ordering_then (nat_cmp a.seq b.seq) (nat_cmp a.node b.node)
