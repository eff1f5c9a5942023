-- The links of a host as its node sends messages.
use Rattle.std.specs.Prelude.{◌≡◌, ℕ, ◌+◌, ◌-◌, ◌≤◌, zero, suc, true, if◌then◌else◌, List, [], ◌∷◌, length}
use Rattle.ra_stamp.specs.declared.message.Message.{Message}
use Rattle.ra_stamp.specs.Message.{to_of}
use Rattle.ra_frame.specs.declared.frame.Frame.{Frame}
use Rattle.ra_link.specs.declared.link.Link.{Link}
use Rattle.ra_link.specs.Link as rule
use Rattle.ra_host.specs.Host.{Host, IsOther, frames_to}

-- by the hosts' numbers: a frame is made for the host at this place, if it may be
abbrev pub makes_at : List Link → ℕ → List Link
makes_at [] place = []
makes_at (l ∷ ls) zero = (if rule.may_make l then rule.makes l else l) ∷ ls
makes_at (l ∷ ls) (suc place) = l ∷ makes_at ls place

-- each of these messages makes a frame for its receiver
abbrev pub makes_each : List Link → List Message → List Link
makes_each ls [] = ls
makes_each ls (m ∷ ms) = makes_each (makes_at ls (to_of m - 1)) ms

-- the host is ready, and numbers are left for these frames
abbrev pub MayMake : Host → List Frame → Type 0
MayMake h frames =
    (j : ℕ) → IsOther h j
    → ((h.links j).ready ≡ true) × ((h.links j).made + length (frames_to j frames) ≤ rule.greatest)
