-- The end of a replay: what the links and the node are to be.
use Rattle.std.specs.Prelude.{◌≡◌, ℕ, ◌-◌, ◌≤◌, not, ◌&&◌, if◌then◌else◌, Some, List, [], ◌∷◌, zero, suc, slice_get}
use Rattle.ra_link.specs.declared.link.Link.{Link}
use Rattle.ra_link.specs.Link as rule
use Rattle.ra_host.specs.Host.{Host, IsOther}
use Rattle.ra_host.specs.Outgoing.{Outgoing}
use Rattle.ra_host.specs.Played.{PlayedState}

-- how many frames the host at this place has acknowledged
abbrev pub acknowledged_at : List Link → ℕ → ℕ
acknowledged_at [] place = 0
acknowledged_at (l ∷ ls) zero = l.acknowledged
acknowledged_at (l ∷ ls) (suc place) = acknowledged_at ls place

-- the link after the replay, with this many frames
abbrev pub replayed : Link → ℕ → Link
replayed l count = if rule.may_replay l && not (rule.replay_accuses l count) then rule.replays l count else l

-- the frames that are not kept are acknowledged
abbrev pub DropsFew : PlayedState → Host → Type 0
DropsFew p h =
    (j : ℕ) (o : Outgoing) → IsOther h j → slice_get p.outgoing (j - 1) ≡ Some o → o.dropped ≤ (h.links j).acknowledged
