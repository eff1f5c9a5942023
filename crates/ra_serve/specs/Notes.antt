-- The notes of a host on what others say. Each fault of a host is counted by its kind, and the first one is told, and
-- then each 1,000th.
use Rattle.std.specs.Prelude.{◌≡◌, ℕ, ◌+◌, ◌%◌, ◌==◌, ◌||◌, min, Bool, true, false, List, ◌++◌, slice_index_or, slice_set, codes, decimal}
use Rattle.ra_text.specs.Lines.{field}
use Rattle.ra_link.specs.Link.{greatest}
use Rattle.ra_host_text.specs.declared.host_line.message_fault.MessageFault.{MessageFault}
use Rattle.ra_host_text.specs.declared.host_line.message_fault.MessageFault.TheVariants.{Unknown, Cluster, From, To, Frame}
use Rattle.ra_serve.specs.declared.settings.Settings.{Settings}
use Rattle.ra_serve.specs.declared.base.Base.{Base}
use Rattle.ra_serve.specs.Peers.{Puts, peer_of}
use Rattle.ra_serve.specs.Saying.{Writes}

abbrev pub fault_text : MessageFault → List ℕ
fault_text Unknown = codes "said no line of a host"
fault_text Cluster = codes "said a line of another cluster"
fault_text From = codes "said a line of another host"
fault_text To = codes "said a line for another host"
fault_text Frame = codes "said a frame of others"

-- its place among the faults of a host; other settings are at 5, and another book at 6
abbrev pub fault_place : MessageFault → ℕ
fault_place Unknown = 0
fault_place Cluster = 1
fault_place From = 2
fault_place To = 3
fault_place Frame = 4

-- the settings of another host, and those of this one
abbrev pub settings_text : Settings → ℕ → ℕ → List ℕ
settings_text s nodes first =
    codes "has other settings, nodes and start:" ++ field (decimal nodes) ++ field (decimal first) ++ codes ", not"
    ++ field (decimal s.member.nodes) ++ field (decimal s.start)

-- the beginning of a note on a host
abbrev pub note_start : ℕ → List ℕ
note_start host = codes "note host" ++ field (decimal host)

-- its end: how often it was so
abbrev pub note_end : ℕ → List ℕ
note_end count = codes ", count" ++ field (decimal count) ++ codes "\n"

abbrev pub note_text : ℕ → List ℕ → ℕ → List ℕ
note_text host words count = (note_start host ++ field words) ++ note_end count

abbrev pub is_told : ℕ → Bool
is_told count = count == 1 || count % 1000 == 0

-- how often a fault of a host came, with this time
abbrev pub count_of : Base → ℕ → ℕ → ℕ
count_of base host place = min greatest (slice_index_or (peer_of base host).faults place 0 + 1)

-- a fault of a host is counted
abbrev pub Counts : Base → ℕ → ℕ → Base → Type 0
Counts old host place new =
    Puts old host
    (record (peer_of old host) { faults = slice_set (peer_of old host).faults place (count_of old host place) }) new

abbrev pub WritesIf : Bool → Base → List ℕ → Base → Type 0
WritesIf true old text new = Writes old text new
WritesIf false old text new = new ≡ old

-- a fault of a host is counted, and told in these words if it is time
abbrev pub Notes : Base → (host place : ℕ) → (words : List ℕ) → Base → Type 0
Notes old host place words new =
    (mid : Base) × Counts old host place mid
    × WritesIf (is_told (count_of old host place)) mid (note_text host words (count_of old host place)) new
