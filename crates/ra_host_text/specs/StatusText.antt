-- The lines with which a host answers `status`, as text. Times are how long it has been so, in milliseconds.
use Rattle.std.specs.Prelude.{ℕ, List, ◌++◌, Option, Some, None, Bool, true, false, codes, decimal}
use Rattle.ra_stamp.specs.Mode.{mode_word}
use Rattle.ra_stamp.specs.Name.{IsName}
use Rattle.ra_stamp.specs.NodeId.{IsNodeNumber}
use Rattle.ra_text.specs.Lines.{field}
use Rattle.ra_host_text.specs.HostText.{IsCount}
use Rattle.ra_host_text.specs.declared.status_line.StatusLine.{StatusLine}
use Rattle.ra_host_text.specs.declared.status_line.StatusLine.TheVariants.{Node, Peer, Clients, Holds, Waits, Greatest, Book, End}

-- whether a question to a host is open, or the host has answered
abbrev pub peer_word : Bool → List ℕ
peer_word true = codes "asked"
peer_word false = codes "heard"

-- a client's connection, or a hyphen for a client of before the start
abbrev pub connection_text : Option ℕ → List ℕ
connection_text None = codes "-"
connection_text (Some client) = decimal client

-- how it is spelled
abbrev pub status_text : StatusLine → List ℕ
status_text (Node node nodes first) =
    codes "node" ++ field (decimal node) ++ field (decimal nodes) ++ field (decimal first)
status_text (Peer host is_asked since unacknowledged) =
    codes "peer" ++ field (decimal host) ++ field (peer_word is_asked) ++ field (decimal since)
    ++ field (decimal unacknowledged)
status_text (Clients count) = codes "clients" ++ field (decimal count)
status_text (Holds name mode seq client since) =
    codes "holds" ++ field name ++ field (mode_word mode) ++ field (decimal seq) ++ field (connection_text client)
    ++ field (decimal since)
status_text (Waits name mode client since) =
    codes "waits" ++ field name ++ field (mode_word mode) ++ field (connection_text client) ++ field (decimal since)
status_text (Greatest seq) = codes "greatest" ++ field (decimal seq)
status_text (Book bytes) = codes "book" ++ field (decimal bytes)
status_text End = codes "end"

abbrev pub IsConnectionInRange : Option ℕ → Type 0
IsConnectionInRange None = Unit {0}
IsConnectionInRange (Some client) = IsCount client

-- its fields are in their ranges
abbrev pub IsStatusInRange : StatusLine → Type 0
IsStatusInRange (Node node nodes first) = IsNodeNumber node × IsNodeNumber nodes × IsCount first
IsStatusInRange (Peer host is_asked since unacknowledged) =
    IsNodeNumber host × IsCount since × IsCount unacknowledged
IsStatusInRange (Clients count) = IsCount count
IsStatusInRange (Holds name mode seq client since) =
    IsName name × IsCount seq × IsConnectionInRange client × IsCount since
IsStatusInRange (Waits name mode client since) = IsName name × IsConnectionInRange client × IsCount since
IsStatusInRange (Greatest seq) = IsCount seq
IsStatusInRange (Book bytes) = IsCount bytes
IsStatusInRange End = Unit {0}
