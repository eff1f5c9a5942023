-- The lines that answer `status` have no line feed.
use Rattle.std.proofs.Common.{◌==◌, ◌<◌, ◌^◌, ℕ, Bool, true, false, List, [], ◌∷◌, ◌++◌, Option, Some, None, refl, codes, arith, lit<}
use Rattle.std.specs.Prelude.{All, ◌≢◌, ◌≡◌, nat_lt}
use Rattle.std.specs.List.{list_all}
use Rattle.std.specs.Fmt.{decimal}
use Rattle.std.proofs.lemmas.List.Elements.{All-append, All-cons, All-nil}
use Rattle.ra_stamp.specs.Mode.{mode_word}
use Rattle.ra_stamp.specs.Name.{IsName}
use Rattle.ra_stamp.specs.NodeId.{IsNodeNumber}
use Rattle.ra_stamp.specs.declared.mode.Mode.{Mode}
use Rattle.ra_text.specs.Lines.{field}
use Rattle.ra_trace.proofs.Cuts.{IsFree}
use Rattle.ra_trace.proofs.Spelled.{reads_mode, reads_name, reads_node, reads_start}
use Rattle.ra_host_text.specs.HostText.{IsCount}
use Rattle.ra_host_text.specs.StatusText.{IsConnectionInRange, IsStatusInRange, connection_text, peer_word, status_text}
use Rattle.ra_host_text.specs.declared.status_line.StatusLine.{StatusLine}
use Rattle.ra_host_text.specs.declared.status_line.StatusLine.TheVariants.{Node, Peer, Clients, Holds, Waits, Greatest, Book, End}
use Rattle.ra_host_text.proofs.Clients.{free}
use Rattle.ra_host_text.proofs.Nonces.{high_word}

-- a text with no line feed
record NoFeed (text : List ℕ) : Type 0 where
  free : IsFree 10 text

and_field : {before text : List ℕ} → NoFeed before → NoFeed text → NoFeed (before ++ field text)
and_field {before} {text} a b = record { free = All-append (λ b. (b == 10) ≡ false) before (32 ∷ text) a.free (All-cons (λ b. (b == 10) ≡ false) 32 text refl b.free) }

number : (n : ℕ) → IsCount n → NoFeed (decimal n)
number n h = record { free = reads_start.reads.no_feed n h }

node : (n : ℕ) → IsNodeNumber n → NoFeed (decimal n)
node n h = record { free = reads_node.reads.no_feed n h }

named : (name : List ℕ) → IsName name → NoFeed name
named name h = record { free = reads_name.reads.no_feed name h }

mode_of : (mode : Mode) → NoFeed (mode_word mode)
mode_of mode = record { free = reads_mode.reads.no_feed mode tt }

word : (text : List ℕ) → list_all (nat_lt 47) text ≡ true → NoFeed text
word text h = record { free = high_word 10 (lit< tt) text h }

asked : (is : Bool) → NoFeed (peer_word is)
asked true = word (codes "asked") refl
asked false = word (codes "heard") refl

connection : (client : Option ℕ) → IsConnectionInRange client → NoFeed (connection_text client)
connection None h = record { free = All-cons (λ b. (b == 10) ≡ false) 45 [] refl (All-nil (λ b. (b == 10) ≡ false)) }
connection (Some client) h = number client h

status_free : (line : StatusLine) → IsStatusInRange line → NoFeed (status_text line)
status_free (Node me nodes first) h =
    and_field (and_field (and_field (word (codes "node") refl) (node me h.0)) (node nodes h.1)) (number first h.2)
status_free (Peer host is_asked since unacknowledged) h =
    and_field
    (and_field (and_field (and_field (word (codes "peer") refl) (node host h.0)) (asked is_asked)) (number since h.1))
    (number unacknowledged h.2)
status_free (Clients count) h = and_field (word (codes "clients") refl) (number count h)
status_free (Holds name mode seq client since) h =
    and_field
    (and_field
    (and_field (and_field (and_field (word (codes "holds") refl) (named name h.0)) (mode_of mode)) (number seq h.1))
    (connection client h.2)) (number since h.3)
status_free (Waits name mode client since) h =
    and_field
    (and_field (and_field (and_field (word (codes "waits") refl) (named name h.0)) (mode_of mode)) (connection client h.1))
    (number since h.2)
status_free (Greatest seq) h = and_field (word (codes "greatest") refl) (number seq h)
status_free (Book bytes) h = and_field (word (codes "book") refl) (number bytes h)
status_free End h = word (codes "end") refl

pub status_feed : (line : StatusLine) → IsStatusInRange line → All (λ byte. byte ≢ 10) (status_text line)
status_feed line h = free (status_text line) (status_free line h).free
