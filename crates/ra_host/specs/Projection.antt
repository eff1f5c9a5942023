-- What two of the hosts are to each other: the pair of hosts that ra_link speaks of. A frame has some text there.
use Rattle.std.specs.Prelude.{ℕ, Option, Some, None, List, [], map, length}
use Rattle.ra_frame.specs.declared.frame.Frame.{Frame}
use Rattle.ra_link.specs.Pair as pair
use Rattle.ra_book.specs.Pairs.{sent_to, come_from}
use Rattle.ra_host.specs.Host.{Host, on_disk}
use Rattle.ra_host.specs.Hosts.{Hosts, Packet}

-- the host as host j sees it: of its book, only the frames to that host and from it
abbrev pub view_of : (Frame → List ℕ) → Host → ℕ → pair.Host
view_of text h j =
    record {
      up = h.up;
      accused = h.accused j;
      link = h.links j;
      sent = map text (sent_to j h.book);
      taken = map text (come_from j h.book);
      sent_kept = length (sent_to j (on_disk h));
      taken_kept = length (come_from j (on_disk h));
      starts = h.starts;
    }

abbrev pub text_if_some : (Frame → List ℕ) → Option Frame → List ℕ
text_if_some text None = []
text_if_some text (Some frame) = text frame

abbrev pub packet_of : (Frame → List ℕ) → Packet → pair.Packet
packet_of text p = record { message = p.message; frame = text_if_some text p.frame }

-- hosts i and j, and what they ever said to each other
abbrev pub pair_of : (Frame → List ℕ) → Hosts → ℕ → ℕ → pair.Pair
pair_of text s i j =
    record {
      one = view_of text (s.host i) j;
      two = view_of text (s.host j) i;
      to_one = map (packet_of text) (s.said j i);
      to_two = map (packet_of text) (s.said i j);
    }
