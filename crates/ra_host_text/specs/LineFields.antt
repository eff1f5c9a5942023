-- How the lines that a host reads are read. Other definitions say what they mean.
use Rattle.std.specs.Prelude.{ℕ, List, Option, Some, None, option_map, if◌then◌else◌, codes}
use Rattle.std.specs.Str.{bytes_eq}
use Rattle.ra_trace.specs.Forms.{before, cut, node_of, start_of}
use Rattle.ra_host_text.specs.Fields.{nonce_of}
use Rattle.ra_host_text.specs.LineText.{Input}
use Rattle.ra_host_text.specs.LineText.Input.{Nonce, Peer, Up, Client, Gone, Time, Release}

abbrev pub nonce_line_of : List ℕ → Option Input
nonce_line_of text = option_map Nonce (nonce_of text)

abbrev pub peer_of : List ℕ → Option Input
peer_of text = option_map (λ p. Peer p.0 p.1) (before node_of text)

abbrev pub up_of : List ℕ → Option Input
up_of text = option_map Up (node_of text)

abbrev pub client_of : List ℕ → Option Input
client_of text = option_map (λ p. Client p.0 p.1) (before start_of text)

abbrev pub gone_of : List ℕ → Option Input
gone_of text = option_map Gone (start_of text)

abbrev pub time_of : List ℕ → Option Input
time_of text = option_map Time (start_of text)

-- by the first word and what is after it
abbrev pub worded_input_of : List ℕ → List ℕ → Option Input
worded_input_of word rest =
    if bytes_eq word (codes "peer") then peer_of rest
    else if bytes_eq word (codes "client") then client_of rest
    else if bytes_eq word (codes "time") then time_of rest
    else if bytes_eq word (codes "gone") then gone_of rest
    else if bytes_eq word (codes "up") then up_of rest
    else if bytes_eq word (codes "nonce") then nonce_line_of rest
    else None

-- a line of a word and more, or the one word that stands alone
abbrev pub input_by : Option (List ℕ × List ℕ) → List ℕ → Option Input
input_by None line = if bytes_eq line (codes "release") then Some Release else None
input_by (Some parts) line = worded_input_of parts.0 parts.1

unfoldable pub input_line_of : List ℕ → Option Input
input_line_of line = input_by (cut 32 line) line
