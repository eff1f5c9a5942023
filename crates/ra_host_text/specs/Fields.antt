-- How the fields of a text are read. Other definitions say what the fields mean.
use Rattle.std.specs.Prelude.{ℕ, List, Option, Some, None, option_map, option_and_then, Result, Ok, Err, if◌then◌else◌, codes}
use Rattle.std.specs.Int.{w128, from_be_bytes}
use Rattle.std.specs.Str.{bytes_eq}
use Rattle.hex.specs.Hex.{decode_sized}
use Rattle.hex.specs.declared.error.FromHexError.{FromHexError}
use Rattle.ra_trace.specs.Forms.{before, cut, fields, name_of, node_of, start_of}
use Rattle.ra_host_text.specs.declared.host_message.HostMessage.{HostMessage}
use Rattle.ra_host_text.specs.declared.host_message.HostMessage.TheVariants.{Hello, Welcome, Ack, Old}
use Rattle.ra_host_text.specs.HostText.{nonce_text}

-- the nonce of these bytes, if the digits are how it is written
abbrev pub nonce_by : List ℕ → Result (List ℕ) FromHexError → Option ℕ
nonce_by digits (Ok bytes) =
    if bytes_eq digits (nonce_text (from_be_bytes w128 bytes)) then Some (from_be_bytes w128 bytes) else None
nonce_by digits (Err fault) = None

-- the nonce that digits write
unfoldable pub nonce_of : List ℕ → Option ℕ
nonce_of digits = nonce_by digits (decode_sized digits 16)

-- a question: a nonce and a number, with a dot between them
unfoldable pub question_of : List ℕ → Option (ℕ × ℕ)
question_of text =
    option_and_then (λ parts. option_and_then (λ start. option_map (λ question. (start, question)) (start_of parts.1))
    (nonce_of parts.0)) (cut 46 text)

abbrev pub first_and_identity_of : List ℕ → Option (ℕ × ℕ)
first_and_identity_of = fields start_of nonce_of

abbrev pub settings_of : List ℕ → Option (ℕ × (ℕ × ℕ))
settings_of = fields node_of first_and_identity_of

abbrev pub hello_of : List ℕ → Option HostMessage
hello_of text = option_map (λ f. Hello f.0.0 f.0.1 f.1.0 f.1.1.0 f.1.1.1) (fields question_of settings_of text)

abbrev pub start_and_kept_of : List ℕ → Option (ℕ × ℕ)
start_and_kept_of = fields nonce_of start_of

abbrev pub welcome_of : List ℕ → Option HostMessage
welcome_of text = option_map (λ f. Welcome f.0.0 f.0.1 f.1.0 f.1.1) (fields question_of start_and_kept_of text)

abbrev pub ack_of : List ℕ → Option HostMessage
ack_of text = option_map (λ f. Ack f.0 f.1.0 f.1.1) (fields nonce_of start_and_kept_of text)

abbrev pub old_of : List ℕ → Option HostMessage
old_of text = option_map Old (start_of text)

-- a start and a number, and the digits after them
abbrev pub frame_fields_of : List ℕ → Option (ℕ × (ℕ × List ℕ))
frame_fields_of = fields nonce_of (before start_of)

-- a message without a frame, by its first word and what is after it
abbrev pub plain_message_of : List ℕ → List ℕ → Option HostMessage
plain_message_of word rest =
    if bytes_eq word (codes "ack") then ack_of rest
    else if bytes_eq word (codes "welcome") then welcome_of rest
    else if bytes_eq word (codes "hello") then hello_of rest
    else if bytes_eq word (codes "old") then old_of rest
    else None

-- two hosts, and the text after them
abbrev pub hosts_of : List ℕ → Option (ℕ × (ℕ × List ℕ))
hosts_of = fields node_of (before node_of)

-- the cluster and the two hosts of a line, and the text after them
abbrev pub address_of : List ℕ → Option (List ℕ × (ℕ × (ℕ × List ℕ)))
address_of = fields name_of hosts_of
