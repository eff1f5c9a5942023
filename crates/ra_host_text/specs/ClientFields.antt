-- How the fields of what clients say are read, and those of answers. Other definitions say what the fields mean.
use Rattle.std.specs.Prelude.{ℕ, ◌^◌, nat_le, List, Option, Some, None, option_map, option_and_then, if◌then◌else◌, codes}
use Rattle.std.specs.Str.{bytes_eq}
use Rattle.ra_stamp.specs.declared.mode.Mode.{Mode}
use Rattle.ra_trace.specs.Forms.{cut, fields, mode_of, name_of, node_of, rest_after, start_of}
use Rattle.ra_host_text.specs.declared.answer.Answer.{Answer}
use Rattle.ra_host_text.specs.declared.answer.Answer.TheVariants.{Granted, Timeout, Unlocked, Refused}
use Rattle.ra_host_text.specs.declared.answer.Refusal.{Refusal}
use Rattle.ra_host_text.specs.declared.answer.Refusal.TheVariants.{Busy, Exhausted, Limit, NotHeld}
use Rattle.ra_host_text.specs.declared.client_line.ClientLine.{ClientLine}
use Rattle.ra_host_text.specs.declared.client_line.ClientLine.TheVariants.{Lock, Unlock, Status}

-- a time that clients may wait
abbrev pub wait_of : List ℕ → Option ℕ
wait_of digits = option_and_then (λ number. if nat_le number (2 ^ 53) then Some number else None) (start_of digits)

abbrev pub within_of : List ℕ → Option ℕ
within_of text = option_and_then wait_of (rest_after (codes "within ") text)

-- a mode alone, or with the time that the client waits
abbrev pub mode_and_within_by : Option (List ℕ × List ℕ) → List ℕ → Option (Mode × Option ℕ)
mode_and_within_by None text = option_map (λ mode. (mode, None)) (mode_of text)
mode_and_within_by (Some parts) text =
    option_and_then (λ mode. option_map (λ within. (mode, Some within)) (within_of parts.1)) (mode_of parts.0)

unfoldable pub mode_and_within_of : List ℕ → Option (Mode × Option ℕ)
mode_and_within_of text = mode_and_within_by (cut 32 text) text

abbrev pub lock_of : List ℕ → Option ClientLine
lock_of text = option_map (λ f. Lock f.0 f.1.0 f.1.1) (fields name_of mode_and_within_of text)

abbrev pub unlock_of : List ℕ → Option ClientLine
unlock_of text = option_map Unlock (name_of text)

-- by the first word and what is after it
abbrev pub named_line_of : List ℕ → List ℕ → Option ClientLine
named_line_of word rest =
    if bytes_eq word (codes "lock") then lock_of rest
    else if bytes_eq word (codes "unlock") then unlock_of rest
    else None

-- a line with a name, or the one without
abbrev pub client_line_by : Option (List ℕ × List ℕ) → List ℕ → Option ClientLine
client_line_by None line = if bytes_eq line (codes "status") then Some Status else None
client_line_by (Some parts) line = named_line_of parts.0 parts.1

unfoldable pub client_line_of : List ℕ → Option ClientLine
client_line_of line = client_line_by (cut 32 line) line

-- ---- Answers

abbrev pub refusal_of : List ℕ → Option Refusal
refusal_of word =
    if bytes_eq word (codes "Busy") then Some Busy
    else if bytes_eq word (codes "Exhausted") then Some Exhausted
    else if bytes_eq word (codes "Limit") then Some Limit
    else if bytes_eq word (codes "NotHeld") then Some NotHeld
    else None

abbrev pub seq_and_node_of : List ℕ → Option (ℕ × ℕ)
seq_and_node_of = fields start_of node_of

abbrev pub granted_of : List ℕ → Option Answer
granted_of text = option_map (λ f. Granted f.0 f.1.0 f.1.1) (fields name_of seq_and_node_of text)

abbrev pub timeout_of : List ℕ → Option Answer
timeout_of text = option_map Timeout (name_of text)

abbrev pub unlocked_of : List ℕ → Option Answer
unlocked_of text = option_map Unlocked (name_of text)

abbrev pub refused_of : List ℕ → Option Answer
refused_of text = option_map (λ f. Refused f.0 f.1) (fields name_of refusal_of text)

-- by the first word and what is after it
abbrev pub answer_of : List ℕ → List ℕ → Option Answer
answer_of word rest =
    if bytes_eq word (codes "granted") then granted_of rest
    else if bytes_eq word (codes "unlocked") then unlocked_of rest
    else if bytes_eq word (codes "timeout") then timeout_of rest
    else if bytes_eq word (codes "refused") then refused_of rest
    else None

-- a line with an answer
unfoldable pub answer_line_of : List ℕ → Option Answer
answer_line_of line = option_and_then (λ parts. answer_of parts.0 parts.1) (cut 32 line)
