-- The lines that a host reads are read as they are spelled.
use Rattle.std.proofs.Common.{◌≡◌, ℕ, List, ◌∷◌, ◌++◌, Option, Some, None, option_map, refl, sym, ap, subst, ◌∙◌, codes, inl, inr, lit<}
use Rattle.std.specs.Prelude.{MatchOption}
use Rattle.std.specs.Fmt.{decimal}
use Rattle.std.specs.Str.{bytes_eq}
use Rattle.std.proofs.lemmas.Bool.{cases_Bool}
use Rattle.std.proofs.lemmas.Option.{same_Some}
use Rattle.std.proofs.lemmas.Slice.Eq.{bytes_eq-Decides}
use Rattle.ra_stamp.specs.NodeId.{IsNodeNumber}
use Rattle.ra_trace.specs.Forms.{before, cut, node_of, start_of}
use Rattle.ra_trace.proofs.Cuts.{IsFree, cut-append, cut-only, mapped}
use Rattle.ra_trace.proofs.Spelled.{reads_node, reads_start}
use Rattle.ra_host_text.specs.Fields.{nonce_of}
use Rattle.ra_host_text.specs.HostText.{IsCount, nonce_text}
use Rattle.ra_host_text.specs.LineFields.{client_of, gone_of, input_by, input_line_of, nonce_line_of, peer_of, time_of, up_of, worded_input_of}
use Rattle.ra_host_text.specs.LineText.{Input, IsInput, IsInputInRange, input_of, input_text}
use Rattle.ra_host_text.specs.LineText.Input.{Nonce, Peer, Up, Client, Gone, Time, Release}
use Rattle.ra_host_text.specs.declared.input_line.InputLine.{InputLine}
use Rattle.ra_host_text.proofs.Clients.{other_word}
use Rattle.ra_host_text.proofs.Nonces.{high_word, reads_nonce}
use Rattle.ra_host_text.proofs.Takes.{Takes, join_2, takes_before, takes_once}

takes_host : Takes (before node_of) (λ p. IsNodeNumber p.0) (λ p. decimal p.0 ++ 32 ∷ p.1)
takes_host = takes_before _ _ _ reads_node

takes_connection : Takes (before start_of) (λ p. IsCount p.0) (λ p. decimal p.0 ++ 32 ∷ p.1)
takes_connection = takes_before _ _ _ reads_start

peer_only : (rest : List ℕ) (m : Input) → peer_of rest ≡ Some m → IsInput (codes "peer" ++ 32 ∷ rest) m
peer_only rest m e =
    let k = mapped (λ (p : ℕ × List ℕ). Peer p.0 p.1) (before node_of rest) m e in
    let h = takes_host.only rest k.0 k.1 in
    subst (IsInput (codes "peer" ++ 32 ∷ rest)) k.2 (h.0, ap (λ (t : List ℕ). codes "peer" ++ 32 ∷ t) h.1 ∙ join_2 (codes "peer") (decimal k.0.0) k.0.1)

client_only : (rest : List ℕ) (m : Input) → client_of rest ≡ Some m → IsInput (codes "client" ++ 32 ∷ rest) m
client_only rest m e =
    let k = mapped (λ (p : ℕ × List ℕ). Client p.0 p.1) (before start_of rest) m e in
    let h = takes_connection.only rest k.0 k.1 in
    subst (IsInput (codes "client" ++ 32 ∷ rest)) k.2 (h.0, ap (λ (t : List ℕ). codes "client" ++ 32 ∷ t) h.1 ∙ join_2 (codes "client") (decimal k.0.0) k.0.1)

time_only : (rest : List ℕ) (m : Input) → time_of rest ≡ Some m → IsInput (codes "time" ++ 32 ∷ rest) m
time_only rest m e =
    let k = mapped Time (start_of rest) m e in
    let h = reads_start.reads.only rest k.0 k.1 in
    subst (IsInput (codes "time" ++ 32 ∷ rest)) k.2 (h.0, ap (λ (t : List ℕ). codes "time" ++ 32 ∷ t) h.1)

gone_only : (rest : List ℕ) (m : Input) → gone_of rest ≡ Some m → IsInput (codes "gone" ++ 32 ∷ rest) m
gone_only rest m e =
    let k = mapped Gone (start_of rest) m e in
    let h = reads_start.reads.only rest k.0 k.1 in
    subst (IsInput (codes "gone" ++ 32 ∷ rest)) k.2 (h.0, ap (λ (t : List ℕ). codes "gone" ++ 32 ∷ t) h.1)

up_only : (rest : List ℕ) (m : Input) → up_of rest ≡ Some m → IsInput (codes "up" ++ 32 ∷ rest) m
up_only rest m e =
    let k = mapped Up (node_of rest) m e in
    let h = reads_node.reads.only rest k.0 k.1 in
    subst (IsInput (codes "up" ++ 32 ∷ rest)) k.2 (h.0, ap (λ (t : List ℕ). codes "up" ++ 32 ∷ t) h.1)

nonce_only : (rest : List ℕ) (m : Input) → nonce_line_of rest ≡ Some m → IsInput (codes "nonce" ++ 32 ∷ rest) m
nonce_only rest m e =
    let k = mapped Nonce (nonce_of rest) m e in
    let h = reads_nonce.reads.only rest k.0 k.1 in
    subst (IsInput (codes "nonce" ++ 32 ∷ rest)) k.2 (h.0, ap (λ (t : List ℕ). codes "nonce" ++ 32 ∷ t) h.1)

worded_only : (word rest : List ℕ) (m : Input) → worded_input_of word rest ≡ Some m → IsInput (word ++ 32 ∷ rest) m
worded_only word rest m e =
    elim (cases_Bool (bytes_eq word (codes "peer"))) [
      | inl peer ↦ rw ((bytes_eq-Decides word (codes "peer")).0 peer) (peer_only rest m (rw peer at e))
      | inr no_peer ↦ elim (cases_Bool (bytes_eq word (codes "client"))) [
        | inl client ↦ rw ((bytes_eq-Decides word (codes "client")).0 client) (client_only rest m (rw (no_peer, client) at e))
        | inr no_client ↦ elim (cases_Bool (bytes_eq word (codes "time"))) [
          | inl time ↦ rw ((bytes_eq-Decides word (codes "time")).0 time) (time_only rest m (rw (no_peer, no_client, time) at e))
          | inr no_time ↦ elim (cases_Bool (bytes_eq word (codes "gone"))) [
            | inl gone ↦ rw ((bytes_eq-Decides word (codes "gone")).0 gone) (gone_only rest m (rw (no_peer, no_client, no_time, gone) at e))
            | inr no_gone ↦ elim (cases_Bool (bytes_eq word (codes "up"))) [
              | inl up ↦ rw ((bytes_eq-Decides word (codes "up")).0 up) (up_only rest m (rw (no_peer, no_client, no_time, no_gone, up) at e))
              | inr no_up ↦ elim (cases_Bool (bytes_eq word (codes "nonce"))) [
                | inl nonce ↦ rw ((bytes_eq-Decides word (codes "nonce")).0 nonce) (nonce_only rest m (rw (no_peer, no_client, no_time, no_gone, no_up, nonce) at e))
                | inr no_nonce ↦ absurd (let clash : None ≡ Some m = rw (no_peer, no_client, no_time, no_gone, no_up, no_nonce) at e in cc)
              ]
            ]
          ]
        ]
      ]
    ]

by_only : (line : List ℕ) (cut_at : Option (List ℕ × List ℕ)) → cut 32 line ≡ cut_at → (m : Input) → input_by cut_at line ≡ Some m → IsInput line m
by_only line None is m e =
    elim (cases_Bool (bytes_eq line (codes "release"))) [
      | inl release ↦ subst (IsInput line) (same_Some _ _ (rw release at e)) (tt, (bytes_eq-Decides line (codes "release")).0 release)
      | inr other ↦ absurd (let clash : None ≡ Some m = rw other at e in cc)
    ]
by_only line (Some parts) is m e = subst (λ (l : List ℕ). IsInput l m) (sym (cut-only 32 line parts is)) (worded_only parts.0 parts.1 m e)

line_only : (line : List ℕ) (m : Input) → input_line_of line ≡ Some m → IsInput line m
unfolding input_line_of
line_only line m e = by_only line (cut 32 line) refl m e

input_at : (word rest : List ℕ) → IsFree 32 word → input_line_of (word ++ 32 ∷ rest) ≡ worded_input_of word rest
unfolding input_line_of
input_at word rest free = ap (λ (c : Option (List ℕ × List ℕ)). input_by c (word ++ 32 ∷ rest)) (cut-append 32 word rest free)

release_each : input_line_of (codes "release") ≡ Some Release
unfolding input_line_of
release_each = refl

line_each : (m : Input) → IsInputInRange m → input_line_of (input_text m) ≡ Some m
line_each (Nonce nonce) h =
    input_at (codes "nonce") (nonce_text nonce) (high_word 32 (lit< tt) (codes "nonce") refl) ∙ ap (option_map Nonce) (reads_nonce.reads.each nonce h)
line_each (Peer host text) h =
    ap input_line_of (sym (join_2 (codes "peer") (decimal host) text))
    ∙ (input_at (codes "peer") (decimal host ++ 32 ∷ text) (high_word 32 (lit< tt) (codes "peer") refl)
    ∙ ap (option_map (λ (p : ℕ × List ℕ). Peer p.0 p.1)) (takes_host.each (host, text) h))
line_each (Up host) h = input_at (codes "up") (decimal host) (high_word 32 (lit< tt) (codes "up") refl) ∙ ap (option_map Up) (reads_node.reads.each host h)
line_each (Client client text) h =
    ap input_line_of (sym (join_2 (codes "client") (decimal client) text))
    ∙ (input_at (codes "client") (decimal client ++ 32 ∷ text) (high_word 32 (lit< tt) (codes "client") refl)
    ∙ ap (option_map (λ (p : ℕ × List ℕ). Client p.0 p.1)) (takes_connection.each (client, text) h))
line_each (Gone client) h = input_at (codes "gone") (decimal client) (high_word 32 (lit< tt) (codes "gone") refl) ∙ ap (option_map Gone) (reads_start.reads.each client h)
line_each (Time milliseconds) h =
    input_at (codes "time") (decimal milliseconds) (high_word 32 (lit< tt) (codes "time") refl) ∙ ap (option_map Time) (reads_start.reads.each milliseconds h)
line_each Release h = release_each

takes_input : Takes input_line_of IsInputInRange input_text
takes_input = record { only = line_only; each = line_each }

pub one_input : (line : List ℕ) (a b : Input) → IsInput line a → IsInput line b → a ≡ b
one_input = takes_once input_line_of IsInputInRange input_text takes_input

-- ---- What is told

input_cut : (line word rest : List ℕ) → cut 32 line ≡ Some (word, rest) → input_line_of line ≡ worded_input_of word rest
unfolding input_line_of
input_cut line word rest is = ap (λ (c : Option (List ℕ × List ℕ)). input_by c line) is

input_uncut : (line : List ℕ) → cut 32 line ≡ None → (line ≡ codes "release" → ⊥) → input_line_of line ≡ None
unfolding input_line_of
input_uncut line is other = ap (λ (c : Option (List ℕ × List ℕ)). input_by c line) is ∙ rw (other_word line (codes "release") other) refl

none_told : (line : List ℕ) → input_line_of line ≡ None → (said : Input) → IsInput line said → ⊥
none_told line is said h = let clash = sym is ∙ (ap input_line_of h.1 ∙ takes_input.each said h.0) in absurd cc

pub input_parts : (line word rest : List ℕ) (o : Option InputLine) → cut 32 line ≡ Some (word, rest)
    → MatchOption o (worded_input_of word rest ≡ None) (λ read. worded_input_of word rest ≡ Some (input_of read))
    → MatchOption o ((said : Input) → IsInput line said → ⊥) (λ read. IsInput line (input_of read))
input_parts line word rest None is none = none_told line (input_cut line word rest is ∙ none)
input_parts line word rest (Some read) is some = takes_input.only line (input_of read) (input_cut line word rest is ∙ some)

pub input_none : (line : List ℕ) → cut 32 line ≡ None → (line ≡ codes "release" → ⊥) → (said : Input) → IsInput line said → ⊥
input_none line is other = none_told line (input_uncut line is other)
