-- What clients say is read as it is written, and so are answers.
use Rattle.std.proofs.Common.{◌≡◌, ◌<◌, ◌^◌, ◌==◌, ℕ, false, nat_le, List, ◌∷◌, ◌++◌, Option, Some, None, option_map, refl, sym, ap, subst, ◌∙◌, codes, inl, inr, arith, lit<, append_assoc, append-nil}
use Rattle.std.specs.Prelude.{All, MatchOption, ◌≢◌, ◌⊎◌, if◌then◌else◌, option_and_then}
use Rattle.std.specs.Fmt.{decimal}
use Rattle.std.specs.Str.{bytes_eq}
use Rattle.std.proofs.lemmas.Bool.{cases_Bool, leb-true, le-leb}
use Rattle.std.proofs.lemmas.Bool.Decides.{nat_tests}
use Rattle.std.proofs.lemmas.List.Elements.{All-append, All-cons, All-nil, All-weaker}
use Rattle.std.proofs.lemmas.Option.{option_and_then_some, same_Some}
use Rattle.std.proofs.lemmas.Slice.Eq.{bytes_eq-Decides}
use Rattle.ra_stamp.specs.Mode.{mode_word}
use Rattle.ra_stamp.specs.Name.{IsName}
use Rattle.ra_stamp.specs.NodeId.{IsNodeNumber}
use Rattle.ra_stamp.specs.declared.mode.Mode.{Mode}
use Rattle.ra_text.specs.Lines.{field}
use Rattle.ra_trace.specs.Forms.{cut, fields, mode_of, name_of, rest_after, start_of}
use Rattle.ra_trace.proofs.Cuts.{IsFree, cut-append, cut-free, cut-only, mapped, rest_after-append, rest_after-only}
use Rattle.ra_trace.proofs.Spelled.{Reads, reads_fields, reads_mode, reads_name, reads_node, reads_start}
use Rattle.ra_host_text.specs.declared.answer.Answer.{Answer}
use Rattle.ra_host_text.specs.declared.answer.Answer.TheVariants.{Granted, Timeout, Unlocked, Refused}
use Rattle.ra_host_text.specs.declared.answer.Refusal.{Refusal}
use Rattle.ra_host_text.specs.declared.answer.Refusal.TheVariants.{Busy, Exhausted, Limit, NotHeld}
use Rattle.ra_host_text.specs.declared.client_line.ClientLine.{ClientLine}
use Rattle.ra_host_text.specs.declared.client_line.ClientLine.TheVariants.{Lock, Unlock, Status}
use Rattle.ra_host_text.specs.ClientFields.{answer_line_of, answer_of, client_line_by, client_line_of, granted_of, lock_of, mode_and_within_by, mode_and_within_of, named_line_of, refusal_of, refused_of, seq_and_node_of, timeout_of, unlock_of, unlocked_of, wait_of, within_of}
use Rattle.ra_host_text.specs.ClientText.{IsAnswer, IsAnswerInRange, IsClientInRange, IsClientLine, IsWaitIn, answer_text, client_text, refusal_word, within_text}
use Rattle.ra_host_text.specs.HostText.{IsCount}
use Rattle.ra_host_text.specs.Wait.{IsWait}
use Rattle.ra_host_text.proofs.Nonces.{high_word, worded}
use Rattle.ra_host_text.proofs.Takes.{Takes, join_2, join_3, takes_once, takes_told}

-- ---- For how long a client waits

wait_only : (digits : List ℕ) (n : ℕ) → wait_of digits ≡ Some n → IsWait n × (digits ≡ decimal n)
wait_only digits n e =
    option_and_then_some (λ number. if nat_le number (2 ^ 53) then Some number else None) (start_of digits) n e (λ number is e1.
    elim (cases_Bool (nat_le number (2 ^ 53))) [
      | inl few ↦
          let same : number ≡ n = same_Some _ _ (rw few at e1) in
          subst (λ (m : ℕ). IsWait m × (digits ≡ decimal m)) same (leb-true number (2 ^ 53) few, (reads_start.reads.only digits number is).1)
      | inr many ↦ absurd (let clash : None ≡ Some n = rw many at e1 in cc)
    ])

wait_count : (n : ℕ) → IsWait n → n < 2 ^ 64
wait_count n h = omega (arith, h)

wait_each : (n : ℕ) → IsWait n → wait_of (decimal n) ≡ Some n
wait_each n h = rw (reads_start.reads.each n (wait_count n h), le-leb n (2 ^ 53) h)

within_only : (text : List ℕ) (n : ℕ) → within_of text ≡ Some n → IsWait n × (text ≡ codes "within " ++ decimal n)
within_only text n e =
    option_and_then_some wait_of (rest_after (codes "within ") text) n e (λ rest is e1.
    let h = wait_only rest n e1 in
    (h.0, rest_after-only (codes "within ") text rest is ∙ ap (λ (t : List ℕ). codes "within " ++ t) h.1))

within_each : (n : ℕ) → IsWait n → within_of (codes "within " ++ decimal n) ≡ Some n
within_each n h = ap (option_and_then wait_of) (rest_after-append (codes "within ") (decimal n)) ∙ wait_each n h

abbrev mode_and_within : Mode × Option ℕ → List ℕ
mode_and_within f = mode_word f.0 ++ within_text f.1

mode_only : (text : List ℕ) (cut_at : Option (List ℕ × List ℕ)) → cut 32 text ≡ cut_at → (f : Mode × Option ℕ) → mode_and_within_by cut_at text ≡ Some f
    → IsWaitIn f.1 × (text ≡ mode_and_within f)
mode_only text None is f e =
    let m = mapped (λ (mode : Mode). (mode, None)) (mode_of text) f e in
    subst (λ (g : Mode × Option ℕ). IsWaitIn g.1 × (text ≡ mode_and_within g)) m.2 (tt, (reads_mode.reads.only text m.0 m.1).1 ∙ sym (append-nil (mode_word m.0)))
mode_only text (Some parts) is f e =
    option_and_then_some (λ mode. option_map (λ within. (mode, Some within)) (within_of parts.1)) (mode_of parts.0) f e (λ mode mode-is e1.
    let m = mapped (λ (within : ℕ). (mode, Some within)) (within_of parts.1) f e1 in
    let h = within_only parts.1 m.0 m.1 in
    let word = (reads_mode.reads.only parts.0 mode mode-is).1 in
    subst (λ (g : Mode × Option ℕ). IsWaitIn g.1 × (text ≡ mode_and_within g)) m.2
    (h.0, cut-only 32 text parts is ∙ (λ i. word i ++ 32 ∷ h.1 i)))

mode_each : (f : Mode × Option ℕ) → IsWaitIn f.1 → mode_and_within_of (mode_and_within f) ≡ Some f
unfolding mode_and_within_of
mode_each (mode, None) h =
    ap mode_and_within_of (append-nil (mode_word mode))
    ∙ (ap (λ (c : Option (List ℕ × List ℕ)). mode_and_within_by c (mode_word mode)) (cut-free 32 (mode_word mode) (reads_mode.no_space mode tt))
    ∙ ap (option_map (λ (m : Mode). (m, None))) (reads_mode.reads.each mode tt))
mode_each (mode, Some n) h =
    rw (cut-append 32 (mode_word mode) (codes "within " ++ decimal n) (reads_mode.no_space mode tt), reads_mode.reads.each mode tt, within_each n h)

within_free : (within : Option ℕ) → IsWaitIn within → IsFree 10 (within_text within)
within_free None h = All-nil (λ b. (b == 10) ≡ false)
within_free (Some n) h =
    All-cons (λ b. (b == 10) ≡ false) 32 (codes "within" ++ 32 ∷ decimal n) refl
    (worded (codes "within") (decimal n) refl (reads_start.reads.no_feed n (wait_count n h)))

mode_read : (text : List ℕ) (f : Mode × Option ℕ) → mode_and_within_of text ≡ Some f → IsWaitIn f.1 × (text ≡ mode_and_within f)
unfolding mode_and_within_of
mode_read text f e = mode_only text (cut 32 text) refl f e

reads_mode_and_within : Reads mode_and_within_of (λ f. IsWaitIn f.1) mode_and_within
reads_mode_and_within = record {
  only = mode_read;
  each = mode_each;
  no_feed = λ f h. All-append (λ b. (b == 10) ≡ false) (mode_word f.0) (within_text f.1) (reads_mode.reads.no_feed f.0 tt) (within_free f.1 h);
}

-- ---- What clients say

reads_lock : Reads (fields name_of mode_and_within_of) (λ f. IsName f.0 × IsWaitIn f.1.1) (λ f. f.0 ++ 32 ∷ mode_and_within f.1)
reads_lock = reads_fields _ _ _ _ _ _ reads_name reads_mode_and_within

lock_text : (name mode within : List ℕ) → codes "lock" ++ 32 ∷ (name ++ 32 ∷ (mode ++ within)) ≡ codes "lock" ++ field name ++ field mode ++ within
lock_text name mode within = join_2 (codes "lock") name (mode ++ within) ∙ sym (append_assoc (codes "lock" ++ field name) (field mode) within)

lock_only : (rest : List ℕ) (m : ClientLine) → lock_of rest ≡ Some m → IsClientLine (codes "lock" ++ 32 ∷ rest) m
lock_only rest m e =
    let k = mapped (λ (f : List ℕ × (Mode × Option ℕ)). Lock f.0 f.1.0 f.1.1) (fields name_of mode_and_within_of rest) m e in
    let f = k.0 in
    let h = reads_lock.only rest f k.1 in
    subst (IsClientLine (codes "lock" ++ 32 ∷ rest)) k.2
    ((h.0.0, h.0.1), ap (λ (t : List ℕ). codes "lock" ++ 32 ∷ t) h.1 ∙ lock_text f.0 (mode_word f.1.0) (within_text f.1.1))

unlock_only : (rest : List ℕ) (m : ClientLine) → unlock_of rest ≡ Some m → IsClientLine (codes "unlock" ++ 32 ∷ rest) m
unlock_only rest m e =
    let k = mapped Unlock (name_of rest) m e in
    let h = reads_name.reads.only rest k.0 k.1 in
    subst (IsClientLine (codes "unlock" ++ 32 ∷ rest)) k.2 (h.0, ap (λ (t : List ℕ). codes "unlock" ++ 32 ∷ t) h.1)

named_only : (word rest : List ℕ) (m : ClientLine) → named_line_of word rest ≡ Some m → IsClientLine (word ++ 32 ∷ rest) m
named_only word rest m e =
    elim (cases_Bool (bytes_eq word (codes "lock"))) [
      | inl lock ↦ rw ((bytes_eq-Decides word (codes "lock")).0 lock) (lock_only rest m (rw lock at e))
      | inr no_lock ↦ elim (cases_Bool (bytes_eq word (codes "unlock"))) [
        | inl unlock ↦ rw ((bytes_eq-Decides word (codes "unlock")).0 unlock) (unlock_only rest m (rw (no_lock, unlock) at e))
        | inr no_unlock ↦ absurd (let clash : None ≡ Some m = rw (no_lock, no_unlock) at e in cc)
      ]
    ]

by_only : (line : List ℕ) (cut_at : Option (List ℕ × List ℕ)) → cut 32 line ≡ cut_at → (m : ClientLine) → client_line_by cut_at line ≡ Some m → IsClientLine line m
by_only line None is m e =
    elim (cases_Bool (bytes_eq line (codes "status"))) [
      | inl status ↦ subst (IsClientLine line) (same_Some _ _ (rw status at e)) (tt, (bytes_eq-Decides line (codes "status")).0 status)
      | inr other ↦ absurd (let clash : None ≡ Some m = rw other at e in cc)
    ]
by_only line (Some parts) is m e = subst (λ (l : List ℕ). IsClientLine l m) (sym (cut-only 32 line parts is)) (named_only parts.0 parts.1 m e)

line_only : (line : List ℕ) (m : ClientLine) → client_line_of line ≡ Some m → IsClientLine line m
unfolding client_line_of
line_only line m e = by_only line (cut 32 line) refl m e

line_each : (m : ClientLine) → IsClientInRange m → client_line_of (client_text m) ≡ Some m
unfolding client_line_of
line_each (Lock name mode within) h =
    ap client_line_of (sym (lock_text name (mode_word mode) (within_text within)))
    ∙ (ap (λ (c : Option (List ℕ × List ℕ)). client_line_by c (codes "lock" ++ 32 ∷ (name ++ 32 ∷ (mode_word mode ++ within_text within))))
    (cut-append 32 (codes "lock") (name ++ 32 ∷ (mode_word mode ++ within_text within)) (high_word 32 (lit< tt) (codes "lock") refl))
    ∙ ap (option_map (λ (f : List ℕ × (Mode × Option ℕ)). Lock f.0 f.1.0 f.1.1)) (reads_lock.each (name, (mode, within)) (h.0, h.1)))
line_each (Unlock name) h =
    ap (λ (c : Option (List ℕ × List ℕ)). client_line_by c (codes "unlock" ++ 32 ∷ name))
    (cut-append 32 (codes "unlock") name (high_word 32 (lit< tt) (codes "unlock") refl))
    ∙ ap (option_map Unlock) (reads_name.reads.each name h)
line_each Status h = refl

pub takes_client : Takes client_line_of IsClientInRange client_text
takes_client = record { only = line_only; each = line_each }

pub client_free : (m : ClientLine) → IsClientInRange m → IsFree 10 (client_text m)
client_free (Lock name mode within) h =
    subst (IsFree 10) (lock_text name (mode_word mode) (within_text within))
    (worded (codes "lock") (name ++ 32 ∷ (mode_word mode ++ within_text within)) refl (reads_lock.no_feed (name, (mode, within)) (h.0, h.1)))
client_free (Unlock name) h = worded (codes "unlock") name refl (reads_name.reads.no_feed name h)
client_free Status h = high_word 10 (lit< tt) (codes "status") refl

-- ---- Answers

refusal_or_other : (text word : List ℕ) (why one : Refusal) (other : Option Refusal) → word ≡ refusal_word one
    → (if bytes_eq text word then Some one else other) ≡ Some why → (text ≡ refusal_word why) ⊎ (other ≡ Some why)
refusal_or_other text word why one other is e =
    elim (cases_Bool (bytes_eq text word)) [
      | inl is_so ↦
          let same : one ≡ why = same_Some _ _ (rw is_so at e) in
          inl ((bytes_eq-Decides text word).0 is_so ∙ (is ∙ ap refusal_word same))
      | inr not_so ↦ inr (rw not_so at e)
    ]

refusal_only : (text : List ℕ) (why : Refusal) → refusal_of text ≡ Some why → Unit {0} × (text ≡ refusal_word why)
refusal_only text why e = (
  tt,
  elim (refusal_or_other text (codes "Busy") why Busy _ refl e) [
    | inl is ↦ is
    | inr e1 ↦ elim (refusal_or_other text (codes "Exhausted") why Exhausted _ refl e1) [
      | inl is ↦ is
      | inr e2 ↦ elim (refusal_or_other text (codes "Limit") why Limit _ refl e2) [
        | inl is ↦ is
        | inr e3 ↦ elim (refusal_or_other text (codes "NotHeld") why NotHeld _ refl e3) [
          | inl is ↦ is
          | inr none ↦ absurd (let clash : None ≡ Some why = none in cc)
        ]
      ]
    ]
  ],
)

refusal_each : (why : Refusal) → refusal_of (refusal_word why) ≡ Some why
refusal_each Busy = refl
refusal_each Exhausted = refl
refusal_each Limit = refl
refusal_each NotHeld = refl

refusal_free : (why : Refusal) → IsFree 10 (refusal_word why)
refusal_free Busy = high_word 10 (lit< tt) (codes "Busy") refl
refusal_free Exhausted = high_word 10 (lit< tt) (codes "Exhausted") refl
refusal_free Limit = high_word 10 (lit< tt) (codes "Limit") refl
refusal_free NotHeld = high_word 10 (lit< tt) (codes "NotHeld") refl

reads_refusal : Reads refusal_of (λ why. Unit {0}) refusal_word
reads_refusal = record { only = refusal_only; each = λ why h. refusal_each why; no_feed = λ why h. refusal_free why }

reads_granted : Reads (fields name_of seq_and_node_of) (λ f. IsName f.0 × (IsCount f.1.0 × IsNodeNumber f.1.1)) (λ f. f.0 ++ 32 ∷ (decimal f.1.0 ++ 32 ∷ decimal f.1.1))
reads_granted = reads_fields _ _ _ _ _ _ reads_name (reads_fields _ _ _ _ _ _ reads_start reads_node.reads)

reads_refused : Reads (fields name_of refusal_of) (λ f. IsName f.0 × Unit {0}) (λ f. f.0 ++ 32 ∷ refusal_word f.1)
reads_refused = reads_fields _ _ _ _ _ _ reads_name reads_refusal

granted_only : (rest : List ℕ) (a : Answer) → granted_of rest ≡ Some a → IsAnswer (codes "granted" ++ 32 ∷ rest) a
granted_only rest a e =
    let k = mapped (λ (f : List ℕ × (ℕ × ℕ)). Granted f.0 f.1.0 f.1.1) (fields name_of seq_and_node_of rest) a e in
    let f = k.0 in
    let h = reads_granted.only rest f k.1 in
    subst (IsAnswer (codes "granted" ++ 32 ∷ rest)) k.2
    ((h.0.0, h.0.1.0, h.0.1.1), ap (λ (t : List ℕ). codes "granted" ++ 32 ∷ t) h.1 ∙ join_3 (codes "granted") f.0 (decimal f.1.0) (decimal f.1.1))

timeout_only : (rest : List ℕ) (a : Answer) → timeout_of rest ≡ Some a → IsAnswer (codes "timeout" ++ 32 ∷ rest) a
timeout_only rest a e =
    let k = mapped Timeout (name_of rest) a e in
    let h = reads_name.reads.only rest k.0 k.1 in
    subst (IsAnswer (codes "timeout" ++ 32 ∷ rest)) k.2 (h.0, ap (λ (t : List ℕ). codes "timeout" ++ 32 ∷ t) h.1)

unlocked_only : (rest : List ℕ) (a : Answer) → unlocked_of rest ≡ Some a → IsAnswer (codes "unlocked" ++ 32 ∷ rest) a
unlocked_only rest a e =
    let k = mapped Unlocked (name_of rest) a e in
    let h = reads_name.reads.only rest k.0 k.1 in
    subst (IsAnswer (codes "unlocked" ++ 32 ∷ rest)) k.2 (h.0, ap (λ (t : List ℕ). codes "unlocked" ++ 32 ∷ t) h.1)

refused_only : (rest : List ℕ) (a : Answer) → refused_of rest ≡ Some a → IsAnswer (codes "refused" ++ 32 ∷ rest) a
refused_only rest a e =
    let k = mapped (λ (f : List ℕ × Refusal). Refused f.0 f.1) (fields name_of refusal_of rest) a e in
    let f = k.0 in
    let h = reads_refused.only rest f k.1 in
    subst (IsAnswer (codes "refused" ++ 32 ∷ rest)) k.2 (h.0.0, ap (λ (t : List ℕ). codes "refused" ++ 32 ∷ t) h.1 ∙ join_2 (codes "refused") f.0 (refusal_word f.1))

answer_only : (word rest : List ℕ) (a : Answer) → answer_of word rest ≡ Some a → IsAnswer (word ++ 32 ∷ rest) a
answer_only word rest a e =
    elim (cases_Bool (bytes_eq word (codes "granted"))) [
      | inl granted ↦ rw ((bytes_eq-Decides word (codes "granted")).0 granted) (granted_only rest a (rw granted at e))
      | inr no_granted ↦ elim (cases_Bool (bytes_eq word (codes "unlocked"))) [
        | inl unlocked ↦ rw ((bytes_eq-Decides word (codes "unlocked")).0 unlocked) (unlocked_only rest a (rw (no_granted, unlocked) at e))
        | inr no_unlocked ↦ elim (cases_Bool (bytes_eq word (codes "timeout"))) [
          | inl timeout ↦ rw ((bytes_eq-Decides word (codes "timeout")).0 timeout) (timeout_only rest a (rw (no_granted, no_unlocked, timeout) at e))
          | inr no_timeout ↦ elim (cases_Bool (bytes_eq word (codes "refused"))) [
            | inl refused ↦ rw ((bytes_eq-Decides word (codes "refused")).0 refused) (refused_only rest a (rw (no_granted, no_unlocked, no_timeout, refused) at e))
            | inr no_refused ↦ absurd (let clash : None ≡ Some a = rw (no_granted, no_unlocked, no_timeout, no_refused) at e in cc)
          ]
        ]
      ]
    ]

answer_line_only : (line : List ℕ) (a : Answer) → answer_line_of line ≡ Some a → IsAnswer line a
unfolding answer_line_of
answer_line_only line a e =
    option_and_then_some (λ parts. answer_of parts.0 parts.1) (cut 32 line) a e (λ parts is e1.
    subst (λ (l : List ℕ). IsAnswer l a) (sym (cut-only 32 line parts is)) (answer_only parts.0 parts.1 a e1))

-- where an answer is cut
answer_at : (word rest : List ℕ) → IsFree 32 word → answer_line_of (word ++ 32 ∷ rest) ≡ answer_of word rest
unfolding answer_line_of
answer_at word rest free = ap (option_and_then (λ (parts : List ℕ × List ℕ). answer_of parts.0 parts.1)) (cut-append 32 word rest free)

answer_each : (a : Answer) → IsAnswerInRange a → answer_line_of (answer_text a) ≡ Some a
answer_each (Granted name seq node) h =
    ap answer_line_of (sym (join_3 (codes "granted") name (decimal seq) (decimal node)))
    ∙ (answer_at (codes "granted") (name ++ 32 ∷ (decimal seq ++ 32 ∷ decimal node)) (high_word 32 (lit< tt) (codes "granted") refl)
    ∙ ap (option_map (λ (f : List ℕ × (ℕ × ℕ)). Granted f.0 f.1.0 f.1.1)) (reads_granted.each (name, (seq, node)) (h.0, (h.1, h.2))))
answer_each (Timeout name) h =
    answer_at (codes "timeout") name (high_word 32 (lit< tt) (codes "timeout") refl) ∙ ap (option_map Timeout) (reads_name.reads.each name h)
answer_each (Unlocked name) h =
    answer_at (codes "unlocked") name (high_word 32 (lit< tt) (codes "unlocked") refl) ∙ ap (option_map Unlocked) (reads_name.reads.each name h)
answer_each (Refused name why) h =
    ap answer_line_of (sym (join_2 (codes "refused") name (refusal_word why)))
    ∙ (answer_at (codes "refused") (name ++ 32 ∷ refusal_word why) (high_word 32 (lit< tt) (codes "refused") refl)
    ∙ ap (option_map (λ (f : List ℕ × Refusal). Refused f.0 f.1)) (reads_refused.each (name, why) (h, tt)))

pub takes_answer : Takes answer_line_of IsAnswerInRange answer_text
takes_answer = record { only = answer_line_only; each = answer_each }

pub answer_free : (a : Answer) → IsAnswerInRange a → IsFree 10 (answer_text a)
answer_free (Granted name seq node) h =
    subst (IsFree 10) (join_3 (codes "granted") name (decimal seq) (decimal node))
    (worded (codes "granted") (name ++ 32 ∷ (decimal seq ++ 32 ∷ decimal node)) refl (reads_granted.no_feed (name, (seq, node)) (h.0, (h.1, h.2))))
answer_free (Timeout name) h = worded (codes "timeout") name refl (reads_name.reads.no_feed name h)
answer_free (Unlocked name) h = worded (codes "unlocked") name refl (reads_name.reads.no_feed name h)
answer_free (Refused name why) h =
    subst (IsFree 10) (join_2 (codes "refused") name (refusal_word why))
    (worded (codes "refused") (name ++ 32 ∷ refusal_word why) refl (reads_refused.no_feed (name, why) (h, tt)))

-- ---- What is told

pub other_word : (text word : List ℕ) → (text ≡ word → ⊥) → bytes_eq text word ≡ false
other_word text word other =
    elim (cases_Bool (bytes_eq text word)) [
      | inl same ↦ absurd (other ((bytes_eq-Decides text word).0 same))
      | inr differs ↦ differs
    ]

client_cut : (line word rest : List ℕ) → cut 32 line ≡ Some (word, rest) → client_line_of line ≡ named_line_of word rest
unfolding client_line_of
client_cut line word rest is = ap (λ (c : Option (List ℕ × List ℕ)). client_line_by c line) is

client_uncut : (line : List ℕ) → cut 32 line ≡ None → (line ≡ codes "status" → ⊥) → client_line_of line ≡ None
unfolding client_line_of
client_uncut line is other = ap (λ (c : Option (List ℕ × List ℕ)). client_line_by c line) is ∙ rw (other_word line (codes "status") other) refl

pub client_parts : (line word rest : List ℕ) (o : Option ClientLine) → cut 32 line ≡ Some (word, rest) → o ≡ named_line_of word rest
    → MatchOption o ((said : ClientLine) → IsClientLine line said → ⊥) (IsClientLine line)
client_parts line word rest o is e = takes_told client_line_of IsClientInRange client_text takes_client line o (e ∙ sym (client_cut line word rest is))

pub client_none : (line : List ℕ) → cut 32 line ≡ None → (line ≡ codes "status" → ⊥) → (said : ClientLine) → IsClientLine line said → ⊥
client_none line is other said h = let clash = sym (client_uncut line is other) ∙ (ap client_line_of h.1 ∙ takes_client.each said h.0) in absurd cc

pub one_client : (line : List ℕ) (a b : ClientLine) → IsClientLine line a → IsClientLine line b → a ≡ b
one_client = takes_once client_line_of IsClientInRange client_text takes_client

answer_cut : (line word rest : List ℕ) → cut 32 line ≡ Some (word, rest) → answer_line_of line ≡ answer_of word rest
unfolding answer_line_of
answer_cut line word rest is = ap (option_and_then (λ (parts : List ℕ × List ℕ). answer_of parts.0 parts.1)) is

answer_uncut : (line : List ℕ) → cut 32 line ≡ None → answer_line_of line ≡ None
unfolding answer_line_of
answer_uncut line is = ap (option_and_then (λ (parts : List ℕ × List ℕ). answer_of parts.0 parts.1)) is

pub answer_parts : (line word rest : List ℕ) (o : Option Answer) → cut 32 line ≡ Some (word, rest) → o ≡ answer_of word rest
    → MatchOption o ((answer : Answer) → IsAnswer line answer → ⊥) (IsAnswer line)
answer_parts line word rest o is e = takes_told answer_line_of IsAnswerInRange answer_text takes_answer line o (e ∙ sym (answer_cut line word rest is))

pub answer_none : (line : List ℕ) → cut 32 line ≡ None → (answer : Answer) → IsAnswer line answer → ⊥
answer_none line is answer h = let clash = sym (answer_uncut line is) ∙ (ap answer_line_of h.1 ∙ takes_answer.each answer h.0) in absurd cc

pub one_answer : (line : List ℕ) (a b : Answer) → IsAnswer line a → IsAnswer line b → a ≡ b
one_answer = takes_once answer_line_of IsAnswerInRange answer_text takes_answer

pub free : (bytes : List ℕ) → IsFree 10 bytes → All (λ byte. byte ≢ 10) bytes
free = All-weaker (λ b. (b == 10) ≡ false) (λ b. b ≢ 10) (λ b h. grind (arith, nat_tests))

pub client_feed : (line : List ℕ) (said : ClientLine) → IsClientLine line said → All (λ byte. byte ≢ 10) line
client_feed line said h = free line (subst (IsFree 10) (sym h.1) (client_free said h.0))

pub answer_feed : (line : List ℕ) (answer : Answer) → IsAnswer line answer → All (λ byte. byte ≢ 10) line
answer_feed line answer h = free line (subst (IsFree 10) (sym h.1) (answer_free answer h.0))
