-- Fields that are read, and a rest that may be anything.
use Rattle.std.proofs.Common.{◌≡◌, ◌<◌, ◌==◌, ℕ, false, List, [], ◌∷◌, ◌++◌, Option, Some, None, option_map, sym, ap, subst, ◌∙◌, arith, lit<, append_assoc}
use Rattle.std.specs.Prelude.{MatchOption, option_and_then}
use Rattle.std.proofs.lemmas.Bool.{ne_eqb}
use Rattle.std.proofs.lemmas.List.Elements.{All-append, All-cons}
use Rattle.std.proofs.lemmas.Option.{option_and_then_some, same_Some}
use Rattle.std.specs.Fmt.{decimal}
use Rattle.ra_stamp.specs.Name.{IsName}
use Rattle.ra_stamp.specs.NodeId.{IsNodeNumber}
use Rattle.ra_text.specs.Lines.{field}
use Rattle.ra_trace.specs.Forms.{before, cut, fields, start_of}
use Rattle.ra_trace.proofs.Cuts.{IsFree, cut-append, cut-only, mapped}
use Rattle.ra_trace.proofs.Spelled.{Reads, ReadsField, reads_fields, reads_name, reads_node, reads_start}
use Rattle.ra_host_text.specs.Fields.{address_of, frame_fields_of, nonce_of, question_of, settings_of, start_and_kept_of}
use Rattle.ra_host_text.specs.HostText.{IsCount, IsNonce, nonce_text, question_text}
use Rattle.ra_host_text.proofs.Nonces.{nonce_free, reads_nonce}

-- ---- Words with one space between two

pub join_2 : (w a b : List ℕ) → w ++ 32 ∷ (a ++ 32 ∷ b) ≡ w ++ field a ++ field b
join_2 w a b = sym (append_assoc w (32 ∷ a) (32 ∷ b))

pub join_3 : (w a b c : List ℕ) → w ++ 32 ∷ (a ++ 32 ∷ (b ++ 32 ∷ c)) ≡ w ++ field a ++ field b ++ field c
join_3 w a b c = join_2 w a (b ++ 32 ∷ c) ∙ sym (append_assoc (w ++ field a) (32 ∷ b) (32 ∷ c))

pub join_4 : (w a b c d : List ℕ) → w ++ 32 ∷ (a ++ 32 ∷ (b ++ 32 ∷ (c ++ 32 ∷ d))) ≡ w ++ field a ++ field b ++ field c ++ field d
join_4 w a b c d = join_3 w a b (c ++ 32 ∷ d) ∙ sym (append_assoc (w ++ field a ++ field b) (32 ∷ c) (32 ∷ d))

pub join_question : (w n d : List ℕ) → ((w ++ (32 ∷ n)) ++ (46 ∷ [])) ++ d ≡ w ++ 32 ∷ (n ++ 46 ∷ d)
join_question w n d = append_assoc (w ++ (32 ∷ n)) (46 ∷ []) d ∙ append_assoc w (32 ∷ n) (46 ∷ d)

-- ---- What is read

-- a text is read as what it is written of
pub record Takes {A : Type 0} (read : List ℕ → Option A) (Is : A → Type 0) (spell : A → List ℕ) : Type 0 where
  pub only : (text : List ℕ) (x : A) → read text ≡ Some x → Is x × (text ≡ spell x)
  pub each : (x : A) → Is x → read (spell x) ≡ Some x

-- so the answer tells whether it is a text
pub takes_told : {A : Type 0} (read : List ℕ → Option A) (P : A → Type 0) (s : A → List ℕ) → Takes read P s → (text : List ℕ) (o : Option A) → o ≡ read text
    → MatchOption o ((x : A) → P x × (text ≡ s x) → ⊥) (λ x. P x × (text ≡ s x))
takes_told read P s F text None e = λ x h. let clash = e ∙ (ap read h.1 ∙ F.each x h.0) in absurd cc
takes_told read P s F text (Some x) e = F.only text x (sym e)

-- and no text is of two
pub takes_once : {A : Type 0} (read : List ℕ → Option A) (P : A → Type 0) (s : A → List ℕ) → Takes read P s → (text : List ℕ) (a b : A)
    → P a × (text ≡ s a) → P b × (text ≡ s b) → a ≡ b
takes_once read P s F text a b h k = same_Some a b (sym (ap read h.1 ∙ F.each a h.0) ∙ (ap read k.1 ∙ F.each b k.0))

-- a field, and what comes after the space after it
pub takes_before : {A : Type 0} (f : List ℕ → Option A) (P : A → Type 0) (s : A → List ℕ) → ReadsField f P s
    → Takes (before f) (λ p. P p.0) (λ p. s p.0 ++ 32 ∷ p.1)
takes_before f P s F = record {
  only = λ text p e.
      option_and_then_some (λ parts. option_map (λ field. (field, parts.1)) (f parts.0)) (cut 32 text) p e (λ parts cut-is e1.
      let m = mapped (λ field. (field, parts.1)) (f parts.0) p e1 in
      let a = F.reads.only parts.0 m.0 m.1 in
      subst (λ q. P q.0 × (text ≡ s q.0 ++ 32 ∷ q.1)) m.2 (a.0, cut-only 32 text parts cut-is ∙ ap (λ (xs : List ℕ). xs ++ 32 ∷ parts.1) a.1));
  each = λ p h. rw (cut-append 32 (s p.0) p.1 (F.no_space p.0 h), F.reads.each p.0 h);
}

-- a field, and then the others
pub takes_fields : {A B : Type 0} (f : List ℕ → Option A) (P : A → Type 0) (s : A → List ℕ) (g : List ℕ → Option B) (Q : B → Type 0) (t : B → List ℕ)
    → ReadsField f P s → Takes g Q t → Takes (fields f g) (λ p. P p.0 × Q p.1) (λ p. s p.0 ++ 32 ∷ t p.1)
takes_fields f P s g Q t F G =
    let first = takes_before f P s F in
    record {
      only = λ text p e.
          option_and_then_some (λ prefix. option_map (λ rest. (prefix.0, rest)) (g prefix.1)) (before f text) p e (λ prefix prefix-is e1.
          let m = mapped (λ rest. (prefix.0, rest)) (g prefix.1) p e1 in
          let a = first.only text prefix prefix-is in
          let b = G.only prefix.1 m.0 m.1 in
          subst (λ q. (P q.0 × Q q.1) × (text ≡ s q.0 ++ 32 ∷ t q.1)) m.2 ((a.0, b.0), (a.1 ∙ ap (λ (ys : List ℕ). s prefix.0 ++ 32 ∷ ys) b.1)));
      each = λ p h. rw (first.each (p.0, t p.1) h.0, G.each p.1 h.1);
    }

-- ---- Questions

question_only : (text : List ℕ) (q : ℕ × ℕ) → question_of text ≡ Some q → (IsNonce q.0 × IsCount q.1) × (text ≡ question_text q.0 q.1)
unfolding question_of
question_only text q e =
    option_and_then_some (λ parts. option_and_then (λ start. option_map (λ question. (start, question)) (start_of parts.1)) (nonce_of parts.0)) (cut 46 text) q e
    (λ parts cut-is e1.
    option_and_then_some (λ start. option_map (λ question. (start, question)) (start_of parts.1)) (nonce_of parts.0) q e1 (λ start start-is e2.
    let m = mapped (λ question. (start, question)) (start_of parts.1) q e2 in
    let a = reads_nonce.reads.only parts.0 start start-is in
    let b = reads_start.reads.only parts.1 m.0 m.1 in
    subst (λ (q : ℕ × ℕ). (IsNonce q.0 × IsCount q.1) × (text ≡ question_text q.0 q.1)) m.2
    ((a.0, b.0), cut-only 46 text parts cut-is ∙ (λ i. a.1 i ++ 46 ∷ b.1 i))))

question_each : (q : ℕ × ℕ) → IsNonce q.0 × IsCount q.1 → question_of (question_text q.0 q.1) ≡ Some q
unfolding question_of
question_each q h =
    rw (cut-append 46 (nonce_text q.0) (decimal q.1) (nonce_free 46 (lit< tt) (lit< tt) q.0), reads_nonce.reads.each q.0 h.0, reads_start.reads.each q.1 h.1)

question_free : (byte : ℕ) → 0 < byte → byte < 46 → (q : ℕ × ℕ) → IsFree byte (decimal q.1) → IsFree byte (question_text q.0 q.1)
question_free byte some low q number =
    All-append (λ b. (b == byte) ≡ false) (nonce_text q.0) (46 ∷ decimal q.1) (nonce_free byte some (omega arith) q.0)
    (All-cons (λ b. (b == byte) ≡ false) 46 (decimal q.1) (ne_eqb 46 byte (omega arith)) number)

pub reads_question : ReadsField question_of (λ q. IsNonce q.0 × IsCount q.1) (λ q. question_text q.0 q.1)
reads_question = record {
  reads = record {
    only = question_only;
    each = question_each;
    no_feed = λ q h. question_free 10 (lit< tt) (lit< tt) q (reads_start.reads.no_feed q.1 h.1);
  };
  no_space = λ q h. question_free 32 (lit< tt) (lit< tt) q (reads_start.no_space q.1 h.1);
}

-- ---- The fields of messages, and those before a message

pub reads_settings : Reads settings_of (λ f. IsNodeNumber f.0 × (IsCount f.1.0 × IsNonce f.1.1)) (λ f. decimal f.0 ++ 32 ∷ (decimal f.1.0 ++ 32 ∷ nonce_text f.1.1))
reads_settings = reads_fields _ _ _ _ _ _ reads_node (reads_fields _ _ _ _ _ _ reads_start reads_nonce.reads)

pub reads_hello : Reads (fields question_of settings_of) (λ f. (IsNonce f.0.0 × IsCount f.0.1) × (IsNodeNumber f.1.0 × (IsCount f.1.1.0 × IsNonce f.1.1.1)))
    (λ f. question_text f.0.0 f.0.1 ++ 32 ∷ (decimal f.1.0 ++ 32 ∷ (decimal f.1.1.0 ++ 32 ∷ nonce_text f.1.1.1)))
reads_hello = reads_fields _ _ _ _ _ _ reads_question reads_settings

reads_kept : Reads start_and_kept_of (λ f. IsNonce f.0 × IsCount f.1) (λ f. nonce_text f.0 ++ 32 ∷ decimal f.1)
reads_kept = reads_fields _ _ _ _ _ _ reads_nonce reads_start.reads

pub reads_welcome : Reads (fields question_of start_and_kept_of) (λ f. (IsNonce f.0.0 × IsCount f.0.1) × (IsNonce f.1.0 × IsCount f.1.1))
    (λ f. question_text f.0.0 f.0.1 ++ 32 ∷ (nonce_text f.1.0 ++ 32 ∷ decimal f.1.1))
reads_welcome = reads_fields _ _ _ _ _ _ reads_question reads_kept

pub reads_ack : Reads (fields nonce_of start_and_kept_of) (λ f. IsNonce f.0 × (IsNonce f.1.0 × IsCount f.1.1))
    (λ f. nonce_text f.0 ++ 32 ∷ (nonce_text f.1.0 ++ 32 ∷ decimal f.1.1))
reads_ack = reads_fields _ _ _ _ _ _ reads_nonce reads_kept

pub takes_frame : Takes frame_fields_of (λ f. IsNonce f.0 × IsCount f.1.0) (λ f. nonce_text f.0 ++ 32 ∷ (decimal f.1.0 ++ 32 ∷ f.1.1))
takes_frame = takes_fields _ _ _ _ _ _ reads_nonce (takes_before _ _ _ reads_start)

pub takes_address : Takes address_of (λ a. IsName a.0 × (IsNodeNumber a.1.0 × IsNodeNumber a.1.1.0))
    (λ a. a.0 ++ 32 ∷ (decimal a.1.0 ++ 32 ∷ (decimal a.1.1.0 ++ 32 ∷ a.1.1.1)))
takes_address = takes_fields _ _ _ _ _ _ reads_name (takes_fields _ _ _ _ _ _ reads_node (takes_before _ _ _ reads_node))
