-- What is read is how it is written.
use Rattle.std.proofs.Common.{◌≡◌, ◌⊎◌, ◌^◌, ◌<◌, ◌≤◌, ◌-◌, ℕ, ◌==◌, false, if◌then◌else◌, List, [], ◌∷◌, ◌++◌, Option, Some, None, option_map, refl, ap, subst, ◌∙◌, inl, inr, arith, codes, lit<}
use Rattle.std.specs.Fmt.{decimal}
use Rattle.std.specs.Str.{bytes_eq}
use Rattle.std.proofs.lemmas.Bool.{cases_Bool, ne_eqb}
use Rattle.std.proofs.lemmas.List.Elements.{All-nil, All-cons, All-append}
use Rattle.std.proofs.lemmas.Option.{same_Some, option_and_then_some}
use Rattle.std.proofs.lemmas.Slice.Eq.{bytes_eq-Decides}
use Rattle.ra_stamp.specs.Name.{IsName}
use Rattle.ra_stamp.specs.NodeId.{IsNodeNumber}
use Rattle.ra_stamp.specs.declared.mode.Mode.{Mode}
use Rattle.ra_stamp.specs.declared.mode.Mode.TheVariants.{Shared, Exclusive, IntentShared, IntentExclusive, SharedIntentExclusive}
use Rattle.ra_stamp.specs.Mode.{mode_word}
use Rattle.ra_trace.specs.Forms.{cut, before, fields, number_within, node_of, client_of, start_of, seq_of, is_name, name_of, mode_of}
use Rattle.ra_trace.specs.TraceText.{IsClientNumber, IsSeq}
use Rattle.ra_trace.proofs.Cuts.{IsFree, mapped, cut-append, cut-only}
use Rattle.ra_trace.proofs.Decimals.{number_within-only, number_within-decimal, IsFree-decimal}
use Rattle.ra_trace.proofs.Names.{name_checked, checked_name, IsFree-name}

-- a text is read as what it is written of, and with a line feed in it as nothing
pub record Reads {A : Type 0} (read : List ℕ → Option A) (Is : A → Type 0) (spell : A → List ℕ) : Type 0 where
  pub only : (text : List ℕ) (x : A) → read text ≡ Some x → Is x × (text ≡ spell x)
  pub each : (x : A) → Is x → read (spell x) ≡ Some x
  pub no_feed : (x : A) → Is x → IsFree 10 (spell x)

-- and it has no space
pub record ReadsField {A : Type 0} (read : List ℕ → Option A) (Is : A → Type 0) (spell : A → List ℕ) : Type 0 where
  pub reads : Reads read Is spell
  pub no_space : (x : A) → Is x → IsFree 32 (spell x)

-- a field, and what comes after the space after it
before_only : {A : Type 0} (f : List ℕ → Option A) (P : A → Type 0) (s : A → List ℕ) → ReadsField f P s
    → (text : List ℕ) (prefix : A × List ℕ) → before f text ≡ Some prefix → P prefix.0 × (text ≡ s prefix.0 ++ 32 ∷ prefix.1)
before_only f P s F text prefix e =
    option_and_then_some (λ parts. option_map (λ field. (field, parts.1)) (f parts.0)) (cut 32 text) prefix e (λ parts cut-is e1.
    let m = mapped (λ field. (field, parts.1)) (f parts.0) prefix e1 in
    let a = F.reads.only parts.0 m.0 m.1 in
    subst (λ q. P q.0 × (text ≡ s q.0 ++ 32 ∷ q.1)) m.2 (a.0, cut-only 32 text parts cut-is ∙ ap (λ (xs : List ℕ). xs ++ 32 ∷ parts.1) a.1))

before_each : {A : Type 0} (f : List ℕ → Option A) (P : A → Type 0) (s : A → List ℕ) → ReadsField f P s
    → (x : A) (rest : List ℕ) → P x → before f (s x ++ 32 ∷ rest) ≡ Some (x, rest)
before_each f P s F x rest h = rw (cut-append 32 (s x) rest (F.no_space x h), F.reads.each x h)

pub reads_fields : {A B : Type 0} (f : List ℕ → Option A) (P : A → Type 0) (s : A → List ℕ) (g : List ℕ → Option B) (Q : B → Type 0) (t : B → List ℕ)
    → ReadsField f P s → Reads g Q t → Reads (fields f g) (λ p. P p.0 × Q p.1) (λ p. s p.0 ++ 32 ∷ t p.1)
reads_fields f P s g Q t F G = record {
  only = λ text p e.
      option_and_then_some (λ prefix. option_map (λ rest. (prefix.0, rest)) (g prefix.1)) (before f text) p e (λ prefix prefix-is e1.
      let m = mapped (λ rest. (prefix.0, rest)) (g prefix.1) p e1 in
      let a = before_only f P s F text prefix prefix-is in
      let b = G.only prefix.1 m.0 m.1 in
      subst (λ q. (P q.0 × Q q.1) × (text ≡ s q.0 ++ 32 ∷ t q.1)) m.2 ((a.0, b.0), (a.1 ∙ ap (λ (ys : List ℕ). s prefix.0 ++ 32 ∷ ys) b.1)));
  each = λ p h. rw (before_each f P s F p.0 (t p.1) h.0, G.each p.1 h.1);
  no_feed = λ p h. All-append (λ b. (b == 10) ≡ false) (s p.0) (32 ∷ t p.1) (F.reads.no_feed p.0 h.0)
      (All-cons (λ b. (b == 10) ≡ false) 32 (t p.1) refl (G.no_feed p.1 h.1));
}

-- the same in other words of what is read
reads_as : {A : Type 0} (f : List ℕ → Option A) (P Q : A → Type 0) (s : A → List ℕ) → ((x : A) → P x → Q x) → ((x : A) → Q x → P x) → ReadsField f P s → ReadsField f Q s
reads_as f P Q s to from F = record {
  reads = record {
    only = λ text x e. let h = F.reads.only text x e in (to x h.0, h.1);
    each = λ x h. F.reads.each x (from x h);
    no_feed = λ x h. F.reads.no_feed x (from x h);
  };
  no_space = λ x h. F.no_space x (from x h);
}

reads_number : (low high : ℕ) → high < 2 ^ 64 → ReadsField (number_within low high) (λ n. (low ≤ n) × (n ≤ high)) decimal
reads_number low high small = record {
  reads = record {
    only = λ text n e. let h = number_within-only low high text n small e in ((h.0, h.1), h.2);
    each = λ n h. number_within-decimal low high n small h.0 h.1;
    no_feed = λ n h. IsFree-decimal 10 n (lit< tt) (omega (arith, h.1));
  };
  no_space = λ n h. IsFree-decimal 32 n (lit< tt) (omega (arith, h.1));
}

pub reads_node : ReadsField node_of IsNodeNumber decimal
reads_node = reads_number 1 64 (omega arith)

pub reads_client : ReadsField client_of IsClientNumber decimal
reads_client =
    reads_as client_of (λ n. (0 ≤ n) × (n ≤ 2 ^ 32 - 1)) IsClientNumber decimal (λ n h. omega (arith, h.1)) (λ n h. (omega arith, omega (arith, h)))
    (reads_number 0 (2 ^ 32 - 1) (omega arith))

pub reads_start : ReadsField start_of (λ n. n < 2 ^ 64) decimal
reads_start =
    reads_as start_of (λ n. (0 ≤ n) × (n ≤ 2 ^ 64 - 1)) (λ n. n < 2 ^ 64) decimal (λ n h. omega (arith, h.1)) (λ n h. (omega arith, omega (arith, h)))
    (reads_number 0 (2 ^ 64 - 1) (omega arith))

pub reads_seq : ReadsField seq_of IsSeq decimal
reads_seq =
    reads_as seq_of (λ n. (1 ≤ n) × (n ≤ 2 ^ 64 - 1)) IsSeq decimal (λ n h. (h.0, omega (arith, h.1))) (λ n h. (h.0, omega (arith, h.1)))
    (reads_number 1 (2 ^ 64 - 1) (omega arith))

name_only : (text name : List ℕ) → name_of text ≡ Some name → IsName name × (text ≡ name)
name_only text name e =
    elim (cases_Bool (is_name text)) [
      | inl good ↦ let same : text ≡ name = same_Some _ _ (rw good at e) in (subst IsName same (checked_name text good), same)
      | inr bad ↦ absurd (let clash : None ≡ Some name = rw bad at e in cc)
    ]

pub reads_name : ReadsField name_of IsName (λ name. name)
reads_name = record {
  reads = record {
    only = name_only;
    each = λ name h. rw (name_checked name h);
    no_feed = λ name h. IsFree-name 10 name (lit< tt) h;
  };
  no_space = λ name h. IsFree-name 32 name (lit< tt) h;
}

-- the word of one mode more
mode_or_other : (text word : List ℕ) (mode one : Mode) (other : Option Mode) → word ≡ mode_word one
    → (if bytes_eq text word then Some one else other) ≡ Some mode → (text ≡ mode_word mode) ⊎ (other ≡ Some mode)
mode_or_other text word mode one other is e =
    elim (cases_Bool (bytes_eq text word)) [
      | inl is_so ↦
          let same : one ≡ mode = same_Some _ _ (rw is_so at e) in
          inl ((bytes_eq-Decides text word).0 is_so ∙ (is ∙ ap mode_word same))
      | inr not_so ↦ inr (rw not_so at e)
    ]

mode_only : (text : List ℕ) (mode : Mode) → mode_of text ≡ Some mode → Unit {0} × (text ≡ mode_word mode)
mode_only text mode e = (
  tt,
  elim (mode_or_other text (codes "X") mode Exclusive _ refl e) [
    | inl is ↦ is
    | inr e1 ↦ elim (mode_or_other text (codes "S") mode Shared _ refl e1) [
      | inl is ↦ is
      | inr e2 ↦ elim (mode_or_other text (codes "IS") mode IntentShared _ refl e2) [
        | inl is ↦ is
        | inr e3 ↦ elim (mode_or_other text (codes "IX") mode IntentExclusive _ refl e3) [
          | inl is ↦ is
          | inr e4 ↦ elim (mode_or_other text (codes "SIX") mode SharedIntentExclusive _ refl e4) [
            | inl is ↦ is
            | inr none ↦ absurd (let clash : None ≡ Some mode = none in cc)
          ]
        ]
      ]
    ]
  ],
)

mode_each : (mode : Mode) → mode_of (mode_word mode) ≡ Some mode
mode_each Shared = refl
mode_each Exclusive = refl
mode_each IntentShared = refl
mode_each IntentExclusive = refl
mode_each SharedIntentExclusive = refl

-- no byte below `I` is in a mode's word
one_more : (byte b : ℕ) (bytes : List ℕ) → byte < 73 → 73 ≤ b → IsFree byte bytes → IsFree byte (b ∷ bytes)
one_more byte b bytes low high free = All-cons (λ b. (b == byte) ≡ false) b bytes (ne_eqb b byte (omega arith)) free

none : (byte : ℕ) → IsFree byte []
none byte = All-nil (λ b. (b == byte) ≡ false)

word_free : (byte : ℕ) → byte < 73 → (mode : Mode) → IsFree byte (mode_word mode)
word_free byte low Shared = one_more byte 83 [] low (omega arith) (none byte)
word_free byte low Exclusive = one_more byte 88 [] low (omega arith) (none byte)
word_free byte low IntentShared = one_more byte 73 (83 ∷ []) low (omega arith) (one_more byte 83 [] low (omega arith) (none byte))
word_free byte low IntentExclusive = one_more byte 73 (88 ∷ []) low (omega arith) (one_more byte 88 [] low (omega arith) (none byte))
word_free byte low SharedIntentExclusive =
    one_more byte 83 (73 ∷ 88 ∷ []) low (omega arith)
    (one_more byte 73 (88 ∷ []) low (omega arith) (one_more byte 88 [] low (omega arith) (none byte)))

pub reads_mode : ReadsField mode_of (λ mode. Unit {0}) mode_word
reads_mode = record {
  reads = record { only = mode_only; each = λ mode h. mode_each mode; no_feed = λ mode h. word_free 10 (lit< tt) mode };
  no_space = λ mode h. word_free 32 (lit< tt) mode;
}
