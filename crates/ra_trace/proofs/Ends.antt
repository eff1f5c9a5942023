-- Once a line is over, what comes after it makes no other line of it.
use Rattle.std.proofs.Common.{◌≡◌, ◌≢◌, ◌⊎◌, ℕ, ◌<◌, ◌≤◌, ◌==◌, false, List, [], ◌∷◌, ◌++◌, length, take, ◌-◌, All, Option, Some, None, refl, sym, ap, ◌∙◌, subst, inl, inr, arith, append_assoc, length-append}
use Rattle.std.specs.Prelude.{Ok}
use Rattle.std.proofs.lemmas.Bool.{ne_eqb, cases_Bool, eqb-true, eqb-false}
use Rattle.std.proofs.lemmas.List.{append-nil, take_at}
use Rattle.std.proofs.lemmas.List.Elements.{All-nil, All-cons, All-head, All-tail}
use Rattle.std.proofs.lemmas.Option.{some_pair_parts}
use Rattle.ra_trace.specs.declared.line.Line.{Line}
use Rattle.ra_trace.specs.declared.line_source.byte_lines.LineEnd.TheVariants.{Feed, Length, Input}
use Rattle.ra_trace.specs.Forms.{BeginsReadable, cut, line_in}
use Rattle.ra_trace.specs.NextLine.{EndsSo, TakesBytes, IsOverLine, HasNone, ReadsNext}
use Rattle.ra_trace.proofs.Cuts.{IsFree, cut-append}
use Rattle.ra_trace.proofs.Lines.{begins_read, read_begins, unread}
use Rattle.ra_trace.proofs.Rows.{body, has_body}
use Rattle.ra_trace.proofs.Lengths.{body_is_short}

abbrev pub NoFeed : List ℕ → Type 0
NoFeed bytes = All (λ byte. byte ≢ 10) bytes

pub free : (bytes : List ℕ) → NoFeed bytes → IsFree 10 bytes
free [] h = All-nil (λ b. (b == 10) ≡ false)
free (b ∷ bytes) h =
    All-cons (λ b. (b == 10) ≡ false) b bytes (ne_eqb b 10 (All-head (λ byte. byte ≢ 10) b bytes h)) (free bytes (All-tail (λ byte. byte ≢ 10) b bytes h))

-- a line feed comes after all bytes that are not line feeds
feed_is_late : (bytes more before rest : List ℕ) → NoFeed bytes → bytes ++ more ≡ before ++ 10 ∷ rest → length bytes ≤ length before
feed_is_late [] more before rest h e = omega arith
feed_is_late (b ∷ bytes) more [] rest h e = absurd (All-head (λ byte. byte ≢ 10) b bytes h cc)
feed_is_late (b ∷ bytes) more (c ∷ before) rest h e =
    let late = feed_is_late bytes more before rest (All-tail (λ byte. byte ≢ 10) b bytes h) cc in omega (arith, late)

-- a line has a line feed after fewer than 127 bytes
line_feeds : (text : List ℕ) (line : Line) (rest : List ℕ) → BeginsReadable text line rest
    → (text ≡ body line ++ 10 ∷ rest) × (length (body line) < 127)
line_feeds text line rest h =
    let has = has_body line h.0 in
    (h.1 ∙ (ap (λ (bytes : List ℕ). bytes ++ rest) has.text_is ∙ append_assoc (body line) (10 ∷ []) rest), body_is_short line h.0)

-- no line begins if no line feed is within its length
pub no_line_in : (bytes more : List ℕ) → NoFeed bytes → (more ≡ []) ⊎ (127 ≤ length bytes) → (line : Line) (rest : List ℕ)
    → BeginsReadable (bytes ++ more) line rest → ⊥
no_line_in bytes more h where_ line rest begins =
    let (is, short) = line_feeds (bytes ++ more) line rest begins in
    let late = feed_is_late bytes more (body line) rest h is in
    elim where_ [
      | inl none ↦
          let long = ap length (sym (append-nil bytes) ∙ ap (λ (xs : List ℕ). bytes ++ xs) (sym none) ∙ is) in
          absurd (omega (arith, late, long, length-append (body line) (10 ∷ rest)))
      | inr long ↦ absurd (omega (arith, late, short, long))
    ]

-- if its line feed came, the line is complete already
begins_at_feed : (before more : List ℕ) (line : Line) (rest : List ℕ) → NoFeed before → BeginsReadable ((before ++ 10 ∷ []) ++ more) line rest
    → BeginsReadable (before ++ 10 ∷ []) line []
begins_at_feed before more line rest h begins =
    let (cuts, reads) = begins_read ((before ++ 10 ∷ []) ++ more) line rest begins in
    let here : cut 10 ((before ++ 10 ∷ []) ++ more) ≡ Some (before, more) =
    ap (cut 10) (append_assoc before (10 ∷ []) more) ∙ cut-append 10 before more (free before h) in
    let same : body line ≡ before = (some_pair_parts (body line) before rest more (sym cuts ∙ here)).0 in
    read_begins (before ++ 10 ∷ []) before [] line (cut-append 10 before [] (free before h)) (ap line_in (sym same) ∙ reads)

All-push : (P : ℕ → Type 0) (bytes : List ℕ) (byte : ℕ) → All P bytes → P byte → All P (bytes ++ byte ∷ [])
All-push P [] byte h p = All-cons P byte [] p (All-nil P)
All-push P (b ∷ bytes) byte h p = All-cons P b (bytes ++ byte ∷ []) (All-head P b bytes h) (All-push P bytes byte (All-tail P b bytes h) p)

-- a line that begins the bytes of one that is over, and more, begins them alone
pub begins_before : (bytes more : List ℕ) (line : Line) (rest : List ℕ) → IsOverLine bytes → BeginsReadable (bytes ++ more) line rest
    → (others : List ℕ) × BeginsReadable bytes line others
begins_before bytes more line rest (before, byte, opened, is, how) begins =
    elim (cases_Bool (byte == 10)) [
      | inl feed ↦
          let whole : bytes ≡ before ++ 10 ∷ [] = is ∙ ap (λ (b : ℕ). before ++ b ∷ []) (eqb-true byte 10 feed) in (
            [],
            subst (λ (xs : List ℕ). BeginsReadable xs line []) (sym whole)
                (begins_at_feed before more line rest opened.0 (subst (λ (xs : List ℕ). BeginsReadable (xs ++ more) line rest) whole begins)),
          )
      | inr other ↦
          elim how [
            | inl same ↦ absurd (eqb-false byte 10 other same)
            | inr long ↦
                let none : NoFeed bytes = subst NoFeed (sym is) (All-push (λ b. b ≢ 10) before byte opened.0 (eqb-false byte 10 other)) in
                absurd (no_line_in bytes more none (inr (omega (arith, long))) line rest begins)
          ]
    ]

-- ---- What was read of a line

-- the last byte, and those before it
record HasLast (bytes : List ℕ) : Type 0 where
  before : List ℕ
  byte : ℕ
  is : bytes ≡ before ++ byte ∷ []

last_of : (b : ℕ) (bytes : List ℕ) → HasLast (b ∷ bytes)
last_of b [] = record { before = []; byte = b; is = refl }
last_of b (c ∷ bytes) =
    let l = last_of c bytes in record { before = b ∷ l.before; byte = l.byte; is = ap (λ (xs : List ℕ). b ∷ xs) l.is }

All-before : (P : ℕ → Type 0) (before : List ℕ) (byte : ℕ) → All P (before ++ byte ∷ []) → All P before
All-before P [] byte h = All-nil P
All-before P (b ∷ before) byte h =
    All-cons P b before (All-head P b (before ++ byte ∷ []) h) (All-before P before byte (All-tail P b (before ++ byte ∷ []) h))

long_is_over : (bytes : List ℕ) → NoFeed bytes → length bytes ≡ 128 → IsOverLine bytes
long_is_over [] h long = absurd (omega arith)
long_is_over (b ∷ bytes) h long =
    let l = last_of b bytes in
    let none : NoFeed (l.before ++ l.byte ∷ []) = subst NoFeed l.is h in (
      l.before,
      l.byte,
      (All-before (λ byte. byte ≢ 10) l.before l.byte none, omega (arith, ap length l.is, length-append l.before (l.byte ∷ []), long)),
      l.is,
      inr long,
    )

pub feed_is_over : (bytes : List ℕ) (new : Option (List ℕ)) → EndsSo Feed bytes new → IsOverLine bytes
feed_is_over bytes new (before, opened, is) = (before, 10, opened, is, inl refl)

-- what comes before the line feed
before_feed : (bytes before : List ℕ) → bytes ≡ before ++ 10 ∷ [] → take (length bytes - 1) bytes ≡ before
before_feed bytes before is =
    ap (take (length bytes - 1)) is
    ∙ take_at before (10 ∷ []) (length bytes - 1) (omega (arith, ap length is, length-append before (10 ∷ [])))

pub some_at_feed : (bytes prefix : List ℕ) (line : Line) (new : Option (List ℕ)) → EndsSo Feed bytes new → prefix ≡ take (length bytes - 1) bytes
    → line_in prefix ≡ Some line → BeginsReadable bytes line []
some_at_feed bytes prefix line new (before, opened, is) cuts reads =
    let same : before ≡ prefix = sym (cuts ∙ before_feed bytes before is) in
    read_begins bytes before [] line (ap (cut 10) is ∙ cut-append 10 before [] (free before opened.0)) (ap line_in same ∙ reads)

-- a line of no form
pub none_at_feed : (bytes prefix : List ℕ) (new : Option (List ℕ)) → EndsSo Feed bytes new → prefix ≡ take (length bytes - 1) bytes
    → line_in prefix ≡ None → HasNone bytes new
none_at_feed bytes prefix new (before, opened, is) cuts none =
    let same : before ≡ prefix = sym (cuts ∙ before_feed bytes before is) in (
      λ line rest begins. unread bytes before [] (ap (cut 10) is ∙ cut-append 10 before [] (free before opened.0)) (ap line_in same ∙ none) line rest begins,
      inl (before, 10, opened, is, inl refl),
    )

pub none_at_length : (bytes : List ℕ) (new : Option (List ℕ)) → EndsSo Length bytes new → HasNone bytes new
none_at_length bytes new (none, long) = (
  λ line rest begins. no_line_in bytes [] none (inl refl) line rest (subst (λ (xs : List ℕ). BeginsReadable xs line rest) (sym (append-nil bytes)) begins),
  inl (long_is_over bytes none long),
)

pub none_at_input : (bytes : List ℕ) (new : Option (List ℕ)) → EndsSo Input bytes new → HasNone bytes new
none_at_input bytes new (opened, ended) = (
  λ line rest begins. no_line_in bytes [] opened.0 (inl refl) line rest (subst (λ (xs : List ℕ). BeginsReadable xs line rest) (sym (append-nil bytes)) begins),
  inr (opened, ended),
)

-- what the bytes before the line feed are read as
pub reads_at_feed : (left : ℕ) (old new : Option (List ℕ)) (bytes prefix : List ℕ) (came : Option Line) → TakesBytes left old new bytes
    → EndsSo Feed bytes new → prefix ≡ take (length bytes - 1) bytes → came ≡ line_in prefix → ReadsNext left old new bytes (Ok came)
reads_at_feed left old new bytes prefix (Some line) taken ended cuts is = (taken, some_at_feed bytes prefix line new ended cuts (sym is), ended)
reads_at_feed left old new bytes prefix None taken ended cuts is = (taken, none_at_feed bytes prefix new ended cuts (sym is))

-- a line has its line feed at least
pub some_bytes_at_feed : (bytes : List ℕ) (new : Option (List ℕ)) → EndsSo Feed bytes new → 1 ≤ length bytes
some_bytes_at_feed bytes new (before, opened, is) = omega (arith, ap length is, length-append before (10 ∷ []))
