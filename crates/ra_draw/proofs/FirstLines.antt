-- The first line of a text, as it is cut off and parsed.
use Rattle.std.proofs.Common.{◌≡◌, ◌≢◌, ◌==◌, ℕ, false, List, [], ◌∷◌, ◌++◌, Option, Some, None, Bor, codes, refl, sym, ap, ◌∙◌, subst}
use Rattle.std.specs.Prelude.{IfSome, IfNone, flat_map, option_to_list}
use Rattle.std.proofs.lemmas.Bool.{ne_eqb}
use Rattle.std.proofs.lemmas.List.{append-nil}
use Rattle.std.proofs.lemmas.List.Elements.{All-nil, All-cons, All-head, All-tail}
use Rattle.std.proofs.lemmas.Option.{some_pair_parts}
use Rattle.ra_trace.specs.declared.line.Line.{Line}
use Rattle.ra_trace.specs.declared.line.Line.TheVariants.{First, Stepped, Sent, Marked, Last}
use Rattle.ra_trace.specs.declared.line.version.Version.TheVariants.{One, Two, Three, ThreeWithSends}
use Rattle.ra_trace.specs.Forms.{IsReadable, cut}
use Rattle.ra_trace.specs.TraceText.{line_text}
use Rattle.ra_trace.proofs.Cuts.{IsFree, cut-append, cut-only}
use Rattle.ra_trace.proofs.Ends.{NoFeed}
use Rattle.ra_trace.proofs.Lines.{begins_once, begins_read}
use Rattle.ra_trace.proofs.Rows.{body, has_body}
use Rattle.ra_draw.specs.Pictures.{AreLines, is_trace}

-- these bytes are the first of the lines, without its line feed, and this is the text of the others
pub record IsFirst (lines : List Line) (bytes after : List ℕ) : Type 0 where
  pub line : Line
  pub others : List Line
  pub is : lines ≡ line ∷ others
  pub readable : IsReadable line
  pub bytes_are : bytes ++ codes "\n" ≡ line_text line
  pub rest : AreLines others after

free : (bytes : List ℕ) → NoFeed bytes → IsFree 10 bytes
free [] h = All-nil (λ b. (b == 10) ≡ false)
free (b ∷ bytes) h =
    All-cons (λ b. (b == 10) ≡ false) b bytes (ne_eqb b 10 (All-head (λ byte. byte ≢ 10) b bytes h)) (free bytes (All-tail (λ byte. byte ≢ 10) b bytes h))

has_feed : (bytes rest : List ℕ) → NoFeed (bytes ++ 10 ∷ rest) → ⊥
has_feed [] rest h = All-head (λ byte. byte ≢ 10) 10 rest h refl
has_feed (b ∷ bytes) rest h = has_feed bytes rest (All-tail (λ byte. byte ≢ 10) b (bytes ++ 10 ∷ rest) h)

-- what comes before the first line feed is the first line
pub first_line : (text bytes after : List ℕ) (lines : List Line) → NoFeed bytes → text ≡ bytes ++ 10 ∷ after → AreLines lines text
    → IsFirst lines bytes after
first_line text [] after [] none cuts are = let clash = are.text_is in cc
first_line text (b ∷ bytes) after [] none cuts are = let clash = are.text_is in cc
first_line text bytes after (line ∷ others) none cuts are =
    let (here, read) = begins_read text line (flat_map line_text others) (are.readable.0, are.text_is) in
    let same = some_pair_parts (body line) bytes (flat_map line_text others) after
    (sym here ∙ (ap (cut 10) cuts ∙ cut-append 10 bytes after (free bytes none))) in
    record {
      line = line;
      others = others;
      is = refl;
      readable = are.readable.0;
      bytes_are = ap (λ (xs : List ℕ). xs ++ codes "\n") (sym same.0) ∙ sym (has_body line are.readable.0).text_is;
      rest = record { readable = are.readable.1; text_is = sym same.1 };
    }

-- a text without a line feed has no line
pub no_line : (text : List ℕ) (lines : List Line) → NoFeed text → AreLines lines text → lines ≡ []
no_line text [] none are = refl
no_line text (line ∷ others) none are =
    let (here, read) = begins_read text line (flat_map line_text others) (are.readable.0, are.text_is) in
    absurd (has_feed (body line) (flat_map line_text others) (subst NoFeed (cut-only 10 text (body line, flat_map line_text others) here) none))

-- an empty text has none
pub nothing : (text : List ℕ) (lines : List Line) → text ≡ [] → AreLines lines text → lines ≡ []
nothing text lines empty are = no_line text lines (subst NoFeed (sym empty) (All-nil (λ byte. byte ≢ 10))) are

-- it is what is parsed
pub parsed : (bytes : List ℕ) (found : Option Line) (line : Line) → IfSome found (λ l. IsReadable l × (bytes ++ codes "\n" ≡ line_text l))
    → (found ≡ None → (l : Line) → IsReadable l → bytes ++ codes "\n" ≡ line_text l → ⊥) → IsReadable line → bytes ++ codes "\n" ≡ line_text line
    → found ≡ Some line
parsed bytes None line is none readable same = absurd (none refl line readable same)
parsed bytes (Some other) line is none readable same =
    ap Some (begins_once (bytes ++ codes "\n") other line [] [] (is.0, is.1 ∙ sym (append-nil (line_text other))) (readable, same ∙ sym (append-nil (line_text line)))).0

-- whether the first line begins a trace
first_tells : (line : Line) (others : List Line) → is_trace (line ∷ []) ≡ is_trace (line ∷ others)
first_tells (First version nodes start) others = refl
first_tells (Stepped step) others = refl
first_tells (Sent message) others = refl
first_tells (Marked mark) others = refl
first_tells Last others = refl

-- no line of a trace is empty
not_empty : (found : Option Line) → IfSome found (λ l. IsReadable l × (codes "\n" ≡ line_text l)) → is_trace (option_to_list found) ≡ false
not_empty None is = refl
not_empty (Some (First One nodes start)) is = let clash = is.1 in cc
not_empty (Some (First Two nodes start)) is = let clash = is.1 in cc
not_empty (Some (First Three nodes start)) is = let clash = is.1 in cc
not_empty (Some (First ThreeWithSends nodes start)) is = let clash = is.1 in cc
not_empty (Some (Stepped step)) is = refl
not_empty (Some (Sent message)) is = refl
not_empty (Some (Marked mark)) is = refl
not_empty (Some Last) is = refl

-- what is cut off a text and parsed says whether it is a trace
pub trace_told : (text bytes : List ℕ) (after : Option (Bor (List ℕ))) (found : Option Line) (lines : List Line) → NoFeed bytes
    → IfSome after (λ a. text ≡ bytes ++ 10 ∷ a.now) → IfNone after (text ≡ bytes)
    → IfSome found (λ l. IsReadable l × (bytes ++ codes "\n" ≡ line_text l))
    → (found ≡ None → (l : Line) → IsReadable l → bytes ++ codes "\n" ≡ line_text l → ⊥) → AreLines lines text
    → is_trace (option_to_list found) ≡ is_trace lines
trace_told text bytes (Some after) found lines free cuts whole is none are =
    let first = first_line text bytes after.now lines free cuts are in
    let found_is = parsed bytes found first.line is none first.readable first.bytes_are in
    ap (λ o. is_trace (option_to_list o)) found_is ∙ (first_tells first.line first.others ∙ sym (ap is_trace first.is))
trace_told text bytes None found lines free cuts whole is none are =
    let nothing = no_line text lines (subst NoFeed (sym whole) free) are in
    let empty : bytes ≡ [] = sym whole ∙ (are.text_is ∙ ap (flat_map line_text) nothing) in
    not_empty found (subst (λ (xs : List ℕ). IfSome found (λ l. IsReadable l × (xs ++ codes "\n" ≡ line_text l))) empty is) ∙ sym (ap is_trace nothing)
