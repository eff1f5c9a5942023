-- A text begins with at most one line, and it is the one that is read.
use Rattle.std.proofs.Common.{◌≡◌, ℕ, List, ◌++◌, ◌∷◌, Option, Some, None, sym, ap, ◌∙◌, codes, append_assoc}
use Rattle.std.specs.Prelude.{IfSome}
use Rattle.std.proofs.lemmas.List.{append_cancel_right}
use Rattle.std.proofs.lemmas.Option.{same_Some, some_pair_parts}
use Rattle.ra_trace.specs.declared.line.Line.{Line}
use Rattle.ra_trace.specs.declared.line.version.Version.{Version}
use Rattle.ra_trace.specs.Forms.{BeginsReadable, IsReadable, cut, line_in}
use Rattle.ra_trace.specs.TraceText.{BeginsWith, line_text}
use Rattle.ra_trace.proofs.Cuts.{cut-append, cut-only}
use Rattle.ra_trace.proofs.Rows.{body, has_body, line_in-only}
use Rattle.ra_trace.proofs.Versions.{begins_readable}

-- a line ends at the first line feed
cut_line : (text : List ℕ) (line : Line) (rest : List ℕ) → BeginsReadable text line rest → cut 10 text ≡ Some (body line, rest)
cut_line text line rest h =
    let has = has_body line h.0 in
    let is : text ≡ body line ++ 10 ∷ rest = h.1 ∙ (ap (λ (bytes : List ℕ). bytes ++ rest) has.text_is ∙ append_assoc (body line) (codes "\n") rest) in
    ap (cut 10) is ∙ cut-append 10 (body line) rest has.no_feed

pub begins_read : (text : List ℕ) (line : Line) (rest : List ℕ) → BeginsReadable text line rest → (cut 10 text ≡ Some (body line, rest)) × (line_in (body line) ≡ Some line)
begins_read text line rest h = (cut_line text line rest h, (has_body line h.0).read)

pub begins_once : (text : List ℕ) (a b : Line) (r s : List ℕ) → BeginsReadable text a r → BeginsReadable text b s → (a ≡ b) × (r ≡ s)
begins_once text a b r s g h =
    let same = some_pair_parts (body a) (body b) r s (sym (cut_line text a r g) ∙ cut_line text b s h) in
    (same_Some a b (sym (has_body a g.0).read ∙ (ap line_in same.0 ∙ (has_body b h.0).read)), same.1)

-- nor in two versions
pub begins_in_one : (version second : Version) (text : List ℕ) (a b : Line) (r s : List ℕ) → BeginsWith version text a r → BeginsWith second text b s
    → (a ≡ b) × (r ≡ s)
begins_in_one version second text a b r s g h = begins_once text a b r s (begins_readable version text a r g) (begins_readable second text b s h)

-- what is read begins the text
pub read_begins : (text bytes rest : List ℕ) (line : Line) → cut 10 text ≡ Some (bytes, rest) → line_in bytes ≡ Some line → BeginsReadable text line rest
read_begins text bytes rest line cuts reads =
    let (fits, whole) = line_in-only bytes line reads in
    (fits, cut-only 10 text (bytes, rest) cuts ∙ (sym (append_assoc bytes (codes "\n") rest) ∙ ap (λ (prefix : List ℕ). prefix ++ rest) whole))

-- if no line ends or none is read, none begins the text
pub uncut : (text : List ℕ) → cut 10 text ≡ None → (line : Line) (rest : List ℕ) → BeginsReadable text line rest → ⊥
uncut text none line rest h = let cuts = cut_line text line rest h in cc

pub unread : (text bytes others : List ℕ) → cut 10 text ≡ Some (bytes, others) → line_in bytes ≡ None → (line : Line) (rest : List ℕ) → BeginsReadable text line rest → ⊥
unread text bytes others cuts none line rest h =
    let same = some_pair_parts (body line) bytes rest others (sym (cut_line text line rest h) ∙ cuts) in
    let read = sym (ap line_in same.0) ∙ (has_body line h.0).read in
    cc

-- nor is a text without its line feed a line, if none is read
pub is_no_line : (text : List ℕ) → line_in text ≡ None → (line : Line) → IsReadable line → text ++ codes "\n" ≡ line_text line → ⊥
is_no_line text none line fits same =
    let has = has_body line fits in
    let is = append_cancel_right text (body line) (codes "\n") (same ∙ has.text_is) in
    let read = sym (ap line_in is) ∙ none in
    let body_read = has.read in
    cc

-- and what is read is one
pub is_line : (text : List ℕ) (found : Option Line) → found ≡ line_in text → IfSome found (λ line. IsReadable line × (text ++ codes "\n" ≡ line_text line))
is_line text None same = tt
is_line text (Some line) same = line_in-only text line (sym same)
