-- How the lines of a text are noted one by one.
use Rattle.std.proofs.Common.{◌≡◌, ◌<◌, ◌≤◌, ℕ, zero, suc, ◌+◌, ◌-◌, Bool, true, false, ◌&&◌, List, [], ◌∷◌, ◌++◌, Option, Some, None, codes, refl, sym, ap, ◌∙◌, subst, arith, append_assoc, take}
use Rattle.std.specs.Prelude.{IfSome, fold, nat_le}
use Rattle.std.proofs.lemmas.Bool.{le-leb, leb-true}
use Rattle.std.proofs.lemmas.List.{append-nil}
use Rattle.ra_text.specs.declared.drawn_part.Part.{Part}
use Rattle.ra_trace.specs.declared.line.Line.{Line}
use Rattle.ra_trace.specs.Forms.{IsReadable}
use Rattle.ra_trace.specs.TraceText.{line_text}
use Rattle.ra_trace.proofs.Ends.{NoFeed}
use Rattle.ra_draw.specs.declared.timeline.Timeline.{Timeline}
use Rattle.ra_draw.specs.Following.{Notes, NotesAll, numbers_of}
use Rattle.ra_draw.specs.Pictures.{AreLines, is_in, nodes_with, row_at, rows_from}
use Rattle.ra_draw.proofs.FirstLines.{first_line, no_line, parsed}

-- these lines are left after this many, and make this text; with what was noted about the others they come to what all
-- lines come to
pub record AreLeft (trace : Bool) (part : Part) (lines : List Line) (count : ℕ) (old now : Timeline) (left : List Line) (rest : List ℕ) : Type 0 where
  pub are : AreLines left rest
  pub rows : numbers_of now.rows.items ++ rows_from trace part (count + 1) left ≡ numbers_of old.rows.items ++ rows_from trace part 1 lines
  pub nodes : fold (nodes_with trace) now.nodes (take (part.to - count) left) ≡ fold (nodes_with trace) old.nodes (take part.to lines)

take_nil : {A : Type 0} (n : ℕ) → take {A = A} n [] ≡ []
take_nil zero = refl
take_nil (suc n) = refl

and_false : (b : Bool) → (b && false) ≡ false
and_false true = refl
and_false false = refl

and_true : (b : Bool) → (b && true) ≡ b
and_true true = refl
and_true false = refl

above : (a b : ℕ) (test : Bool) → b < a → nat_le a b ≡ test → test ≡ false
above a b true over e = absurd (let under = leb-true a b e in omega (arith, under, over))
above a b false over e = refl

-- a line up to the last one of the part is in it unless it comes before it
pub drawn_is : (part : Part) (number : ℕ) → number ≤ part.to → nat_le part.from number ≡ is_in part number
drawn_is part number within =
    sym (ap (λ b. nat_le part.from number && b) (le-leb number part.to within) ∙ and_true (nat_le part.from number))

-- no line after the part has a row
none_after : (trace : Bool) (part : Part) (number : ℕ) (left : List Line) → part.to < number → rows_from trace part number left ≡ []
none_after trace part number [] late = refl
none_after trace part number (line ∷ left) late =
    let out : is_in part number ≡ false =
    ap (λ b. nat_le part.from number && b) (above number part.to (nat_le number part.to) late refl) ∙ and_false (nat_le part.from number) in
    ap (λ d. row_at trace d number line ++ rows_from trace part (number + 1) left) out ∙ none_after trace part (number + 1) left (omega arith)

-- what is noted, of equal things
pub noted_as : {trace other drawn : Bool} {number : ℕ} {line same : Line} {now next after : Timeline} → other ≡ trace → same ≡ line → next ≡ after
    → Notes other drawn number same now after → Notes trace drawn number line now next
noted_as {trace} {other} {drawn} {number} {line} {same} {now} {next} {after} trace_is line_is next_is notes =
    subst (λ s. Notes trace drawn number line now s) (sym next_is)
    (subst (λ l. Notes trace drawn number l now after) line_is (subst (λ t. Notes t drawn number same now after) trace_is notes))

module _ (trace : Bool) (part : Part) (lines : List Line) (old : Timeline) where
  -- no line is left
  pub at_end : (count : ℕ) (now : Timeline) (left : List Line) (rest : List ℕ) → NoFeed rest → AreLeft trace part lines count old now left rest
      → NotesAll trace part lines old now
  at_end count now left rest none h =
      let nothing = no_line rest left none h.are in
      let rows = subst (λ (ls : List Line). numbers_of now.rows.items ++ rows_from trace part (count + 1) ls ≡ numbers_of old.rows.items ++ rows_from trace part 1 lines) nothing h.rows in
      let nodes = subst (λ (ls : List Line). fold (nodes_with trace) now.nodes (take (part.to - count) ls) ≡ fold (nodes_with trace) old.nodes (take part.to lines)) nothing h.nodes in
      record {
        rows = sym (append-nil (numbers_of now.rows.items)) ∙ rows;
        nodes = sym (ap (fold (nodes_with trace) now.nodes) (take_nil (part.to - count))) ∙ nodes;
      }

  -- the part is over
  pub at_last : (count : ℕ) (now : Timeline) (left : List Line) (rest : List ℕ) → part.to ≤ count → AreLeft trace part lines count old now left rest
      → NotesAll trace part lines old now
  at_last count now left rest over h =
      let zero_left : part.to - count ≡ 0 = omega (arith, over) in
      record {
        rows = sym (append-nil (numbers_of now.rows.items))
            ∙ (ap (λ (ns : List ℕ). numbers_of now.rows.items ++ ns) (sym (none_after trace part (count + 1) left (omega (arith, over)))) ∙ h.rows);
        nodes = sym (ap (λ m. fold (nodes_with trace) now.nodes (take m left)) zero_left) ∙ h.nodes;
      }

  -- another line is noted
  pub one_more : (count : ℕ) (now next : Timeline) (left : List Line) (rest bytes after : List ℕ) (found : Option Line) (drawn : Bool)
      → count < part.to → drawn ≡ is_in part (count + 1) → NoFeed bytes → rest ≡ bytes ++ 10 ∷ after
      → IfSome found (λ l. IsReadable l × (bytes ++ codes "\n" ≡ line_text l))
      → (found ≡ None → (l : Line) → IsReadable l → bytes ++ codes "\n" ≡ line_text l → ⊥)
      → ((line : Line) → found ≡ Some line → Notes trace drawn (count + 1) line now next) → AreLeft trace part lines count old now left rest
      → (others : List Line) × AreLeft trace part lines (count + 1) old next others after
  one_more count now next left rest bytes after found drawn within is none cuts some not notes h =
      let first = first_line rest bytes after left none cuts h.are in
      let line = first.line in
      let others = first.others in
      let noted = notes line (parsed bytes found line some not first.readable first.bytes_are) in
      let left_is = first.is in
      let f = nodes_with trace in
      let after_it = rows_from trace part (count + 1 + 1) others in
      let one_less : part.to - count ≡ suc (part.to - (count + 1)) = omega (arith, within) in (
        others,
        record {
          are = first.rest;
          rows = ap (λ (ns : List ℕ). ns ++ after_it) noted.rows
              ∙ (append_assoc (numbers_of now.rows.items) (row_at trace drawn (count + 1) line) after_it
              ∙ (ap (λ d. numbers_of now.rows.items ++ (row_at trace d (count + 1) line ++ after_it)) is
              ∙ (ap (λ ls. numbers_of now.rows.items ++ rows_from trace part (count + 1) ls) (sym left_is) ∙ h.rows)));
          nodes = ap (λ n. fold f n (take (part.to - (count + 1)) others)) noted.nodes
              ∙ (ap (λ m. fold f now.nodes (take m (line ∷ others))) (sym one_less)
              ∙ (ap (λ ls. fold f now.nodes (take (part.to - count) ls)) (sym left_is) ∙ h.nodes));
        },
      )
