-- A text has one verdict as a mark log.
use Rattle.std.proofs.Common.{◌≡◌, ◌⊎◌, ℕ, ◌+◌, List, [], ◌∷◌, ◌++◌, length, All, refl, sym, ap, ◌∙◌, subst, inl, inr, append_assoc}
use Rattle.std.proofs.lemmas.List.{append-nil}
use Rattle.std.proofs.lemmas.List.Elements.{All-head, All-tail}
use Rattle.ra_stamp.specs.declared.entry.Mark.{Mark}
use Rattle.ra_table.specs.Table.{LockTable, empty_table, TableSteps, TableRun}
use Rattle.ra_table.specs.Laws.{AllowsMark}
use Rattle.ra_text.specs.Lines.{mark_line}
use Rattle.ra_world.specs.Quiet.{requests_in}
use Rattle.ra_trace.specs.declared.line.Line.TheVariants.{Marked}
use Rattle.ra_trace.specs.declared.mark_log.marks_verdict.MarkCause.{MarkCause}
use Rattle.ra_trace.specs.declared.mark_log.marks_verdict.MarksVerdict.{MarksVerdict}
use Rattle.ra_trace.specs.declared.mark_log.marks_verdict.MarksVerdict.TheVariants.{Valid, Invalid}
use Rattle.ra_trace.specs.declared.line.version.Version.TheVariants.{Three}
use Rattle.ra_trace.specs.TraceText.{IsMarkLine}
use Rattle.ra_trace.specs.Marks.{marks_text, IsMarkRun, grants_in, BeginsWithMark, TableRefuses, IsWrongMark, IsMarksVerdict}
use Rattle.ra_trace.specs.MarksAlong.{TableLaws}
use Rattle.ra_trace.proofs.Lines.{begins_once}
use Rattle.ra_trace.proofs.Verdicts.{line_has_bytes}
use Rattle.ra_trace.proofs.MarkRefusals.{refused_is_not_allowed, one_cause, refuses_alike}

same_mark : (a b : Mark) → Marked a ≡ Marked b → a ≡ b
same_mark a b e = cc

-- a text begins with one mark at most
one_mark : (text : List ℕ) (a b : Mark) (r s : List ℕ) → BeginsWithMark text a r → BeginsWithMark text b s → (a ≡ b) × (r ≡ s)
one_mark text a b r s p q = let same = begins_once text (Marked a) (Marked b) r s p q in (same_mark a b same.0, same.1)

begins_so : (mark : Mark) (marks : List Mark) (rest : List ℕ) → IsMarkLine Three mark
    → BeginsWithMark (marks_text (mark ∷ marks) ++ rest) mark (marks_text marks ++ rest)
begins_so mark marks rest fits = (fits, append_assoc (mark_line mark) (marks_text marks) rest)

-- ---- Two prefixes of one text

-- of two lists of marks that begin a text, one begins the other
record Longer (shorter longer : List Mark) (left right : List ℕ) : Type 0 where
  more : List Mark
  longer_is : longer ≡ shorter ++ more
  left_is : left ≡ marks_text more ++ right

longer_or_not : (a b : List Mark) (r s : List ℕ) → All (IsMarkLine Three) a → All (IsMarkLine Three) b → marks_text a ++ r ≡ marks_text b ++ s
    → Longer a b r s ⊎ Longer b a s r
longer_or_not [] b r s p q e = inl (record { more = b; longer_is = refl; left_is = e })
longer_or_not (x ∷ a) [] r s p q e = inr (record { more = x ∷ a; longer_is = refl; left_is = sym e })
longer_or_not (x ∷ a) (y ∷ b) r s p q e =
    let here = begins_so x a r (All-head (IsMarkLine Three) x a p) in
    let there = begins_so y b s (All-head (IsMarkLine Three) y b q) in
    let same = one_mark (marks_text (x ∷ a) ++ r) x y (marks_text a ++ r) (marks_text b ++ s) here (there.0, e ∙ there.1) in
    let first : x ≡ y = same.0 in
    elim (longer_or_not a b r s (All-tail (IsMarkLine Three) x a p) (All-tail (IsMarkLine Three) y b q) same.1) [
      | inl h ↦ inl (record { more = h.more; longer_is = let is = h.longer_is in cc; left_is = h.left_is })
      | inr h ↦ inr (record { more = h.more; longer_is = let is = h.longer_is in cc; left_is = h.left_is })
    ]

-- they end at one place
record SameEnd (a b : List Mark) (r s : List ℕ) : Type 0 where
  marks : a ≡ b
  rest : r ≡ s

-- ---- Nothing more is right after what is wrong

-- the table after a prefix of a run allows the mark that comes next
allowed_in : TableLaws → (prefix more : List Mark) (mark : Mark) (table after : LockTable) → TableRun prefix table
    → TableRun (prefix ++ mark ∷ more) after → AllowsMark table mark
allowed_in laws prefix more mark table after run whole =
    let parts = laws.splits (prefix ++ mark ∷ []) more empty_table after
    (subst (λ (ms : List Mark). TableSteps empty_table ms after) (sym (append_assoc prefix (mark ∷ []) more)) whole) in
    (laws.goes_on prefix mark table run).1 (parts.0, parts.1)

All-at : (P : Mark → Type 0) (prefix : List Mark) (mark : Mark) (rest : List Mark) → All P (prefix ++ mark ∷ rest) → P mark
All-at P [] mark rest h = All-head P mark rest h
All-at P (x ∷ prefix) mark rest h = All-at P prefix mark rest (All-tail P x (prefix ++ mark ∷ rest) h)

next_is_not_wrong : TableLaws → (prefix more : List Mark) (mark : Mark) (text rest : List ℕ) (why : MarkCause) → IsMarkRun (prefix ++ mark ∷ more)
    → BeginsWithMark text mark rest → IsWrongMark prefix text why → ⊥
next_is_not_wrong laws prefix more mark text rest why whole begins (inl none) = none.2 mark rest begins
next_is_not_wrong laws prefix more mark text rest why whole begins (inr (table, run, other, others, there, refused)) =
    let same : other ≡ mark = (one_mark text other mark others rest there begins).0 in
    refused_is_not_allowed table mark why (subst (λ (m : Mark). TableRefuses table m why) same refused)
    (allowed_in laws prefix more mark table whole.table run whole.run)

no_more : TableLaws → (prefix marks : List Mark) (r s : List ℕ) (why : MarkCause) → IsWrongMark prefix r why → IsMarkRun marks
    → Longer prefix marks r s → SameEnd prefix marks r s
no_more laws prefix marks r s why wrong whole h = at h.more h.longer_is h.left_is
  where
    at : (more : List Mark) → marks ≡ prefix ++ more → r ≡ marks_text more ++ s → SameEnd prefix marks r s
    at [] is left = record { marks = sym (is ∙ append-nil prefix); rest = left }
    at (x ∷ more) is left =
        let run : IsMarkRun (prefix ++ x ∷ more) = subst IsMarkRun is whole in
        let begins = begins_so x more s (All-at (IsMarkLine Three) prefix x more run.lines) in
        absurd (next_is_not_wrong laws prefix more x r (marks_text more ++ s) why run (begins.0, left ∙ begins.1) wrong)

-- if nothing is left there are no more marks
nothing_left : (prefix marks : List Mark) (s : List ℕ) → Longer prefix marks [] s → SameEnd prefix marks [] s
nothing_left prefix marks s h = at h.more h.longer_is h.left_is
  where
    at : (more : List Mark) → marks ≡ prefix ++ more → [] ≡ marks_text more ++ s → SameEnd prefix marks [] s
    at [] is left = record { marks = sym (is ∙ append-nil prefix); rest = left }
    at (x ∷ more) is left =
        absurd (line_has_bytes (Marked x) (marks_text more ++ s) (left ∙ append_assoc (mark_line x) (marks_text more) s))

nothing_is_not_wrong : (marks : List Mark) (text : List ℕ) (why : MarkCause) → text ≡ [] → IsWrongMark marks text why → ⊥
nothing_is_not_wrong marks text why none (inl line) = line.1 none
nothing_is_not_wrong marks text why none (inr (table, run, mark, rest, begins, refused)) = line_has_bytes (Marked mark) rest (sym none ∙ begins.1)

-- ---- One cause

causes : TableLaws → (marks : List Mark) (text : List ℕ) (a b : MarkCause) → IsWrongMark marks text a → IsWrongMark marks text b → a ≡ b
causes laws marks text a b (inl x) (inl y) = x.0 ∙ sym y.0
causes laws marks text a b (inl x) (inr (table, run, mark, rest, begins, refused)) = absurd (x.2 mark rest begins)
causes laws marks text a b (inr (table, run, mark, rest, begins, refused)) (inl y) = absurd (y.2 mark rest begins)
causes laws marks text a b (inr (table, run, mark, rest, begins, refused)) (inr (other, there, second, others, again, why)) =
    let same : second ≡ mark = (one_mark text second mark others rest again begins).0 in
    one_cause table mark a b refused
    (refuses_alike other table mark b (laws.same marks other table there run) (subst (λ (m : Mark). TableRefuses other m b) same why))

-- ---- One verdict

both_valid : (text : List ℕ) (requests grants requests' grants' : ℕ) → IsMarksVerdict text (Valid requests grants)
    → IsMarksVerdict text (Valid requests' grants') → Valid requests grants ≡ Valid requests' grants'
both_valid text requests grants requests' grants' (p, a, is, r, g) (q, b, is', r', g') =
    let texts : marks_text p ++ [] ≡ marks_text q ++ [] = append-nil (marks_text p) ∙ sym is ∙ is' ∙ sym (append-nil (marks_text q)) in
    let same : p ≡ q =
    elim (longer_or_not p q [] [] a.lines b.lines texts) [
      | inl h ↦ (nothing_left p q [] h).marks
      | inr h ↦ sym (nothing_left q p [] h).marks
    ] in
    let requests_are : requests ≡ requests' = r ∙ ap requests_in same ∙ sym r' in
    let grants_are : grants ≡ grants' = g ∙ ap grants_in same ∙ sym g' in
    cc

not_valid_and_invalid : TableLaws → (text : List ℕ) (requests grants line : ℕ) (why : MarkCause) → IsMarksVerdict text (Valid requests grants)
    → IsMarksVerdict text (Invalid line why) → ⊥
not_valid_and_invalid laws text requests grants line why (p, a, is, r, g) (prefix, rest, b, is', at, wrong) =
    let texts : marks_text p ++ [] ≡ marks_text prefix ++ rest = append-nil (marks_text p) ∙ sym is ∙ is' in
    elim (longer_or_not p prefix [] rest a.lines b.lines texts) [
      | inl h ↦ nothing_is_not_wrong prefix rest why (sym (nothing_left p prefix rest h).rest) wrong
      | inr h ↦ nothing_is_not_wrong prefix rest why (no_more laws prefix p rest [] why wrong a h).rest wrong
    ]

both_invalid : TableLaws → (text : List ℕ) (line line' : ℕ) (why why' : MarkCause) → IsMarksVerdict text (Invalid line why)
    → IsMarksVerdict text (Invalid line' why') → Invalid line why ≡ Invalid line' why'
both_invalid laws text line line' why why' (prefix, rest, a, is, at, wrong) (prefix', rest', b, is', at', wrong') =
    let same : SameEnd prefix prefix' rest rest' =
    elim (longer_or_not prefix prefix' rest rest' a.lines b.lines (sym is ∙ is')) [
      | inl h ↦ no_more laws prefix prefix' rest rest' why wrong b h
      | inr h ↦ let end = no_more laws prefix' prefix rest' rest why' wrong' a h in record { marks = sym end.marks; rest = sym end.rest }
    ] in
    let there : IsWrongMark prefix rest why' =
    subst (λ (ms : List Mark). IsWrongMark ms rest why') (sym same.marks)
    (subst (λ (bs : List ℕ). IsWrongMark prefix' bs why') (sym same.rest) wrong') in
    let causes_are : why ≡ why' = causes laws prefix rest why why' wrong there in
    let lines : line ≡ line' = at ∙ ap (λ (ms : List Mark). length ms + 1) same.marks ∙ sym at' in
    cc

pub one_verdict : TableLaws → (text : List ℕ) (a b : MarksVerdict) → IsMarksVerdict text a → IsMarksVerdict text b → a ≡ b
one_verdict laws text (Valid r g) (Valid r' g') p q = both_valid text r g r' g' p q
one_verdict laws text (Valid r g) (Invalid line why) p q = absurd (not_valid_and_invalid laws text r g line why p q)
one_verdict laws text (Invalid line why) (Valid r g) p q = absurd (not_valid_and_invalid laws text r g line why q p)
one_verdict laws text (Invalid line why) (Invalid line' why') p q = both_invalid laws text line line' why why' p q
