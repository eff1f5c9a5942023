use Rattle.std.proofs.Common.{◌≡◌, ℕ, List, [], ◌∷◌, ◌++◌, length, sym, ap, ◌∙◌, arith, inl, inr}
use Rattle.std.proofs.lemmas.Bool.{eqb-false, eqb-true}
use Rattle.std.proofs.lemmas.List.{nil_from_length}
use Rattle.ra_cli.proofs.Inputs.{line_before, no_short_line}
use Rattle.ra_cli.proofs.input_line.only_line_of.Goals as goal

pub returns-then-line-gt-MAX_LINE-clause-none : goal.returns-then-line-gt-MAX_LINE-clause-none
returns-then-line-gt-MAX_LINE-clause-none c =
    no_short_line c.args.input.now c.cut.result.0.now c.cut.result.1 c.cut.ensures.before c.cut.ensures.cut c.cut.ensures.whole c.if-line-gt-MAX_LINE.true

pub returns-in-None-clause-some : goal.returns-in-None-clause-some
returns-in-None-clause-some c = record {
  short = omega (arith, c.if-line-gt-MAX_LINE.false);
  no_feed = c.cut.ensures.before;
  whole = inl (rw c.in-None.is at c.cut.ensures.whole);
}

pub returns-then-is_empty-clause-some : goal.returns-then-is_empty-clause-some
returns-then-is_empty-clause-some c =
    let part = c.cut.result.0.now in
    let rest = c.in-Some.rest.now in
    let is : c.args.input.now ≡ part ++ 10 ∷ rest = rw c.in-Some.is at c.cut.ensures.cut in
    let none : rest ≡ [] = nil_from_length rest (eqb-true (length rest) 0 (sym c.is_empty.ensures ∙ c.if-is_empty.true)) in
    record {
      short = omega (arith, c.if-line-gt-MAX_LINE.false);
      no_feed = c.cut.ensures.before;
      whole = inr (is ∙ ap (λ (r : List ℕ). part ++ 10 ∷ r) none);
    }

pub returns-else-is_empty-clause-none : goal.returns-else-is_empty-clause-none
returns-else-is_empty-clause-none c line h =
    let part = c.cut.result.0.now in
    let rest = c.in-Some.rest.now in
    let is : c.args.input.now ≡ part ++ 10 ∷ rest = rw c.in-Some.is at c.cut.ensures.cut in
    let none = (line_before c.args.input.now part rest line c.cut.ensures.before is h).1 in
    eqb-false (length rest) 0 (sym c.is_empty.ensures ∙ c.if-is_empty.false) (ap length none)
