use Rattle.std.proofs.Common.{◌≡◌, ◌==◌, false, ◌++◌, ◌∷◌, ◌∙◌, ℕ, List, [], ap, codes, flat_map, length, refl, string_bytes, subst, sym}
use Rattle.std.specs.Prelude.{IfOk}
use Rattle.std.proofs.lemmas.Bool.{eqb-false, eqb-true}
use Rattle.std.proofs.lemmas.List.{nil_from_length}
use Rattle.ra_text.specs.Lines.{total_line}
use Rattle.ra_text.proofs.Drafts.{adds_as, adds_both}
use Rattle.ra_trace.specs.declared.mark_log.marks_watcher.MarksSoFar.{MarksSoFar}
use Rattle.ra_trace.specs.declared.mark_log.wrong_lines.WrongLine.{WrongLine}
use Rattle.ra_trace.specs.LeftOut.{first_of_each}
use Rattle.ra_cli.specs.WrongLineChecks.{all_text, cause_lines, wrong_line}
use Rattle.ra_cli.proofs.commands.wrong_lines_text.wrong_lines_text.Goals as goal

none : (wrong : List WrongLine) (counts : MarksSoFar) → first_of_each wrong ≡ []
    → codes "valid\n" ++ total_line (codes "requests") counts.requests ++ total_line (codes "grants") counts.grants ≡ all_text wrong counts
none [] counts is = refl
none (first ∷ wrong) counts is = absurd cc

none_as : (wrong : List WrongLine) (counts : MarksSoFar) (m n : ℕ) → m ≡ counts.requests → n ≡ counts.grants → first_of_each wrong ≡ []
    → codes "valid\n" ++ total_line (codes "requests") m ++ total_line (codes "grants") n ≡ all_text wrong counts
none_as wrong counts m n requests grants is =
    ap (λ (x : ℕ). codes "valid\n" ++ total_line (codes "requests") x ++ total_line (codes "grants") n) requests
    ∙ ap (λ (x : ℕ). codes "valid\n" ++ total_line (codes "requests") counts.requests ++ total_line (codes "grants") x) grants
    ∙ none wrong counts is

some : (wrong : List WrongLine) (counts : MarksSoFar) → (first_of_each wrong ≡ [] → ⊥)
    → flat_map wrong_line (first_of_each wrong) ++ cause_lines wrong ++ total_line (codes "requests") counts.requests
    ++ total_line (codes "grants") counts.grants ≡ all_text wrong counts
some [] counts has = absurd (has refl)
some (first ∷ wrong) counts has = refl

has_some : (firsts all : List WrongLine) → firsts ≡ all → (length firsts == 0) ≡ false → all ≡ [] → ⊥
has_some firsts all same some is = eqb-false (length firsts) 0 some (ap length (same ∙ is))

pub returns-then-is_empty : goal.returns-then-is_empty
returns-then-is_empty c =
    let firsts = c.firsts.result.now in
    let nothing = sym c.firsts.ensures ∙ nil_from_length firsts (eqb-true (length firsts) 0 (sym c.is_empty.ensures ∙ c.if-is_empty.true)) in
    subst (λ (bytes : List ℕ). IfOk c.valid_text.result (λ text. string_bytes text ≡ bytes))
    (none_as c.args.wrong.now c.args.counts _ _ c.from-requests.ensures c.from-grants.ensures nothing) c.valid_text.ensures

pub returns : goal.returns
returns c =
    let firsts = c.firsts.result.now in
    let something = has_some firsts (first_of_each c.args.wrong.now) c.firsts.ensures (sym c.is_empty.ensures ∙ c.if-is_empty.false) in
    let lines = adds_both (adds_as c.push_wrong_lines.ensures (ap (flat_map wrong_line) c.firsts-2.ensures)) c.push_causes.ensures in
    let requests = adds_as c.push_total_line.ensures (ap (total_line (codes "requests")) c.from-requests.ensures) in
    let grants = adds_as c.push_total_line-2.ensures (ap (total_line (codes "grants")) c.from-grants.ensures) in
    let all = adds_both (adds_both lines requests) grants in
    subst (λ (bytes : List ℕ). IfOk c.finish.result (λ text. string_bytes text ≡ bytes)) (some c.args.wrong.now c.args.counts something)
    (c.finish.ensures.text _ (all.says [] c.new-text.ensures.says))
