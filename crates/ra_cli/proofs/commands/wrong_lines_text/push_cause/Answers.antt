use Rattle.std.proofs.Common.{◌≡◌, ◌≢◌, ◌==◌, ◌∙◌, ℕ, Bool, List, [], ap, cond, sym, true, false, eq-eqb}
use Rattle.std.proofs.lemmas.Bool.{ne_eqb}
use Rattle.ra_text.specs.Lines.{total_line}
use Rattle.ra_text.proofs.Drafts.{adds_as, adds_nothing}
use Rattle.ra_json.specs.Verdicts.{mark_cause_word}
use Rattle.ra_cli.proofs.commands.wrong_lines_text.push_cause.Goals as goal

shown : (word : List ℕ) (count n : ℕ) → n ≡ count → n ≢ 0 → total_line word n ≡ cond (count == 0) [] (total_line word count)
shown word count n is some =
    ap (total_line word) is ∙ sym (ap (λ (b : Bool). cond b [] (total_line word count)) (ne_eqb count 0 (λ none. some (is ∙ none))))

hidden : (word : List ℕ) (count n : ℕ) → n ≡ count → n ≡ 0 → [] ≡ cond (count == 0) [] (total_line word count)
hidden word count n is none =
    sym (ap (λ (b : Bool). cond b [] (total_line word count)) (eq-eqb count 0 (sym is ∙ none)))

pub returns-then-count-eq0 : goal.returns-then-count-eq0
returns-then-count-eq0 c = adds_as adds_nothing (hidden (mark_cause_word c.args.cause) _ c.count-count.result c.count-count.ensures c.if-count-eq0.true)

pub returns : goal.returns
returns c =
    let word = mark_cause_word c.args.cause in
    adds_as c.push_total_line.ensures
    (ap (λ (w : List ℕ). total_line w c.from.result) c.mark_cause_word.ensures ∙ ap (total_line word) c.from.ensures
    ∙ shown word _ c.count-count.result c.count-count.ensures c.if-count-eq0.false)
