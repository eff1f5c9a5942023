use Rattle.std.proofs.Common.{◌≢◌, ◌+◌, ℕ, List, ◌∷◌, ◌++◌, get_or, drop, sym, ap, ◌∙◌, subst}
use Rattle.std.specs.Prelude.{All, take}
use Rattle.std.proofs.lemmas.List.{take_more, take_all, take-append-drop, drop_more, take_rest}
use Rattle.std.proofs.lemmas.List.Elements.{All-push}
use Rattle.ra_text.proofs.cutting.cut.Goals as goal

pub loop-place-preserved : goal.loop-place-preserved
loop-place-preserved c =
    let text = c.args.text.now in
    let place = c.loop-place.place in
    let P : ℕ → Type 0 = λ other. other ≢ c.args.byte in
    subst (All P) (sym (take_more text place 0 c.loop-place-test.true)) (All-push P (take place text) (get_or text place 0) c.loop-place.invariant c.if-text-place.false)

pub returns-clause-before : goal.returns-clause-before
returns-clause-before c =
    let P : ℕ → Type 0 = λ other. other ≢ c.args.byte in
    subst (All P) (take_all c.loop-place.place c.args.text.now c.loop-place-test.false) c.loop-place.invariant

pub returns-then-text-place-clause-before : goal.returns-then-text-place-clause-before
returns-then-text-place-clause-before c = c.loop-place.invariant

pub returns-then-text-place-clause-cut : goal.returns-then-text-place-clause-cut
returns-then-text-place-clause-cut c =
    let text = c.args.text.now in
    let place = c.loop-place.place in
    sym (take-append-drop place text)
    ∙ ap (λ (rest : List ℕ). take place text ++ rest)
    (drop_more text place 0 c.loop-place-test.true ∙ ap (λ (byte : ℕ). byte ∷ drop (place + 1) text) c.if-text-place.true
    ∙ ap (λ (rest : List ℕ). c.args.byte ∷ rest) (sym (take_rest text (place + 1))))
