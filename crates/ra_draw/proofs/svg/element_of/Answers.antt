use Rattle.std.proofs.Common.{◌≡◌, ℕ, List, [], ◌++◌, Result, Ok, Err, codes, refl, ap, ◌∙◌, append_assoc}
use Rattle.std.specs.Prelude.{IfOk}
use Rattle.ra_draw.specs.Pictures.{IsElement}
use Rattle.ra_draw.proofs.Additions.{adds_both}
use Rattle.ra_draw.proofs.svg.element_of.Goals as goal

-- the shapes and the labels are what comes before the group
element : {V E : Type 0} (items : V → List ℕ) (group shapes labels : List ℕ) (result : Result V E)
    → IfOk result (λ v. items v ≡ (((codes "<svg xmlns=\"http://www.w3.org/2000/svg\"" ++ shapes) ++ labels) ++ group) ++ codes "</svg>\n")
    → IfOk result (λ v. IsElement group (items v))
element items group shapes labels (Ok v) is =
    (shapes ++ labels, is ∙ ap (λ (xs : List ℕ). (xs ++ group) ++ codes "</svg>\n") (append_assoc (codes "<svg xmlns=\"http://www.w3.org/2000/svg\"") shapes labels))
element items group shapes labels (Err e) is = tt

pub returns : goal.returns
returns c = λ group says.
    let shapes = c.args.layers.now.shapes.text.items in
    let labels = c.args.layers.now.labels.text.items in
    let parts = adds_both (adds_both (adds_both (adds_both c.put.ensures (c.put_all.ensures shapes (λ kept. refl)))
    (c.put_all-2.ensures labels (λ kept. refl))) (c.put_all-3.ensures group says)) c.put-2.ensures in
    element (λ v. v.items) group shapes labels c.finish.result (c.finish.ensures _ (parts.says [] c.new-picture.ensures))
