use Rattle.std.proofs.Common.{◌≡◌, ◌∷◌, ◌++◌, arith, length, ap, ◌∙◌}
use Rattle.std.proofs.lemmas.List.{take_all}
use Rattle.ra_serve.proofs.Pieces.{over_shown, over_within}
use Rattle.ra_serve.proofs.line_input.keep_shown.Goals as goal

pub returns-in-Some : goal.returns-in-Some
returns-in-Some c =
    let shown = c.args.shown.now in
    let part = c.cut.result.0.now in
    let rest = c.in-Some.rest.now in
    let is : shown ≡ part ++ 10 ∷ rest = rw c.in-Some.is at c.cut.ensures.cut in
    record {
      part = part;
      within = over_within shown part rest is;
      is_piece = (over_shown shown part rest is, c.cut.ensures.before);
      keeps = c.push.ensures;
    }

pub returns-in-None : goal.returns-in-None
returns-in-None c =
    let shown = c.args.shown.now in
    let part = c.cut.result.0.now in
    let is : shown ≡ part = rw c.in-None.is at c.cut.ensures.whole in
    record {
      part = part;
      within = omega (arith, ap length is);
      is_piece = (take_all (length part) shown (omega (arith, ap length is)) ∙ is, c.cut.ensures.before);
      keeps = c.push.ensures;
    }
