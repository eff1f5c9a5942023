use Rattle.std.proofs.Common.{◌≡◌, ℕ, List, [], ◌∷◌, flat_map, refl, sym, ap, ◌∙◌}
use Rattle.ra_trace.specs.declared.line.Line.{Line}
use Rattle.ra_trace.specs.TraceText.{line_text}
use Rattle.ra_trace.proofs.Lines.{begins_once}
use Rattle.ra_draw.specs.Pictures.{AreLines}
use Rattle.ra_draw.proofs.FirstLines.{nothing}
use Rattle.ra_draw.proofs.laws.each_text_has_one_list_of_lines.Goals as goal

same : (text : List ℕ) (a b : List Line) → AreLines a text → AreLines b text → a ≡ b
same text [] b g h = sym (nothing text b g.text_is h)
same text a [] g h = nothing text a h.text_is g
same text (x ∷ a) (y ∷ b) g h =
    let first = begins_once text x y (flat_map line_text a) (flat_map line_text b) (g.readable.0, g.text_is) (h.readable.0, h.text_is) in
    let rest = same (flat_map line_text a) a b (record { readable = g.readable.1; text_is = refl }) (record { readable = h.readable.1; text_is = first.1 }) in
    ap (λ (line : Line). line ∷ a) first.0 ∙ ap (λ (lines : List Line). y ∷ lines) rest

pub returns : goal.returns
returns c = same
