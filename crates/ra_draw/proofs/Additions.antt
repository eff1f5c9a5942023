-- Adding parts to writers.
use Rattle.std.proofs.Common.{◌≡◌, ℕ, List, [], ◌++◌, sym, ap, ◌∙◌, append_assoc, append-nil}
use Rattle.ra_draw.specs.declared.svg.svg_writer.SvgWriter.{SvgWriter}
use Rattle.ra_draw.specs.Writing.{Adds}

-- nothing was added
pub adds_nothing : {a : SvgWriter} → Adds a [] a
adds_nothing {a} = record { says = λ before is kept. is kept ∙ sym (append-nil before) }

-- an equal part was added
pub adds_as : {a b : SvgWriter} {x y : List ℕ} → Adds a x b → x ≡ y → Adds a y b
adds_as {a} {b} {x} {y} adds same =
    record { says = λ before is kept. adds.says before is kept ∙ ap (λ (part : List ℕ). before ++ part) same }

-- one part was added, and then another one
pub adds_both : {a b c : SvgWriter} {x y : List ℕ} → Adds a x b → Adds b y c → Adds a (x ++ y) c
adds_both {a} {b} {c} {x} {y} first second =
    record { says = λ before is kept. second.says (before ++ x) (first.says before is) kept ∙ append_assoc before x y }
