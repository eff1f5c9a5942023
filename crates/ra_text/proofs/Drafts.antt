-- Adding parts to drafts.
use Rattle.std.proofs.Common.{◌≡◌, ℕ, List, [], ◌++◌, sym, ap, subst, ◌∙◌, append_assoc, append-nil}
use Rattle.ra_text.specs.declared.draft.Draft.{Draft}
use Rattle.ra_text.specs.Drafting.{Adds}

-- nothing was added
pub adds_nothing : {a : Draft} → Adds a [] a
adds_nothing {a} = record { says = λ before is kept. is kept ∙ sym (append-nil before) }

-- an equal part was added
pub adds_as : {a b : Draft} {x y : List ℕ} → Adds a x b → x ≡ y → Adds a y b
adds_as {a} {b} {x} {y} adds same = record { says = λ before is kept. adds.says before is kept ∙ ap (λ (part : List ℕ). before ++ part) same }

-- the draft after a part was added, by another name
pub adds_to : {a b c : Draft} {x : List ℕ} → c ≡ b → Adds a x b → Adds a x c
adds_to {a} {b} {c} {x} same adds = subst (λ (d : Draft). Adds a x d) (sym same) adds

-- one part was added, and then another one
pub adds_both : {a b c : Draft} {x y : List ℕ} → Adds a x b → Adds b y c → Adds a (x ++ y) c
adds_both {a} {b} {c} {x} {y} first second =
    record { says = λ before is kept. second.says (before ++ x) (first.says before is) kept ∙ append_assoc before x y }
