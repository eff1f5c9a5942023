-- Which nodes are awaited.
use Rattle.std.proofs.Common.{◌≡◌, ◌≢◌, ℕ, not, ◌&&◌, refl, sym, ap, ◌∙◌}
use Rattle.std.specs.Prelude.{IsTrue}
use Rattle.std.specs.Ordering.{nat_cmp}
use Rattle.std.specs.Cmp.{nat_cmp_total}
use Rattle.std.specs.FinSet as set
use Rattle.std.proofs.lemmas.Bool.{false≢true}
use Rattle.ra_automaton.proofs.Apart.{tied, untied}

-- another one is awaited as before
pub remains : (s : set.FinSet nat_cmp) (other node : ℕ) → node ≢ other → set.contains (set.remove s other) node ≡ set.contains s node
remains s other node apart = set.contains-remove nat_cmp_total s other node ∙ ap (λ b. not b && set.contains s node) (untied node other apart)

pub removed : (s : set.FinSet nat_cmp) (other : ℕ) → IsTrue (set.contains (set.remove s other) other) → ⊥
removed s other h = false≢true (sym (set.contains-remove nat_cmp_total s other other ∙ ap (λ b. not b && set.contains s other) (tied other other refl)) ∙ h)

pub nobody : (node : ℕ) → IsTrue (set.contains (set.empty {R = nat_cmp}) node) → ⊥
nobody node h = false≢true (sym (set.contains-empty nat_cmp node) ∙ h)
