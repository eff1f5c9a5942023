-- What tests of numbers and names tell.
use Rattle.std.proofs.Common.{◌⊎◌, Bool, true, false, refl, inl, inr}
use Rattle.std.specs.Prelude.{◌↔◌, IsTrue}
use Rattle.std.proofs.lemmas.Bool.{false≢true}

-- what a test decides is so, or is not
pub decided : (test : Bool) {P : Type 0} → IsTrue test ↔ P → P ⊎ (P → ⊥)
decided true means = inl (means.0 refl)
decided false means = inr (λ p. false≢true (means.1 p))
