use Rattle.std.proofs.Common.{◌≡◌, ◌⊎◌, ℕ, Some, None, refl, sym, ap, ◌∙◌, inl, inr}
use Rattle.rand_pcg.specs.Lcg.{Lcg}
use Rattle.ra_schedule.specs.Faults.{FaultRates}
use Rattle.ra_schedule.specs.declared.choice.Policy.{Policy}
use Rattle.ra_schedule.specs.declared.choice.Policy.TheVariants.{Oldest, Newest, Seeded, Faulty, Listed}
use Rattle.ra_schedule.specs.Seeds.{generator_after}
use Rattle.ra_schedule.specs.PolicyState.{generator_at}
use Rattle.ra_schedule.proofs.PolicyGenerator.{begins}
use Rattle.ra_schedule.proofs.choice.random_state.RandomState.of.Goals as goal

-- a policy that has no seed has no generator
no_generator : (policy : Policy) → ((seed : ℕ) → policy ≡ Seeded seed → ⊥) → ((seed : ℕ) (faults : FaultRates) → policy ≡ Faulty seed faults → ⊥)
    → None ≡ generator_at policy 0
no_generator Oldest free sound = refl
no_generator Newest free sound = refl
no_generator (Seeded seed) free sound = absurd (free seed refl)
no_generator (Faulty seed faults) free sound = absurd (sound seed faults refl)
no_generator (Listed choices) free sound = refl

has_generator : (policy : Policy) (seed : ℕ) → (policy ≡ Seeded seed) ⊎ ((faults : FaultRates) × (policy ≡ Faulty seed faults))
    → Some (generator_after seed 0) ≡ generator_at policy 0
has_generator policy seed (inl is) = ap (λ (p : Policy). generator_at p 0) (sym is)
has_generator policy seed (inr (faults, is)) = ap (λ (p : Policy). generator_at p 0) (sym is)

pub returns-in_default-clause-generator : goal.returns-in_default-clause-generator
returns-in_default-clause-generator c = no_generator c.args.policy.now c.in_default.not-Seeded c.in_default.not-Faulty

pub returns-clause-generator : goal.returns-clause-generator
returns-clause-generator c =
    ap (λ (g : Lcg). Some g) (c.seed_from_u64-generator.ensures ∙ begins c.in-Seeded.seed) ∙ has_generator c.args.policy.now c.in-Seeded.seed c.in-Seeded.is
