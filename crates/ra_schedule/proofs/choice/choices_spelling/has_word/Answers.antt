use Rattle.std.proofs.Common.{ℕ, ◌<◌, ◌^◌, ltb, false, sym, subst, inl, inr}
use Rattle.std.specs.Prelude.{◌↔◌, IsTrue}
use Rattle.std.proofs.lemmas.Bool.{false≢true, ltb-true, lt-ltb}
use Rattle.ra_schedule.specs.declared.choice.Choice.{Choice}
use Rattle.ra_schedule.specs.ChoicesText.{HasText}
use Rattle.ra_schedule.proofs.choice.choices_spelling.has_word.Goals as goal

-- a number that is not too much
below : (n : ℕ) → IsTrue (ltb n 1000000000) ↔ (n < 10 ^ 9)
below n = (λ yes. ltb-true n 1000000000 yes, λ less. lt-ltb n 1000000000 less)

pub returns-in-Client : goal.returns-in-Client
returns-in-Client c =
    subst (λ (choice : Choice). IsTrue (ltb c.from.result 1000000000) ↔ HasText choice) (sym c.in-Client.is)
    (subst (λ (n : ℕ). IsTrue (ltb c.from.result 1000000000) ↔ (n < 10 ^ 9)) c.from.ensures (below c.from.result))

pub returns-in-Message : goal.returns-in-Message
returns-in-Message c = elim c.in-Message.is [
  | inl is ↦ subst (λ (choice : Choice). IsTrue (ltb c.in-Message.place 1000000000) ↔ HasText choice) (sym is) (below c.in-Message.place)
  | inr is ↦ subst (λ (choice : Choice). IsTrue (ltb c.in-Message.place 1000000000) ↔ HasText choice) (sym is) (below c.in-Message.place)
]

pub returns-in-Repeated : goal.returns-in-Repeated
returns-in-Repeated c =
    subst (λ (choice : Choice). IsTrue false ↔ HasText choice) (sym c.in-Repeated.is) (λ yes. absurd (false≢true yes), λ none. absurd none)
