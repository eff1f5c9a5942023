-- What a test says that comes out true or false.
use Rattle.std.proofs.Common.{◌≡◌, true, false, Option, Some, None, refl, sym}
use Rattle.std.specs.Prelude.{◌↔◌, IsTrue, is_some}

pub yes : {P : Type 0} → P → IsTrue true ↔ P
yes holds = (λ _. holds, λ _. refl)

never : false ≡ true → ⊥
never e = cc

pub no : {P : Type 0} → (P → ⊥) → IsTrue false ↔ P
no fails = (λ e. absurd (never e), λ holds. absurd (fails holds))

-- an option without a value
pub none_of : {X : Type 0} (o : Option X) → is_some o ≡ false → None ≡ o
none_of None is = refl
none_of (Some x) is = absurd (never (sym is))
