use Rattle.std.proofs.Common.{◌≡◌, ◌⊎◌, string_bytes, refl, inl, inr, rules}
use Rattle.std.proofs.lemmas.Result.{err_from_is_err_and}
use Rattle.ra_schedule.specs.declared.error.ChoicesError.{ChoicesError}
use Rattle.ra_schedule.specs.declared.error.ChoicesError.TheVariants.{Choice, Memory}
use Rattle.ra_script.proofs.performing.choices_line.Goals as goal

-- that there are words is of no matter if memory ran out
weaker : (fault : ChoicesError) (P Q : Type 0) → ((fault ≡ Choice) × P) ⊎ ((fault ≡ Memory) × Q) → ((fault ≡ Choice) × P) ⊎ (fault ≡ Memory)
weaker fault P Q (inl none) = inl none
weaker fault P Q (inr (is, some)) = inr is

pub returns-in-Ok-clause-ok : goal.returns-in-Ok-clause-ok
returns-in-Ok-clause-ok c = (string_bytes c.in_ok-text.text, c.in_ok-text.ensures.ok, search rules)

pub returns-in_err-text-clause-err : goal.returns-in_err-text-clause-err
returns-in_err-text-clause-err c =
    let p = err_from_is_err_and c.from_residual.result c.from_residual.ensures.1 in
    rw (p.1, p.2) (weaker c.in_err-text.field-0.0 _ _ c.in_err-text.ensures.err)

pub returns-in-Err-clause-err : goal.returns-in-Err-clause-err
returns-in-Err-clause-err c = inr refl
