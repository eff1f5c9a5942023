use Rattle.std.proofs.Common.{rules, ◌≡◌, ℕ, List, ◌++◌, ◌∷◌, [], Option, Some, Result, Ok, Err, refl, sym, ap, ◌∙◌, subst}
use Rattle.std.specs.Prelude.{max, unwrap_or}
use Rattle.ra_stamp.specs.declared.entry.Entry.{Entry}
use Rattle.ra_table.specs.declared.error.EnterError.{EnterError}
use Rattle.ra_table.specs.declared.error.EnterError.TheVariants.{Memory}
use Rattle.ra_table.specs.Table.{LockTable, Gains, Loses}
use Rattle.ra_table.specs.Answers.{EnterTells}
use Rattle.ra_table.specs.NameTables.{IsPlaceOfEntry, highest_of}
use Rattle.ra_table.proofs.Moves.{of_parts, Gains-push, Loses-remove}
use Rattle.ra_table.proofs.Numbers.{highest_of-push}
use Rattle.ra_table.proofs.Refused.{same_fault, enter_refused, enter_made}
use Rattle.ra_table.proofs.name_table.NameTable.enter.Goals as goal

-- ---- It may not be granted

pub returns-in_err-place-clause-told : goal.returns-in_err-place-clause-told
returns-in_err-place-clause-told c =
    let fault = c.in_err-place.field-0.0 in
    let is : c.from_residual.result ≡ Err fault = same_fault fault c.from_residual.result c.from_residual.ensures.1 in
    subst (λ (result : Result (Unit {0}) EnterError). EnterTells result c.args.self.now c.args.entry.now) (sym is) (enter_refused fault c.args.self.now c.args.entry.now c.in_err-place.ensures.answered)

-- ---- Memory ran out

pub returns-in_default-clause-told : goal.returns-in_default-clause-told
returns-in_default-clause-told c = enter_made (Err Memory) c.args.self.now c.args.entry.now (c.in_ok-place.ensures.answered.allowed.0 refl) refl

pub returns-in_default-clause-err : goal.returns-in_default-clause-err
returns-in_default-clause-err c = (λ i. of_parts c.self.inside.waiting.items (c.in_default.ensures.err i) c.self.inside.granted.items) ∙ c.self.view_is

-- ---- It is granted

pub remove-requires : goal.remove-requires
remove-requires c =
    let stands = subst (λ (es : List Entry). IsPlaceOfEntry es c.in_ok-place.place c.args.entry.now) (sym (ap (λ (t : LockTable). t.waiting) c.self.view_is)) c.in_ok-place.ensures.place in
    let within = stands.0 in
    search rules

pub returns-clause-told : goal.returns-clause-told
returns-clause-told c = enter_made (Ok tt) c.args.self.now c.args.entry.now (c.in_ok-place.ensures.answered.allowed.0 refl) tt

pub returns-clause-ok : goal.returns-clause-ok
returns-clause-ok c =
    let stands : IsPlaceOfEntry c.self.inside.waiting.items c.in_ok-place.place c.args.entry.now = subst (λ (es : List Entry). IsPlaceOfEntry es c.in_ok-place.place c.args.entry.now) (sym (ap (λ (t : LockTable). t.waiting) c.self.view_is)) c.in_ok-place.ensures.place in
    let loses : Loses c.self.inside.waiting.items c.args.entry.now c.remove.new.self.items = subst (Loses c.self.inside.waiting.items c.args.entry.now) (sym c.remove.ensures.items) (Loses-remove c.self.inside.waiting.items c.in_ok-place.place c.args.entry.now stands.0 stands.1) in
    let gains : Gains c.self.inside.holding.items c.args.entry.now c.push_exactly.new.list.items = subst (Gains c.self.inside.holding.items c.args.entry.now) (sym c.in-Ok.ensures.ok) (Gains-push c.self.inside.holding.items c.args.entry.now) in
    let granted_is : c.and-self-inside.result.items ≡ c.args.self.now.granted ++ c.args.entry.now ∷ [] = c.and-self-inside.ensures ∙ ap (λ (t : LockTable). t.granted ++ c.args.entry.now ∷ []) c.self.view_is in (
      c.in_ok-place.ensures.answered.allowed.0 refl,
      subst (λ (es : List Entry). Loses es c.args.entry.now c.remove.new.self.items) (ap (λ (t : LockTable). t.waiting) c.self.view_is) loses,
      subst (λ (es : List Entry). Gains es c.args.entry.now c.push_exactly.new.list.items) (ap (λ (t : LockTable). t.holding) c.self.view_is) gains,
      subst (Gains c.args.self.now.granted c.args.entry.now) (sym granted_is) (Gains-push c.args.self.now.granted c.args.entry.now),
    )

pub invariant_of-self-2 : goal.invariant_of-self-2
invariant_of-self-2 c =
    ap (λ (n : ℕ). Some n) (c.max.ensures ∙ ap (λ (n : ℕ). max c.args.entry.now.stamp.seq n) c.unwrap_or.ensures
    ∙ ap (λ (o : Option ℕ). max c.args.entry.now.stamp.seq (unwrap_or o 0)) c.self.invariant)
    ∙ sym (ap highest_of c.and-self-inside.ensures ∙ highest_of-push c.self.inside.granted.items c.args.entry.now)
