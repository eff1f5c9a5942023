use Rattle.std.proofs.Common.{rules, ◌≡◌, List, Contains, refl, sym, ap, ◌∙◌, subst}
use Rattle.std.proofs.lemmas.Bool.{false≢true}
use Rattle.ra_stamp.specs.declared.entry.Entry.{Entry}
use Rattle.ra_table.specs.Table.{LockTable, Loses}
use Rattle.ra_table.specs.NameTables.{IsPlaceOfEntry}
use Rattle.ra_table.proofs.Moves.{Loses-remove}
use Rattle.ra_table.proofs.name_table.NameTable.withdraw.Goals as goal

-- ---- it does not wait

pub returns-in_default-clause-waits : goal.returns-in_default-clause-waits
returns-in_default-clause-waits c =
    let waiting_is : c.deref.result.now ≡ c.args.self.now.waiting = c.deref.ensures.value ∙ ap (λ (t : LockTable). t.waiting) c.self.view_is in
    (λ ok. absurd (false≢true ok), λ at. absurd (c.in_default.ensures.absent.0 refl (subst (λ (l : List Entry). Contains l c.args.entry.now) (sym waiting_is) at)))

-- ---- it waits

pub remove-requires : goal.remove-requires
remove-requires c =
    let found = subst (λ (l : List Entry). IsPlaceOfEntry l c.in-Some.place c.args.entry.now) c.deref.ensures.value c.in-Some.ensures.found in
    let within = found.0 in
    search rules

pub returns-clause-waits : goal.returns-clause-waits
returns-clause-waits c =
    let waiting_is : c.deref.result.now ≡ c.args.self.now.waiting = c.deref.ensures.value ∙ ap (λ (t : LockTable). t.waiting) c.self.view_is in
    (λ _. subst (λ (l : List Entry). Contains l c.args.entry.now) waiting_is (c.in-Some.place, c.in-Some.ensures.found.0, c.in-Some.ensures.found.1), λ _. refl)

pub returns-clause-ok : goal.returns-clause-ok
returns-clause-ok c =
    let waiting_is : c.deref.result.now ≡ c.args.self.now.waiting = c.deref.ensures.value ∙ ap (λ (t : LockTable). t.waiting) c.self.view_is in
    let found : IsPlaceOfEntry c.self.inside.waiting.items c.in-Some.place c.args.entry.now = subst (λ (l : List Entry). IsPlaceOfEntry l c.in-Some.place c.args.entry.now) c.deref.ensures.value c.in-Some.ensures.found in
    let loses : Loses c.self.inside.waiting.items c.args.entry.now c.remove.new.self.items = subst (Loses c.self.inside.waiting.items c.args.entry.now) (sym c.remove.ensures.items) (Loses-remove c.self.inside.waiting.items c.in-Some.place c.args.entry.now found.0 found.1) in (
      subst (λ (l : List Entry). Contains l c.args.entry.now) waiting_is (c.in-Some.place, c.in-Some.ensures.found.0, c.in-Some.ensures.found.1),
      subst (λ (es : List Entry). Loses es c.args.entry.now c.remove.new.self.items) (ap (λ (t : LockTable). t.waiting) c.self.view_is) loses,
      ap (λ (t : LockTable). t.holding) c.self.view_is,
      ap (λ (t : LockTable). t.granted) c.self.view_is,
    )
