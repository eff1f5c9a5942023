use Rattle.std.proofs.Common.{◌≡◌, List, Contains, refl, sym, ap, ◌∙◌, subst}
use Rattle.std.proofs.lemmas.Bool.{false≢true}
use Rattle.ra_stamp.specs.declared.entry.Entry.{Entry}
use Rattle.ra_table.specs.Table.{LockTable}
use Rattle.ra_table.proofs.name_table.NameTable.waits.Goals as goal

pub returns-in-Some : goal.returns-in-Some
returns-in-Some c =
    let waiting_is : c.deref.result.now ≡ c.args.self.now.waiting = c.deref.ensures.value ∙ ap (λ (t : LockTable). t.waiting) c.self.view_is in
    (λ _. subst (λ (l : List Entry). Contains l c.args.entry.now) waiting_is (_, c.in-Some.ensures.found.0, c.in-Some.ensures.found.1), λ _. refl)

pub returns-in-None : goal.returns-in-None
returns-in-None c =
    let waiting_is : c.deref.result.now ≡ c.args.self.now.waiting = c.deref.ensures.value ∙ ap (λ (t : LockTable). t.waiting) c.self.view_is in
    (λ yes. absurd (false≢true yes), λ at. absurd (c.in-None.ensures.absent.0 refl (subst (λ (l : List Entry). Contains l c.args.entry.now) (sym waiting_is) at)))
