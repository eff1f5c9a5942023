use Rattle.std.proofs.Common.{◌≡◌, ℕ, Option, Some, None, sym, ap, ◌∙◌, subst}
use Rattle.std.proofs.lemmas.Bool.{false≢true, leb-true, le-leb}
use Rattle.ra_table.specs.Table.{LockTable}
use Rattle.ra_table.specs.NameTables.{highest_of, Reaches}
use Rattle.ra_table.proofs.Numbers.{highest_answers}
use Rattle.ra_table.proofs.name_table.NameTable.is_not_above.Goals as goal

pub returns-in-Some : goal.returns-in-Some
returns-in-Some c =
    let answers = highest_answers c.args.entry.now c.args.self.now.granted c.requires in
    let is : Some c.in-Some.number ≡ highest_of c.args.self.now.granted = sym c.in-Some.is ∙ c.self.invariant ∙ ap (λ (t : LockTable). highest_of t.granted) c.self.view_is in
    let Reached : Option ℕ → Type 0 = λ h. Reaches h c.args.entry.now.stamp.seq in
    (λ yes. answers.0 (subst Reached is (leb-true _ _ yes)), λ some. le-leb _ _ (subst Reached (sym is) (answers.1 some)))

pub returns-in-None : goal.returns-in-None
returns-in-None c =
    let answers = highest_answers c.args.entry.now c.args.self.now.granted c.requires in
    let is : None ≡ highest_of c.args.self.now.granted = sym c.in-None.is ∙ c.self.invariant ∙ ap (λ (t : LockTable). highest_of t.granted) c.self.view_is in
    let Reached : Option ℕ → Type 0 = λ h. Reaches h c.args.entry.now.stamp.seq in
    (λ yes. absurd (false≢true yes), λ some. absurd (subst Reached (sym is) (answers.1 some)))
