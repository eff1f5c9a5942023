use Rattle.std.proofs.Common.{◌≡◌, List, Any, Contains, refl, sym, ap, ◌∙◌, subst}
use Rattle.std.proofs.lemmas.Bool.{false≢true}
use Rattle.ra_stamp.specs.declared.entry.Entry.{Entry}
use Rattle.ra_stamp.specs.Stamp.{IsEarlier}
use Rattle.ra_table.specs.Table.{LockTable, Excludes}
use Rattle.ra_table.specs.Refusals.{IsHeld}
use Rattle.ra_table.specs.NameTables.{IsPlaceOfEntry}
use Rattle.ra_table.proofs.Checked.{answers_not_waiting, answers_held, answers_earlier, answers_ok}
use Rattle.ra_table.proofs.name_table.NameTable.check_enter.Goals as goal

pub returns-in_default-clause-answered : goal.returns-in_default-clause-answered
returns-in_default-clause-answered c =
    let waiting_is : c.deref.result.now ≡ c.args.self.now.waiting = c.deref.ensures.value ∙ ap (λ (t : LockTable). t.waiting) c.self.view_is in
    answers_not_waiting c.args.self.now c.args.entry.now (λ at. c.in_default.ensures.absent.0 refl (subst (λ (l : List Entry). Contains l c.args.entry.now) (sym waiting_is) at))

pub returns-then-has_excluding-clause-answered : goal.returns-then-has_excluding-clause-answered
returns-then-has_excluding-clause-answered c =
    let waiting_is : c.deref.result.now ≡ c.args.self.now.waiting = c.deref.ensures.value ∙ ap (λ (t : LockTable). t.waiting) c.self.view_is in
    let holding_is : c.deref-2.result.now ≡ c.args.self.now.holding = c.deref-2.ensures.value ∙ ap (λ (t : LockTable). t.holding) c.self.view_is in
    let there : Contains c.args.self.now.waiting c.args.entry.now = subst (λ (l : List Entry). Contains l c.args.entry.now) waiting_is (c.in-Some.place, c.in-Some.ensures.found.0, c.in-Some.ensures.found.1) in
    answers_held c.args.self.now c.args.entry.now there (subst (Any (λ x. Excludes x c.args.entry.now)) holding_is (c.has_excluding.ensures.0 c.if-has_excluding.true))

pub returns-then-has_earlier-clause-answered : goal.returns-then-has_earlier-clause-answered
returns-then-has_earlier-clause-answered c =
    let waiting_is : c.deref.result.now ≡ c.args.self.now.waiting = c.deref.ensures.value ∙ ap (λ (t : LockTable). t.waiting) c.self.view_is in
    let holding_is : c.deref-2.result.now ≡ c.args.self.now.holding = c.deref-2.ensures.value ∙ ap (λ (t : LockTable). t.holding) c.self.view_is in
    let waiting_again : c.deref-3.result.now ≡ c.args.self.now.waiting = c.deref-3.ensures.value ∙ ap (λ (t : LockTable). t.waiting) c.self.view_is in
    let there : Contains c.args.self.now.waiting c.args.entry.now = subst (λ (l : List Entry). Contains l c.args.entry.now) waiting_is (c.in-Some.place, c.in-Some.ensures.found.0, c.in-Some.ensures.found.1) in
    let free : IsHeld c.args.self.now c.args.entry.now → ⊥ = λ held. false≢true (sym c.if-has_excluding.false ∙ c.has_excluding.ensures.1 (subst (Any (λ x. Excludes x c.args.entry.now)) (sym holding_is) held)) in
    answers_earlier c.args.self.now c.args.entry.now there free (subst (Any (λ x. Excludes x c.args.entry.now × IsEarlier x.stamp c.args.entry.now.stamp)) waiting_again (c.has_earlier.ensures.0 c.if-has_earlier.true))

pub returns-clause-answered : goal.returns-clause-answered
returns-clause-answered c =
    let waiting_is : c.deref.result.now ≡ c.args.self.now.waiting = c.deref.ensures.value ∙ ap (λ (t : LockTable). t.waiting) c.self.view_is in
    let holding_is : c.deref-2.result.now ≡ c.args.self.now.holding = c.deref-2.ensures.value ∙ ap (λ (t : LockTable). t.holding) c.self.view_is in
    let waiting_again : c.deref-3.result.now ≡ c.args.self.now.waiting = c.deref-3.ensures.value ∙ ap (λ (t : LockTable). t.waiting) c.self.view_is in
    let there : Contains c.args.self.now.waiting c.args.entry.now = subst (λ (l : List Entry). Contains l c.args.entry.now) waiting_is (c.in-Some.place, c.in-Some.ensures.found.0, c.in-Some.ensures.found.1) in
    let free : IsHeld c.args.self.now c.args.entry.now → ⊥ = λ held. false≢true (sym c.if-has_excluding.false ∙ c.has_excluding.ensures.1 (subst (Any (λ x. Excludes x c.args.entry.now)) (sym holding_is) held)) in
    answers_ok c.args.self.now c.args.entry.now c.in-Some.place there free (λ earlier. false≢true (sym c.if-has_earlier.false ∙ c.has_earlier.ensures.1 (subst (Any (λ x. Excludes x c.args.entry.now × IsEarlier x.stamp c.args.entry.now.stamp)) (sym waiting_again) earlier)))

pub returns-clause-place : goal.returns-clause-place
returns-clause-place c =
    let waiting_is : c.deref.result.now ≡ c.args.self.now.waiting = c.deref.ensures.value ∙ ap (λ (t : LockTable). t.waiting) c.self.view_is in
    subst (λ (l : List Entry). IsPlaceOfEntry l c.in-Some.place c.args.entry.now) waiting_is c.in-Some.ensures.found
