use Rattle.std.proofs.Common.{◌≡◌, Bool, true, false, List, Any, sym, ap, ◌∙◌, subst, inl, inr}
use Rattle.std.proofs.lemmas.Bool.{false≢true}
use Rattle.ra_stamp.specs.declared.entry.Entry.{Entry}
use Rattle.ra_table.specs.Table.{LockTable}
use Rattle.ra_table.specs.Refusals.{SharesNodeAndName, IsNodeBusy}
use Rattle.ra_table.proofs.Refused.{busy_told, not_above_told, none_told}
use Rattle.ra_table.proofs.name_table.NameTable.check_request.Goals as goal
use Rattle.ra_table.proofs.name_table.NameTable.check_request.Goals.{then-has_node_of-via-then-has_node_of, then-has_node_of-via-else-has_node_of+then-has_node_of-2}

-- neither list has an entry of the node
not_busy : (table : LockTable) (e : Entry) (waiting holding : List Entry) (waits holds : Bool) → waiting ≡ table.waiting → holding ≡ table.holding
    → (Any (λ x. SharesNodeAndName x e) waiting → waits ≡ true) → waits ≡ false
    → (Any (λ x. SharesNodeAndName x e) holding → holds ≡ true) → holds ≡ false → IsNodeBusy table e → ⊥
not_busy table e waiting holding waits holds waiting_is holding_is tells_waiting none_waits tells_holding none_holds busy =
    elim busy [
      | inl w ↦ false≢true (sym none_waits ∙ tells_waiting (subst (Any (λ x. SharesNodeAndName x e)) (sym waiting_is) w))
      | inr h ↦ false≢true (sym none_holds ∙ tells_holding (subst (Any (λ x. SharesNodeAndName x e)) (sym holding_is) h))
    ]

pub returns-then-has_node_of : goal.returns-then-has_node_of
returns-then-has_node_of c =
    let waiting_is : c.deref.result.now ≡ c.args.self.now.waiting = c.deref.ensures.value ∙ ap (λ (t : LockTable). t.waiting) c.self.view_is in
    let busy : IsNodeBusy c.args.self.now c.args.entry.now = elim c.then-has_node_of.branch [
      | then-has_node_of-via-then-has_node_of w ↦ inl (subst (Any (λ x. SharesNodeAndName x c.args.entry.now)) waiting_is (c.has_node_of.ensures.0 w.if-has_node_of.true))
      | then-has_node_of-via-else-has_node_of+then-has_node_of-2 w ↦
          let holding_is : w.deref-else-has_node_of.result.now ≡ c.args.self.now.holding = w.deref-else-has_node_of.ensures.value ∙ ap (λ (t : LockTable). t.holding) c.self.view_is in
          inr (subst (Any (λ x. SharesNodeAndName x c.args.entry.now)) holding_is (w.has_node_of-else-has_node_of.ensures.0 w.if-has_node_of-2.true))
    ] in
    busy_told c.args.self.now c.args.entry.now busy

pub returns-then-is_not_above : goal.returns-then-is_not_above
returns-then-is_not_above c =
    let waiting_is : c.deref.result.now ≡ c.args.self.now.waiting = c.deref.ensures.value ∙ ap (λ (t : LockTable). t.waiting) c.self.view_is in
    let holding_is : c.deref-else-has_node_of.result.now ≡ c.args.self.now.holding = c.deref-else-has_node_of.ensures.value ∙ ap (λ (t : LockTable). t.holding) c.self.view_is in
    not_above_told c.args.self.now c.args.entry.now
    (not_busy c.args.self.now c.args.entry.now _ _ _ _ waiting_is holding_is c.has_node_of.ensures.1 c.if-has_node_of.false c.has_node_of-else-has_node_of.ensures.1 c.if-has_node_of-2.false)
    (c.is_not_above.ensures.0 c.if-is_not_above.true)

pub returns : goal.returns
returns c =
    let waiting_is : c.deref.result.now ≡ c.args.self.now.waiting = c.deref.ensures.value ∙ ap (λ (t : LockTable). t.waiting) c.self.view_is in
    let holding_is : c.deref-else-has_node_of.result.now ≡ c.args.self.now.holding = c.deref-else-has_node_of.ensures.value ∙ ap (λ (t : LockTable). t.holding) c.self.view_is in
    none_told c.args.self.now c.args.entry.now
    (not_busy c.args.self.now c.args.entry.now _ _ _ _ waiting_is holding_is c.has_node_of.ensures.1 c.if-has_node_of.false c.has_node_of-else-has_node_of.ensures.1 c.if-has_node_of-2.false)
    (λ some. false≢true (sym c.if-is_not_above.false ∙ c.is_not_above.ensures.1 some))
