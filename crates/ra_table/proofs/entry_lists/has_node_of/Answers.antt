use Rattle.std.proofs.Common.{rules, ◌≡◌, ◌↔◌, refl, sym, ◌∙◌}
use Rattle.std.specs.Prelude.{IsTrue}
use Rattle.std.proofs.lemmas.Bool.{false≢true}
use Rattle.ra_stamp.specs.declared.entry.Entry.{Entry}
use Rattle.ra_table.specs.Refusals.{SharesNodeAndName}
use Rattle.ra_table.proofs.Places.{no_more, not_any}
use Rattle.ra_table.proofs.entry_lists.has_node_of.Goals as goal
use Rattle.ra_table.proofs.entry_lists.has_node_of.Goals.{else-eq-via-then-eq+else-eq-2, else-eq-via-else-eq}

pub returns-then-eq-2 : goal.returns-then-eq-2
returns-then-eq-2 c =
    let name : IsTrue c.eq.result ↔ (c.other-item.result.name ≡ c.args.entry.now.name) = search rules in
    let node : IsTrue c.eq-then-eq.result ↔ (c.other-item.result.stamp.node ≡ c.args.entry.now.stamp.node) = search rules in (
      λ _. (c.loop-other.other-index, c.other-item.result, c.loop-other-test.true, sym c.other-item.is, (name.0 c.if-eq.true, node.0 c.if-eq-2.true)),
      λ _. refl,
    )

pub loop-other-preserved : goal.loop-other-preserved
loop-other-preserved c =
    no_more (λ (x : Entry). SharesNodeAndName x c.args.entry.now) c.args.list.now c.loop-other.other-index c.other-item.result c.loop-other-test.true c.other-item.is
    (λ there. elim c.else-eq.branch [
      | else-eq-via-then-eq+else-eq-2 w ↦
          let tells : IsTrue w.eq-then-eq.result ↔ (c.other-item.result.stamp.node ≡ c.args.entry.now.stamp.node) = search rules in
          false≢true (sym w.if-eq-2.false ∙ tells.1 there.1)
      | else-eq-via-else-eq w ↦
          let tells : IsTrue c.eq.result ↔ (c.other-item.result.name ≡ c.args.entry.now.name) = search rules in
          false≢true (sym w.if-eq.false ∙ tells.1 there.0)
    ])
    c.loop-other.invariant

pub returns : goal.returns
returns c = (
  λ is. absurd (false≢true is),
  λ any. absurd (not_any (λ (x : Entry). SharesNodeAndName x c.args.entry.now) c.args.list.now c.loop-other.other-index c.loop-other-test.false c.loop-other.invariant any),
)
