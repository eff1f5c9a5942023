use Rattle.std.proofs.Common.{rules, ◌↔◌, refl, sym, ◌∙◌}
use Rattle.std.specs.Prelude.{IsTrue}
use Rattle.std.proofs.lemmas.Bool.{false≢true}
use Rattle.ra_stamp.specs.declared.entry.Entry.{Entry}
use Rattle.ra_stamp.specs.Stamp.{IsEarlier}
use Rattle.ra_table.specs.Table.{Excludes}
use Rattle.ra_table.proofs.Places.{no_more, not_any}
use Rattle.ra_table.proofs.entry_lists.has_earlier.Goals as goal
use Rattle.ra_table.proofs.entry_lists.has_earlier.Goals.{else-excludes-via-then-excludes+else-lt, else-excludes-via-else-excludes}

pub returns-then-lt : goal.returns-then-lt
returns-then-lt c =
    let earlier : IsTrue c.lt.result ↔ IsEarlier c.other-item.result.stamp c.args.entry.now.stamp = search rules in (
      λ _. (c.loop-other.other-index, c.other-item.result, c.loop-other-test.true, sym c.other-item.is, (c.excludes.ensures.0 c.if-excludes.true, earlier.0 c.if-lt.true)),
      λ _. refl,
    )

pub loop-other-preserved : goal.loop-other-preserved
loop-other-preserved c =
    no_more (λ (x : Entry). Excludes x c.args.entry.now × IsEarlier x.stamp c.args.entry.now.stamp) c.args.list.now c.loop-other.other-index c.other-item.result c.loop-other-test.true c.other-item.is
    (λ there. elim c.else-excludes.branch [
      | else-excludes-via-then-excludes+else-lt w ↦
          let tells : IsTrue w.lt.result ↔ IsEarlier c.other-item.result.stamp c.args.entry.now.stamp = search rules in
          false≢true (sym w.if-lt.false ∙ tells.1 there.1)
      | else-excludes-via-else-excludes w ↦ false≢true (sym w.if-excludes.false ∙ c.excludes.ensures.1 there.0)
    ])
    c.loop-other.invariant

pub returns : goal.returns
returns c = (
  λ is. absurd (false≢true is),
  λ any. absurd (not_any (λ (x : Entry). Excludes x c.args.entry.now × IsEarlier x.stamp c.args.entry.now.stamp) c.args.list.now c.loop-other.other-index c.loop-other-test.false c.loop-other.invariant any),
)
