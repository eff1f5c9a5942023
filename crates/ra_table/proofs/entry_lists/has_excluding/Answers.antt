use Rattle.std.proofs.Common.{refl, sym, ◌∙◌}
use Rattle.std.proofs.lemmas.Bool.{false≢true}
use Rattle.ra_stamp.specs.declared.entry.Entry.{Entry}
use Rattle.ra_table.specs.Table.{Excludes}
use Rattle.ra_table.proofs.Places.{no_more, not_any}
use Rattle.ra_table.proofs.entry_lists.has_excluding.Goals as goal

pub returns-then-excludes : goal.returns-then-excludes
returns-then-excludes c = (
  λ _. (c.loop-other.other-index, c.other-item.result, c.loop-other-test.true, sym c.other-item.is, c.excludes.ensures.0 c.if-excludes.true),
  λ _. refl,
)

pub loop-other-preserved : goal.loop-other-preserved
loop-other-preserved c =
    no_more (λ (x : Entry). Excludes x c.args.entry.now) c.args.list.now c.loop-other.other-index c.other-item.result c.loop-other-test.true c.other-item.is
    (λ there. false≢true (sym c.if-excludes.false ∙ c.excludes.ensures.1 there)) c.loop-other.invariant

pub returns : goal.returns
returns c = (
  λ is. absurd (false≢true is),
  λ any. absurd (not_any (λ (x : Entry). Excludes x c.args.entry.now) c.args.list.now c.loop-other.other-index c.loop-other-test.false c.loop-other.invariant any),
)
