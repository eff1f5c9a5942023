use Rattle.std.proofs.Common.{◌≡◌, ◌≢◌, true, false, List, subst}
use Rattle.std.specs.Prelude.{AllPairs}
use Rattle.std.specs.BTreeSet as sorted
use Rattle.std.proofs.lemmas.List.{take_all}
use Rattle.ra_book.specs.declared.book.grant.Grant.{Grant}
use Rattle.ra_book.specs.Keys.{OrderKey, entry_key}
use Rattle.ra_book.proofs.KeyOrders.{key_cmp}
use Rattle.ra_book.proofs.GrantMarks.{next_grant, grant_again}
use Rattle.ra_book.proofs.KeySets.{when_new, when_old, none_yet}
use Rattle.ra_book.proofs.settle_books.grant_checks.check_once.Goals as goal

pub returns-then-not-is_new : goal.returns-then-not-is_new
returns-then-not-is_new c =
    let is = when_old _ _ c.in-Ok.ensures.added c.if-not-is_new.true in
    grant_again c.loop-grant.seen c.args.grants.now c.loop-grant.grant-index c.grant-item.result c.loop-grant-test.true c.grant-item.is c.loop-grant.invariant
    (subst (λ (k : OrderKey). sorted.contains key_cmp c.loop-grant.seen k ≡ true) c.entry_key.ensures is)

pub loop-grant-preserved : goal.loop-grant-preserved
loop-grant-preserved c =
    let is = when_new _ _ c.in-Ok.ensures.added c.if-not-is_new.false in
    next_grant c.loop-grant.seen c.insert.new.self c.args.grants.now c.loop-grant.grant-index c.grant-item.result c.loop-grant-test.true c.grant-item.is c.loop-grant.invariant
    (subst (λ (k : OrderKey). sorted.contains key_cmp c.loop-grant.seen k ≡ false) c.entry_key.ensures is)
    (subst (λ (k : OrderKey). sorted.Updates key_cmp c.loop-grant.seen c.insert.new.self k true) c.entry_key.ensures c.in-Ok.ensures.updates)

pub returns : goal.returns
returns c =
    subst (λ (grants : List Grant). AllPairs (λ a b. a ≢ b) grants) (take_all c.loop-grant.grant-index c.args.grants.now c.loop-grant-test.false) c.loop-grant.invariant.1

pub loop-grant-init : goal.loop-grant-init
loop-grant-init c = none_yet (λ (g : Grant). entry_key g.entry) c.new-seen.result c.new-seen.ensures.empty
