use Rattle.std.proofs.Common.{◌≡◌, ℕ, ◌+◌, ◌≤◌, true, false, List, map, length, take, BTreeSet, sym, ◌∙◌, subst}
use Rattle.std.specs.Prelude.{Contains}
use Rattle.std.specs.BTreeSet as sorted
use Rattle.std.proofs.lemmas.List.{take_all}
use Rattle.std.proofs.lemmas.List.Elements.{All-more, All-nil}
use Rattle.ra_stamp.specs.declared.entry.Mark.{Mark}
use Rattle.ra_book.specs.declared.book.grant.Grant.{Grant}
use Rattle.ra_book.specs.Keys.{OrderKey, HasKeys, entered_in, entry_key}
use Rattle.ra_book.proofs.KeyOrders.{key_cmp}
use Rattle.ra_book.proofs.GrantMarks.{key_put, key_left_out, is_granted, is_not_granted, all_granted, grants_once}
use Rattle.ra_book.proofs.settle_books.grant_checks.check_grants.Goals as goal
use Rattle.ra_book.proofs.settle_books.grant_checks.check_grants.Goals.{in-Entered+in-Ok, in_default}

-- the requests of all marks are entered
module _ (marks : List Mark) (set : BTreeSet OrderKey) (i : ℕ) where
  entered_all : length marks ≤ i → HasKeys set (map (λ e. entry_key e) (entered_in (take i marks))) → HasKeys set (map (λ e. entry_key e) (entered_in marks))
  entered_all all has = subst (λ (ms : List Mark). HasKeys set (map (λ e. entry_key e) (entered_in ms))) (take_all i marks all) has

pub loop-mark-preserved : goal.loop-mark-preserved
loop-mark-preserved c =
    let marks = c.args.marks.now in
    let i = c.loop-mark.mark-index in
    let P = λ (set : BTreeSet OrderKey). HasKeys set (map (λ e. entry_key e) (entered_in (take (i + 1) marks))) in
    elim c.match-mark.branch [
      | in-Entered+in-Ok w ↦
          let entry = w.in-Entered.entry in
          let put : sorted.Updates key_cmp c.loop-mark.entered w.insert.new.self (entry_key entry) true =
          subst (λ (k : OrderKey). sorted.Updates key_cmp c.loop-mark.entered w.insert.new.self k true) w.entry_key.ensures w.in-Ok.ensures.updates
          in
          subst P (sym w.entered-is)
          (key_put c.loop-mark.entered w.insert.new.self marks i c.mark-item.result entry c.loop-mark-test.true c.mark-item.is w.in-Entered.is c.loop-mark.invariant put)
      | in_default w ↦
          subst P (sym w.entered-is)
          (key_left_out c.loop-mark.entered marks i c.mark-item.result c.loop-mark-test.true c.mark-item.is w.in_default.not-Entered c.loop-mark.invariant)
    ]

pub returns-then-not-contains : goal.returns-then-not-contains
returns-then-not-contains c =
    let set = c.loop-mark.entered in
    let marks = c.args.marks.now in
    let is_not = subst (λ (k : OrderKey). sorted.contains key_cmp set k ≡ false) c.entry_key-in-loop-grant.ensures (sym c.contains.ensures ∙ c.if-not-contains.true) in (
      c.loop-grant.grant-index,
      c.grant-item.result,
      c.loop-grant-test.true,
      sym c.grant-item.is,
      is_not_granted set marks c.grant-item.result.entry (entered_all marks set c.loop-mark.mark-index c.loop-mark-test.false c.loop-mark.invariant) is_not,
    )

pub loop-grant-preserved : goal.loop-grant-preserved
loop-grant-preserved c =
    let set = c.loop-mark.entered in
    let marks = c.args.marks.now in
    let is = subst (λ (k : OrderKey). sorted.contains key_cmp set k ≡ true) c.entry_key-in-loop-grant.ensures (sym c.contains.ensures ∙ c.if-not-contains.false) in
    let here = is_granted set marks c.grant-item.result.entry (entered_all marks set c.loop-mark.mark-index c.loop-mark-test.false c.loop-mark.invariant) is in
    All-more (λ g. Contains (entered_in marks) g.entry) c.args.grants.now c.loop-grant.grant-index c.grant-item.result c.loop-grant-test.true c.loop-grant.invariant
    (subst (λ (g : Grant). Contains (entered_in marks) g.entry) c.grant-item.is here)

pub returns : goal.returns
returns c =
    grants_once c.args.grants.now c.args.marks.now (all_granted c.args.grants.now c.args.marks.now c.loop-grant.grant-index c.loop-grant-test.false c.loop-grant.invariant)
    c.check_once.result c.check_once.ensures

pub loop-grant-init : goal.loop-grant-init
loop-grant-init c = All-nil (λ g. Contains (entered_in c.args.marks.now) g.entry)
