use Rattle.std.proofs.Common.{◌≡◌, get_or, refl, sym, ◌∙◌}
use Rattle.std.proofs.lemmas.Bool.{true≢false, false≢true}
use Rattle.ra_stamp.proofs.StampLaws.{same_entries}
use Rattle.ra_audit.proofs.Places.{is_at, none_more, nowhere, none_yet}
use Rattle.ra_audit.proofs.grant_matcher.place_of.Goals as goal

found : (c : goal.Then-eq) → get_or c.args.list.now c.loop-place.place c.args.entry.now ≡ c.args.entry.now
found c =
    let x = c.index-list-place.result in
    let e = c.args.entry.now in
    is_at c.args.list.now c.loop-place.place x e c.index-list-place.is ((same_entries x e).0 (sym c.if-eq.ensures))

pub returns-then-eq-clause-absent : goal.returns-then-eq-clause-absent
returns-then-eq-clause-absent c = (λ none. absurd (true≢false none), λ none. absurd (none (c.loop-place.place, c.loop-place-test.true, found c)))

pub returns-then-eq-clause-found : goal.returns-then-eq-clause-found
returns-then-eq-clause-found c = (c.loop-place-test.true, found c)

pub loop-place-preserved : goal.loop-place-preserved
loop-place-preserved c =
    let x = c.index-list-place.result in
    let e = c.args.entry.now in
    none_more c.args.list.now c.loop-place.place x e c.loop-place-test.true c.index-list-place.is
    (λ same. false≢true (c.if-eq.ensures ∙ (same_entries x e).1 same)) c.loop-place.invariant

pub loop-place-init : goal.loop-place-init
loop-place-init c = none_yet c.args.list.now c.args.entry.now

pub returns-clause-absent : goal.returns-clause-absent
returns-clause-absent c = (
  λ _. nowhere c.args.list.now c.loop-place.place c.args.entry.now c.loop-place-test.false c.loop-place.invariant,
  λ _. refl,
)
