use Rattle.std.proofs.Common.{rules, ◌≡◌, List, length, take, sym, ◌∙◌, ap, subst, arith}
use Rattle.std.specs.Prelude.{map}
use Rattle.std.specs.List.Sorted.{IsPermutation}
use Rattle.std.proofs.lemmas.List.{take_all}
use Rattle.std.proofs.lemmas.List.Sorted.{IsPermutation-map, answers_always}
use Rattle.ra_deadlock.specs.declared.request.Request.{Request}
use Rattle.ra_deadlock.specs.declared.search.ranks.Ranked.{Ranked}
use Rattle.ra_deadlock.specs.Ranks.{key_of}
use Rattle.ra_deadlock.proofs.search.ranks.ranked_of.Goals as goal

pub returns-clause-all : goal.returns-clause-all
returns-clause-all c =
    let all : map (λ (it : Ranked). it.request) c.loop-place.ranked.items ≡ c.args.requests.now = c.loop-place.invariant ∙ take_all c.loop-place.place c.args.requests.now (omega (arith, c.loop-place-test.false)) in
    subst (λ (requests : List Request). IsPermutation requests (map (λ (it : Ranked). it.request) c.sort_by_key.new.self.items)) all
    (IsPermutation-map (λ (it : Ranked). it.request) c.loop-place.ranked.items c.sort_by_key.new.self.items c.sort_by_key.ensures.permutation)

pub returns-clause-sorted : goal.returns-clause-sorted
returns-clause-sorted c = c.in_ok-sort_by_key.ensures.sorted key_of (answers_always _ _ _ (λ f a r g h. search rules))
