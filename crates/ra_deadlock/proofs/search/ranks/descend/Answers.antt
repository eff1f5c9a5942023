use Rattle.std.proofs.Common.{rules, ◌≡◌, ℕ, ◌<◌, List, get_or, length, ap₂, subst, arith}
use Rattle.std.specs.Prelude.{unwrap_or}
use Rattle.ra_deadlock.specs.declared.request.Request.{Request}
use borrow.Author.Count.{below_more}
use Rattle.ra_deadlock.specs.declared.search.ranks.Ranked.{Ranked}
use Rattle.ra_deadlock.specs.Ranks.{Agree, AgreesWithClient, client_of, client_rank}
use Rattle.ra_deadlock.proofs.Circles.{no_circle, descends}
use Rattle.ra_deadlock.proofs.search.ranks.descend.Goals as goal

pub loop-place-preserved : goal.loop-place-preserved
loop-place-preserved c =
    let ranked = c.in_ok-ranked.ranked.items in
    let ranks = c.args.graph.now.client_ranks in
    let place = c.loop-place.place in
    let value = c.deref.ensures.value in
    let tells = c.disagrees_at-is_wrong.ensures in
    record {
      clients = λ k d lt. below_more (λ (k : ℕ). AgreesWithClient (get_or ranked k d) (client_rank ranks (client_of (get_or ranked k d).request))) place
          (λ k lt. c.loop-place.invariant.clients k d lt)
          (subst (λ (xs : List Ranked). AgreesWithClient (get_or xs place d) (client_rank ranks (client_of (get_or xs place d).request))) value (tells.client c.if-is_wrong.false d))
          k lt;
      pairs = λ k j d lt. below_more (λ (k : ℕ). k < j → j < length ranked → Agree (get_or ranked k d) (get_or ranked j d)) place
          (λ k lt. c.loop-place.invariant.pairs k j d lt)
          (λ low within. subst (λ (xs : List Ranked). place < j → j < length xs → Agree (get_or xs place d) (get_or xs j d)) value (tells.later c.if-is_wrong.false j d) low within)
          k lt;
    }

pub returns : goal.returns
returns c is =
    let ranked = c.in_ok-ranked.ranked.items in
    let ranks = c.args.graph.now.client_ranks in
    let rank_of = λ (request : Request). unwrap_or (client_rank ranks (client_of request)) 0 in
    no_circle c.args.requests.now ranked c.in_ok-ranked.ensures.all
    (descends ranked rank_of
    (λ a b node client. ap₂ (λ (n k : ℕ). unwrap_or (client_rank ranks (n, k)) 0) node client)
    (λ k d lt. c.loop-place.invariant.clients k d (omega (arith, lt, c.loop-place-test.false)))
    (λ k j d low within. c.loop-place.invariant.pairs k j d (omega (arith, low, within, c.loop-place-test.false)) low within))
