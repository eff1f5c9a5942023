use Rattle.std.proofs.Common.{List, Contains, sym, subst, arith}
use Rattle.std.specs.Prelude.{All}
use Rattle.std.proofs.lemmas.List.Elements.{All-push}
use Rattle.ra_deadlock.specs.declared.request.Request.{Request}
use Rattle.ra_deadlock.proofs.search.push_at.Goals as goal

pub returns : goal.returns
returns c before =
    subst (λ (items : List Request). All (λ request. Contains c.args.requests.now request) items) (sym c.in_ok-push.ensures.items)
    (All-push (λ request. Contains c.args.requests.now request) c.args.found.now.items c.index-requests-place.result before
    (c.args.place, omega (arith, c.if-requests-place.false), sym c.index-requests-place.is))
