use Rattle.std.proofs.Common.{◌∙◌, subst}
use Rattle.std.proofs.lemmas.List.{get_or_default}
use Rattle.ra_deadlock.specs.declared.search.ranks.Ranked.{Ranked}
use Rattle.ra_deadlock.specs.Ranks.{AgreesWithClient, client_of, client_rank}
use Rattle.ra_deadlock.proofs.search.ranks.disagrees_at.Goals as goal

pub returns-clause-client : goal.returns-clause-client
returns-clause-client c is d =
    subst (λ (x : Ranked). AgreesWithClient x (client_rank c.args.graph.now.client_ranks (client_of x.request)))
    (c.index-ranked-place.is ∙ get_or_default c.args.ranked.now c.args.place c.index-ranked-place.result d c.requires.within)
    (c.disagrees_with_client-is_wrong.ensures c.if-is_wrong.false)
