use Rattle.ra_world.proofs.RequestCounts.{asks_counted}
use Rattle.ra_world.proofs.WorldLaws.{laws_below}
use Rattle.ra_world.proofs.laws.asks_make_requests_or_are_queued.Goals as goal

pub returns : goal.returns
returns c = record {
  made = λ n start moves nodes count run. (asks_counted laws_below n start count moves run).made nodes;
  withdrawn = λ n start moves count run. (asks_counted laws_below n start count moves run).few;
}
