use Rattle.ra_book.specs.Settled.{start_of}
use Rattle.std.proofs.Common.{length}
use Rattle.ra_book.proofs.SettledNodes.{few}
use Rattle.ra_book.proofs.laws.settled_fairness.settled_runs_are_fair.Goals as goal

pub returns : goal.returns
returns c =
    let fair = c.each_other_node_overtakes_at_most_once.ensures in
    record {
      settled = λ books moves cluster histories settled. fair (length books) (start_of books) moves (few books cluster histories) settled.run;
      with_copies = λ books moves cluster histories settled. fair (length books) (start_of books) moves (few books cluster histories) settled.run;
    }
