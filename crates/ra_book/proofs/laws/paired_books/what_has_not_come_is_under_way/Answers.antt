use Rattle.ra_book.proofs.SettlingLaws as laws
use Rattle.ra_book.proofs.laws.paired_books.what_has_not_come_is_under_way.Goals as goal

pub returns : goal.returns
returns c =
    record {
      under_way = λ books moves message cluster histories fit settled. laws.what_has_not_come_is_under_way books moves cluster histories fit settled message;
      quiet = laws.settled_runs_are_quiet;
      report = λ books moves report cluster histories fit settled all. laws.settled_reports_are_quiet books moves cluster histories fit settled all report;
    }
