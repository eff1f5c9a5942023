-- Laws on which settling depends. A proof names them, and no code calls them.
use Rattle.ra_node.proofs.NodeLemmas.{opening_is_consistent}
use Rattle.ra_node.proofs.EventLemmas.{same_node}
use Rattle.ra_node.proofs.EventsKept.{node_kept, event_sends, event_marks}
use Rattle.ra_node.proofs.Determined.{event_one}
use Rattle.ra_world.proofs.DifferentRuns.{messages_differ}
use Rattle.ra_world.proofs.FittingRuns.{fit_with_copies}
use Rattle.ra_world.proofs.Runs.{prefixes}
use Rattle.ra_world.proofs.WorldLaws.{between_nodes, fitting_steps_are_runs, laws_below}
use Rattle.std.proofs.Common.{List, length}
use Rattle.std.specs.Prelude.{◌↔◌, All}
use Rattle.ra_stamp.specs.declared.message.Message.{Message}
use Rattle.ra_stamp.proofs.StampLaws.{same_messages}
use Rattle.ra_stamp.specs.contracts.message.MessagePartialEq.TheImpl.{eq-value}
use Rattle.ra_world.specs.declared.text.report.Report.{Report}
use Rattle.ra_world.specs.MainTheorem.{IsQuietReport}
use Rattle.ra_world.specs.Quiet.{IsQuiet}
use Rattle.ra_world.specs.Traffic.{Move, IsUnderWay}
use Rattle.ra_world.specs.World.{Reports}
use Rattle.ra_world.proofs.Outcomes.{something_under_way}
use Rattle.ra_book.specs.Book.{BookState, HasHistory}
use Rattle.ra_book.specs.Pairs.{PairsFit, HasNotCome, AllHasCome}
use Rattle.ra_book.specs.Settled.{IsCluster, IsSettledRun, BooksFit, start_of}
use Rattle.ra_book.specs.SettlingParts.{FittingBooksSettle, BooksSettleWithCopies, GrantsAreInTheBooks, FramesAreFromTheirNodes, StepsMakeSettledRuns}
use Rattle.ra_book.proofs.NotCome.{under_way, is_quiet, is_quiet_report}
use Rattle.ra_book.proofs.BooksFit.{books_ran}
use Rattle.ra_book.proofs.CopiesFit.{books_with_copies_ran, settled_with_copies}
use Rattle.ra_book.proofs.Histories.{determined}
use Rattle.ra_book.proofs.SettledGrants.{GrantLaws, granted_there, entered_then}
use Rattle.ra_book.proofs.KeptLaws.{stays_consistent}
use Rattle.ra_book.proofs.NodeSends.{sent_by_book}
use Rattle.ra_book.proofs.PairedApart.{pairs_fit}
use Rattle.ra_book.proofs.SettledOrders.{settled_order}
use Rattle.ra_book.proofs.Projections.{settled}
use Rattle.ra_book.proofs.Whole.{whole_histories}

-- all that a book sent is from its node
pub frames_of_books_are_from_their_nodes : FramesAreFromTheirNodes
frames_of_books_are_from_their_nodes = sent_by_book stays_consistent event_sends same_node opening_is_consistent

-- a run of the events in the settled order, followed by the losses, is a settled run
pub settled_steps_make_settled_runs : StepsMakeSettledRuns
settled_steps_make_settled_runs books placed moves cluster histories = settled books placed moves cluster (whole_histories books cluster histories)

-- books settle if each frame that came was sent and is not flagged lost, and no message came twice
pub fitting_books_settle : FittingBooksSettle
fitting_books_settle =
    books_ran (λ n start steps happened count fit. fitting_steps_are_runs n start steps happened count (fit_with_copies n start steps happened fit))
    (λ n start moves count run. messages_differ laws_below n start count moves run) frames_of_books_are_from_their_nodes

-- books fit if their pairs do
pub paired_books_fit : (books : List BookState) → IsCluster books → All HasHistory books → PairsFit books → BooksFit books
paired_books_fit =
    pairs_fit fitting_steps_are_runs (λ n start moves count run. messages_differ laws_below n start count moves run) frames_of_books_are_from_their_nodes

-- and then they have a settled run
pub paired_books_settle : (books : List BookState) → IsCluster books → All HasHistory books → PairsFit books → (moves : List Move) × IsSettledRun books moves
paired_books_settle books cluster histories fit =
    let order = settled_order books cluster histories in
    let ran = fitting_books_settle books order.0 cluster histories order.1 (paired_books_fit books cluster histories fit) in
    (ran.0, settled_steps_make_settled_runs books order.0 ran.0 cluster histories order.1 ran.2 ran.1)

-- books settle with copies if each frame that came was sent, however often it came
pub fitting_books_settle_with_copies : BooksSettleWithCopies
fitting_books_settle_with_copies = record { runs = books_with_copies_ran fitting_steps_are_runs; settled = settled_with_copies }

grant_laws : GrantLaws
grant_laws = record {
  prefixes = λ n start prefix rest. prefixes laws_below.splits n start rest prefix;
  goes = between_nodes;
  opens = opening_is_consistent;
  keeps = node_kept;
  makes = λ old new event sends marks h for happens. event_marks old new event sends marks h (node_kept old new event sends marks h for happens) happens;
  stays = same_node;
  one_history = λ me n start events sent sent' a b left right. (determined event_one me n start events sent sent' a b left right).0;
}

-- what a settled run grants is what was granted at the nodes
pub grants_are_in_the_books : GrantsAreInTheBooks
grants_are_in_the_books books moves entry cluster histories settled =
    (granted_there grant_laws books moves entry cluster histories settled, entered_then grant_laws books moves entry cluster histories settled)

-- after a settled run of books whose pairs fit, exactly those messages are under way that have not come
pub what_has_not_come_is_under_way : (books : List BookState) (moves : List Move) → IsCluster books → All HasHistory books → PairsFit books → IsSettledRun books moves
    → (message : Message) → IsUnderWay moves message ↔ HasNotCome books message
what_has_not_come_is_under_way = under_way grant_laws (something_under_way laws_below) eq-value.it same_messages frames_of_books_are_from_their_nodes

-- so if all that was sent has come, it is quiet at its end
pub settled_runs_are_quiet : (books : List BookState) (moves : List Move) → IsCluster books → All HasHistory books → PairsFit books → IsSettledRun books moves → AllHasCome books → IsQuiet moves
settled_runs_are_quiet = is_quiet grant_laws (something_under_way laws_below) eq-value.it same_messages frames_of_books_are_from_their_nodes

pub settled_reports_are_quiet : (books : List BookState) (moves : List Move) → IsCluster books → All HasHistory books → PairsFit books → IsSettledRun books moves → AllHasCome books
    → (report : Report) → Reports (length books) (start_of books) moves report → IsQuietReport report
settled_reports_are_quiet = is_quiet_report grant_laws (something_under_way laws_below) eq-value.it same_messages frames_of_books_are_from_their_nodes
