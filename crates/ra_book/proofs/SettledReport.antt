-- A run of the settled steps is the settled run of the books, and what it grants was granted.
use Rattle.std.proofs.Common.{◌≡◌, ◌≢◌, ℕ, ◌≤◌, List, [], ◌∷◌, length, map, get_or, refl, sym, ap, ◌∙◌, subst, arith}
use Rattle.std.specs.Prelude.{All, AllPairs, Contains, MatchResult, Result, Ok, Err}
use Rattle.std.specs.List.{Any}
use Rattle.std.proofs.lemmas.List.Elements.{All-weaker}
use Rattle.ra_stamp.specs.declared.entry.Mark.{Mark}
use Rattle.ra_stamp.specs.declared.entry.Mark.TheVariants.{Entered}
use Rattle.ra_stamp.specs.NodeId.{IsNodeNumber}
use Rattle.ra_world.specs.declared.step.Step.{Step}
use Rattle.ra_world.specs.declared.text.report.Report.{Report}
use Rattle.ra_world.specs.Traffic.{Move}
use Rattle.ra_world.specs.Run.{IsRun, WorldRun, marks_of}
use Rattle.ra_world.specs.World.{Reports}
use Rattle.ra_world.specs.MainTheorem.{MainTheorem}
use Rattle.ra_book.specs.declared.error.SettleError.{SettleError}
use Rattle.ra_book.specs.declared.error.SettleError.TheVariants.{NotSent, Twice, GrantMissing, GrantTwice, Memory}
use Rattle.ra_book.specs.declared.book.grant.Grant.{Grant}
use Rattle.ra_book.specs.declared.settle_books.settled.Settled.{Settled}
use Rattle.ra_book.specs.Book.{BookState, HasHistory}
use Rattle.ra_book.specs.Settled.{IsCluster, IsSettledOrder, IsGranted, BooksFit, Placed, settled_steps, start_of}
use Rattle.ra_book.specs.SettlingParts.{HasRun, StepsMakeSettledRuns, GrantsAreInTheBooks, RefusesGrants, SettlesBooks, Settles, Refuses}

-- a run of these steps
abbrev pub RunOf : ℕ → ℕ → List Step → Report → Type 0
RunOf n start steps report = (moves : List Move) × (map (λ move. move.step) moves ≡ steps) × IsRun n start moves × Reports n start moves report

-- the first book has the number of the books and their start
same_count : (books : List BookState) (b : BookState) (n : ℕ) → IsCluster books → b ≡ get_or books 0 b → n ≡ b.nodes → n ≡ length books
same_count books b n cluster is nodes =
    let some : 1 ≤ length books = cluster.some in
    nodes ∙ ap (λ (x : BookState). x.nodes) is ∙ cluster.one_count 0 b (omega arith)

same_start : (books : List BookState) (b : BookState) (start : ℕ) → IsCluster books → b ≡ get_or books 0 b → start ≡ b.start → start ≡ start_of books
same_start books b start cluster is starts =
    let some : 1 ≤ length books = cluster.some in
    starts ∙ ap (λ (x : BookState). x.start) is ∙ cluster.one_start 0 b (omega arith)

-- the same, with the number of the books and their start
pub run_of_all : (books : List BookState) (b : BookState) (n start : ℕ) (steps : List Step) (report : Report) → IsCluster books → b ≡ get_or books 0 b → n ≡ b.nodes → start ≡ b.start
    → RunOf n start steps report → RunOf (length books) (start_of books) steps report
run_of_all books b n start steps report cluster is nodes starts has =
    subst (λ (n : ℕ). RunOf n (start_of books) steps report) (same_count books b n cluster is nodes)
    (subst (λ (s : ℕ). RunOf n s steps report) (same_start books b start cluster is starts) has)

-- steps that are a run of the cluster are not refused, with the number of nodes and the start of the first book
pub never_refused : (books : List BookState) (b : BookState) (n start : ℕ) (steps : List Step) → IsCluster books → HasHistory b → b ≡ get_or books 0 b → n ≡ b.nodes → start ≡ b.start
    → WorldRun (length books) (start_of books) steps → IsNodeNumber n × WorldRun n start steps
never_refused books b n start steps cluster history is nodes starts runs = (
  subst IsNodeNumber (sym nodes) history.count,
  subst (λ (m : ℕ). WorldRun m start steps) (sym (same_count books b n cluster is nodes))
      (subst (λ (s : ℕ). WorldRun (length books) s steps) (sym (same_start books b start cluster is starts)) runs),
)

-- if all books start at 0, so does the cluster
pub from_zero : (books : List BookState) → 1 ≤ length books → All (λ b. b.start ≡ 0) books → start_of books ≡ 0
from_zero [] some all = absurd (omega (arith, some))
from_zero (b ∷ books) some all = all 0 b (omega arith)

-- the outcome of the steps, with the number of the books
pub has_run : (books : List BookState) (b : BookState) (n start : ℕ) (settled : Settled) → IsCluster books → b ≡ get_or books 0 b → n ≡ b.nodes → start ≡ b.start
    → RunOf n start settled.steps.items settled.report → MainTheorem n settled.report → HasRun books settled.steps.items settled
has_run books b n start settled cluster is nodes starts ran main =
    let run = run_of_all books b n start settled.steps.items settled.report cluster is nodes starts ran in
    record {
      steps_are = refl;
      moves = run.0;
      moves_are = run.1;
      run = run.2;
      reports = run.3;
      main = subst (λ (k : ℕ). MainTheorem k settled.report) (same_count books b n cluster is nodes) main;
    }

-- what follows from what is said of a result follows if it is Ok
pub where_ok : (A B : Settled → Type 0) → ((settled : Settled) → A settled → B settled) → (r : Result Settled SettleError) → MatchResult r A (λ e. e ≡ Memory) → MatchResult r B (λ e. e ≡ Memory)
where_ok A B to (Ok settled) is = to settled is
where_ok A B to (Err e) is = is

pub settles : StepsMakeSettledRuns → (books : List BookState) → IsCluster books → All HasHistory books → (placed : List Placed) (steps : List Step) (settled : Settled) → IsSettledOrder books placed
    → steps ≡ settled_steps books placed → HasRun books steps settled → SettlesBooks books settled
settles make books cluster histories placed steps settled order are has =
    record {
      histories = histories;
      placed = placed;
      order = order;
      steps_are = has.steps_are ∙ are;
      moves = has.moves;
      moves_are = has.moves_are ∙ sym has.steps_are;
      run = make books placed has.moves cluster histories order has.run (has.moves_are ∙ are);
      reports = has.reports;
      main = has.main;
    }

module _ (grant : GrantsAreInTheBooks) (books : List BookState) (cluster : IsCluster books) (grants : List Grant) (settled : Settled) (of : SettlesBooks books settled)
    (marks : List Mark) (marks_are : marks ≡ settled.report.marks.items)
  where
    -- the marks are the run's
    marks_of_run : marks ≡ marks_of of.moves
    marks_of_run = marks_are ∙ of.reports.marks

    all_granted : All (λ g. Contains marks (Entered g.entry)) grants → All (λ g. IsGranted books g.entry) grants
    all_granted marked =
        All-weaker (λ g. Contains marks (Entered g.entry)) (λ g. IsGranted books g.entry)
        (λ g is. (grant books of.moves g.entry cluster of.histories of.run).0 (subst (λ (ms : List Mark). Contains ms (Entered g.entry)) marks_of_run is))
        grants marked

    -- an entry with no Entered mark was not granted
    some_missing : Any (λ g. Contains marks (Entered g.entry) → ⊥) grants → Any (λ g. IsGranted books g.entry → ⊥) grants
    some_missing (k, g, low, at, none) = (
      k,
      g,
      low,
      at,
      λ is. none (subst (λ (ms : List Mark). Contains ms (Entered g.entry)) (sym marks_of_run) ((grant books of.moves g.entry cluster of.histories of.run).1 is)),
    )

    pub grants_settle : BooksFit books → All (λ g. Contains marks (Entered g.entry)) grants × AllPairs (λ a b. a ≢ b) grants → Settles books grants settled
    grants_settle fit all = record { books_are = of; fit = fit; granted = all_granted all.0; once = all.1 }

    pub grants_refused : BooksFit books → (e : SettleError) → RefusesGrants grants marks e → Refuses books grants e
    grants_refused fit NotSent why = absurd why
    grants_refused fit Twice why = absurd why
    grants_refused fit GrantMissing why = (fit, some_missing why)
    grants_refused fit GrantTwice why = (fit, why.0, all_granted why.1)
    grants_refused fit Memory why = fit.0
