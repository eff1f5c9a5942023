-- What is said of a script that was brought to its end.
use Rattle.std.proofs.Common.{◌≡◌, ◌≢◌, ◌⊎◌, ◌↔◌, Bool, false, ℕ, List, length, map, Some, None, Result, Ok, Err, All, refl, sym, ap, ◌∙◌, subst, inl, inr}
use Rattle.std.specs.Prelude.{AllPairs, IfOk, IfErr, IsErrAnd, IsErrOf, IsTrue, MatchResult}
use Rattle.std.specs.List.{Any}
use Rattle.ra_schedule.specs.Script.{ScriptState}
use Rattle.ra_world.specs.Traffic.{Move}
use Rattle.ra_world.specs.Run.{IsRun}
use Rattle.ra_world.specs.World.{Reports}
use Rattle.ra_world.specs.MainTheorem.{MainTheorem}
use Rattle.ra_cluster.specs.declared.cluster_run.ClusterError.{ClusterError}
use Rattle.ra_cluster.specs.declared.cluster_run.ClusterError.TheVariants.{OutOfOrder, Unreleased, Fault, Settle, PlanUnmet, Lost, UnderWay, Memory}
use Rattle.ra_book.specs.declared.error.SettleError.{SettleError}
use Rattle.ra_book.specs.declared.error.SettleError.TheVariants as settling
use Rattle.ra_book.specs.declared.book.grant.Grant.{Grant}
use Rattle.ra_book.specs.declared.settle_books.settled.Settled.{Settled}
use Rattle.ra_book.specs.declared.book.stop.Stop.{Stop}
use Rattle.ra_book.specs.Book.{BookState}
use Rattle.ra_cluster.specs.Plan.{MeetsPlan, IsQuietEnd}
use Rattle.ra_book.specs.Settled.{IsSettledOrder, IsSettledRun, Placed, IsGranted, BooksFit, HasUnsent, HasTwice, Repeats, settled_steps, start_of}
use Rattle.ra_cluster.specs.Outcome.{first_fault, AreOf, AreSound, ChecksScript, IsOutcome, IsDone, IsOfThreads, RefusesReport, RefusesSound}
use Rattle.ra_book.proofs.Causes.{not_all, not_apart}
use Rattle.ra_book.proofs.SettledReport.{from_zero}
use Rattle.ra_cluster.proofs.LockCounts.{waits_for_none, requests_are_locks, withdraws_none, messages_are}

-- ---- Refusals

-- a refusal that `?` passes on
pub refused : {T : Type 0} (P : T → Type 0) (Q : ClusterError → Type 0) (e : ClusterError) → Q e → (r : Result T ClusterError) → IsErrAnd r (λ x. x ≡ e)
    → MatchResult r P Q
refused P Q e why (Ok v) is = absurd is
refused P Q e why (Err x) is = subst Q (sym is) why

-- what is true and not
pub never : {b : Bool} → IsTrue b → b ≡ false → ⊥
never is not = absurd (cc)

module _ (script : ScriptState) (books : List BookState) (grants : List Grant) where
  -- books that settling refuses do not fit together, or not with what was granted
  unsound : (e : SettleError) → e ≢ settling.Memory → (IsErrOf {T = Settled} (Err e) settling.NotSent → HasUnsent books)
      → (IsErrOf {T = Settled} (Err e) settling.Twice → HasTwice books × (HasUnsent books → ⊥))
      → (IsErrOf {T = Settled} (Err e) settling.GrantMissing → BooksFit books × Any (λ g. IsGranted books g.entry → ⊥) grants)
      → (IsErrOf {T = Settled} (Err e) settling.GrantTwice → BooksFit books × Repeats grants × All (λ g. IsGranted books g.entry) grants)
      → AreSound books grants → ⊥
  unsound settling.NotSent apart unsent twice missing again sound = sound.fit.0 (unsent refl)
  unsound settling.Twice apart unsent twice missing again sound = sound.fit.1 (twice refl).0
  unsound settling.GrantMissing apart unsent twice missing again sound =
      not_all (λ (g : Grant). IsGranted books g.entry) grants (missing refl).1 sound.granted
  unsound settling.GrantTwice apart unsent twice missing again sound = not_apart grants (again refl).1 sound.once
  unsound settling.Memory apart unsent twice missing again sound = apart refl

  pub unsettled : (e : SettleError) (fault : ClusterError) → AreOf script books
      → ((fault ≡ Memory) × (e ≡ settling.Memory)) ⊎ ((fault ≡ Settle) × (e ≢ settling.Memory))
      → (IsErrOf {T = Settled} (Err e) settling.NotSent → HasUnsent books)
      → (IsErrOf {T = Settled} (Err e) settling.Twice → HasTwice books × (HasUnsent books → ⊥))
      → (IsErrOf {T = Settled} (Err e) settling.GrantMissing → BooksFit books × Any (λ g. IsGranted books g.entry → ⊥) grants)
      → (IsErrOf {T = Settled} (Err e) settling.GrantTwice → BooksFit books × Repeats grants × All (λ g. IsGranted books g.entry) grants)
      → (IsErrOf {T = Settled} (Err e) settling.Memory → HasUnsent books → ⊥) → RefusesSound script books grants fault
  unsettled e fault are (inl (is, of)) unsent twice missing again memory = subst (RefusesSound script books grants) (sym is) (are, memory (ap Err of))
  unsettled e fault are (inr (is, apart)) unsent twice missing again memory =
      subst (RefusesSound script books grants) (sym is) (λ of sound. unsound e apart unsent twice missing again sound)

  -- a report is refused for none of what the script, the books or memory say
  pub unreported : (settled : Settled) (e : ClusterError) → IsOutcome script books grants settled → RefusesReport script settled.report e
      → RefusesSound script books grants e
  unreported settled OutOfOrder outcome why = absurd why
  unreported settled Unreleased outcome why = absurd why
  unreported settled (Fault stop) outcome why = absurd why
  unreported settled Settle outcome why = absurd why
  unreported settled PlanUnmet outcome why = (settled, outcome, why)
  unreported settled Lost outcome why = (settled, outcome, why)
  unreported settled UnderWay outcome why = (settled, outcome, why)
  unreported settled Memory outcome why = absurd why

-- ---- The end of a script

-- what settling says of the books of a script's nodes
pub outcome_by : (books : List BookState) (script : ScriptState) (grants : List Grant) (settled : Settled) → AreOf script books
    → (moves : List Move) × (map (λ move. move.step) moves ≡ settled.steps.items) × IsSettledRun books moves
    × Reports (length books) (start_of books) moves settled.report
    → MainTheorem (length books) settled.report
    → (placed : List Placed) × IsSettledOrder books placed × (settled.steps.items ≡ settled_steps books placed)
    → BooksFit books → All (λ g. IsGranted books g.entry) grants → AllPairs (λ a b. a ≢ b) grants → IsOutcome script books grants settled
outcome_by books script grants settled are run main ordered fit granted once =
    let zero = from_zero books are.cluster.some are.start in
    record {
      are = are;
      sound = record { fit = fit; granted = granted; once = once };
      placed = ordered.0;
      order = ordered.1;
      steps_are = ordered.2;
      moves = run.0;
      moves_are = run.1;
      settled_run = run.2;
      run = subst (λ (n : ℕ). IsRun n 0 run.0) are.count (subst (λ (s : ℕ). IsRun (length books) s run.0) zero run.2.run);
      reports = subst (λ (n : ℕ). Reports n 0 run.0 settled.report) are.count (subst (λ (s : ℕ). Reports (length books) s run.0 settled.report) zero run.3);
      main_theorem = subst (λ (n : ℕ). MainTheorem n settled.report) are.count main;
    }

pub done_by : (books : List BookState) (script : ScriptState) (grants : List Grant) (settled : Settled) → IsOutcome script books grants settled
    → MeetsPlan script settled.report.marks.items × IsQuietEnd settled.report → IsDone script settled
done_by books script grants settled outcome met =
    let theorem = outcome.main_theorem in
    let unrepeated : settled.report.repeated ≡ 0 = outcome.reports.repeated ∙ ap length outcome.settled_run.unrepeated in
    let requests = requests_are_locks _ _ outcome.moves script settled.report outcome.reports met.0 in
    record {
      moves = outcome.moves;
      moves_are = outcome.moves_are;
      run = outcome.run;
      reports = outcome.reports;
      main_theorem = theorem;
      plan = met.0;
      ended = met.1;
      unrepeated = unrepeated;
      none_waits = waits_for_none script.nodes script settled.report theorem met.0;
      requests = requests;
      count =
          messages_are script.nodes script settled.report theorem met.1 unrepeated
          (withdraws_none _ _ outcome.moves script settled.report outcome.reports met.0) met.0 requests;
    }

-- the faults of the books, with their outcome
module _ (script : ScriptState) (books : List BookState) (grants : List Grant) where
  abbrev pub Ended : Result Settled ClusterError → Type 0
  Ended r = MatchResult r (λ settled. IsOutcome script books grants settled × IsDone script settled) (RefusesSound script books grants)

  pub outcome : (r : Result Settled ClusterError) → Ended r → IfOk r (IsOutcome script books grants)
  outcome (Ok s) whole = whole.0
  outcome (Err e) whole = tt

  pub done : (r : Result Settled ClusterError) → Ended r → IfOk r (IsDone script)
  done (Ok s) whole = whole.1
  done (Err e) whole = tt

  pub refuses : (r : Result Settled ClusterError) → Ended r → IfErr r (RefusesSound script books grants)
  refuses (Ok s) whole = tt
  refuses (Err e) whole = whole

-- ---- Faults

pub not_refused : {T : Type 0} (P : T → Type 0) (Q : ClusterError → Type 0) (e : ClusterError) → (Q e → ⊥) → (r : Result T ClusterError) → MatchResult r P Q
    → IsErrOf r e → ⊥
not_refused P Q e none (Ok v) whole is = absurd (cc)
not_refused P Q e none (Err x) whole is = none (let same : x ≡ e = cc in subst Q same whole)

-- a fault that is answered is the books' fault
pub same_fault : {T : Type 0} (books : List BookState) (found stop : Stop) → Some found ≡ first_fault books
    → IsErrOf {T = T} (Err (Fault found)) (Fault stop) ↔ (first_fault books ≡ Some stop)
same_fault books found stop at = (
  λ is. let same : found ≡ stop = cc in sym at ∙ ap Some same,
  λ is. let both : Some found ≡ Some stop = at ∙ is in let same : found ≡ stop = cc in ap (λ (s : Stop). Err (Fault s)) same,
)

-- if they have none, none is answered
pub no_fault : (script : ScriptState) (books : List BookState) (grants : List Grant) (stop : Stop) → None ≡ first_fault books
    → (r : Result Settled ClusterError) → Ended script books grants r → IsErrOf r (Fault stop) ↔ (first_fault books ≡ Some stop)
no_fault script books grants stop none r whole = (
  λ is. absurd (not_refused _ (RefusesSound script books grants) (Fault stop) (λ late. late) r whole is),
  λ is. let wrong = none ∙ is in absurd (cc),
)

-- if one has, that is answered
pub some_fault : (books : List BookState) (found : Stop) (Q : ClusterError → Type 0) → Some found ≡ first_fault books → first_fault books ≡ None
    → Q (Fault found)
some_fault books found Q at none = let wrong = at ∙ none in absurd (cc)

-- ---- What is said of a script before its threads start

-- what settling refuses is not what is looked at before the threads start
pub of_threads : (script : ScriptState) (books : List BookState) (grants : List Grant) (r : Result Settled ClusterError)
    → Ended script books grants r → IfErr r IsOfThreads
of_threads script books grants (Ok s) whole = tt
of_threads script books grants (Err e) whole =
    let late : (x : ClusterError) → e ≡ x → RefusesSound script books grants x = λ x is. subst (RefusesSound script books grants) is whole in
    (λ is. late OutOfOrder is, λ is. late Unreleased is)

pub not_ok : {T E : Type 0} (Q : E → Type 0) (P : T → Type 0) (r : Result T E) → IsErrAnd r Q → IfOk r P
not_ok Q P (Ok v) is = absurd is
not_ok Q P (Err e) is = tt

apart : {T : Type 0} (x : ClusterError) (r : Result T ClusterError) → (IsOfThreads x → ⊥) → IfErr r IsOfThreads → IsErrOf r x → ⊥
apart x (Ok v) none of is = absurd (cc)
apart x (Err e) none of is = none (let same : e ≡ x = cc in subst IsOfThreads same of)

-- a script that was not refused before is refused for none of these causes, whatever its threads do
pub still_checked : {T U : Type 0} (script : ScriptState) (v : U) (r : Result T ClusterError) → ChecksScript script (Ok v) → IfErr r IsOfThreads
    → ChecksScript script r
still_checked script v r says of = record {
  out_of_order = (λ is. absurd (apart OutOfOrder r (λ of. of.0 refl) of is), λ h. let told = says.out_of_order.1 h in absurd (cc));
  unreleased = (λ is. absurd (apart Unreleased r (λ of. of.1 refl) of is), λ h. let told = says.unreleased.1 h in absurd (cc));
}

-- a refusal that is passed on refuses the same
pub passed_on : {T U : Type 0} (script : ScriptState) (e : ClusterError) (r : Result T ClusterError) → r ≡ Err e → ChecksScript {T = U} script (Err e)
    → ChecksScript script r
passed_on {U = U} script e r is says = record {
  out_of_order = same OutOfOrder says.out_of_order;
  unreleased = same Unreleased says.unreleased;
}
  where
    same : {X : Type 0} (x : ClusterError) → IsErrOf {T = U} (Err e) x ↔ X → IsErrOf r x ↔ X
    same x says = (
      λ h. let equal : e ≡ x = cc in says.0 (ap Err equal),
      λ h. let told = says.1 h in let equal : e ≡ x = cc in is ∙ ap Err equal,
    )
