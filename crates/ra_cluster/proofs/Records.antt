-- What threads recorded of a script that they brought to its end.
use Rattle.std.proofs.Common.{◌≡◌, ◌↔◌, Bool, true, false, List, [], ◌∷◌, ◌++◌, length, map, Option, Some, None, Ok, All, refl, sym, ap, ◌∙◌, subst, arith}
use Rattle.std.specs.Prelude.{cond, IsErrOf}
use Rattle.std.specs.List.{filter}
use Rattle.std.proofs.lemmas.List.{length-append}
use Rattle.std.proofs.lemmas.List.Elements.{All-cons, All-nil}
use Rattle.std.proofs.lemmas.List.Sorted.{length_permutation}
use Rattle.ra_schedule.specs.Script.{ScriptState}
use Rattle.ra_book.specs.declared.book.grant.Grant.{Grant}
use Rattle.ra_book.specs.declared.book.sent.Sent.{Sent}
use Rattle.ra_book.specs.declared.settle_books.settled.Settled.{Settled}
use Rattle.ra_book.specs.declared.book.stop.Stop.{Stop}
use Rattle.ra_book.specs.Book.{BookState, HasHistory}
use Rattle.ra_book.specs.Settled.{all_lost, lost_among}
use Rattle.ra_cluster.specs.declared.cluster_run.ClusterError.{ClusterError}
use Rattle.ra_cluster.specs.declared.cluster_run.ClusterError.TheVariants.{Fault}
use Rattle.ra_cluster.specs.Outcome.{first_fault, fault_or, IsDone, IsOutcome, IsRecord}

-- ---- No frame is flagged lost

abbrev IsKept : Sent → Type 0
IsKept sent = sent.lost ≡ false

-- none of the frames, if no message is among the lost ones
none_lost : (sent : List Sent) → length (lost_among sent) ≡ 0 → All IsKept sent
none_lost [] h = All-nil IsKept
none_lost (s ∷ ss) h = by_flag s.lost refl h (none_lost ss)
  where
    by_flag : (b : Bool) → s.lost ≡ b
        → length (map (λ (x : Sent). x.frame.message) (cond b (s ∷ filter (λ (x : Sent). x.lost) ss) (filter (λ (x : Sent). x.lost) ss))) ≡ 0
        → (length (lost_among ss) ≡ 0 → All IsKept ss) → All IsKept (s ∷ ss)
    by_flag true lost h others = let no : ⊥ = omega (arith, h) in absurd no
    by_flag false kept h others = All-cons IsKept s ss kept (others h)

kept_by_all : (books : List BookState) → length (all_lost books) ≡ 0 → All (λ (book : BookState). All IsKept book.sent) books
kept_by_all [] h = All-nil (λ (book : BookState). All IsKept book.sent)
kept_by_all (b ∷ bs) h =
    let both = length-append (lost_among b.sent) (all_lost bs) in
    let whole : length (lost_among b.sent ++ all_lost bs) ≡ 0 = h in
    let here : length (lost_among b.sent) ≡ 0 = omega (arith, both, whole) in
    let others : length (all_lost bs) ≡ 0 = omega (arith, both, whole) in
    All-cons (λ (book : BookState). All IsKept book.sent) b bs (none_lost b.sent here) (kept_by_all bs others)

-- ---- No node was stopped

no_fault_by : (b : BookState) (f : Option Stop) → b.fault ≡ f → (bs : List BookState)
    → ((stop : Stop) → first_fault (b ∷ bs) ≡ Some stop → ⊥) → (b.fault ≡ None) × ((stop : Stop) → first_fault bs ≡ Some stop → ⊥)
no_fault_by b None is bs none = (is, λ stop more. none stop (ap (λ (f : Option Stop). fault_or f (first_fault bs)) is ∙ more))
no_fault_by b (Some stop) is bs none = absurd (none stop (ap (λ (f : Option Stop). fault_or f (first_fault bs)) is))

-- no book has a fault, if there is no first one
all_without : (books : List BookState) → ((stop : Stop) → first_fault books ≡ Some stop → ⊥) → All (λ (book : BookState). book.fault ≡ None) books
all_without [] none = All-nil (λ (book : BookState). book.fault ≡ None)
all_without (b ∷ bs) none =
    let parts = no_fault_by b b.fault refl bs none in
    All-cons (λ (book : BookState). book.fault ≡ None) b bs parts.0 (all_without bs parts.1)

-- ---- The record

-- what settles is no refusal
never_refused : (settled : Settled) (fault : ClusterError) → IsErrOf (Ok settled) fault → ⊥
never_refused settled fault is = absurd cc

-- the books were read in one go, and settled as they were read
pub record_of : (script : ScriptState) (books read : List BookState) (grants : List Grant) (settled : Settled) → read ≡ books → All HasHistory books
    → IsOutcome script read grants settled → IsDone script settled
    → ((stop : Stop) → IsErrOf {T = Settled} (Ok settled) (Fault stop) ↔ (first_fault read ≡ Some stop)) → IsRecord script books settled
record_of script books read grants settled is histories outcome done faults =
    let same = subst (λ (bs : List BookState). IsOutcome script bs grants settled) is outcome in
    let none = λ (stop : Stop) (first : first_fault books ≡ Some stop). never_refused settled (Fault stop) ((faults stop).1 (ap first_fault is ∙ first)) in
    record {
      histories = histories;
      no_fault = all_without books none;
      kept = kept_by_all books (sym (length_permutation _ _ same.settled_run.losses) ∙ (sym same.reports.lost ∙ done.ended.lost));
      grants = grants;
      outcome = same;
      done = done;
    }
