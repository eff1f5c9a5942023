-- Which refusal of settling comes if there is its cause: one that has none of the other causes.
use Rattle.std.proofs.Common.{◌≡◌, ◌≢◌, ◌⊎◌, List, length, map, refl, sym, ◌∙◌, subst, inl, inr}
use Rattle.std.specs.Prelude.{All, AllPairs, IfOk, OnOk, IsErrAnd, IsErrOf, IsOkUnless, MatchResult, Result, Ok, Err}
use Rattle.std.specs.List.{Any}
use Rattle.ra_world.specs.Traffic.{Move}
use Rattle.ra_world.specs.World.{Reports}
use Rattle.ra_world.specs.MainTheorem.{MainTheorem}
use Rattle.ra_book.specs.declared.error.SettleError.{SettleError}
use Rattle.ra_book.specs.declared.error.SettleError.TheVariants.{NotSent, Twice, GrantMissing, GrantTwice, Memory}
use Rattle.ra_book.specs.declared.book.grant.Grant.{Grant}
use Rattle.ra_book.specs.declared.settle_books.settled.Settled.{Settled}
use Rattle.ra_book.specs.Book.{BookState}
use Rattle.ra_book.specs.Settled.{IsSettledOrder, IsSettledRun, Placed, IsGranted, BooksFit, HasUnsent, HasTwice, Repeats, settled_steps, start_of}
use Rattle.ra_book.specs.SettlingParts.{Settles, Refuses, RefusesReceived}

-- ---- A refusal that `?` passes on

pub refused : {T : Type 0} (P : T → Type 0) (Q : SettleError → Type 0) (e : SettleError) → Q e → (r : Result T SettleError) → IsErrAnd r (λ x. x ≡ e)
    → MatchResult r P Q
refused P Q e why (Ok v) is = absurd is
refused P Q e why (Err x) is = subst Q (sym is) why

-- ---- Causes that exclude each other

pub not_all : {X : Type 0} (P : X → Type 0) (xs : List X) → Any (λ x. P x → ⊥) xs → All P xs → ⊥
not_all P xs (k, x, low, at, not) all = not (subst P at (all k x low))

pub not_apart : {X : Type 0} (xs : List X) → Repeats xs → AllPairs (λ a b. a ≢ b) xs → ⊥
not_apart xs r apart = apart r.first r.second r.item r.in_order r.within (r.first_is ∙ sym r.second_is)

-- ---- What is said of settling, clause by clause

module _ (books : List BookState) (grants : List Grant) where
  -- its outcome
  abbrev pub Whole : Result Settled SettleError → Type 0
  Whole r = MatchResult r (Settles books grants) (Refuses books grants)

  received_refused : (e : SettleError) → RefusesReceived books e → Refuses books grants e
  received_refused NotSent why = why
  received_refused Twice why = why
  received_refused GrantMissing why = absurd why
  received_refused GrantTwice why = absurd why
  received_refused Memory why = why

  -- if what came is refused
  pub by_received : (e : SettleError) → RefusesReceived books e → (r : Result Settled SettleError) → IsErrAnd r (λ x. x ≡ e) → Whole r
  by_received e why r is = refused (Settles books grants) (Refuses books grants) e (received_refused e why) r is

  pub settled_run : (r : Result Settled SettleError) → Whole r
      → IfOk r (λ settled. (moves : List Move) × (map (λ move. move.step) moves ≡ settled.steps.items)
      × IsSettledRun books moves × Reports (length books) (start_of books) moves settled.report)
  settled_run (Ok s) whole = let of = whole.books_are in (of.moves, of.moves_are, of.run, of.reports)
  settled_run (Err e) whole = tt

  pub main_theorem : (r : Result Settled SettleError) → Whole r → IfOk r (λ settled. MainTheorem (length books) settled.report)
  main_theorem (Ok s) whole = whole.books_are.main
  main_theorem (Err e) whole = tt

  pub steps : (r : Result Settled SettleError) → Whole r
      → IfOk r (λ settled. (placed : List Placed) × IsSettledOrder books placed × (settled.steps.items ≡ settled_steps books placed))
  steps (Ok s) whole = let of = whole.books_are in (of.placed, of.order, of.steps_are)
  steps (Err e) whole = tt

  pub fit : (r : Result Settled SettleError) → Whole r → OnOk r (BooksFit books)
  fit (Ok s) whole = whole.fit
  fit (Err e) whole = tt

  pub granted : (r : Result Settled SettleError) → Whole r → OnOk r (All (λ g. IsGranted books g.entry) grants)
  granted (Ok s) whole = whole.granted
  granted (Err e) whole = tt

  pub once : (r : Result Settled SettleError) → Whole r → OnOk r (AllPairs (λ a b. a ≢ b) grants)
  once (Ok s) whole = whole.once
  once (Err e) whole = tt

  -- each refusal has its cause
  pub cause : (r : Result Settled SettleError) → Whole r → (e : SettleError) → IsErrOf r e → Refuses books grants e
  cause (Ok s) whole e is = absurd (cc)
  cause (Err x) whole e is = let same : x ≡ e = cc in subst (Refuses books grants) same whole

  pub found_unsent : (r : Result Settled SettleError) → Whole r → HasUnsent books → IsErrOf r NotSent
  found_unsent (Ok s) whole unsent = absurd (whole.fit.0 unsent)
  found_unsent (Err NotSent) whole unsent = refl
  found_unsent (Err Twice) whole unsent = absurd (whole.1 unsent)
  found_unsent (Err GrantMissing) whole unsent = absurd (whole.0.0 unsent)
  found_unsent (Err GrantTwice) whole unsent = absurd (whole.0.0 unsent)
  found_unsent (Err Memory) whole unsent = absurd (whole unsent)

  pub found_twice : (r : Result Settled SettleError) → Whole r → HasTwice books → (HasUnsent books → ⊥) → IsErrOf r Twice ⊎ IsErrOf r Memory
  found_twice (Ok s) whole twice sent = absurd (whole.fit.1 twice)
  found_twice (Err NotSent) whole twice sent = absurd (sent whole)
  found_twice (Err Twice) whole twice sent = inl refl
  found_twice (Err GrantMissing) whole twice sent = absurd (whole.0.1 twice)
  found_twice (Err GrantTwice) whole twice sent = absurd (whole.0.1 twice)
  found_twice (Err Memory) whole twice sent = inr refl

  pub found_missing : (r : Result Settled SettleError) → Whole r → BooksFit books → Any (λ g. IsGranted books g.entry → ⊥) grants
      → IsErrOf r GrantMissing ⊎ IsErrOf r Memory
  found_missing (Ok s) whole fits missing = absurd (not_all (λ (g : Grant). IsGranted books g.entry) grants missing whole.granted)
  found_missing (Err NotSent) whole fits missing = absurd (fits.0 whole)
  found_missing (Err Twice) whole fits missing = absurd (fits.1 whole.0)
  found_missing (Err GrantMissing) whole fits missing = inl refl
  found_missing (Err GrantTwice) whole fits missing = absurd (not_all (λ (g : Grant). IsGranted books g.entry) grants missing whole.2)
  found_missing (Err Memory) whole fits missing = inr refl

  pub found_grant_twice : (r : Result Settled SettleError) → Whole r → BooksFit books → Repeats grants → All (λ g. IsGranted books g.entry) grants
      → IsErrOf r GrantTwice ⊎ IsErrOf r Memory
  found_grant_twice (Ok s) whole fits repeats all = absurd (not_apart grants repeats whole.once)
  found_grant_twice (Err NotSent) whole fits repeats all = absurd (fits.0 whole)
  found_grant_twice (Err Twice) whole fits repeats all = absurd (fits.1 whole.0)
  found_grant_twice (Err GrantMissing) whole fits repeats all = absurd (not_all (λ (g : Grant). IsGranted books g.entry) grants whole.1 all)
  found_grant_twice (Err GrantTwice) whole fits repeats all = inl refl
  found_grant_twice (Err Memory) whole fits repeats all = inr refl

  pub settles : (r : Result Settled SettleError) → Whole r → BooksFit books → All (λ g. IsGranted books g.entry) grants → AllPairs (λ a b. a ≢ b) grants
      → IsOkUnless r Memory
  settles (Ok s) whole fits all apart = tt
  settles (Err NotSent) whole fits all apart = absurd (fits.0 whole)
  settles (Err Twice) whole fits all apart = absurd (fits.1 whole.0)
  settles (Err GrantMissing) whole fits all apart = absurd (not_all (λ (g : Grant). IsGranted books g.entry) grants whole.1 all)
  settles (Err GrantTwice) whole fits all apart = absurd (not_apart grants whole.1 apart)
  settles (Err Memory) whole fits all apart = refl
