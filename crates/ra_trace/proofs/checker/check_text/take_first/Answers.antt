use Rattle.std.proofs.Common.{◌≤◌, ℕ, Result, Ok, Err, IfOk, subst}
use Rattle.ra_trace.specs.Along.{Opens}
use Rattle.ra_trace.proofs.Along.{fails_first, none_first, opens_by}
use Rattle.ra_trace.proofs.checker.check_text.take_first.Goals as goal

-- what holds whatever the result is
if_ok : {A E : Type 0} (r : Result A E) (P : Type 0) → P → IfOk r (λ _. P)
if_ok (Ok x) P p = p
if_ok (Err e) P p = tt

pub returns-in-Err-clause-opened : goal.returns-in-Err-clause-opened
returns-in-Err-clause-opened g c =
    let (bytes, failed) = c.in-Err.ensures in
    (fails_first c.args.limit (g.R.Read.remaining c.args.reader.now) (g.R.Read.remaining c.next_line.new.reader) bytes c.in-Err.fault failed)

pub returns-in-Some-clause-opened : goal.returns-in-Some-clause-opened
returns-in-Some-clause-opened g c =
    let (bytes, count, some) = rw c.in-Some.is at c.in-Ok.ensures in
    let old = g.R.Read.remaining c.args.reader.now in
    let new = g.R.Read.remaining c.next_line.new.reader in
    subst (λ (n : ℕ). Opens c.args.limit old new n c.after_first.result) count
    (opens_by c.args.limit old new bytes c.in-Some.line c.after_first.result some.0 some.1 some.2 c.after_first.ensures.some c.after_first.ensures.none
    c.after_first.ensures.err)

pub returns-in-Some-clause-within : goal.returns-in-Some-clause-within
returns-in-Some-clause-within g c =
    let (bytes, count, some) = rw c.in-Some.is at c.in-Ok.ensures in
    if_ok c.after_first.result _ (subst (λ (n : ℕ). n ≤ c.args.limit) count some.0.1)

pub returns-in-None-clause-opened : goal.returns-in-None-clause-opened
returns-in-None-clause-opened g c =
    let (bytes, count, none) = rw c.in-None.is at c.in-Ok.ensures in
    none_first c.args.limit (g.R.Read.remaining c.args.reader.now) (g.R.Read.remaining c.next_line.new.reader) bytes none.0 none.1

pub returns-in-None-clause-within : goal.returns-in-None-clause-within
returns-in-None-clause-within g c =
    let (bytes, count, none) = rw c.in-None.is at c.in-Ok.ensures in
    subst (λ (n : ℕ). n ≤ c.args.limit) count none.0.1
