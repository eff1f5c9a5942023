use Rattle.std.proofs.Common.{ℕ, IfOk, subst}
use Rattle.ra_trace.specs.Along.{SomeTaken, Turns}
use Rattle.ra_trace.proofs.Along.{fails_next, none_next, turns_by, some_taken_by}
use Rattle.ra_trace.proofs.TraceLaws.{traces_rest_on_runs}
use Rattle.ra_trace.proofs.checker.check_text.take_next.Goals as goal

pub returns-in-Err-clause-turned : goal.returns-in-Err-clause-turned
returns-in-Err-clause-turned g c limit number old along =
    let (bytes, failed) = c.in-Err.ensures in
    (fails_next traces_rest_on_runs limit c.args.left old (g.R.Read.remaining c.args.reader.now) (g.R.Read.remaining c.next_line.new.reader)
    c.args.checker.now number bytes c.in-Err.fault along failed)

pub returns-in-Some-clause-turned : goal.returns-in-Some-clause-turned
returns-in-Some-clause-turned g c limit number old along =
    let (bytes, count, some) = rw c.in-Some.is at c.in-Ok.ensures in
    let now = g.R.Read.remaining c.args.reader.now in
    let new = g.R.Read.remaining c.next_line.new.reader in
    let after = c.take.new.self in
    subst (λ (n : ℕ). Turns limit c.args.left old new after number n c.take.result) count
    (turns_by traces_rest_on_runs limit c.args.left old now new c.args.checker.now after number c.in-Some.line bytes c.take.result along
    some.0 some.1 some.2 c.take.ensures.judged)

pub returns-in-Some-clause-some : goal.returns-in-Some-clause-some
returns-in-Some-clause-some g c =
    let (bytes, count, some) = rw c.in-Some.is at c.in-Ok.ensures in
    subst (λ (n : ℕ). IfOk c.take.result (λ next. SomeTaken c.args.left n next)) count
    (some_taken_by c.args.left (g.R.Read.remaining c.args.reader.now) (g.R.Read.remaining c.next_line.new.reader) bytes c.take.result some.0 some.2)

pub returns-in-None-clause-turned : goal.returns-in-None-clause-turned
returns-in-None-clause-turned g c limit number old along =
    let (bytes, count, none) = rw c.in-None.is at c.in-Ok.ensures in
    none_next traces_rest_on_runs limit c.args.left old (g.R.Read.remaining c.args.reader.now) (g.R.Read.remaining c.next_line.new.reader)
    c.args.checker.now number bytes along none.0 none.1
