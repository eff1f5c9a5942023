use Rattle.std.proofs.Common.{ℕ, Ok, IfOk, refl, sym, subst}
use Rattle.ra_trace.specs.declared.mark_log.MarkJudgement.TheVariants.{End, Wrong}
use Rattle.ra_trace.specs.declared.mark_log.marks_verdict.MarkCause.TheVariants as cause
use Rattle.ra_trace.specs.MarksAlong.{IsMissing, SomeMarkTaken, TurnsMarks}
use Rattle.ra_trace.proofs.MarksAlong.{fails_there, turns_by, some_taken_by, none_turns, none_taken}
use Rattle.ra_trace.proofs.TraceLaws.{mark_logs_rest_on_tables}
use Rattle.ra_trace.proofs.mark_log.take_next.Goals as goal

pub returns-in-Err-clause-turned : goal.returns-in-Err-clause-turned
returns-in-Err-clause-turned g c limit number old along =
    let (bytes, failed) = c.in-Err.ensures in
    (fails_there limit c.args.left old (g.R.Read.remaining c.args.reader.now) (g.R.Read.remaining c.next_line.new.reader) c.args.log.now number
    bytes c.in-Err.fault along failed)

pub returns-in-Some-clause-turned : goal.returns-in-Some-clause-turned
returns-in-Some-clause-turned g c limit number old along =
    let (bytes, count, some) = rw c.in-Some.is at c.in-Ok.ensures in
    let now = g.R.Read.remaining c.args.reader.now in
    let new = g.R.Read.remaining c.next_line.new.reader in
    let after = c.take_line.new.self in
    subst (λ (n : ℕ). TurnsMarks limit c.args.left old new after number n c.take_line.result) count
    (turns_by mark_logs_rest_on_tables limit c.args.left old now new c.args.log.now after number c.in-Some.line bytes c.take_line.result along
    some.0 some.1 some.2 c.take_line.ensures)

pub returns-in-Some-clause-some : goal.returns-in-Some-clause-some
returns-in-Some-clause-some g c =
    let (bytes, count, some) = rw c.in-Some.is at c.in-Ok.ensures in
    subst (λ (n : ℕ). IfOk c.take_line.result (λ next. SomeMarkTaken c.args.left n next)) count
    (some_taken_by c.args.left (g.R.Read.remaining c.args.reader.now) (g.R.Read.remaining c.next_line.new.reader) bytes c.take_line.result some.0 some.2)

-- no line came after no byte
pub returns-in-None-clause-turned : goal.returns-in-None-clause-turned
returns-in-None-clause-turned g c limit number old along =
    let (bytes, count, none) = rw c.in-None.is at c.in-Ok.ensures in
    let new = g.R.Read.remaining c.next_line.new.reader in
    let missing = subst (λ (n : ℕ). IsMissing n End) (sym count) c.if-taken-eq0.true in
    subst (λ (n : ℕ). TurnsMarks limit c.args.left old new c.args.log.now number n (Ok End)) count
    (none_turns limit c.args.left old (g.R.Read.remaining c.args.reader.now) new c.args.log.now number bytes End along none.0 none.1 missing)

pub returns-in-None-clause-some : goal.returns-in-None-clause-some
returns-in-None-clause-some g c = none_taken c.args.left c.next_line.new.taken End c.if-taken-eq0.true

-- no line came after some
pub returns-in-None-2-clause-turned : goal.returns-in-None-2-clause-turned
returns-in-None-2-clause-turned g c limit number old along =
    let (bytes, count, none) = rw c.in-None-2.is at c.in-Ok.ensures in
    let new = g.R.Read.remaining c.next_line.new.reader in
    let missing = subst (λ (n : ℕ). IsMissing n (Wrong cause.Line)) (sym count) (refl, c.if-taken-eq0.false) in
    subst (λ (n : ℕ). TurnsMarks limit c.args.left old new c.args.log.now number n (Ok (Wrong cause.Line))) count
    (none_turns limit c.args.left old (g.R.Read.remaining c.args.reader.now) new c.args.log.now number bytes (Wrong cause.Line) along none.0 none.1 missing)

pub returns-in-None-2-clause-some : goal.returns-in-None-2-clause-some
returns-in-None-2-clause-some g c = none_taken c.args.left c.next_line.new.taken (Wrong cause.Line) (refl, c.if-taken-eq0.false)
