use Rattle.std.proofs.Common.{◌≡◌, ◌≤◌, ℕ, Bool, true, false, List, length, Option, Some, None, ap, refl, subst, Ok, Err, ◌∙◌}
use Rattle.std.specs.Prelude.{IfSome}
use Rattle.std.specs.Io.KnownBytes.{Appends, Consumes}
use Rattle.ra_trace.specs.declared.error.TraceError.{TraceError}
use Rattle.ra_trace.specs.declared.error.TraceError.TheVariants.{Limit, Memory, Read}
use Rattle.ra_trace.specs.declared.mark_log.marks_watcher.MarksSoFar.{MarksSoFar}
use Rattle.ra_trace.specs.declared.mark_log.wrong_lines.WrongLine.{WrongLine}
use Rattle.ra_trace.specs.LeftOut.{TellsAll}
use Rattle.ra_arguments.specs.declared.command_line.Task.TheVariants as task
use Rattle.ra_cli.specs.declared.refusal_lines.CommandRefusal.TheVariants.{Check}
use Rattle.ra_cli.specs.WrongLineChecks.{ChecksAllLines, IsTextOfLines, RefusesAllLines, all_text}
use Rattle.ra_cli.proofs.ClusterRuns.{of_known}
use Rattle.ra_cli.proofs.Statuses.{writes_as}
use Rattle.ra_cli.proofs.TaskStatuses.{if_judged, if_refused_at_once}
use Rattle.ra_cli.proofs.commands.all_lines_command.judge_all_lines.Goals as goal

-- the lines that tell it were written
module _ (complete passes : Bool) (old new before after : Option (List ℕ)) (wrong : List WrongLine) (counts : MarksSoFar) where
  judges_so : IfSome old (λ input. TellsAll complete input wrong counts passes × Consumes old new input)
      → (taken : List ℕ) × TellsAll complete taken wrong counts passes × (length taken ≤ 9223372036854775808) × Consumes old new taken
      → Appends before after (all_text wrong counts) → ChecksAllLines complete old new before after passes
  judges_so known (taken, tells, most, all) out = (
    of_known old (λ input. TellsAll complete input wrong counts passes × Consumes old new input)
        (λ input. (ws : List WrongLine) × (cs : MarksSoFar) × TellsAll complete input ws cs passes × Consumes old new input × Appends before after (all_text ws cs))
        (λ input h. (wrong, counts, h.0, h.1, out)) known,
    (taken, wrong, counts, tells, out),
  )

  judges_as : (right : Bool) → IfSome old (λ input. TellsAll complete input wrong counts passes × Consumes old new input)
      → (taken : List ℕ) × TellsAll complete taken wrong counts passes × (length taken ≤ 9223372036854775808) × Consumes old new taken
      → passes ≡ right → Appends before after (all_text wrong counts) → ChecksAllLines complete old new before after right
  judges_as right known alone same out =
      subst (λ (b : Bool). ChecksAllLines complete old new before after b) same (judges_so known alone out)

  printed : IfSome old (λ input. TellsAll complete input wrong counts passes × Consumes old new input)
      → IfSome old (λ input. IsTextOfLines complete input (all_text wrong counts))
  printed known = of_known old (λ input. TellsAll complete input wrong counts passes × Consumes old new input)
      (λ input. IsTextOfLines complete input (all_text wrong counts)) (λ input h. (wrong, counts, passes, h.0, refl)) known

-- why it is not checked
cause : (old new : Option (List ℕ)) (fault : TraceError) → (fault ≡ Read → RefusesAllLines old new Read) → (fault ≡ Limit → RefusesAllLines old new Limit)
    → (fault ≡ Memory → RefusesAllLines old new Memory) → RefusesAllLines old new fault
cause old new Read failed limit memory = failed refl
cause old new Limit failed limit memory = limit refl
cause old new Memory failed limit memory = memory refl

pub returns-clause-does : goal.returns-clause-does
returns-clause-does g c =
    let old = g.R.Read.remaining c.args.reader.now in
    let new = g.R.Read.remaining c.check_all_marks.new.reader in
    let before = g.W.Write.contents c.args.writer.now in
    let after = g.W.Write.contents c.print_text.new.writer in
    let wrong = c.check_all_marks.new.wrong in
    let counts = c.in-Ok.counts in
    let passes = c.check_all_marks.new.passes in
    let known = c.in-Ok.ensures.checks in
    let text = all_text wrong counts in
    if_judged (task.CheckAll c.args.complete) old new before after c.print_text.result.status text c.outcome_of.result.status (passes ≡ true) (passes ≡ false)
    c.outcome_of.ensures
    (writes_as text c.as_bytes.result.now c.outcome_of.result.status before after c.print_text.result.status c.print_text.result.status refl
    (c.as_bytes.ensures.value ∙ c.in-Ok-wrong_lines_text.ensures) c.print_text.ensures)
    (judges_as c.args.complete passes old new before after wrong counts true known.ok known.alone)
    (judges_as c.args.complete passes old new before after wrong counts false known.ok known.alone)
    (printed c.args.complete passes old new before after wrong counts known.ok)

pub returns-in-Err-clause-does : goal.returns-in-Err-clause-does
returns-in-Err-clause-does g c =
    let fault = c.in-Err.fault in
    if_refused_at_once (task.CheckAll c.args.complete) _ _ _ _ _ (Check fault) _ c.refuse.ensures (λ writer. writer)
    (fault, refl, cause _ _ fault (λ is. c.in-Err.ensures.checks.failed (ap Err is)) (λ is. c.in-Err.ensures.checks.limit (ap Err is)) (λ is. c.in-Err.ensures.checks.memory (ap Err is)))

pub returns-in-Err-wrong_lines_text-clause-does : goal.returns-in-Err-wrong_lines_text-clause-does
returns-in-Err-wrong_lines_text-clause-does g c =
    let alone = c.in-Ok.ensures.checks.alone in
    if_refused_at_once (task.CheckAll c.args.complete) _ _ _ _ _ (Check Memory) _ c.refuse-in-Err-wrong_lines_text.ensures (λ writer. writer)
    (Memory, refl, (alone.0, alone.3, alone.2))
