-- Which statuses a command may have, and what was written with status 2.
use Rattle.std.proofs.Common.{◌≡◌, ◌⊎◌, ℕ, ◌≤◌, List, Option, Ok, Err, codes, subst, inl, inr, arith}
use Rattle.std.specs.Io.KnownBytes.{Appends}
use Rattle.ra_book_text.specs.declared.error.BookFault.TheVariants as book
use Rattle.ra_cli.specs.declared.error.SettleFault.TheVariants as settle
use Rattle.ra_arguments.specs.declared.command.Command.{Command}
use Rattle.ra_arguments.specs.declared.command.Command.TheVariants.{Node, Settle, Task, Unknown}
use Rattle.ra_arguments.specs.declared.command_line.CommandFault.{CommandFault}
use Rattle.ra_arguments.specs.declared.command_line.Task.{Task as AskedTask}
use Rattle.ra_arguments.specs.declared.command_line.Task.TheVariants as task
use Rattle.ra_arguments.specs.declared.settle_arguments.SettleTask.{SettleTask}
use Rattle.ra_cli.specs.declared.refusal_lines.CommandRefusal.TheVariants as refusal
use Rattle.ra_cli.specs.Commands.{DoesCommand}
use Rattle.ra_cli.specs.NodeRun.{ServesNode}
use Rattle.ra_cli.specs.Refusals.{command_word, refused_line}
use Rattle.ra_cli.specs.SettleRun.{RefusesBooks, ServesSettle}
use Rattle.ra_cli.specs.Statuses.{IsRefused, Writes}
use Rattle.ra_cli.specs.Tasks.{IsRefusedBy}

-- ---- 0 to 3

at_most : (text : List ℕ) (wanted : ℕ) (before after : Option (List ℕ)) (status : ℕ) → wanted ≤ 3 → Writes text wanted before after status → status ≤ 3
at_most text wanted before after status most (inl (is, all)) = omega (arith, is, most)
at_most text wanted before after status most (inr (one, breaks)) = omega (arith, one)

of_node : (old new before after : Option (List ℕ)) (status : ℕ) → ServesNode old new before after status → status ≤ 3
of_node old new before after status (answers, Ok done, owed, told, is) = omega (arith, is)
of_node old new before after status (answers, Err book.Line, owed, told, is) = omega (arith, is)
of_node old new before after status (answers, Err book.Read, owed, told, is) = omega (arith, is)
of_node old new before after status (answers, Err book.Write, owed, told, is) = omega (arith, is)

pub at_most_3 : (asked : Command) (old new before after : Option (List ℕ)) (status : ℕ) → DoesCommand asked old new before after status → status ≤ 3
at_most_3 Node old new before after status h = of_node old new before after status h
at_most_3 (Settle asked) old new before after status h = h.range
at_most_3 (Task (task.Help text)) old new before after status h = at_most _ 0 before after status (omega arith) h
at_most_3 (Task asked) old new before after status h = h.range
at_most_3 (Unknown fault) old new before after status h = at_most _ 2 before after status (omega arith) h

-- ---- 2

node_refuses : (old new before after : Option (List ℕ)) (status : ℕ) → ServesNode old new before after status → status ≡ 2 → IsRefused before after
node_refuses old new before after status (answers, Ok done, owed, told, is) two = absurd (omega (arith, is, two))
node_refuses old new before after status (answers, Err book.Line, owed, told, is) two =
    (refusal.Node book.Line, (λ is. absurd cc), (λ is. absurd cc), subst (Appends before after) owed.1 told)
node_refuses old new before after status (answers, Err book.Read, owed, told, is) two = absurd (omega (arith, is, two))
node_refuses old new before after status (answers, Err book.Write, owed, told, is) two = absurd (omega (arith, is, two))

settle_refuses : (asked : SettleTask) (old new before after : Option (List ℕ)) (status : ℕ) → ServesSettle asked old new before after status → status ≡ 2
    → IsRefused before after
settle_refuses asked old new before after status h two = by_word (h.refused two)
  where
    by_word : Appends before after (refused_line (codes "Memory"))
        ⊎ (Appends before after (refused_line (codes "Limit")) × RefusesBooks old new settle.Limit) → IsRefused before after
    by_word (inl all) = (refusal.Settle settle.Memory, (λ is. absurd cc), (λ is. is), all)
    by_word (inr (all, long)) = (refusal.Settle settle.Limit, (λ is. absurd cc), (λ is. is), all)

said : (fault : CommandFault) (before after : Option (List ℕ)) (status : ℕ) → Writes (refused_line (command_word fault)) 2 before after status → status ≡ 2
    → IsRefused before after
said fault before after status (inl (is, all)) two = (refusal.Command fault, (λ is. is), (λ is. is), all)
said fault before after status (inr (one, breaks)) two = absurd (omega (arith, one, two))

not_two : {A : Type 0} (text : List ℕ) (before after : Option (List ℕ)) (status : ℕ) → Writes text 0 before after status → status ≡ 2 → A
not_two text before after status (inl (is, all)) two = absurd (omega (arith, is, two))
not_two text before after status (inr (one, breaks)) two = absurd (omega (arith, one, two))

without_cause : (asked : AskedTask) (old new before after : Option (List ℕ)) → IsRefusedBy asked old new before after → IsRefused before after
without_cause asked old new before after (why, reader, writer, out, cause) = (why, reader, writer, out)

pub refuses : (asked : Command) (old new before after : Option (List ℕ)) (status : ℕ) → DoesCommand asked old new before after status → status ≡ 2
    → IsRefused before after
refuses Node old new before after status h two = node_refuses old new before after status h two
refuses (Settle asked) old new before after status h two = settle_refuses asked old new before after status h two
refuses (Task (task.Help text)) old new before after status h two = not_two _ before after status h two
refuses (Task asked) old new before after status h two = without_cause asked old new before after (h.refused two)
refuses (Unknown fault) old new before after status h two = said fault before after status h two
