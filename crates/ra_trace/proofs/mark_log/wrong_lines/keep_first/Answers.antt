use Rattle.std.proofs.Common.{ap, ◌∙◌}
use Rattle.std.specs.Map.{keys_of}
use Rattle.ra_trace.proofs.WrongOnes.{key_added, no_key_added}
use Rattle.ra_trace.proofs.mark_log.wrong_lines.keep_first.Goals.{in-Some+in_ok-insert-in-Some, in-None}
use Rattle.ra_trace.proofs.mark_log.wrong_lines.keep_first.Goals as goal

pub returns-clause-names : goal.returns-clause-names
returns-clause-names c = elim c.match-wrong.branch [
  | in-Some+in_ok-insert-in-Some w ↦
      ap (λ m. keys_of m.entries) w.names-is ∙ ap keys_of w.in_ok-insert-in-Some.ensures.entries
      ∙ key_added c.args.names.now w.in-Some.name c.args.wrong.now.line c.args.wrong.now.name (rw w.in-Some.is at c.requires) w.in-Some.is
  | in-None w ↦ ap (λ m. keys_of m.entries) w.names-is ∙ no_key_added (keys_of c.args.names.now.entries) c.args.wrong.now.name w.in-None.is
]
