use Rattle.std.proofs.Common.{map, string_bytes, refl, sym, ◌∙◌}
use Rattle.std.proofs.lemmas.Bool.{false≢true}
use Rattle.ra_arguments.proofs.Asking.{nothing_asked}
use Rattle.ra_arguments.proofs.OneCommand.{sim_alone_asks}
use Rattle.ra_arguments.proofs.SettleArguments.{none_asked}
use Rattle.ra_arguments.proofs.command.read_command_line.Goals as goal

pub returns-then-is_command_alone-clause-asks : goal.returns-then-is_command_alone-clause-asks
returns-then-is_command_alone-clause-asks c = c.is_command_alone.ensures.0 c.if-is_command_alone.true

pub returns-in-Some-clause-asks : goal.returns-in-Some-clause-asks
returns-in-Some-clause-asks c = sym c.in-Some.ensures

pub returns-then-is_command_alone-2-clause-asks : goal.returns-then-is_command_alone-2-clause-asks
returns-then-is_command_alone-2-clause-asks c = (
  record {
    no_node = λ are. false≢true (sym c.if-is_command_alone.false ∙ c.is_command_alone.ensures.1 are);
    no_books = none_asked (map string_bytes c.args.arguments.now) c.settle_arguments.result c.settle_arguments.ensures c.in_default.not-Some;
  },
  sim_alone_asks (map string_bytes c.args.arguments.now) _ refl (c.is_command_alone-2.ensures.0 c.if-is_command_alone-2.true),
)

pub returns-in-Ok-clause-asks : goal.returns-in-Ok-clause-asks
returns-in-Ok-clause-asks c = (
  record {
    no_node = λ are. false≢true (sym c.if-is_command_alone.false ∙ c.is_command_alone.ensures.1 are);
    no_books = none_asked (map string_bytes c.args.arguments.now) c.settle_arguments.result c.settle_arguments.ensures c.in_default.not-Some;
  },
  c.in-Ok.ensures.task,
)

pub returns-in-Err-Usage-clause-asks : goal.returns-in-Err-Usage-clause-asks
returns-in-Err-Usage-clause-asks c = (
  record {
    no_node = λ are. false≢true (sym c.if-is_command_alone.false ∙ c.is_command_alone.ensures.1 are);
    no_books = none_asked (map string_bytes c.args.arguments.now) c.settle_arguments.result c.settle_arguments.ensures c.in_default.not-Some;
  },
  λ are. false≢true (sym c.if-is_command_alone-2.false ∙ c.is_command_alone-2.ensures.1 are),
  nothing_asked (map string_bytes c.args.arguments.now) c.in-Err-Usage.fault (rw c.in-Err-Usage.field-0-is at c.in-Err-Usage.ensures.task),
)

pub returns-in-Err-Usage-clause-cause : goal.returns-in-Err-Usage-clause-cause
returns-in-Err-Usage-clause-cause c = rw c.in-Err-Usage.field-0-is at c.in-Err-Usage.ensures.task

pub returns-in-Err-Memory-clause-asks : goal.returns-in-Err-Memory-clause-asks
returns-in-Err-Memory-clause-asks c = (
  record {
    no_node = λ are. false≢true (sym c.if-is_command_alone.false ∙ c.is_command_alone.ensures.1 are);
    no_books = none_asked (map string_bytes c.args.arguments.now) c.settle_arguments.result c.settle_arguments.ensures c.in_default.not-Some;
  },
  λ are. false≢true (sym c.if-is_command_alone-2.false ∙ c.is_command_alone-2.ensures.1 are),
  tt,
)

pub returns-in-Ok-clause-help : goal.returns-in-Ok-clause-help
returns-in-Ok-clause-help c = c.in-Ok.ensures.help
