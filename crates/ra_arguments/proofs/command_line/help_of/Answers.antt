use Rattle.std.proofs.Common.{◌∙◌, ap, map, string_bytes, sym}
use Rattle.std.proofs.lemmas.Bool.{false≢true}
use Rattle.clap.specs.Words.{kind_of}
use Rattle.ra_arguments.specs.Asked.{is_help}
use Rattle.ra_arguments.proofs.Asking.{help_asked, help_is_no_memory, refused, shown}
use Rattle.ra_arguments.proofs.Helping.{asks_for_help}
use Rattle.ra_arguments.proofs.command_line.help_of.Goals as goal

pub returns-then-not-asks_for_help-clause-task : goal.returns-then-not-asks_for_help-clause-task
returns-then-not-asks_for_help-clause-task c =
    let arguments = c.args.arguments.now in
    let help = ap is_help (sym c.kind.ensures) ∙ sym c.is_help_kind.ensures ∙ c.if-is_help_kind.true in (
      refused (map string_bytes arguments) c.args.error.now c.requires (help_is_no_memory (kind_of c.args.error.now) help),
      λ is any. false≢true (sym c.if-not-asks_for_help.true ∙ c.asks_for_help.ensures.1 ((asks_for_help arguments).1 any)),
    )

pub returns-in-Ok-clause-task : goal.returns-in-Ok-clause-task
returns-in-Ok-clause-task c =
    let arguments = c.args.arguments.now in
    let help = ap is_help (sym c.kind.ensures) ∙ sym c.is_help_kind.ensures ∙ c.if-is_help_kind.true in (
      help_asked (map string_bytes arguments) c.args.error.now c.requires (help_is_no_memory (kind_of c.args.error.now) help) help,
      (asks_for_help arguments).0 (c.asks_for_help.ensures.0 c.if-not-asks_for_help.false),
    )

pub returns-in_default-clause-task : goal.returns-in_default-clause-task
returns-in_default-clause-task c = (
  refused (map string_bytes c.args.arguments.now) c.args.error.now c.requires (λ memory. c.in_default.not-OutOfMemory (c.kind-2.ensures ∙ memory)),
  λ is any. false≢true (sym (ap is_help (sym c.kind.ensures) ∙ sym c.is_help_kind.ensures ∙ c.if-is_help_kind.false) ∙ is),
)

pub returns-in-Ok-clause-help : goal.returns-in-Ok-clause-help
returns-in-Ok-clause-help c =
    let help = ap is_help (sym c.kind.ensures) ∙ sym c.is_help_kind.ensures ∙ c.if-is_help_kind.true in
    shown _ (map string_bytes c.args.arguments.now) c.args.error.now (string_bytes c.in-Ok.text) c.requires help c.in-Ok.ensures
