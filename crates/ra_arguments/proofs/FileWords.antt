-- Which options take the next word, whatever words they take.
use Rattle.std.proofs.Common.{◌≡◌, List, ap, Some}
use Rattle.clap.specs.Words.{Rule, Text}
use Rattle.ra_arguments.specs.declared.command_line.command_rows.CommandKind.{CommandKind}
use Rattle.ra_arguments.specs.declared.command_line.command_rows.CommandKind.TheVariants as kind
use Rattle.ra_arguments.specs.FileWords.{is_taking, options_after}
use Rattle.ra_arguments.specs.OptionTable.{AreOfCommand}

pub same_taking : (command : CommandKind) (options : List Rule) (word : Text) → AreOfCommand command options
    → is_taking options word ≡ is_taking (options_after (Some command)) word
same_taking kind.Answer options word are = ap (λ (rules : List Rule). is_taking rules word) are
same_taking kind.Sim options word (policies, endings, first, second, are) = ap (λ (rules : List Rule). is_taking rules word) are
same_taking kind.Cluster options word are = ap (λ (rules : List Rule). is_taking rules word) are
same_taking kind.Check options word are = ap (λ (rules : List Rule). is_taking rules word) are
same_taking kind.Draw options word are = ap (λ (rules : List Rule). is_taking rules word) are
same_taking kind.Node options word are = ap (λ (rules : List Rule). is_taking rules word) are
same_taking kind.Settle options word are = ap (λ (rules : List Rule). is_taking rules word) are
