-- The commands that the rows of the table make.
use Rattle.std.proofs.Common.{◌≡◌, ◌∙◌, ◌++◌, ◌+◌, ◌<◌, ◌≤◌, ℕ, Bool, true, false, List, [], ◌∷◌, length, map, take, slice_index_or, codes, refl, sym, subst, ap, ap₂, arith}
use Rattle.std.proofs.lemmas.Bool.{eqb-true}
use Rattle.std.proofs.lemmas.List.{length_push, map_more, take_all}
use Rattle.clap.specs.Words.{App, Rule, Shape, Text, app_of, with_rule, with_subcommand}
use Rattle.clap.specs.declared.builder.command.Command.{Command}
use Rattle.clap.specs.declared.builder.command.Command.TheViews.{out-Command as fields_of}
use Rattle.clap.proofs.SimpleLemmas.{is_false}
use Rattle.clap.proofs.WalkLemmas.{both}
use Rattle.clap.specs.Walk.{is_empty}
use Rattle.ra_arguments.specs.declared.command_line.command_rows.CommandKind.{CommandKind}
use Rattle.ra_arguments.specs.declared.command_line.command_rows.CommandRow.{CommandRow}
use Rattle.ra_arguments.specs.declared.command_line.option_rows.OptionRow.{OptionRow}
use Rattle.ra_arguments.specs.Application.{HasWords, WordList, command, ending_words, policy_words, program_with}
use Rattle.ra_arguments.specs.OptionTable.{AreCommandsOf, AreOfCommand, IsOfRow, Label, all_labels, label_of_row, program_of, rule_of_row}

-- another command
pub one_more : (labels : List Label) (kind : CommandKind) (name : Text) (commands : List Shape) (options : List Rule) → AreCommandsOf labels commands → AreOfCommand kind options
    → AreCommandsOf (labels ++ (kind, name) ∷ []) (commands ++ command name options ∷ [])
one_more [] kind name commands options none are = (options, are, [], ap (λ (c : List Shape). c ++ command name options ∷ []) none, refl)
one_more ((first, called) ∷ labels) kind name commands options (others, of, rest, is, more) are =
    (others, of, rest ++ command name options ∷ [], ap (λ (c : List Shape). c ++ command name options ∷ []) is, one_more labels kind name rest options more are)

some_command : (commands : List Shape) (one : Shape) → is_empty (commands ++ one ∷ []) ≡ false
some_command commands one = go (is_empty (commands ++ one ∷ [])) refl
  where
    long : length (commands ++ one ∷ []) ≡ 0 → ⊥
    long none = let count = length_push commands one in omega (arith, count, none)

    go : (b : Bool) → is_empty (commands ++ one ∷ []) ≡ b → is_empty (commands ++ one ∷ []) ≡ false
    go true e = absurd (long (eqb-true _ _ e))
    go false e = e

pub added : (commands : List Shape) (one : Shape) → with_subcommand (program_of commands) one ≡ program_of (commands ++ one ∷ [])
added commands one = rw (some_command commands one) refl

-- a command of the parser that is only its name and its options has none for all commands
pub not_global : (made : Command) (name : Text) (options : List Rule) → app_of made ≡ record { top = command name options; subs = [] } → (fields_of made).has_globals ≡ false
not_global made name options is =
    let plain : (app_of made).top.is_plain ≡ true = ap (λ (a : App). a.top.is_plain) is in
    is_false (fields_of made).has_globals (both _ _ (both _ _ (both _ _ plain).1).1).0

-- a command with another option
pub one_option : (name : Text) (rows : List OptionRow) (i : ℕ) (d : OptionRow) (old new : App) (rule : Rule) → i < length rows
    → old ≡ record { top = command name (map rule_of_row (take i rows)); subs = [] } → rule ≡ rule_of_row (slice_index_or rows i d) → new ≡ with_rule old rule
    → new ≡ record { top = command name (map rule_of_row (take (i + 1) rows)); subs = [] }
one_option name rows i d old new rule less before is added =
    added ∙ ap₂ with_rule before is ∙ ap (λ (options : List Rule). record { top = command name options; subs = [] }) (sym (map_more rule_of_row rows i d less))

-- a command with all of its options
pub all_options : (name : Text) (kind : CommandKind) (rows : List OptionRow) (i : ℕ) (made : App) → length rows ≤ i
    → made ≡ record { top = command name (map rule_of_row (take i rows)); subs = [] } → AreOfCommand kind (map rule_of_row rows)
    → (options : List Rule) × AreOfCommand kind options × (made ≡ record { top = command name options; subs = [] })
all_options name kind rows i made less is are =
    (map rule_of_row rows, are, is ∙ ap (λ (list : List OptionRow). record { top = command name (map rule_of_row list); subs = [] }) (take_all i rows less))

-- the program with another command
pub one_row : (rows : List CommandRow) (i : ℕ) (d : CommandRow) (old sub new : App) → i < length rows
    → (commands : List Shape) × AreCommandsOf (map label_of_row (take i rows)) commands × (old ≡ program_of commands) → IsOfRow (slice_index_or rows i d) sub
    → new ≡ with_subcommand old sub.top
    → (commands : List Shape) × AreCommandsOf (map label_of_row (take (i + 1) rows)) commands × (new ≡ program_of commands)
one_row rows i d old sub new less (commands, are, before) (options, of, made) more =
    let row = slice_index_or rows i d in (
      commands ++ command row.name.now options ∷ [],
      subst (λ (list : List Label). AreCommandsOf list (commands ++ command row.name.now options ∷ [])) (sym (map_more label_of_row rows i d less))
          (one_more (map label_of_row (take i rows)) row.kind row.name.now commands options are of),
      more ∙ ap₂ with_subcommand before (ap (λ (a : App). a.top) made) ∙ added commands (command row.name.now options),
    )

-- the rows are at their end
pub at_end : (rows : List CommandRow) (i : ℕ) (commands : List Shape) → length rows ≤ i → map label_of_row rows ≡ all_labels
    → AreCommandsOf (map label_of_row (take i rows)) commands → AreCommandsOf all_labels commands
at_end rows i commands less all are =
    subst (λ (list : List Label). AreCommandsOf list commands) (ap (map label_of_row) (take_all i rows less) ∙ all) are

-- all of them
before : (one : Shape) {rest more : List Shape} → rest ≡ more → one ∷ rest ≡ one ∷ more
before one same = ap (λ (list : List Shape). one ∷ list) same

pub all_commands : (commands : List Shape) → AreCommandsOf all_labels commands
    → (policies endings : WordList) × HasWords policies policy_words × HasWords endings ending_words × (program_of commands ≡ program_with policies endings)
all_commands commands
    (oa, ka, ra, ea, (ob, (policies, endings, first, second, kb), rb, eb, (oc, kc, rc, ec, (od, kd, rd, ed, (oe, ke, re, ee, (of, kf, rf, ef, (og, kg, rg, eg, none))))))) =
    let list : commands ≡ command (codes "answer") oa ∷ command (codes "sim") ob ∷ command (codes "cluster") oc ∷ command (codes "check") od ∷ command (codes "draw") oe
    ∷ command (codes "node") of ∷ command (codes "settle") og ∷ [] =
    ea ∙ before _ (eb ∙ before _ (ec ∙ before _ (ed ∙ before _ (ee ∙ before _ (ef ∙ before _ (eg ∙ before _ none)))))) in (
      policies,
      endings,
      first,
      second,
      ap program_of (list ∙ (λ k. command (codes "answer") (ka k) ∷ command (codes "sim") (kb k) ∷ command (codes "cluster") (kc k) ∷ command (codes "check") (kd k)
          ∷ command (codes "draw") (ke k) ∷ command (codes "node") (kf k) ∷ command (codes "settle") (kg k) ∷ [])),
    )
