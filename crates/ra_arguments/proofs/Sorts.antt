-- The parser's kinds of error for some arguments are all for a text of help, or none of them is.
use Rattle.std.proofs.Common.{◌≡◌, ◌∙◌, ◌+◌, ◌==◌, ◌&&◌, ◌||◌, ℕ, Bool, true, false, not, zero, suc, List, [], ◌∷◌, Option, Some, None, is_some, length, drop, min, refl, sym}
use Rattle.std.specs.Prelude.{if◌then◌else◌, find, encode_utf8, nat_lt, slice_get, codes}
use Rattle.std.specs.List.{list_all, list_any}
use Rattle.std.specs.Option.{option_map_or}
use Rattle.std.specs.Str.{bytes_eq, chars}
use Rattle.std.proofs.lemmas.Bool.{false≢true}
use Rattle.clap.specs.Facts.{explicit_source, unwrap_or_range, parser_of_value}
use Rattle.clap.specs.Kinds.{Kinds, or_else, range_kinds, request_kinds, value_kinds, values_kinds}
use Rattle.clap.specs.Lexer.{long_of, short_of}
use Rattle.clap.specs.Matches.{count_text}
use Rattle.clap.specs.Walk.{Held, Names, Row, Rule, Step, Text, Waiting, Walk, action_of, answers_to, arg_by_id, arg_by_index, arg_by_long, arg_by_short, attached_value, count_of, finished, has_row, is_empty, is_pending, most_values, next, nothing_held, reacted, settled, subcommand, subcommand_met, takes_several, takes_values, trailing, value, values_or_missing, walk, walk_from, walked, with_default, word_met}
use Rattle.clap.specs.Simple.{App, Shape, argument_words, built, label_of}
use Rattle.clap.specs.Takes.{is_given}
use Rattle.clap.specs.Faults.{action_fault, bundle_fault, bundle_step_fault, built_fault, check_fault, count_fault, defaults_fault, entered_fault, flag_word_fault, flags_fault, level_fault, long_fault, option_fault, other_fault, positional_fault, react_fault, repeat_fault, set_fault, settle_fault, short_fault, step_fault, stray_fault, turn_fault, use_fault, values_fault, walk_fault, word_fault}
use Rattle.clap.proofs.OnLiterals.{clap_on_literals}
use Rattle.clap.proofs.WalkLemmas.{both}
use Rattle.clap.specs.declared.builder.action.ArgAction.{ArgAction}
use Rattle.clap.specs.declared.builder.action.ArgAction.TheVariants as act
use Rattle.clap.specs.declared.builder.value_parser.ValueParser.{ValueParser}
use Rattle.clap.specs.declared.error.kind.ErrorKind.{ErrorKind}
use Rattle.clap.specs.declared.error.kind.ErrorKind.TheVariants as kind
use Rattle.ra_arguments.specs.Application.{ra_app}
use Rattle.ra_arguments.specs.Asked.{is_help, refusals}

OneSort : Kinds → Type 0
OneSort kinds = list_any is_help kinds ≡ true → list_any (λ k. not (is_help k)) kinds ≡ false

none : OneSort []
unfolding OneSort
none e = absurd (false≢true e)

one : (k : ErrorKind) → OneSort (k ∷ [])
unfolding OneSort
one k e = go (is_help k) refl
  where
    go : (b : Bool) → is_help k ≡ b → list_any (λ k. not (is_help k)) (k ∷ []) ≡ false
    go true is = rw is refl
    go false is = let bad : list_any is_help (k ∷ []) ≡ false = rw is refl in absurd (false≢true (sym bad ∙ e))

first_of_two : (a b : Kinds) → OneSort a → OneSort b → OneSort (or_else a b)
first_of_two [] b left right = right
first_of_two (k ∷ ks) b left right = left

either : (t : Bool) (a b : Kinds) → OneSort a → OneSort b → OneSort (if t then a else b)
either true a b left right = left
either false a b left right = right

each : {X : Type 0} (f : X → Kinds) (o : Option X) (d : Kinds) → ((x : X) → OneSort (f x)) → OneSort d → OneSort (option_map_or f o d)
each f None d all other = other
each f (Some x) d all other = all x

-- ---- values

of_value : (ignore_case : Bool) (p : ValueParser) (text : Text) → OneSort (value_kinds ignore_case p text)
of_value ignore_case p text = either _ _ _ none (one _)

of_values : (ignore_case : Bool) (p : ValueParser) (values : List Text) → OneSort (values_kinds ignore_case p values)
of_values ignore_case p [] = none
of_values ignore_case p (v ∷ vs) = first_of_two _ _ (of_value ignore_case p v) (of_values ignore_case p vs)

of_range : (least most n : ℕ) → OneSort (range_kinds least most n)
of_range least most n =
    either (nat_lt 0 least && n == 0) (kind.InvalidValue ∷ []) _ (one kind.InvalidValue)
    (either (least == most) (if least == n then [] else kind.WrongNumberOfValues ∷ []) _
    (either (least == n) [] (kind.WrongNumberOfValues ∷ []) none (one kind.WrongNumberOfValues))
    (either (nat_lt n least) (kind.TooFewValues ∷ []) _ (one kind.TooFewValues)
    (either (nat_lt most n) (kind.TooManyValues ∷ []) [] (one kind.TooManyValues) none)))

of_request : (x : ArgAction) → OneSort (request_kinds x)
of_request act.Set = none
of_request act.Append = none
of_request act.SetTrue = none
of_request act.SetFalse = none
of_request act.Count = none
of_request act.Help = one kind.DisplayHelp
of_request act.HelpShort = one kind.DisplayHelp
of_request act.HelpLong = one kind.DisplayHelp
of_request act.Version = one kind.DisplayVersion

of_repeat : (again : Bool) (id : Text) (rows : List Row) → OneSort (repeat_fault again id rows)
of_repeat again id rows = either (has_row id rows && not again) (kind.ArgumentConflict ∷ []) [] (one kind.ArgumentConflict) none

of_count : (a : Rule) (values : List Text) (rows : List Row) → OneSort (count_fault a values rows)
of_count a [] rows = of_value a.ignore_case (parser_of_value a.parser) (count_text (min (count_of a.id rows + 1) 255))
of_count a (v ∷ vs) rows = of_values a.ignore_case (parser_of_value a.parser) (v ∷ vs)

of_set : (again : Bool) (a : Rule) (values : List Text) (rows : List Row) → OneSort (set_fault again a values rows)
of_set again a values rows = first_of_two _ _ (of_repeat again a.id rows) (of_values a.ignore_case (parser_of_value a.parser) values)

of_action : (x : ArgAction) (again : Bool) (a : Rule) (values : List Text) (rows : List Row) → OneSort (action_fault x again a values rows)
of_action act.Set again a values rows = of_set again a values rows
of_action act.SetTrue again a values rows = of_set again a values rows
of_action act.SetFalse again a values rows = of_set again a values rows
of_action act.Append again a values rows = of_values a.ignore_case (parser_of_value a.parser) values
of_action act.Count again a values rows = of_count a values rows
of_action act.Help again a values rows = of_request act.Help
of_action act.HelpShort again a values rows = of_request act.HelpShort
of_action act.HelpLong again a values rows = of_request act.HelpLong
of_action act.Version again a values rows = of_request act.Version

of_use : (again : Bool) (a : Rule) (values : List Text) (rows : List Row) → OneSort (use_fault again a values rows)
of_use again a values rows = first_of_two _ _ (of_range (unwrap_or_range a.range).start_inclusive (most_values a) (length values))
    (of_action (action_of a) again a (values_or_missing a values) rows)

-- ---- words

module _ (c : List Rule) (again : Bool) where
  of_settle : (h : Held) → OneSort (settle_fault c again h)
  of_settle h = each (λ p. option_map_or (λ a. use_fault again a p.1 h.rows) (arg_by_id c p.0) []) h.pending []
      (λ p. each (λ a. use_fault again a p.1 h.rows) (arg_by_id c p.0) [] (λ a. of_use again a p.1 h.rows) none) none

  of_react : (a : Rule) (values : List Text) (h : Held) → OneSort (react_fault c again a values h)
  of_react a values h = first_of_two _ _ (of_settle h) (of_use again a values (settled c h).rows)

  of_option : (a : Rule) (v : Option Text) (h : Held) → OneSort (option_fault c again a v h)
  of_option a (Some v) h = of_react a (v ∷ []) h
  of_option a None h = of_settle h

  of_long : (o : Option Rule) (v : Option Text) (h : Held) → OneSort (long_fault c again o v h)
  of_long None v h = one kind.UnknownArgument
  of_long (Some a) v h =
      either (takes_values a) (option_fault c again a v h) _ (of_option a v h)
      (either (is_some v) (kind.TooManyValues ∷ []) (react_fault c again a [] h) (one kind.TooManyValues) (of_react a [] h))

  of_short : (o : Option Rule) (rest : Text) (h : Held) (later : Held → Kinds) → ((k : Held) → OneSort (later k)) → OneSort (short_fault c again o rest h later)
  of_short None rest h later all = one kind.UnknownArgument
  of_short (Some a) rest h later all =
      either (takes_values a) (option_fault c again a (attached_value rest) h) _ (of_option a (attached_value rest) h)
      (first_of_two (react_fault c again a [] h) (later (reacted c a [] h)) (of_react a [] h) (all (reacted c a [] h)))

  of_bundle_step : (x : Option ℕ) (flags : Text) (skip : ℕ) (h : Held) (later : Text → ℕ → Held → Kinds) → ((t : Text) (n : ℕ) (k : Held) → OneSort (later t n k))
      → OneSort (bundle_step_fault c again x flags skip h later)
  of_bundle_step None flags skip h later all = none
  of_bundle_step (Some x) flags zero h later all =
      let rest = drop (length (encode_utf8 x)) flags in of_short (arg_by_short c x) rest h (later rest 0) (λ k. all rest 0 k)
  of_bundle_step (Some x) flags (suc skip) h later all = all (drop (length (encode_utf8 x)) flags) skip h

  of_flags : (k : ℕ) (flags : Text) (skip : ℕ) (h : Held) → OneSort (flags_fault c again k flags skip h)
  unfolding flags_fault
  of_flags zero flags skip h = none
  of_flags (suc k) flags skip h = of_bundle_step (slice_get (chars flags) 0) flags skip h (flags_fault c again k) (of_flags k)

  of_flag_word : (o : Option (Text × Option Text)) (word : Text) (h : Held) → OneSort (flag_word_fault c again o word h)
  of_flag_word (Some p) word h = of_long (arg_by_long c p.0) p.1 h
  of_flag_word None word h = each (λ flags. bundle_fault c again flags h) (short_of word) [] (λ flags. of_flags (length flags) flags h.skip (record h { skip = 0 })) none

  of_positional : (a : Rule) (h : Held) → OneSort (positional_fault c again a h)
  of_positional a h = either (is_pending a h.pending && takes_several a) [] (settle_fault c again h) none (of_settle h)

-- a command that has no command `help`
module _ (s : Shape) (no_help : s.disable_help_subcommand ≡ true) where
  never : (t : Bool) → (t && not s.disable_help_subcommand) ≡ false
  never true = rw no_help refl
  never false = refl

  of_other : (o : Option Text) (word : Text) (h : Held) → OneSort (other_fault s o word h)
  of_other (Some name) word h = rw (never (bytes_eq name (codes "help"))) none
  of_other None word h = either (bytes_eq word (45 ∷ 45 ∷ [])) [] (flag_word_fault s.rules s.args_override_self (long_of word) word h) none (of_flag_word s.rules s.args_override_self (long_of word) word h)

  of_word : (names : Names) (is_trailing : Bool) (w : Waiting) (word : Text) (h : Held) → OneSort (word_fault s names is_trailing w word h)
  of_word names is_trailing w word h = either is_trailing [] (other_fault s (subcommand_met names w word) word h) none (of_other (subcommand_met names w word) word h)

  of_stray : OneSort (stray_fault s)
  unfolding OneSort
  of_stray = either s.is_leaf (kind.UnknownArgument ∷ []) (kind.UnknownArgument ∷ kind.InvalidSubcommand ∷ []) (one kind.UnknownArgument) (λ e. absurd (false≢true e))

  of_step : (position : ℕ) (h : Held) (x : Step) → OneSort (step_fault s position h x)
  of_step position h (next waiting) = none
  of_step position h (trailing p) = none
  of_step position h (subcommand name) = none
  of_step position h value = each (λ a. positional_fault s.rules s.args_override_self a h) (arg_by_index s.rules position) (stray_fault s)
      (λ a. of_positional s.rules s.args_override_self a h) of_stray

  of_turn : (names : Names) (w : Walk) (word : Text) → OneSort (turn_fault s names w word)
  of_turn names w word =
      let met = word_met s.rules names w.is_trailing w.waiting w.position word w.held in
      either (is_some w.stopped) [] _ none
      (first_of_two (word_fault s names w.is_trailing w.waiting word w.held) (step_fault s w.position met.0 met.1) (of_word names w.is_trailing w.waiting word w.held) (of_step w.position met.0 met.1))

  of_walk : (names : Names) (w : Walk) (words : List Text) → OneSort (walk_fault s names w words)
  unfolding walk_fault
  of_walk names w [] = none
  of_walk names w (word ∷ words) = first_of_two _ _ (of_turn names w word) (of_walk names (walked s.rules names w word) words)

  of_defaults : (c : List Rule) (rows : List Row) → OneSort (defaults_fault rows c)
  unfolding defaults_fault
  of_defaults [] rows = none
  of_defaults (a ∷ c) rows = first_of_two _ _ (either (has_row a.id rows || is_empty a.defaults) [] _ none (first_of_two (request_kinds (action_of a)) (values_fault a a.defaults) (of_request (action_of a)) (of_values a.ignore_case (parser_of_value a.parser) a.defaults)))
      (of_defaults c (with_default rows a))

  of_check : (rows : List Row) (has_subcommand : Bool) → OneSort (check_fault s rows has_subcommand)
  of_check rows has_subcommand =
      either (not has_subcommand && (s.arg_required_else_help && not (list_any (λ r. explicit_source r.source) rows))) (kind.DisplayHelpOnMissingArgumentOrSubcommand ∷ []) _ (one kind.DisplayHelpOnMissingArgumentOrSubcommand)
      (either (not has_subcommand && s.subcommand_required) (kind.MissingSubcommand ∷ []) _ (one kind.MissingSubcommand)
      (either (not (s.subcommand_negates_reqs && has_subcommand) && list_any (λ a. a.required && not (is_given a.id rows)) s.rules) (kind.MissingRequiredArgument ∷ []) []
      (one kind.MissingRequiredArgument) none))

  of_level : (names : Names) (h : Held) (words : List Text) (has_subcommand : Bool) (below : Kinds) → OneSort below → OneSort (level_fault s names h words has_subcommand below)
  of_level names h words has_subcommand below under =
      let end = (walk s.rules names h words).held in
      first_of_two _ _ (of_walk names (walk_from h) words)
      (first_of_two _ _ under
      (first_of_two _ _ (of_settle s.rules s.args_override_self end)
      (first_of_two _ _ (of_defaults s.rules (settled s.rules end).rows) (of_check (finished s.rules end) has_subcommand))))

of_found : (name : Text) (words : List Text) (subs : List Shape) → list_all (λ (s : Shape). s.disable_help_subcommand) subs ≡ true
    → OneSort (option_map_or (λ s. level_fault s [] nothing_held words false []) (find (λ s. answers_to name (label_of s)) subs) [])
of_found name words [] all = none
of_found name words (s ∷ subs) all = go (answers_to name (label_of s)) refl (of_found name words subs (both _ _ all).1)
  where
    go : (b : Bool) → answers_to name (label_of s) ≡ b
        → OneSort (option_map_or (λ s. level_fault s [] nothing_held words false []) (find (λ s. answers_to name (label_of s)) subs) [])
        → OneSort (option_map_or (λ s. level_fault s [] nothing_held words false []) (find (λ s. answers_to name (label_of s)) (s ∷ subs)) [])
    go true e rest = rw e (of_level s (both _ _ all).0 [] nothing_held words false [] none)
    go false e rest = rw e rest

of_app : (a : App) → a.top.disable_help_subcommand ≡ true → list_all (λ (s : Shape). s.disable_help_subcommand) a.subs ≡ true → (h : Held) (words : List Text) → OneSort (built_fault a h words)
of_app a top subs h words = of_level a.top top _ h words _ _ (go (walk a.top.rules _ h words).stopped)
  where
    go : (stop : Option (Text × List Text)) → OneSort (entered_fault a stop)
    go None = none
    go (Some p) = of_found p.0 p.1 a.subs subs

pub one_sort : (arguments : List Text) → list_any is_help (refusals arguments) ≡ true → list_any (λ k. not (is_help k)) (refusals arguments) ≡ false
unfolding OneSort clap_on_literals
one_sort arguments = of_app (built ra_app) refl refl nothing_held (argument_words ra_app arguments)
