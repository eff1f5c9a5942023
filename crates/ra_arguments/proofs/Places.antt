-- The place in memory of the words that an option takes makes no difference to how the parser reads arguments.
use Rattle.std.proofs.Common.{◌≡◌, ◌∙◌, ◌+◌, ◌==◌, ◌&&◌, ◌||◌, ℕ, Bool, true, false, not, zero, suc, List, [], ◌∷◌, map, Option, Some, None, is_some, option_map, length, drop, min, refl, ap, ap₂, Bor}
use Rattle.std.specs.Prelude.{if◌then◌else◌, find, fold, encode_utf8, slice_get}
use Rattle.std.specs.List.{list_any}
use Rattle.std.specs.Option.{option_map_or}
use Rattle.std.specs.Str.{bytes_eq, chars}
use Rattle.clap.specs.Lexer.{long_of, short_of}
use Rattle.clap.specs.Facts.{explicit_source, parser_of_value, unwrap_or_range}
use Rattle.clap.specs.Values.{reading_of, refused_kind, same_text}
use Rattle.clap.specs.Matches.{count_text}
use Rattle.clap.specs.Kinds.{Kinds, check_kinds, or_else, value_kinds, values_kinds, range_kinds, request_kinds}
use Rattle.clap.specs.Walk.{default_rows, most_values, pushed, stop_after, Held, Names, Outcome, Row, Rule, Step, Text, Waiting, Walk, action_of, answers_to, arg_by_id, arg_by_index, arg_by_long, arg_by_short, attached_value, bundle, bundle_met, bundle_step, count_of, done, plain, waits, refused, finished, flag_met, has_long, has_row, has_short, idle, option, positional, is_empty, is_pending, long_met, long_or_other, long_word, nothing_held, option_met, option_word, plain_word, after_flag, positional_held, reacted, rows_after, settled, settled_rows, short_met, short_or_plain, short_word, next, trailing, subcommand, value, subcommand_or_other, subcommand_met, takes_several, takes_values, to_positional, after_step, used, used_as, used_by_id, values_or_missing, walk, walk_from, walked, walked_from, with_default, word_met}
use Rattle.clap.specs.Simple.{App, Shape, entered, label_of, names_of, rows_at}
use Rattle.clap.specs.Takes.{is_given}
use Rattle.clap.specs.Faults.{action_fault, repeat_fault, built_fault, bundle_fault, bundle_step_fault, check_fault, count_fault, default_fault, defaults_fault, entered_fault, flag_word_fault, flags_fault, level_fault, long_fault, option_fault, other_fault, positional_fault, react_fault, set_fault, settle_fault, short_fault, stray_fault, step_fault, turn_fault, use_fault, values_fault, walk_fault, word_fault}
use Rattle.clap.specs.declared.builder.action.ArgAction.{ArgAction}
use Rattle.clap.specs.declared.builder.action.ArgAction.TheVariants as act
use Rattle.clap.specs.declared.builder.value_parser.ValueParser.{ValueParser}
use Rattle.clap.specs.declared.builder.value_parser.ValueParser.TheVariants as vp
use Rattle.clap.specs.declared.error.kind.ErrorKind.TheVariants.{TooManyValues}

-- ---- words without their places

abbrev pub unplaced : Bor Text → Bor Text
unplaced word = record { ref_ptr = (0, 0); now = word.now }

abbrev pub placeless : ValueParser → ValueParser
placeless (vp.Names names) = vp.Names (record { ref_ptr = (0, 0); now = map unplaced names.now })
placeless parser = parser

abbrev pub without_places : Rule → Rule
without_places a = record a { parser = option_map placeless a.parser }

abbrev pub rules_without_places : List Rule → List Rule
rules_without_places = map without_places

any_of : (ignore_case : Bool) (text : Text) (names : List (Bor Text)) → list_any (λ name. same_text ignore_case name.now text) (map unplaced names) ≡ list_any (λ name. same_text ignore_case name.now text) names
any_of ignore_case text [] = refl
any_of ignore_case text (n ∷ ns) = ap (λ b. same_text ignore_case n.now text || b) (any_of ignore_case text ns)

kinds_same : (ignore_case : Bool) (p : ValueParser) (text : Text) → value_kinds ignore_case (placeless p) text ≡ value_kinds ignore_case p text
kinds_same ignore_case (vp.Names names) text = ap (λ b. if b then [] else refused_kind (vp.Names names) ∷ []) (any_of ignore_case text names.now)
kinds_same ignore_case vp.String text = refl
kinds_same ignore_case vp.Falsey text = refl
kinds_same ignore_case vp.NonEmptyString text = refl
kinds_same ignore_case vp.Bool text = refl
kinds_same ignore_case vp.Boolish text = refl
kinds_same ignore_case (vp.Signed low high) text = refl
kinds_same ignore_case (vp.Unsigned low high) text = refl
kinds_same ignore_case vp.Float text = refl
kinds_same ignore_case vp.Char text = refl
kinds_same ignore_case (vp.Values values) text = refl

given_same : (ignore_case : Bool) (p : Option ValueParser) (text : Text) → value_kinds ignore_case (parser_of_value (option_map placeless p)) text ≡ value_kinds ignore_case (parser_of_value p) text
given_same ignore_case None text = refl
given_same ignore_case (Some p) text = kinds_same ignore_case p text

reading_same_of : (p : ValueParser) → reading_of (placeless p) ≡ reading_of p
reading_same_of (vp.Names names) = refl
reading_same_of vp.String = refl
reading_same_of vp.Falsey = refl
reading_same_of vp.NonEmptyString = refl
reading_same_of vp.Bool = refl
reading_same_of vp.Boolish = refl
reading_same_of (vp.Signed low high) = refl
reading_same_of (vp.Unsigned low high) = refl
reading_same_of vp.Float = refl
reading_same_of vp.Char = refl
reading_same_of (vp.Values values) = refl

reading_of_same : (p : Option ValueParser) → reading_of (parser_of_value (option_map placeless p)) ≡ reading_of (parser_of_value p)
reading_of_same None = refl
reading_of_same (Some p) = reading_same_of p

find_same : (P : Rule → Bool) → ((a : Rule) → P (without_places a) ≡ P a) → (c : List Rule) → find P (map without_places c) ≡ option_map without_places (find P c)
find_same P same [] = refl
find_same P same (a ∷ c) = go (P a) refl (find_same P same c)
  where
    go : (b : Bool) → P a ≡ b → find P (map without_places c) ≡ option_map without_places (find P c) → find P (map without_places (a ∷ c)) ≡ option_map without_places (find P (a ∷ c))
    go true e rest = rw (same a, e) refl
    go false e rest = rw (same a, e) rest

by_id : (c : List Rule) (id : Text) → arg_by_id (rules_without_places c) id ≡ option_map without_places (arg_by_id c id)
by_id c id = find_same (λ a. bytes_eq a.id id) (λ a. refl) c

by_long : (c : List Rule) (name : Text) → arg_by_long (rules_without_places c) name ≡ option_map without_places (arg_by_long c name)
by_long c name = find_same (λ a. not (is_some a.index) && has_long a name) (λ a. refl) c

by_short : (c : List Rule) (x : ℕ) → arg_by_short (rules_without_places c) x ≡ option_map without_places (arg_by_short c x)
by_short c x = find_same (λ a. not (is_some a.index) && has_short a x) (λ a. refl) c

by_index : (c : List Rule) (i : ℕ) → arg_by_index (rules_without_places c) i ≡ option_map without_places (arg_by_index c i)
by_index c i = find_same (λ a. option_map_or (λ k. k == i) a.index false) (λ a. refl) c

-- ---- what a use of an option does

used_same : (a : Rule) (values : List Text) (rows : List Row) → used (without_places a) values rows ≡ used a values rows
used_same a values rows = ap (λ how. used_as (action_of a) a.id how (values_or_missing a values) rows) (reading_of_same a.parser)

used_by_same : (o : Option Rule) (values : List Text) (rows : List Row) → used_by_id (option_map without_places o) values rows ≡ used_by_id o values rows
used_by_same None values rows = refl
used_by_same (Some a) values rows = used_same a values rows

module _ (c : List Rule) where
  settled_rows_same : (p : Option (Text × List Text)) (rows : List Row) → settled_rows (rules_without_places c) p rows ≡ settled_rows c p rows
  settled_rows_same None rows = refl
  settled_rows_same (Some p) rows = ap (λ o. used_by_id o p.1 rows) (by_id c p.0) ∙ used_by_same (arg_by_id c p.0) p.1 rows

  settled_same : (h : Held) → settled (rules_without_places c) h ≡ settled c h
  settled_same h = ap (λ rows. record h { rows = rows; pending = None }) (settled_rows_same h.pending h.rows)

  reacted_same : (a : Rule) (values : List Text) (h : Held) → reacted (rules_without_places c) (without_places a) values h ≡ reacted c a values h
  reacted_same a values h = ap (λ rows. record h { rows = rows; pending = None })
      (ap (λ (k : Held). used (without_places a) values k.rows) (settled_same h) ∙ used_same a values (settled c h).rows)

  option_same : (a : Rule) (v : Option Text) (h : Held) → option_met (rules_without_places c) (without_places a) v h ≡ option_met c a v h
  option_same a (Some v) h = ap (λ k. (k, done)) (reacted_same a (v ∷ []) h)
  option_same a None h = ap (λ (k : Held). (record k { pending = Some (a.id, []) }, waits a.id)) (settled_same h)

  flag_same : (a : Rule) (v : Option Text) (h : Held) → flag_met (rules_without_places c) (without_places a) v h ≡ flag_met c a v h
  flag_same a (Some v) h = refl
  flag_same a None h = ap (λ k. (k, done)) (reacted_same a [] h)

  long_same_of : (o : Option Rule) (v : Option Text) (h : Held) → long_met (rules_without_places c) (option_map without_places o) v h ≡ long_met c o v h
  long_same_of None v h = refl
  long_same_of (Some a) v h = ap₂ (λ x y. if takes_values a then x else y) (option_same a v h) (flag_same a v h)

  long_same : (name : Text) (v : Option Text) (h : Held) → long_met (rules_without_places c) (arg_by_long (rules_without_places c) name) v h ≡ long_met c (arg_by_long c name) v h
  long_same name v h = ap (λ o. long_met (rules_without_places c) o v h) (by_long c name) ∙ long_same_of (arg_by_long c name) v h

  short_same_of : (o : Option Rule) (rest : Text) (h : Held) (after' after : Held → Held × Outcome) → ((k : Held) → after' k ≡ after k)
      → short_met (rules_without_places c) (option_map without_places o) rest h after' ≡ short_met c o rest h after
  short_same_of None rest h after' after same = refl
  short_same_of (Some a) rest h after' after same = ap₂ (λ x y. if takes_values a then x else y) (option_same a (attached_value rest) h)
      (ap after' (reacted_same a [] h) ∙ same (reacted c a [] h))

  step_same : (x : Option ℕ) (flags : Text) (skip : ℕ) (so_far : Outcome) (h : Held) (after' after : Text → ℕ → Outcome → Held → Held × Outcome)
      → ((t : Text) (n : ℕ) (o : Outcome) (k : Held) → after' t n o k ≡ after t n o k)
      → bundle_step (rules_without_places c) x flags skip so_far h after' ≡ bundle_step c x flags skip so_far h after
  step_same None flags skip so_far h after' after same = refl
  step_same (Some x) flags zero so_far h after' after same =
      let rest = drop (length (encode_utf8 x)) flags in
      ap (λ o. short_met (rules_without_places c) o rest h (after' rest 0 done)) (by_short c x)
      ∙ short_same_of (arg_by_short c x) rest h (after' rest 0 done) (after rest 0 done) (λ k. same rest 0 done k)
  step_same (Some x) flags (suc skip) so_far h after' after same = same (drop (length (encode_utf8 x)) flags) skip so_far h

  bundle_met_same : (k : ℕ) (flags : Text) (skip : ℕ) (so_far : Outcome) (h : Held) → bundle_met (rules_without_places c) k flags skip so_far h ≡ bundle_met c k flags skip so_far h
  unfolding bundle_met
  bundle_met_same zero flags skip so_far h = refl
  bundle_met_same (suc k) flags skip so_far h = step_same (slice_get (chars flags) 0) flags skip so_far h (bundle_met (rules_without_places c) k) (bundle_met c k) (bundle_met_same k)

  bundle_same : (flags : Text) (h : Held) → bundle (rules_without_places c) flags h ≡ bundle c flags h
  bundle_same flags h = bundle_met_same (length flags) flags h.skip plain (record h { skip = 0 })

  -- ---- a word

  option_word_same : (o : Option Rule) (id word : Text) (h : Held) → option_word (option_map without_places o) id word h ≡ option_word o id word h
  option_word_same None id word h = refl
  option_word_same (Some a) id word h = refl

  plain_same : (w : Waiting) (word : Text) (h : Held) → plain_word (rules_without_places c) w word h ≡ plain_word c w word h
  plain_same (option id) word h =
      let same = ap (λ o. option_word o id word h) (by_id c id) ∙ option_word_same (arg_by_id c id) id word h in ap (λ (p : Held × Waiting). (p.0, next p.1)) same
  plain_same idle word h = refl
  plain_same positional word h = refl

  after_flag_same : (w : Waiting) (word : Text) (h : Held) (o : Outcome) → after_flag (rules_without_places c) w word h o ≡ after_flag c w word h o
  after_flag_same w word h done = refl
  after_flag_same w word h (waits id) = refl
  after_flag_same w word h plain = plain_same w word h
  after_flag_same w word h refused = plain_same w word h

  long_word_same : (w : Waiting) (word name : Text) (v : Option Text) (h : Held) → long_word (rules_without_places c) w word name v h ≡ long_word c w word name v h
  long_word_same w word name v h = ap (λ (p : Held × Outcome). after_flag (rules_without_places c) w word p.0 p.1) (long_same name v h)
      ∙ after_flag_same w word (long_met c (arg_by_long c name) v h).0 (long_met c (arg_by_long c name) v h).1

  short_word_same : (w : Waiting) (word flags : Text) (h : Held) → short_word (rules_without_places c) w word flags h ≡ short_word c w word flags h
  short_word_same w word flags h = ap (λ (p : Held × Outcome). after_flag (rules_without_places c) w word p.0 p.1) (bundle_same flags h)
      ∙ after_flag_same w word (bundle c flags h).0 (bundle c flags h).1

  short_or_plain_same : (w : Waiting) (word : Text) (o : Option Text) (h : Held) → short_or_plain (rules_without_places c) w word o h ≡ short_or_plain c w word o h
  short_or_plain_same w word (Some flags) h = short_word_same w word flags h
  short_or_plain_same w word None h = plain_same w word h

  long_or_other_same : (w : Waiting) (word : Text) (o : Option (Text × Option Text)) (h : Held) → long_or_other (rules_without_places c) w word o h ≡ long_or_other c w word o h
  long_or_other_same w word (Some p) h = long_word_same w word p.0 p.1 h
  long_or_other_same w word None h = short_or_plain_same w word (short_of word) h

  other_same : (o : Option Text) (w : Waiting) (position : ℕ) (word : Text) (h : Held)
      → subcommand_or_other (rules_without_places c) o w position word h ≡ subcommand_or_other c o w position word h
  other_same (Some name) w position word h = refl
  other_same None w position word h = ap (λ p. if bytes_eq word (45 ∷ 45 ∷ []) then (h, trailing position) else p) (long_or_other_same w word (long_of word) h)

  word_same : (names : Names) (is_trailing : Bool) (w : Waiting) (position : ℕ) (word : Text) (h : Held)
      → word_met (rules_without_places c) names is_trailing w position word h ≡ word_met c names is_trailing w position word h
  word_same names is_trailing w position word h = ap (λ p. if is_trailing then (h, value) else p) (other_same (subcommand_met names w word) w position word h)

  positional_same : (a : Rule) (word : Text) (h : Held) → positional_held (rules_without_places c) (without_places a) word h ≡ positional_held c a word h
  positional_same a word h = ap (λ k. pushed a.id word (if is_pending a h.pending && takes_several a then h else k)) (settled_same h)

  to_positional_same : (o : Option Rule) (word : Text) (w : Walk) (h : Held) → to_positional (rules_without_places c) (option_map without_places o) word w h ≡ to_positional c o word w h
  to_positional_same None word w h = refl
  to_positional_same (Some a) word w h = ap (λ held. record (to_positional c (Some a) word w h) { held = held }) (positional_same a word h)

  after_step_same : (word : Text) (w : Walk) (h : Held) (s : Step) → after_step (rules_without_places c) word w h s ≡ after_step c word w h s
  after_step_same word w h (next waiting) = refl
  after_step_same word w h (trailing position) = refl
  after_step_same word w h (subcommand name) = refl
  after_step_same word w h value = ap (λ o. to_positional (rules_without_places c) o word w h) (by_index c w.position) ∙ to_positional_same (arg_by_index c w.position) word w h

  walked_from_same : (names : Names) (stop : Option (Text × List Text)) (w : Walk) (word : Text) → walked_from (rules_without_places c) names stop w word ≡ walked_from c names stop w word
  walked_from_same names (Some p) w word = refl
  walked_from_same names None w word =
      let met = word_met c names w.is_trailing w.waiting w.position word w.held in
      ap (λ (p : Held × Step). after_step (rules_without_places c) word w p.0 p.1) (word_same names w.is_trailing w.waiting w.position word w.held) ∙ after_step_same word w met.0 met.1

  walked_same : (names : Names) (w : Walk) (word : Text) → walked (rules_without_places c) names w word ≡ walked c names w word
  unfolding walked
  walked_same names w word = walked_from_same names w.stopped w word

  fold_same : (names : Names) (w : Walk) (words : List Text) → fold (walked (rules_without_places c) names) w words ≡ fold (walked c names) w words
  fold_same names w [] = refl
  fold_same names w (word ∷ words) = ap (λ v. fold (walked (rules_without_places c) names) v words) (walked_same names w word) ∙ fold_same names (walked c names w word) words

  walk_same : (names : Names) (h : Held) (words : List Text) → walk (rules_without_places c) names h words ≡ walk c names h words
  walk_same names h words = fold_same names (walk_from h) words

default_same : (rows : List Row) (a : Rule) → with_default rows (without_places a) ≡ with_default rows a
default_same rows a = ap (λ how. if has_row a.id rows then rows else default_rows a.id how a.defaults rows) (reading_of_same a.parser)

defaults_same : (c : List Rule) (rows : List Row) → fold with_default rows (rules_without_places c) ≡ fold with_default rows c
defaults_same [] rows = refl
defaults_same (a ∷ c) rows = ap (λ r. fold with_default r (rules_without_places c)) (default_same rows a) ∙ defaults_same c (with_default rows a)

finished_same : (c : List Rule) (h : Held) → finished (rules_without_places c) h ≡ finished c h
finished_same c h = defaults_same c (settled (rules_without_places c) h).rows ∙ ap (λ (k : Held). fold with_default k.rows c) (settled_same c h)

rows_same : (c : List Rule) (names : Names) (words : List Text) → rows_after (rules_without_places c) names words ≡ rows_after c names words
rows_same c names words = ap (λ (w : Walk). finished (rules_without_places c) w.held) (walk_same c names nothing_held words) ∙ finished_same c (walk c names nothing_held words).held

-- ---- what is refused

values_kinds_same : (ignore_case : Bool) (p : Option ValueParser) (values : List Text) → values_kinds ignore_case (parser_of_value (option_map placeless p)) values ≡ values_kinds ignore_case (parser_of_value p) values
values_kinds_same ignore_case p [] = refl
values_kinds_same ignore_case p (v ∷ vs) = ap₂ or_else (given_same ignore_case p v) (values_kinds_same ignore_case p vs)

values_same : (a : Rule) (values : List Text) → values_fault (without_places a) values ≡ values_fault a values
values_same a values = values_kinds_same a.ignore_case a.parser values

count_same : (a : Rule) (values : List Text) (rows : List Row) → count_fault (without_places a) values rows ≡ count_fault a values rows
count_same a [] rows = given_same a.ignore_case a.parser (count_text (min (count_of a.id rows + 1) 255))
count_same a (v ∷ vs) rows = values_same a (v ∷ vs)

set_same : (again : Bool) (a : Rule) (values : List Text) (rows : List Row) → set_fault again (without_places a) values rows ≡ set_fault again a values rows
set_same again a values rows = ap (or_else (repeat_fault again a.id rows)) (values_same a values)

action_same : (x : ArgAction) (again : Bool) (a : Rule) (values : List Text) (rows : List Row) → action_fault x again (without_places a) values rows ≡ action_fault x again a values rows
action_same act.Set again a values rows = set_same again a values rows
action_same act.SetTrue again a values rows = set_same again a values rows
action_same act.SetFalse again a values rows = set_same again a values rows
action_same act.Append again a values rows = values_same a values
action_same act.Count again a values rows = count_same a values rows
action_same act.Help again a values rows = refl
action_same act.HelpShort again a values rows = refl
action_same act.HelpLong again a values rows = refl
action_same act.Version again a values rows = refl

use_same : (again : Bool) (a : Rule) (values : List Text) (rows : List Row) → use_fault again (without_places a) values rows ≡ use_fault again a values rows
use_same again a values rows = ap (or_else (range_kinds (unwrap_or_range a.range).start_inclusive (most_values a) (length values)))
    (action_same (action_of a) again a (values_or_missing a values) rows)

use_by_same : (again : Bool) (o : Option Rule) (values : List Text) (rows : List Row)
    → option_map_or (λ a. use_fault again a values rows) (option_map without_places o) [] ≡ option_map_or (λ a. use_fault again a values rows) o []
use_by_same again None values rows = refl
use_by_same again (Some a) values rows = use_same again a values rows

module _ (c : List Rule) (again : Bool) where
  pending_same : (p : Option (Text × List Text)) (rows : List Row)
      → option_map_or (λ p. option_map_or (λ a. use_fault again a p.1 rows) (arg_by_id (rules_without_places c) p.0) []) p []
      ≡ option_map_or (λ p. option_map_or (λ a. use_fault again a p.1 rows) (arg_by_id c p.0) []) p []
  pending_same None rows = refl
  pending_same (Some p) rows = ap (λ o. option_map_or (λ a. use_fault again a p.1 rows) o []) (by_id c p.0) ∙ use_by_same again (arg_by_id c p.0) p.1 rows

  settle_same : (h : Held) → settle_fault (rules_without_places c) again h ≡ settle_fault c again h
  settle_same h = pending_same h.pending h.rows

  react_same : (a : Rule) (values : List Text) (h : Held) → react_fault (rules_without_places c) again (without_places a) values h ≡ react_fault c again a values h
  react_same a values h = ap₂ or_else (settle_same h) (ap (λ (k : Held). use_fault again (without_places a) values k.rows) (settled_same c h) ∙ use_same again a values (settled c h).rows)

  option_fault_same : (a : Rule) (v : Option Text) (h : Held) → option_fault (rules_without_places c) again (without_places a) v h ≡ option_fault c again a v h
  option_fault_same a (Some v) h = react_same a (v ∷ []) h
  option_fault_same a None h = settle_same h

  long_fault_same_of : (o : Option Rule) (v : Option Text) (h : Held) → long_fault (rules_without_places c) again (option_map without_places o) v h ≡ long_fault c again o v h
  long_fault_same_of None v h = refl
  long_fault_same_of (Some a) v h = ap₂ (λ x y. if takes_values a then x else (if is_some v then TooManyValues ∷ [] else y))
      (option_fault_same a v h) (react_same a [] h)

  short_fault_same_of : (o : Option Rule) (rest : Text) (h : Held) (after' after : Held → Kinds) → ((k : Held) → after' k ≡ after k)
      → short_fault (rules_without_places c) again (option_map without_places o) rest h after' ≡ short_fault c again o rest h after
  short_fault_same_of None rest h after' after same = refl
  short_fault_same_of (Some a) rest h after' after same = ap₂ (λ x y. if takes_values a then x else y) (option_fault_same a (attached_value rest) h)
      (ap₂ or_else (react_same a [] h) (ap after' (reacted_same c a [] h) ∙ same (reacted c a [] h)))

  bundle_step_same : (x : Option ℕ) (flags : Text) (skip : ℕ) (h : Held) (after' after : Text → ℕ → Held → Kinds)
      → ((t : Text) (n : ℕ) (k : Held) → after' t n k ≡ after t n k)
      → bundle_step_fault (rules_without_places c) again x flags skip h after' ≡ bundle_step_fault c again x flags skip h after
  bundle_step_same None flags skip h after' after same = refl
  bundle_step_same (Some x) flags zero h after' after same =
      let rest = drop (length (encode_utf8 x)) flags in
      ap (λ o. short_fault (rules_without_places c) again o rest h (after' rest 0)) (by_short c x)
      ∙ short_fault_same_of (arg_by_short c x) rest h (after' rest 0) (after rest 0) (λ k. same rest 0 k)
  bundle_step_same (Some x) flags (suc skip) h after' after same = same (drop (length (encode_utf8 x)) flags) skip h

  flags_same : (k : ℕ) (flags : Text) (skip : ℕ) (h : Held) → flags_fault (rules_without_places c) again k flags skip h ≡ flags_fault c again k flags skip h
  unfolding flags_fault
  flags_same zero flags skip h = refl
  flags_same (suc k) flags skip h = bundle_step_same (slice_get (chars flags) 0) flags skip h (flags_fault (rules_without_places c) again k) (flags_fault c again k) (flags_same k)

  short_part_same : (o : Option Text) (h : Held) → option_map_or (λ flags. bundle_fault (rules_without_places c) again flags h) o [] ≡ option_map_or (λ flags. bundle_fault c again flags h) o []
  short_part_same None h = refl
  short_part_same (Some flags) h = flags_same (length flags) flags h.skip (record h { skip = 0 })

  flag_word_same : (o : Option (Text × Option Text)) (word : Text) (h : Held) → flag_word_fault (rules_without_places c) again o word h ≡ flag_word_fault c again o word h
  flag_word_same (Some p) word h = ap (λ o. long_fault (rules_without_places c) again o p.1 h) (by_long c p.0) ∙ long_fault_same_of (arg_by_long c p.0) p.1 h
  flag_word_same None word h = short_part_same (short_of word) h

  positional_fault_same : (a : Rule) (h : Held) → positional_fault (rules_without_places c) again (without_places a) h ≡ positional_fault c again a h
  positional_fault_same a h = ap (λ k. if is_pending a h.pending && takes_several a then [] else k) (settle_same h)

  positional_by_same : (stray : Kinds) (o : Option Rule) (h : Held)
      → option_map_or (λ a. positional_fault (rules_without_places c) again a h) (option_map without_places o) stray ≡ option_map_or (λ a. positional_fault c again a h) o stray
  positional_by_same stray None h = refl
  positional_by_same stray (Some a) h = positional_fault_same a h

abbrev pub shape_without_places : Shape → Shape
shape_without_places s = record s { rules = rules_without_places s.rules }

module _ (s : Shape) where
  other_fault_same : (o : Option Text) (word : Text) (h : Held) → other_fault (shape_without_places s) o word h ≡ other_fault s o word h
  other_fault_same (Some name) word h = refl
  other_fault_same None word h = ap (λ k. if bytes_eq word (45 ∷ 45 ∷ []) then [] else k) (flag_word_same s.rules s.args_override_self (long_of word) word h)

  word_fault_same : (names : Names) (is_trailing : Bool) (w : Waiting) (word : Text) (h : Held) → word_fault (shape_without_places s) names is_trailing w word h ≡ word_fault s names is_trailing w word h
  word_fault_same names is_trailing w word h = ap (λ k. if is_trailing then [] else k) (other_fault_same (subcommand_met names w word) word h)

  step_fault_same : (position : ℕ) (h : Held) (x : Step) → step_fault (shape_without_places s) position h x ≡ step_fault s position h x
  step_fault_same position h (next waiting) = refl
  step_fault_same position h (trailing p) = refl
  step_fault_same position h (subcommand name) = refl
  step_fault_same position h value =
      ap (λ o. option_map_or (λ a. positional_fault (rules_without_places s.rules) s.args_override_self a h) o (stray_fault s)) (by_index s.rules position)
      ∙ positional_by_same s.rules s.args_override_self (stray_fault s) (arg_by_index s.rules position) h

  turn_same : (names : Names) (w : Walk) (word : Text) → turn_fault (shape_without_places s) names w word ≡ turn_fault s names w word
  turn_same names w word =
      let met = word_met s.rules names w.is_trailing w.waiting w.position word w.held in
      ap₂ (λ x y. if is_some w.stopped then [] else or_else x y) (word_fault_same names w.is_trailing w.waiting word w.held)
      (ap (λ (p : Held × Step). step_fault (shape_without_places s) w.position p.0 p.1) (word_same s.rules names w.is_trailing w.waiting w.position word w.held)
      ∙ step_fault_same w.position met.0 met.1)

  walk_fault_same : (names : Names) (w : Walk) (words : List Text) → walk_fault (shape_without_places s) names w words ≡ walk_fault s names w words
  unfolding walk_fault
  walk_fault_same names w [] = refl
  walk_fault_same names w (word ∷ words) = ap₂ or_else (turn_same names w word)
      (ap (λ v. walk_fault (shape_without_places s) names v words) (walked_same s.rules names w word) ∙ walk_fault_same names (walked s.rules names w word) words)

default_fault_same : (rows : List Row) (a : Rule) → default_fault rows (without_places a) ≡ default_fault rows a
default_fault_same rows a = ap (λ k. if has_row a.id rows || is_empty a.defaults then [] else or_else (request_kinds (action_of a)) k) (values_same a a.defaults)

defaults_fault_same : (c : List Rule) (rows : List Row) → defaults_fault rows (rules_without_places c) ≡ defaults_fault rows c
unfolding defaults_fault
defaults_fault_same [] rows = refl
defaults_fault_same (a ∷ c) rows = ap₂ or_else (default_fault_same rows a) (ap (λ r. defaults_fault r (rules_without_places c)) (default_same rows a) ∙ defaults_fault_same c (with_default rows a))

required_same : (c : List Rule) (rows : List Row) → list_any (λ a. a.required && not (is_given a.id rows)) (rules_without_places c) ≡ list_any (λ a. a.required && not (is_given a.id rows)) c
required_same [] rows = refl
required_same (a ∷ c) rows = ap (λ b. (a.required && not (is_given a.id rows)) || b) (required_same c rows)

check_same : (s : Shape) (rows : List Row) (has_subcommand : Bool) → check_fault (shape_without_places s) rows has_subcommand ≡ check_fault s rows has_subcommand
check_same s rows has_subcommand = ap (λ b. check_kinds
    (not has_subcommand && (s.arg_required_else_help && not (list_any (λ r. explicit_source r.source) rows)))
    (not has_subcommand && s.subcommand_required)
    (not (s.subcommand_negates_reqs && has_subcommand) && b)) (required_same s.rules rows)

-- one level of a parse is refused for the same cause
pub level_same : (s : Shape) (names : Names) (h : Held) (words : List Text) (has_subcommand : Bool) (below : Kinds)
    → level_fault (shape_without_places s) names h words has_subcommand below ≡ level_fault s names h words has_subcommand below
level_same s names h words has_subcommand below =
    let end = (walk s.rules names h words).held in
    let same : (walk (rules_without_places s.rules) names h words).held ≡ end = ap (λ (w : Walk). w.held) (walk_same s.rules names h words) in
    ap₂ or_else (walk_fault_same s names (walk_from h) words)
    (ap (or_else below) (ap₂ or_else
    (ap (settle_fault (rules_without_places s.rules) s.args_override_self) same ∙ settle_same s.rules s.args_override_self end)
    (ap₂ or_else
    (ap (λ e. defaults_fault (settled (rules_without_places s.rules) e).rows (rules_without_places s.rules)) same
    ∙ (ap (λ (k : Held). defaults_fault k.rows (rules_without_places s.rules)) (settled_same s.rules end) ∙ defaults_fault_same s.rules (settled s.rules end).rows))
    (ap (λ e. check_fault (shape_without_places s) (finished (rules_without_places s.rules) e) has_subcommand) same
    ∙ (ap (λ rows. check_fault (shape_without_places s) rows has_subcommand) (finished_same s.rules end) ∙ check_same s (finished s.rules end) has_subcommand)))))

-- ---- an application, but for its own options, which take no words

abbrev pub app_without_places : App → App
app_without_places a = record a { subs = map shape_without_places a.subs }

names_same : (subs : List Shape) → map label_of (map shape_without_places subs) ≡ map label_of subs
names_same [] = refl
names_same (s ∷ subs) = ap (λ names. label_of s ∷ names) (names_same subs)

find_shape : (name : Text) (subs : List Shape) → find (λ s. answers_to name (label_of s)) (map shape_without_places subs) ≡ option_map shape_without_places (find (λ s. answers_to name (label_of s)) subs)
find_shape name [] = refl
find_shape name (s ∷ subs) = go (answers_to name (label_of s)) refl (find_shape name subs)
  where
    go : (b : Bool) → answers_to name (label_of s) ≡ b
        → find (λ s. answers_to name (label_of s)) (map shape_without_places subs) ≡ option_map shape_without_places (find (λ s. answers_to name (label_of s)) subs)
        → find (λ s. answers_to name (label_of s)) (map shape_without_places (s ∷ subs)) ≡ option_map shape_without_places (find (λ s. answers_to name (label_of s)) (s ∷ subs))
    go true e rest = rw e refl
    go false e rest = rw e rest

fault_in : (o : Option Shape) (words : List Text) → option_map_or (λ s. level_fault s [] nothing_held words false []) (option_map shape_without_places o) [] ≡ option_map_or (λ s. level_fault s [] nothing_held words false []) o []
fault_in None words = refl
fault_in (Some s) words = level_same s [] nothing_held words false []

entered_fault_same : (a : App) (stop : Option (Text × List Text)) → entered_fault (app_without_places a) stop ≡ entered_fault a stop
entered_fault_same a None = refl
entered_fault_same a (Some p) = ap (λ o. option_map_or (λ s. level_fault s [] nothing_held p.1 false []) o []) (find_shape p.0 a.subs) ∙ fault_in (find (λ s. answers_to p.0 (label_of s)) a.subs) p.1

rows_in : (o : Option Shape) (words : List Text) → option_map (λ s. rows_at s words) (option_map shape_without_places o) ≡ option_map (λ s. rows_at s words) o
rows_in None words = refl
rows_in (Some s) words = ap (λ rows. Some (s.name, rows)) (rows_same s.rules [] words)

pub entered_same : (a : App) (stop : Option (Text × List Text)) → entered (app_without_places a) stop ≡ entered a stop
entered_same a None = refl
entered_same a (Some p) = ap (option_map (λ s. rows_at s p.1)) (find_shape p.0 a.subs) ∙ rows_in (find (λ s. answers_to p.0 (label_of s)) a.subs) p.1

-- a parse of the application is refused for the same cause
pub fault_same : (a : App) (h : Held) (words : List Text) → built_fault (app_without_places a) h words ≡ built_fault a h words
fault_same a h words = ap (λ names. let stop = (walk a.top.rules names h words).stopped in
    level_fault a.top names h words (is_some (entered (app_without_places a) stop)) (entered_fault (app_without_places a) stop)) (names_same a.subs)
    ∙ (let stop = (walk a.top.rules (names_of a) h words).stopped in
    ap₂ (λ e f. level_fault a.top (names_of a) h words (is_some e) f) (entered_same a stop) (entered_fault_same a stop))

-- and it enters the same command with the same values
pub stop_same : (a : App) (words : List Text) → entered (app_without_places a) (stop_after a.top.rules (names_of (app_without_places a)) words) ≡ entered a (stop_after a.top.rules (names_of a) words)
stop_same a words = ap (λ names. entered (app_without_places a) (stop_after a.top.rules names words)) (names_same a.subs) ∙ entered_same a (stop_after a.top.rules (names_of a) words)
