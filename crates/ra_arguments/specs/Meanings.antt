-- What the values of a command's options mean.
use Rattle.std.specs.Prelude.{◌^◌, ◌+◌, ◌==◌, ◌&&◌, ℕ, Bool, true, false, List, [], ◌∷◌, Option, Some, None, Result, Ok, Err, if◌then◌else◌, nat_le, nat_lt, codes, ok_or, option_map, option_and_then, unwrap_or}
use Rattle.std.specs.Option.{option_map_or}
use Rattle.std.specs.Str.{bytes_eq}
use Rattle.std.specs.Str.Parse.{digits_value, without_leading_plus}
use Rattle.clap.specs.ValueTests.{is_numeral}
use Rattle.clap.specs.Words.{Row, Text, first_of}
use Rattle.clap.specs.Walk.{one_of}
use Rattle.ra_schedule.specs.Faults.{FaultRates}
use Rattle.ra_script.specs.declared.output_kind.OutputKind.{OutputKind}
use Rattle.ra_script.specs.declared.output_kind.OutputKind.TheVariants as prints
use Rattle.ra_schedule.specs.declared.surveys.first_seed.Ending.{Ending}
use Rattle.ra_schedule.specs.declared.surveys.first_seed.Ending.TheVariants.{Finished, Stuck}
use Rattle.ra_schedule.specs.declared.surveys.seed_range.SeedRange.{SeedRange}
use Rattle.ra_text.specs.declared.drawn_part.Part.{Part}
use Rattle.ra_arguments.specs.declared.cluster_output.ClusterOutput.{ClusterOutput}
use Rattle.ra_arguments.specs.declared.cluster_output.ClusterOutput.TheVariants as cluster_prints
use Rattle.ra_arguments.specs.declared.command_line.PolicyName.{PolicyName}
use Rattle.ra_arguments.specs.declared.command_line.PolicyName.TheVariants.{Oldest, Newest, Seeded, Faulty, Listed}
use Rattle.ra_arguments.specs.declared.command_line.input_kind.InputKind.{InputKind}
use Rattle.ra_arguments.specs.declared.command_line.input_kind.InputKind.TheVariants as reads
use Rattle.ra_arguments.specs.declared.command_line.search.Search.{Search}
use Rattle.ra_arguments.specs.declared.command_line.search.SurveyTask.{SurveyTask}
use Rattle.ra_arguments.specs.declared.form.Form.{Form}
use Rattle.ra_arguments.specs.declared.form.Form.TheVariants.{Json, Words}
use Rattle.ra_arguments.specs.declared.usage_fault.UsageCause.{UsageCause}
use Rattle.ra_arguments.specs.declared.usage_fault.UsageCause.TheVariants as cause

-- What a command line means: a command, with all that was said of it.
pub data Meaning : Type 0 where
  -- the node and the number of nodes
  answer : ℕ → ℕ → Meaning
  -- the policy, the text of the choices, and what is printed of the run
  sim : PolicyName → Text → OutputKind → Meaning
  survey : SurveyTask → Meaning
  cluster : ClusterOutput → Meaning
  -- what is read, whether its run has to be complete, and in which form the verdict is printed
  check : InputKind → (complete : Bool) → Form → Meaning
  -- the same of a text that may be longer; after how many lines each time it is told what they come to, or 0 for never
  follow : InputKind → (every : ℕ) → (complete : Bool) → Form → Meaning
  -- of a mark log, each wrong line is told, and whether it has to be complete
  check_all : (complete : Bool) → Meaning
  draw : InputKind → Part → Meaning

-- a meaning, or the cause why it is missing
abbrev pub Meant : Type 0 → Type 0
Meant A = Result A UsageCause

-- what follows from the value, or the first cause
abbrev pub with_value : {A B : Type 0} → (A → Meant B) → Meant A → Meant B
with_value f (Ok x) = f x
with_value f (Err why) = Err why

-- ---- the value of an option: `rows` are the values by the names of the options

-- the number in decimal digits, with or without a leading plus, if it has no more than these bits
abbrev pub numeral : (bits : ℕ) → Text → Option ℕ
numeral bits text =
    let digits = without_leading_plus text in
    if is_numeral digits && nat_lt (digits_value 10 digits) (2 ^ bits) then Some (digits_value 10 digits) else None

abbrev pub number_in : (bits : ℕ) → Text → List Row → Option ℕ
number_in bits name rows = option_and_then (numeral bits) (one_of name rows)

-- the same, but `-0`, which the parser takes for 0, is no number
abbrev pub plain_number_in : (bits : ℕ) → Text → List Row → Option ℕ
plain_number_in bits name rows = option_and_then (numeral bits) (first_of name rows)

abbrev pub flag_in : Text → List Row → Bool
flag_in name rows = option_map_or (λ text. bytes_eq text (codes "true")) (first_of name rows) false

-- in which form results are printed
abbrev pub form_in : List Row → Form
form_in rows = if flag_in (codes "json") rows then Json else Words

-- ---- `answer`

abbrev pub answer_in : List Row → Meant Meaning
answer_in rows = with_value
    (λ node. with_value (λ nodes. Ok (answer node nodes)) (ok_or (plain_number_in 16 (codes "nodes") rows) cause.Nodes))
    (ok_or (plain_number_in 16 (codes "node") rows) cause.Node)

-- ---- `sim`

abbrev pub policy_named : (seed : ℕ) → FaultRates → Text → Option PolicyName
policy_named seed faults name =
    if bytes_eq name (codes "oldest") then Some Oldest
    else (if bytes_eq name (codes "newest") then Some Newest
    else (if bytes_eq name (codes "seeded") then Some (Seeded seed)
    else (if bytes_eq name (codes "faulty") then Some (Faulty seed faults)
    else (if bytes_eq name (codes "listed") then Some Listed else None))))

-- at most 400 of 1,000 messages are repeated, and at most all are lost or repeated
abbrev pub rates : (lose repeat : ℕ) → Option FaultRates
rates lose repeat = if nat_le repeat 400 && nat_le (lose + repeat) 1000
    then Some (record { lose = lose; repeat = repeat }) else None

abbrev pub rates_in : List Row → Option FaultRates
rates_in rows = option_and_then (λ lose. option_and_then (rates lose) (number_in 16 (codes "repeat") rows))
    (number_in 16 (codes "lose") rows)

-- the rates have to be in their range whatever the policy
abbrev pub policy_in : List Row → Option PolicyName
policy_in rows = option_and_then (λ seed. option_and_then
    (λ faults. option_and_then (policy_named seed faults) (first_of (codes "policy") rows)) (rates_in rows))
    (number_in 64 (codes "seed") rows)

-- At most one thing is printed in place of the lines. There is no word for a choice that repeats a message, so neither
-- choices nor a shorter run can be printed if some may. Otherwise the last of these options that is given is wrong.
abbrev pub printed_by : (may_repeat traces lists shrinks states : Bool) → Meant OutputKind
printed_by may_repeat false false false false = Ok prints.Lines
printed_by may_repeat true false false false = Ok prints.Trace
printed_by false false true false false = Ok prints.Choices
printed_by false false false true false = Ok prints.Shrunk
printed_by may_repeat false false false true = Ok prints.State
printed_by may_repeat traces lists shrinks true = Err cause.State
printed_by may_repeat traces lists true false = Err cause.Shrink
printed_by may_repeat traces lists false false = Err cause.AsChoices

-- what each step sends can only be printed in a trace
abbrev pub with_sends : (sends : Bool) → OutputKind → Meant OutputKind
with_sends false printed = Ok printed
with_sends true prints.Trace = Ok prints.TraceWithSends
with_sends true printed = Err cause.Sends

abbrev pub is_faulty : PolicyName → Bool
is_faulty Oldest = false
is_faulty Newest = false
is_faulty (Seeded seed) = false
is_faulty (Faulty seed faults) = true
is_faulty Listed = false

-- a run may repeat messages
abbrev pub repeats_in : PolicyName → List Row → Bool
repeats_in policy rows = option_map_or (λ repeat. nat_lt 0 repeat && is_faulty policy)
    (number_in 16 (codes "repeat") rows) false

abbrev pub printed_in : PolicyName → List Row → Meant OutputKind
printed_in policy rows = with_value (with_sends (flag_in (codes "sends") rows))
    (printed_by (repeats_in policy rows) (flag_in (codes "trace") rows) (flag_in (codes "as-choices") rows)
    (flag_in (codes "shrink") rows) (flag_in (codes "state") rows))

abbrev pub ending_named : Text → Ending
ending_named name = if bytes_eq name (codes "finished") then Finished else Stuck

abbrev pub ending_in : List Row → Option Ending
ending_in rows = option_map ending_named (first_of (codes "find") rows)

-- the text before the first two dots (46), and that after them
abbrev pub cut_at_dots : Text → Option (Text × Text)
cut_at_dots [] = None
cut_at_dots (a ∷ []) = None
cut_at_dots (a ∷ b ∷ rest) = if a == 46 && b == 46 then Some ([], rest)
    else option_map (λ p. (a ∷ p.0, p.1)) (cut_at_dots (b ∷ rest))

abbrev pub seeds_between : (first last : ℕ) → Meant SeedRange
seeds_between first last = if nat_le first last then Ok (record { first = first; last = last })
    else Err cause.SeedsOrder

abbrev pub seeds_of : Text × Text → Meant SeedRange
seeds_of (first, last) = with_value (λ a. with_value (seeds_between a) (ok_or (numeral 64 last) cause.Seeds))
    (ok_or (numeral 64 first) cause.Seeds)

-- two numbers with two dots between them, the first at most the last
abbrev pub seeds_in : Text → Meant SeedRange
seeds_in text = with_value seeds_of (ok_or (cut_at_dots text) cause.Seeds)

-- the faults of a policy of chance, if it has any
abbrev pub chance_of : PolicyName → Option (Option FaultRates)
chance_of Oldest = None
chance_of Newest = None
chance_of (Seeded seed) = Some None
chance_of (Faulty seed faults) = Some (Some faults)
chance_of Listed = None

-- What is looked for among runs, if an end is given. The trace of the run that is found is printed, unless choices are
-- asked for. The state of a run can't be printed, a finished run can't be shrunk, and without an end nothing about a
-- single run can be printed.
abbrev pub search_by : Option Ending → OutputKind → Meant (Option Search)
search_by None prints.Lines = Ok None
search_by None prints.Trace = Err cause.OneRun
search_by None prints.TraceWithSends = Err cause.OneRun
search_by None prints.Choices = Err cause.OneRun
search_by None prints.Shrunk = Err cause.OneRun
search_by None prints.State = Err cause.State
search_by (Some ending) prints.Lines = Ok (Some (record { ending = ending; format = prints.Trace }))
search_by (Some ending) prints.Trace = Ok (Some (record { ending = ending; format = prints.Trace }))
search_by (Some ending) prints.TraceWithSends = Ok (Some (record { ending = ending; format = prints.TraceWithSends }))
search_by (Some ending) prints.Choices = Ok (Some (record { ending = ending; format = prints.Choices }))
search_by (Some Finished) prints.Shrunk = Err cause.ShrinkFinished
search_by (Some Stuck) prints.Shrunk = Ok (Some (record { ending = Stuck; format = prints.Shrunk }))
search_by (Some ending) prints.State = Err cause.State

-- a run that is found is not printed as an object
abbrev pub form_with : Form → Option Search → Meant Form
form_with Words find = Ok Words
form_with Json None = Ok Json
form_with Json (Some search) = Err cause.Json

-- a survey under a policy of chance, of what is looked for, in a form, and with these seeds
abbrev pub survey_by : PolicyName → Text → Option Ending → OutputKind → Form → Meant SurveyTask
survey_by policy seeds ending printed form =
    with_value (λ faults. with_value (λ find. with_value (λ told. with_value (λ range. Ok (record {
      faults = faults;
      find = find;
      form = told;
      seeds = range;
    })) (seeds_in seeds)) (form_with form find)) (search_by ending printed))
    (ok_or (chance_of policy) cause.SeedsPolicy)

-- an end is looked for only under many seeds, and only a survey of these is printed as an object
abbrev pub run_by : PolicyName → Text → OutputKind → Option Ending → Form → Meant Meaning
run_by policy choices printed (Some ending) form = Err cause.Find
run_by policy choices printed None Words = Ok (sim policy choices printed)
run_by policy choices printed None Json = Err cause.Json

-- with `--seeds` a survey of many runs, and otherwise one run
abbrev pub sim_by : List Row → PolicyName → OutputKind → Option Text → Meant Meaning
sim_by rows policy printed (Some seeds) = with_value (λ asked. Ok (survey asked))
    (survey_by policy seeds (ending_in rows) printed (form_in rows))
sim_by rows policy printed None =
    run_by policy (unwrap_or (first_of (codes "choices") rows) []) printed (ending_in rows) (form_in rows)

abbrev pub sim_in : List Row → Meant Meaning
sim_in rows = with_value (λ policy. with_value (λ printed. sim_by rows policy printed (first_of (codes "seeds") rows))
    (printed_in policy rows))
    (ok_or (policy_in rows) cause.Rates)

-- ---- the other commands

abbrev pub cluster_by : (traces books : Bool) → Meant Meaning
cluster_by false false = Ok (cluster cluster_prints.Lines)
cluster_by true false = Ok (cluster cluster_prints.Trace)
cluster_by false true = Ok (cluster cluster_prints.Books)
cluster_by true true = Err cause.Books

abbrev pub cluster_in : List Row → Meant Meaning
cluster_in rows = cluster_by (flag_in (codes "trace") rows) (flag_in (codes "books") rows)

abbrev pub kind_in : List Row → InputKind
kind_in rows = if flag_in (codes "marks") rows then reads.Marks else reads.Trace

-- the number has a default
abbrev pub every_in : List Row → ℕ
every_in rows = unwrap_or (number_in 64 (codes "every") rows) 0

-- a text that is followed may be longer
abbrev pub check_one_in : List Row → Meaning
check_one_in rows = if flag_in (codes "follow") rows
    then follow (kind_in rows) (every_in rows) (flag_in (codes "complete") rows) (form_in rows)
    else check (kind_in rows) (flag_in (codes "complete") rows) (form_in rows)

-- only of a mark log, each wrong line can be told
abbrev pub check_in : List Row → Meaning
check_in rows = if flag_in (codes "marks") rows && flag_in (codes "all") rows
    then check_all (flag_in (codes "complete") rows)
    else check_one_in rows

-- the lines are counted from 1, and the first is at most the last
abbrev pub part_between : (from to : ℕ) → Option Part
part_between from to = if nat_le 1 from && nat_le from to then Some (record { from = from; to = to }) else None

abbrev pub part_in : List Row → Option Part
part_in rows = option_and_then (λ from. option_and_then (part_between from) (number_in 64 (codes "to") rows))
    (number_in 64 (codes "from") rows)

abbrev pub draw_in : List Row → Meant Meaning
draw_in rows = with_value (λ part. Ok (draw (kind_in rows) part)) (ok_or (part_in rows) cause.Part)

-- What a command means by the values of its options. What `node` and `settle` mean is said by the arguments themselves:
-- with values that the parser gives them they mean nothing.
abbrev pub meaning_in : (name : Text) → List Row → Meant Meaning
meaning_in name rows =
    if bytes_eq name (codes "answer") then answer_in rows
    else (if bytes_eq name (codes "sim") then sim_in rows
    else (if bytes_eq name (codes "cluster") then cluster_in rows
    else (if bytes_eq name (codes "check") then Ok (check_in rows)
    else (if bytes_eq name (codes "draw") then draw_in rows
    else (if bytes_eq name (codes "node") then Err cause.OfNode
    else (if bytes_eq name (codes "settle") then Err cause.OfSettle else Err cause.NoCommand))))))
