-- The seeds of a survey are in order.
use Rattle.std.proofs.Common.{◌&&◌, ◌≡◌, ◌≤◌, ℕ, Bool, true, false, List, [], Option, Some, None, Ok, Err, codes, refl, sym, subst}
use Rattle.std.specs.Prelude.{⊤, if◌then◌else◌, nat_le, ok_or, unwrap_or}
use Rattle.std.specs.Str.{bytes_eq}
use Rattle.std.proofs.lemmas.Bool.{leb-true}
use Rattle.clap.specs.Words.{Row, Text, first_of, subcommand_of}
use Rattle.ra_script.specs.declared.output_kind.OutputKind.{OutputKind}
use Rattle.ra_schedule.specs.declared.surveys.first_seed.Ending.{Ending}
use Rattle.ra_schedule.specs.declared.surveys.seed_range.SeedRange.{SeedRange}
use Rattle.ra_text.specs.declared.drawn_part.Part.{Part}
use Rattle.ra_arguments.specs.declared.command_line.PolicyName.{PolicyName}
use Rattle.ra_arguments.specs.declared.command_line.input_kind.InputKind.{InputKind}
use Rattle.ra_arguments.specs.declared.command_line.search.SurveyTask.{SurveyTask}
use Rattle.ra_arguments.specs.Application.{ra_app}
use Rattle.ra_arguments.specs.declared.form.Form.{Form}
use Rattle.ra_arguments.specs.declared.form.Form.TheVariants.{Json, Words}
use Rattle.ra_arguments.specs.declared.usage_fault.UsageCause.{UsageCause}
use Rattle.ra_arguments.specs.declared.usage_fault.UsageCause.TheVariants as cause
use Rattle.ra_arguments.specs.Asked.{AsksForTask, IsTaskFor, meaning_given}
use Rattle.ra_arguments.specs.declared.command_line.Task.TheVariants as task
use Rattle.ra_arguments.specs.Meanings.{Meaning, Meant, answer, answer_in, chance_of, check, check_all, check_in, check_one_in, cluster, cluster_by, cluster_in, cut_at_dots, draw, draw_in, ending_in, every_in, flag_in, follow, form_in, form_with, kind_in, meaning_in, numeral, part_in, plain_number_in, policy_in, printed_in, run_by, search_by, seeds_between, seeds_in, seeds_of, sim, sim_by, sim_in, survey, survey_by, with_value}

InOrder : SeedRange → Type 0
InOrder seeds = seeds.first ≤ seeds.last

-- seeds, a survey and a meaning, if there is one
IsRange : Meant SeedRange → Type 0
IsRange (Err why) = ⊤
IsRange (Ok seeds) = InOrder seeds

IsSurvey : Meant SurveyTask → Type 0
IsSurvey (Err why) = ⊤
IsSurvey (Ok asked) = InOrder asked.seeds

IsOrdered : Meant Meaning → Type 0
IsOrdered (Err why) = ⊤
IsOrdered (Ok (answer node nodes)) = ⊤
IsOrdered (Ok (sim policy choices printed)) = ⊤
IsOrdered (Ok (survey asked)) = InOrder asked.seeds
IsOrdered (Ok (cluster printed)) = ⊤
IsOrdered (Ok (check kind complete form)) = ⊤
IsOrdered (Ok (follow kind every complete form)) = ⊤
IsOrdered (Ok (check_all complete)) = ⊤
IsOrdered (Ok (draw kind part)) = ⊤

-- what follows from each value, and holds of each cause, holds of the outcome of a value or a cause
follows : {X Y : Type 0} (P : Meant Y → Type 0) (f : X → Meant Y) (o : Meant X) → ((why : UsageCause) → P (Err why)) → ((x : X) → P (f x)) → P (with_value f o)
follows P f (Err why) none all = none why
follows P f (Ok x) none all = all x

either : {X : Type 0} (P : X → Type 0) (t : Bool) (a b : X) → P a → P b → P (if t then a else b)
either P true a b left right = left
either P false a b left right = right

between : (first last : ℕ) → IsRange (seeds_between first last)
unfolding IsRange InOrder
between first last = go (nat_le first last) refl
  where
    go : (b : Bool) → nat_le first last ≡ b → IsRange (seeds_between first last)
    go true e = rw e (leb-true _ _ e)
    go false e = rw e tt

no_range : (why : UsageCause) → IsRange (Err why)
unfolding IsRange
no_range why = tt

range : (text : Text) → IsRange (seeds_in text)
range text = follows IsRange seeds_of (ok_or (cut_at_dots text) cause.Seeds) no_range (λ p. follows IsRange _ (ok_or (numeral 64 p.0) cause.Seeds) no_range
    (λ a. follows IsRange (seeds_between a) (ok_or (numeral 64 p.1) cause.Seeds) no_range (between a)))

survey_of : (f : SeedRange → SurveyTask) → ((r : SeedRange) → (f r).seeds ≡ r) → (o : Meant SeedRange) → IsRange o → IsSurvey (with_value (λ range. Ok (f range)) o)
unfolding IsRange IsSurvey
survey_of f same (Err why) in_order = tt
survey_of f same (Ok r) in_order = subst InOrder (sym (same r)) in_order

no_survey : (why : UsageCause) → IsSurvey (Err why)
unfolding IsSurvey
no_survey why = tt

surveyed : (policy : PolicyName) (seeds : Text) (ending : Option Ending) (printed : OutputKind) (form : Form) → IsSurvey (survey_by policy seeds ending printed form)
surveyed policy seeds ending printed form = follows IsSurvey _ (ok_or (chance_of policy) cause.SeedsPolicy) no_survey (λ faults. follows IsSurvey _ (search_by ending printed) no_survey
    (λ find. follows IsSurvey _ (form_with form find) no_survey
    (λ told. survey_of (λ range. record { faults = faults; find = find; form = told; seeds = range }) (λ r. refl) (seeds_in seeds) (range seeds))))

as_meaning : (o : Meant SurveyTask) → IsSurvey o → IsOrdered (with_value (λ asked. Ok (survey asked)) o)
unfolding IsSurvey IsOrdered
as_meaning (Err why) in_order = tt
as_meaning (Ok asked) in_order = in_order

nothing : (why : UsageCause) → IsOrdered (Err why)
unfolding IsOrdered
nothing why = tt

run : (policy : PolicyName) (choices : Text) (printed : OutputKind) (ending : Option Ending) (form : Form) → IsOrdered (run_by policy choices printed ending form)
unfolding IsOrdered
run policy choices printed None Words = tt
run policy choices printed None Json = tt
run policy choices printed (Some ending) form = tt

by_seeds : (rows : List Row) (policy : PolicyName) (printed : OutputKind) (seeds : Option Text) → IsOrdered (sim_by rows policy printed seeds)
by_seeds rows policy printed (Some seeds) = as_meaning (survey_by policy seeds (ending_in rows) printed (form_in rows)) (surveyed policy seeds (ending_in rows) printed (form_in rows))
by_seeds rows policy printed None = run policy (unwrap_or (first_of (codes "choices") rows) []) printed (ending_in rows) (form_in rows)

of_sim : (rows : List Row) → IsOrdered (sim_in rows)
of_sim rows = follows IsOrdered _ (ok_or (policy_in rows) cause.Rates) nothing (λ policy.
    follows IsOrdered _ (printed_in policy rows) nothing (λ printed. by_seeds rows policy printed (first_of (codes "seeds") rows)))

an_answer : (node nodes : ℕ) → IsOrdered (Ok (answer node nodes))
unfolding IsOrdered
an_answer node nodes = tt

of_answer : (rows : List Row) → IsOrdered (answer_in rows)
of_answer rows = follows IsOrdered _ (ok_or (plain_number_in 16 (codes "node") rows) cause.Node) nothing
    (λ node. follows IsOrdered _ (ok_or (plain_number_in 16 (codes "nodes") rows) cause.Nodes) nothing (an_answer node))

of_cluster : (traces books : Bool) → IsOrdered (cluster_by traces books)
unfolding IsOrdered
of_cluster false false = tt
of_cluster true false = tt
of_cluster false true = tt
of_cluster true true = tt

a_check : (kind : InputKind) (complete : Bool) (form : Form) → IsOrdered (Ok (check kind complete form))
unfolding IsOrdered
a_check kind complete form = tt

a_following : (kind : InputKind) (every : ℕ) (complete : Bool) (form : Form) → IsOrdered (Ok (follow kind every complete form))
unfolding IsOrdered
a_following kind every complete form = tt

an_account : (complete : Bool) → IsOrdered (Ok (check_all complete))
unfolding IsOrdered
an_account complete = tt

of_check_one : (rows : List Row) → IsOrdered (Ok (check_one_in rows))
of_check_one rows =
    let kind = kind_in rows in
    let every = every_in rows in
    let complete = flag_in (codes "complete") rows in
    let form = form_in rows in
    either (λ (meaning : Meaning). IsOrdered (Ok meaning)) (flag_in (codes "follow") rows) (follow kind every complete form) (check kind complete form)
    (a_following kind every complete form) (a_check kind complete form)

of_check : (rows : List Row) → IsOrdered (Ok (check_in rows))
of_check rows =
    let complete = flag_in (codes "complete") rows in
    either (λ (meaning : Meaning). IsOrdered (Ok meaning)) (flag_in (codes "marks") rows && flag_in (codes "all") rows) (check_all complete)
    (check_one_in rows) (an_account complete) (of_check_one rows)

a_drawing : (kind : InputKind) (part : Part) → IsOrdered (Ok (draw kind part))
unfolding IsOrdered
a_drawing kind part = tt

of_draw : (rows : List Row) → IsOrdered (draw_in rows)
of_draw rows = follows IsOrdered _ (ok_or (part_in rows) cause.Part) nothing (a_drawing (kind_in rows))

of_meaning : (name : Text) (rows : List Row) → IsOrdered (meaning_in name rows)
of_meaning name rows =
    either IsOrdered (bytes_eq name (codes "answer")) (answer_in rows) _ (of_answer rows)
    (either IsOrdered (bytes_eq name (codes "sim")) (sim_in rows) _ (of_sim rows)
    (either IsOrdered (bytes_eq name (codes "cluster")) (cluster_in rows) _ (of_cluster (flag_in (codes "trace") rows) (flag_in (codes "books") rows))
    (either IsOrdered (bytes_eq name (codes "check")) (Ok (check_in rows)) _ (of_check rows)
    (either IsOrdered (bytes_eq name (codes "draw")) (draw_in rows) _ (of_draw rows)
    (either IsOrdered (bytes_eq name (codes "node")) (Err cause.OfNode) _ (nothing cause.OfNode)
    (either IsOrdered (bytes_eq name (codes "settle")) (Err cause.OfSettle) (Err cause.NoCommand) (nothing cause.OfSettle) (nothing cause.NoCommand)))))))

of_given : (given : Option (Text × List Row)) → IsOrdered (meaning_given given)
of_given None = nothing cause.NoCommand
of_given (Some (name, rows)) = of_meaning name rows

asked_in_order : (meaning : Meant Meaning) (asked : SurveyTask) → IsTaskFor meaning (task.Survey asked) → IsOrdered meaning → asked.seeds.first ≤ asked.seeds.last
unfolding IsOrdered InOrder
asked_in_order (Ok meaning) asked is ordered = let same : meaning ≡ survey asked = cc in subst (λ (m : Meaning). IsOrdered (Ok m)) same ordered
asked_in_order (Err why) asked is ordered = absurd is

pub in_order : (arguments : List Text) (asked : SurveyTask) → AsksForTask arguments (task.Survey asked) → asked.seeds.first ≤ asked.seeds.last
in_order arguments asked asks = asked_in_order (meaning_given (subcommand_of ra_app arguments)) asked asks.1 (of_given (subcommand_of ra_app arguments))
