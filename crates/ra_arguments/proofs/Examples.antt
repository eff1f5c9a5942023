-- What some command lines mean. Each is computed from the definitions alone.
use Rattle.std.proofs.Common.{◌≡◌, [], ◌∷◌, Some, Ok, Err, codes, refl}
use Rattle.clap.specs.Words.{Text}
use Rattle.clap.proofs.OnLiterals.{clap_on_literals}
use Rattle.clap.specs.declared.error.kind.ErrorKind.TheVariants as kind
use Rattle.ra_script.specs.declared.output_kind.OutputKind.TheVariants as prints
use Rattle.ra_schedule.specs.declared.surveys.first_seed.Ending.TheVariants.{Stuck}
use Rattle.ra_arguments.specs.declared.command_line.PolicyName.TheVariants.{Oldest}
use Rattle.ra_arguments.specs.declared.command_line.input_kind.InputKind.TheVariants as reads
use Rattle.ra_arguments.specs.declared.form.Form.TheVariants.{Words}
use Rattle.ra_arguments.specs.declared.usage_fault.UsageCause.TheVariants as cause
use Rattle.ra_arguments.specs.Asked.{meaning_of, refusals}
use Rattle.ra_arguments.specs.Meanings.{answer, draw, sim, survey}

-- the program's name and `sim` are taken, and mean the policy oldest
pub sim_alone : (name : Text) → refusals (name ∷ codes "sim" ∷ []) ≡ []
unfolding clap_on_literals
sim_alone name = refl

pub sim_alone_means : (name : Text) → meaning_of (name ∷ codes "sim" ∷ []) ≡ Ok (sim Oldest [] prints.Lines)
unfolding clap_on_literals
sim_alone_means name = refl

an_answer : (name : Text) → meaning_of (name ∷ codes "answer" ∷ codes "--nodes=3" ∷ codes "--node" ∷ codes "2" ∷ []) ≡ Ok (answer 2 3)
unfolding clap_on_literals
an_answer name = refl

a_survey : (name : Text) → meaning_of (name ∷ codes "sim" ∷ codes "--policy" ∷ codes "faulty" ∷ codes "--lose=5" ∷ codes "--seeds" ∷ codes "1..3" ∷ codes "--find" ∷ codes "stuck" ∷ codes "--shrink" ∷ [])
    ≡ Ok (survey (record {
      faults = Some (record { lose = 5; repeat = 0 });
      find = Some (record { ending = Stuck; format = prints.Shrunk });
      form = Words;
      seeds = record { first = 1; last = 3 };
    }))
unfolding clap_on_literals
a_survey name = refl

a_drawing : (name : Text) → meaning_of (name ∷ codes "draw" ∷ codes "--marks" ∷ codes "--to" ∷ codes "9" ∷ []) ≡ Ok (draw reads.Marks (record { from = 1; to = 9 }))
unfolding clap_on_literals
a_drawing name = refl

two_things : (name : Text) → meaning_of (name ∷ codes "cluster" ∷ codes "--books" ∷ codes "--trace" ∷ []) ≡ Err cause.Books
unfolding clap_on_literals
two_things name = refl

no_node : (name : Text) → meaning_of (name ∷ codes "answer" ∷ codes "--node=-0" ∷ codes "--nodes=3" ∷ []) ≡ Err cause.Node
unfolding clap_on_literals
no_node name = refl

no_policy : (name : Text) → refusals (name ∷ codes "sim" ∷ codes "--policy" ∷ codes "latest" ∷ codes "--help" ∷ []) ≡ kind.InvalidValue ∷ []
unfolding clap_on_literals
no_policy name = refl

help : (name : Text) → refusals (name ∷ codes "sim" ∷ codes "--help" ∷ []) ≡ kind.DisplayHelp ∷ []
unfolding clap_on_literals
help name = refl
