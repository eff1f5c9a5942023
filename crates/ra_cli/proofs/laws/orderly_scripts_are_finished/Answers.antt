use Rattle.ra_cli.proofs.Orderly.{FinishingLaws, finishes, only_memory, always_driven}
use Rattle.ra_cli.proofs.laws.orderly_scripts_are_finished.Goals as goal

pub returns : goal.returns
returns c =
    let read = c.read_scripts_come_to_rest.ensures in
    let seeds = c.seeds_finish_ordered_scripts.ensures in
    let laws : FinishingLaws = record {
      scripts = read.scripts;
      never_refused = read.never_refused;
      worded = c.choices_have_words_unless_messages_are_repeated.ensures.never_refused;
      most = c.scripts_come_to_rest.ensures.most;
      outcomes = seeds.outcomes;
      surveys = seeds.surveys;
    } in
    record {
      finished = finishes laws;
      only_memory = only_memory laws;
      driven = always_driven laws;
    }
