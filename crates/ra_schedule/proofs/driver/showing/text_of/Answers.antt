use Rattle.std.proofs.Common.{◌∙◌, ℕ, Global, List, Result, Ok, Err, IfOk, String, string_bytes, sym, subst}
use Rattle.ra_world.specs.StateLines.{IsStateText}
use Rattle.ra_schedule.specs.declared.driver.client_progress.Progress.{Progress}
use Rattle.ra_schedule.specs.Progress.{Tracks}
use Rattle.ra_schedule.specs.StateText.{ShowsState}
use Rattle.ra_schedule.proofs.ScheduleLaws.{endings_rest_on_nodes, endings_rest_on_runs}
use Rattle.ra_schedule.proofs.TableNames.{only_names_in_table}
use Rattle.ra_schedule.proofs.driver.showing.text_of.Goals as goal

pub client_lines-requires-clause-tracked : goal.client_lines-requires-clause-tracked
client_lines-requires-clause-tracked c =
    subst (λ (list : List Progress). Tracks c.args.script.now c.args.cluster.now.world list) (sym c.deref.ensures.value) c.requires.tracked

pub client_lines-requires-clause-steps : goal.client_lines-requires-clause-steps
client_lines-requires-clause-steps c = c.as_slice-steps.ensures ∙ c.requires.steps

-- what is known of a text, if there is one
known : {E : Type 0} (P Q : List ℕ → Type 0) (r : Result (String Global) E) → ((text : List ℕ) → P text → Q text)
    → IfOk r (λ text. P (string_bytes text)) → IfOk r (λ text. Q (string_bytes text))
known P Q (Ok text) says is = says (string_bytes text) is
known P Q (Err why) says is = tt

pub returns : goal.returns
returns c =
    let world = c.args.cluster.now.world in
    let names = c.in_ok-names.names.items in
    let clients = string_bytes c.in_ok-clients.clients in
    let tracks = c.requires.tracked in
    known (IsStateText world.count world.start world.moves c.deref-2.result.now c.as_str.result.now) (ShowsState c.args.script.now world.moves) c.state_text.result
    (λ text is. record {
      names = names;
      are_names = c.in_ok-names.ensures;
      whole_table = only_names_in_table endings_rest_on_nodes endings_rest_on_runs c.args.script.now c.requires.fit world.moves c.requires.performs names c.in_ok-names.ensures;
      clients = clients;
      are_clients = c.in_ok-clients.ensures;
      is_text =
          subst (λ (n : ℕ). IsStateText n 0 world.moves names clients text) tracks.count
          (subst (λ (start : ℕ). IsStateText world.count start world.moves names clients text) tracks.start
          (subst (λ (xs : List ℕ). IsStateText world.count world.start world.moves names xs text) c.as_str.ensures.value
          (subst (λ (ns : List (List ℕ)). IsStateText world.count world.start world.moves ns c.as_str.result.now text) c.deref-2.ensures.value is)));
    }) c.state_text.ensures.ok
