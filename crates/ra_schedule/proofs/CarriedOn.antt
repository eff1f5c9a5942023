-- Each run in which clients do what a script says can be carried on until nothing more can happen.
use Rattle.std.proofs.Common.{◌≡◌, ◌⊎◌, ℕ, zero, suc, ◌+◌, ◌*◌, ◌<◌, ◌≤◌, List, [], ◌∷◌, ◌++◌, length, refl, sym, ap, ◌∙◌, subst, append_assoc, arith, inl, inr}
use Rattle.std.proofs.lemmas.List.{append-nil, length-append}
use Rattle.ra_stamp.specs.declared.message.Message.{Message as Sent}
use Rattle.ra_world.specs.declared.step.Step.{Step}
use Rattle.ra_world.specs.declared.step.Step.TheVariants.{Deliver}
use Rattle.ra_world.specs.Traffic.{Move, LeavesUnderWay, lost_in, lost_by, repeated_in, repeated_by}
use Rattle.ra_world.specs.Run.{IsRun, GoesOn}
use Rattle.ra_world.proofs.Moves.{repeated_more}
use Rattle.ra_schedule.specs.declared.script.Op.{Op}
use Rattle.ra_schedule.specs.declared.script.Op.TheVariants.{Lock, Unlock}
use Rattle.ra_schedule.specs.declared.choice.Choice.{Choice}
use Rattle.ra_schedule.specs.declared.choice.Choice.TheVariants.{Client, Message}
use Rattle.ra_schedule.specs.Script.{ScriptState, IsScript}
use Rattle.ra_schedule.specs.Schedule.{step_of, StandsFor, IsEnabled}
use Rattle.ra_schedule.specs.Performing.{Performs, IsAtRest, most_turns}
use Rattle.ra_schedule.specs.Below.{LawsBelow}
use Rattle.ra_schedule.specs.BelowFinishing.{LawsOfNodes, LawsOfRuns}
use Rattle.ra_schedule.proofs.Lists.{split_last}
use Rattle.ra_schedule.proofs.EnabledLists.{is_a_client}
use Rattle.ra_schedule.proofs.StandingRuns.{all_stand}
use Rattle.ra_schedule.proofs.Enabling.{enabled_or_not}
use Rattle.ra_schedule.proofs.TurnBound.{numbers_left, moves_bound}

pub performs_more : (script : ScriptState) (moves : List Move) (move : Move) (choice : Choice) → Performs script moves → StandsFor script moves choice move.step
    → IsRun script.nodes 0 (moves ++ move ∷ []) → Performs script (moves ++ move ∷ [])
performs_more script moves move choice performs means run = record {
  run = run;
  each = λ before after this is. elim (split_last moves move before after this is) [
    | inl h ↦ (
      choice,
      subst (λ (m : Move). StandsFor script before choice m.step) (sym h.1)
          (subst (λ (ms : List Move). StandsFor script ms choice move.step) (sym h.0) means),
    )
    | inr h ↦ performs.each before h.0 this h.2
  ];
}

-- a choice that neither loses nor repeats, and that lets the run go on
record CanGoOn (script : ScriptState) (moves : List Move) : Type 0 where
  pub choice : Choice
  pub step : Step
  pub means : StandsFor script moves choice step
  pub goes_on : GoesOn script.nodes 0 moves step
  pub lost : lost_in step ≡ []
  pub repeated : repeated_in step ≡ []

pub op_loses_none : (node client : ℕ) (op : Op) → (lost_in (step_of node client op) ≡ []) × (repeated_in (step_of node client op) ≡ [])
op_loses_none node client (Lock name mode) = (refl, refl)
op_loses_none node client (Unlock name) = (refl, refl)

by_client : (script : ScriptState) (moves : List Move) (client : ℕ) → IsEnabled script moves client → CanGoOn script moves
by_client script moves client (step, on) =
    let (who, op, at, is, made) = on.next in
    let none = op_loses_none who.node client op in
    record { choice = Client client; step = step; means = on; goes_on = on.goes_on; lost = ap lost_in made ∙ none.0; repeated = ap repeated_in made ∙ none.1 }

-- some client up to this number, or none
find_enabled : (script : ScriptState) (moves : List Move) → ((client : ℕ) → IsEnabled script moves client ⊎ (IsEnabled script moves client → ⊥)) → (last : ℕ)
    → ((client : ℕ) × IsEnabled script moves client) ⊎ ((client : ℕ) → client ≤ last → IsEnabled script moves client → ⊥)
find_enabled script moves decide zero = elim (decide 0) [
  | inl on ↦ inl (0, on)
  | inr off ↦ inr (λ client low on. off (subst (IsEnabled script moves) (omega (arith, low)) on))
]
find_enabled script moves decide (suc last) = elim (find_enabled script moves decide last) [
  | inl found ↦ inl found
  | inr none ↦ elim (decide (suc last)) [
    | inl on ↦ inl (suc last, on)
    | inr off ↦ inr (λ client low on. elim (last_or_before client last low) [
      | inl before ↦ none client before on
      | inr same ↦ off (subst (IsEnabled script moves) same on)
    ])
  ]
]
  where
    last_or_before : (client last : ℕ) → client ≤ suc last → (client ≤ last) ⊎ (client ≡ suc last)
    last_or_before zero last low = inl (omega arith)
    last_or_before (suc client) zero low = inr (omega (arith, low))
    last_or_before (suc client) (suc last) low = elim (last_or_before client last (omega (arith, low))) [
      | inl before ↦ inl (omega (arith, before))
      | inr same ↦ inr (ap suc same)
    ]

module _ (nodes_laws : LawsOfNodes) (laws : LawsOfRuns) (below : LawsBelow) (script : ScriptState) (fit : IsScript script) where
  by_messages : (moves : List Move) → Performs script moves → ((client : ℕ) → IsEnabled script moves client → ⊥) → (left : List Sent) → LeavesUnderWay moves left
      → CanGoOn script moves ⊎ IsAtRest script moves
  by_messages moves performs none [] leaves = inr (record { none_enabled = none; none_under_way = leaves })
  by_messages moves performs none (message ∷ left) leaves = inl (record {
    choice = Message 0;
    step = Deliver message;
    means = (message, (message ∷ left, leaves, refl), refl);
    goes_on = (below.deliver script.nodes 0 moves fit.count performs.run message).1 (message ∷ left, leaves, (0, omega arith, refl));
    lost = refl;
    repeated = refl;
  })

  can_go_on : (moves : List Move) → Performs script moves → CanGoOn script moves ⊎ IsAtRest script moves
  can_go_on moves performs =
      let all = all_stand nodes_laws laws script fit moves performs in
      let decide = enabled_or_not laws script fit moves performs.run all (numbers_left laws script fit moves performs all.nodes all.ends) in
      elim (find_enabled script moves decide (length script.clients)) [
        | inl found ↦ inl (by_client script moves found.0 found.1)
        | inr none ↦
            let left = laws.a_list script.nodes 0 moves fit.count performs.run in
            by_messages moves performs (λ client on. none client (is_a_client script moves client on) on) left.0 left.1
      ]

  record CarriesOn (moves : List Move) : Type 0 where
    pub rest : List Move
    pub performs : Performs script (moves ++ rest)
    pub at_rest : IsAtRest script (moves ++ rest)
    pub none_lost : lost_by rest ≡ []
    pub none_repeated : repeated_by rest ≡ []

  repeats_more : (moves : List Move) (move : Move) → length (repeated_by (moves ++ move ∷ [])) ≡ length (repeated_by moves) + length (repeated_in move.step)
  repeats_more moves move = ap length (repeated_more moves move) ∙ length-append (repeated_by moves) (repeated_in move.step)

  carry : (fuel : ℕ) (moves : List Move) → Performs script moves → most_turns script + 3 * length (repeated_by moves) < length moves + fuel → CarriesOn moves
  carry zero moves performs enough = absurd (omega (arith, enough, moves_bound laws script fit moves performs))
  carry (suc fuel) moves performs enough = elim (can_go_on moves performs) [
    | inr rest ↦ record {
      rest = [];
      performs = subst (Performs script) (sym (append-nil moves)) performs;
      at_rest = subst (IsAtRest script) (sym (append-nil moves)) rest;
      none_lost = refl;
      none_repeated = refl;
    }
    | inl can ↦
        let move : Move = record { step = can.step; sends = can.goes_on.0; marks = can.goes_on.1 } in
        let next = performs_more script moves move can.choice performs can.means can.goes_on.2 in
        let more = carry fuel (moves ++ move ∷ []) next
        (omega (arith, enough, repeats_more moves move, ap length can.repeated, length-append moves (move ∷ []))) in
        let again : (moves ++ move ∷ []) ++ more.rest ≡ moves ++ move ∷ more.rest = append_assoc moves (move ∷ []) more.rest in
        record {
          rest = move ∷ more.rest;
          performs = subst (Performs script) again more.performs;
          at_rest = subst (IsAtRest script) again more.at_rest;
          none_lost = λ i. can.lost i ++ more.none_lost i;
          none_repeated = λ i. can.repeated i ++ more.none_repeated i;
        }
  ]

  pub carried : (moves : List Move) → Performs script moves
      → (rest : List Move) × Performs script (moves ++ rest) × IsAtRest script (moves ++ rest) × (lost_by rest ≡ []) × (repeated_by rest ≡ [])
  carried moves performs =
      let c = carry (most_turns script + 3 * length (repeated_by moves) + 1) moves performs (omega arith) in
      (c.rest, c.performs, c.at_rest, c.none_lost, c.none_repeated)
