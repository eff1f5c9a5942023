-- Which clients are enabled after one more move: a client that is not at its node and did not enter by it is enabled if
-- it was before.
use Rattle.std.proofs.Common.{◌≡◌, ◌≢◌, ◌↔◌, ℕ, ◌+◌, Bool, Some, List, [], ◌∷◌, ◌++◌, All, slice_get, slice_index_or, refl, sym, ap, ◌∙◌, subst, arith, inl, inr}
use Rattle.std.specs.Prelude.{if◌then◌else◌, option_map}
use Rattle.std.proofs.lemmas.Bool.{ne_eqb}
use Rattle.ra_stamp.specs.NodeId.{IsNodeNumber}
use Rattle.ra_stamp.specs.Message.{to_of}
use Rattle.ra_world.specs.declared.step.Step.{Step}
use Rattle.ra_world.specs.declared.step.Step.TheVariants.{Ask, Leave, Cancel, Deliver, Lose, Repeat, Forget}
use Rattle.ra_world.specs.Traffic.{Move}
use Rattle.ra_world.specs.Run.{IsRun, GoesOn, events_at}
use Rattle.ra_world.proofs.Moves.{not_at}
use Rattle.ra_schedule.specs.declared.script.Op.{Op}
use Rattle.ra_schedule.specs.declared.script.Op.TheVariants.{Lock, Unlock}
use Rattle.ra_schedule.specs.declared.choice.Choice.{Choice}
use Rattle.ra_schedule.specs.declared.choice.Choice.TheVariants.{Client, Message, Lost, Repeated}
use Rattle.ra_schedule.specs.Script.{ScriptClient, ScriptState, client_at}
use Rattle.ra_schedule.specs.Schedule.{steps_of, steps_in, steps_by, step_of, Asks, Enters, StandsFor, IsEnabled}
use Rattle.ra_schedule.specs.Enabled.{IsFlag, AreFlags, AreFlagsElsewhere, node_of, node_at}
use Rattle.ra_schedule.specs.Below.{LawsBelow}
use Rattle.ra_schedule.proofs.Waiting.{steps_by-more, waits_on, waited}

-- ---- Nodes at which nothing happens

-- at a node that is not the one of a step nothing happens by it
quiet : (step : Step) (i : ℕ) → node_at step ≢ Some i → events_at i step ≡ []
quiet (Ask node client name mode) i apart = not_at node i _ (λ e. apart (ap (λ (k : ℕ). Some k) (sym e)))
quiet (Leave node client name) i apart = not_at node i _ (λ e. apart (ap (λ (k : ℕ). Some k) (sym e)))
quiet (Cancel node client name) i apart = not_at node i _ (λ e. apart (ap (λ (k : ℕ). Some k) (sym e)))
quiet (Deliver message) i apart = not_at (to_of message) i _ (λ e. apart (ap (λ (k : ℕ). Some k) (sym e)))
quiet (Lose message) i apart = refl
quiet (Repeat message) i apart = refl
quiet (Forget node) i apart = not_at node i _ (λ e. apart (ap (λ (k : ℕ). Some k) (sym e)))

op_stays : LawsBelow → (n : ℕ) (moves : List Move) (move : Move) → IsNodeNumber n → IsRun n 0 (moves ++ move ∷ []) → (node client : ℕ) (op : Op)
    → events_at node move.step ≡ [] → GoesOn n 0 moves (step_of node client op) ↔ GoesOn n 0 (moves ++ move ∷ []) (step_of node client op)
op_stays laws n moves move count run node client (Lock name mode) none = laws.ask_stays n 0 moves move count run node client name mode none
op_stays laws n moves move count run node client (Unlock name) none = laws.leave_stays n 0 moves move count run node client name none

-- ---- Whose step it is

-- the node of a client's operation
node_of_op : (node client : ℕ) (op : Op) → node_at (step_of node client op) ≡ Some node
node_of_op node client (Lock name mode) = refl
node_of_op node client (Unlock name) = refl

pub another's : (node asker client : ℕ) (op : Op) → asker ≢ client → steps_in client (step_of node asker op) ≡ 0
another's node asker client (Lock name mode) apart = ap (λ b. if b then 1 else 0) (ne_eqb asker client apart)
another's node asker client (Unlock name) apart = ap (λ b. if b then 1 else 0) (ne_eqb asker client apart)

pub asks_not : (node asker client : ℕ) (op : Op) → asker ≢ client → Asks client (step_of node asker op) → ⊥
asks_not node asker client (Lock name mode) apart asks = apart asks
asks_not node asker client (Unlock name) apart asks = asks

-- a step that is chosen is not one of a client at another node
not_own : (script : ScriptState) (moves : List Move) (choice : Choice) (step : Step) (client : ℕ) → StandsFor script moves choice step
    → node_of script client ≢ node_at step → (steps_in client step ≡ 0) × (Asks client step → ⊥)
not_own script moves (Client c) step client means apart =
    let (who, op, at, is, made) = means.next in
    let here : node_at step ≡ Some who.node = ap node_at made ∙ node_of_op who.node c op in
    let own : c ≢ client = λ same.
    apart (ap (node_of script) (sym same) ∙ ap (option_map (λ (w : ScriptClient). w.node)) at ∙ sym here) in (
      ap (steps_in client) made ∙ another's who.node c client op own,
      λ asks. asks_not who.node c client op own (subst (Asks client) made asks),
    )
not_own script moves (Message place) step client (message, at, is) apart = (ap (steps_in client) is, λ asks. subst (Asks client) is asks)
not_own script moves (Lost place) step client (message, at, is) apart = (ap (steps_in client) is, λ asks. subst (Asks client) is asks)
not_own script moves (Repeated place) step client (message, at, is) apart = (ap (steps_in client) is, λ asks. subst (Asks client) is asks)

-- ---- Who is enabled

module _ (laws : LawsBelow) (script : ScriptState) (moves : List Move) (move : Move) (choice : Choice) (client : ℕ) (count : IsNodeNumber script.nodes)
    (run : IsRun script.nodes 0 (moves ++ move ∷ [])) (means : StandsFor script moves choice move.step) (apart : node_of script client ≢ node_at move.step)
    (silent : All (λ mark. Enters client mark → ⊥) move.marks) where
  same_place : steps_by client (steps_of (moves ++ move ∷ [])) ≡ steps_by client (steps_of moves)
  same_place =
      let more = steps_by-more client moves move in
      let none = (not_own script moves choice move.step client means apart).0 in
      omega (arith, more, none)

  nothing_there : (who : ScriptClient) → client_at script client ≡ Some who → events_at who.node move.step ≡ []
  nothing_there who at = quiet move.step who.node (λ e. apart (ap (option_map (λ (w : ScriptClient). w.node)) at ∙ sym e))

  enabled_then : IsEnabled script moves client → IsEnabled script (moves ++ move ∷ []) client
  enabled_then (step, on) =
      let (who, op, at, is, made) = on.next in (
        step,
        record {
          next = (who, op, at, ap (slice_get who.ops) same_place ∙ is, made);
          free = λ waits.
              elim (waited client moves move waits).1 [
                | inl asks ↦ (not_own script moves choice move.step client means apart).1 asks
                | inr before ↦ on.free before
              ];
          goes_on = subst (GoesOn script.nodes 0 (moves ++ move ∷ [])) (sym made)
              ((op_stays laws script.nodes moves move count run who.node client op (nothing_there who at)).0 (subst (GoesOn script.nodes 0 moves) made on.goes_on));
        },
      )

  enabled_before : IsEnabled script (moves ++ move ∷ []) client → IsEnabled script moves client
  enabled_before (step, on) =
      let (who, op, at, is, made) = on.next in (
        step,
        record {
          next = (who, op, at, ap (slice_get who.ops) (sym same_place) ∙ is, made);
          free = λ waits. on.free (waits_on client moves move silent (inr waits));
          goes_on = subst (GoesOn script.nodes 0 moves) (sym made)
              ((op_stays laws script.nodes moves move count run who.node client op (nothing_there who at)).1
              (subst (GoesOn script.nodes 0 (moves ++ move ∷ [])) made on.goes_on));
        },
      )

-- after a move that was chosen the flags are still right elsewhere
pub flags_elsewhere : LawsBelow → (script : ScriptState) (moves next : List Move) (move : Move) (choice : Choice) (flags : List Bool)
    → IsNodeNumber script.nodes → next ≡ moves ++ move ∷ [] → IsRun script.nodes 0 next → StandsFor script moves choice move.step
    → AreFlags script moves flags → AreFlagsElsewhere move.step move.marks script next flags
flags_elsewhere laws script moves next move choice flags count is run means are k d within apart silent =
    let run' = subst (IsRun script.nodes 0) is run in
    let told = are.each k d within in
    subst (λ (ms : List Move). IsFlag script ms (k + 1) (slice_index_or flags k d)) (sym is) (
      λ yes. enabled_then laws script moves move choice (k + 1) count run' means apart silent (told.0 yes),
      λ on. told.1 (enabled_before laws script moves move choice (k + 1) count run' means apart silent on),
    )
