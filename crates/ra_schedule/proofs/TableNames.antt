-- Each request in the lock table of a script's run was made by a client of the script, on a name of the script.
use Rattle.std.proofs.Common.{◌≡◌, ℕ, Option, Some, List, ◌∷◌, ◌++◌, Contains, length, map, refl, sym, ap, ◌∙◌, subst, append_assoc, arith}
use Rattle.std.specs.Prelude.{option_to_list, option_and_then, slice_get}
use Rattle.std.proofs.lemmas.List.Elements.{All-contains}
use Rattle.ra_stamp.specs.declared.entry.Entry.{Entry}
use Rattle.ra_node.specs.Resource.{Resource, IsBusy}
use Rattle.ra_node.specs.Node.{resource_at}
use Rattle.ra_table.specs.Table.{LockTable, TableRun}
use Rattle.ra_world.specs.Traffic.{Move}
use Rattle.ra_world.specs.Run.{IsRun, marks_of}
use Rattle.ra_world.specs.AtNodes.{IsTableOf, IsOfNode}
use Rattle.ra_schedule.specs.declared.script.Op.{Op}
use Rattle.ra_schedule.specs.declared.script.Op.TheVariants.{Lock}
use Rattle.ra_schedule.specs.Script.{ScriptClient, ScriptState, client_at, op_at, IsScript, IsHeldAfter}
use Rattle.ra_schedule.specs.StateText.{IsNameOf, AreNamesOf, HasOnlyNames}
use Rattle.ra_schedule.specs.BelowFinishing.{LawsOfNodes, LawsOfRuns}
use Rattle.ra_schedule.specs.Performing.{Performs}
use Rattle.ra_schedule.proofs.ClientTurns.{use_waiter, use_holder}
use Rattle.ra_schedule.proofs.Enabling.{next_is}
use Rattle.ra_schedule.proofs.MovedNodes.{IsNode}
use Rattle.ra_schedule.proofs.StandingRuns.{AllStand, all_stand}

-- the current client is at the name
pub current_is_busy : (r : Resource) (client : ℕ) → r.client ≡ Some client → IsBusy r client
current_is_busy r client is =
    subst (λ (o : Option ℕ). Contains (option_to_list o ++ map (λ q. q.client) r.queue) client) (sym is) (0, omega arith, refl)

-- a name that is held after some operations of a client is one of the script
held_is_named : (script : ScriptState) (client : ℕ) (who : ScriptClient) (did left : List Op) (name : List ℕ) → client_at script client ≡ Some who
    → who.ops ≡ did ++ left → IsHeldAfter did name → IsNameOf script name
held_is_named script client who did left name at_it ops_are (before, after, mode, is, none) =
    let split : who.ops ≡ before ++ Lock name mode ∷ (after ++ left) =
    ops_are ∙ ap (λ (xs : List Op). xs ++ left) is ∙ append_assoc before (Lock name mode ∷ after) left in
    let here : op_at script client (length before) ≡ Some (Lock name mode) =
    ap (option_and_then (λ (c : ScriptClient). slice_get c.ops (length before))) at_it ∙ next_is who.ops before (after ++ left) (Lock name mode) split in
    (client, (length before, Lock name mode, here, refl))

module _ (laws : LawsOfRuns) (script : ScriptState) (fit : IsScript script) (moves : List Move) (run : IsRun script.nodes 0 moves) (all : AllStand script moves)
    (table : LockTable) (marked : TableRun (marks_of moves) table) where
  abbrev n : ℕ
  n = script.nodes

  of_nodes : IsTableOf n all.nodes table
  of_nodes = laws.table_of n 0 moves all.nodes table fit.count run all.ends marked

  -- the client of an entry of the table is at its name
  pub waiter_is_busy : (e : Entry) → Contains table.waiting e → IsNode n e.stamp.node × IsBusy (resource_at (all.nodes e.stamp.node) e.name) e.client
  waiter_is_busy e has =
      let within : IsNode n e.stamp.node = All-contains (IsOfNode n) table.waiting e of_nodes.waiting_nodes has in
      let r = resource_at (all.nodes e.stamp.node) e.name in
      (within, current_is_busy r e.client (use_waiter r.state r.state.phase r.client e ((of_nodes.waiting e.stamp.node e.name e within.0 within.1).0 (has, refl, refl))))

  pub holder_is_busy : (e : Entry) → Contains table.holding e → IsNode n e.stamp.node × IsBusy (resource_at (all.nodes e.stamp.node) e.name) e.client
  holder_is_busy e has =
      let within : IsNode n e.stamp.node = All-contains (IsOfNode n) table.holding e of_nodes.holding_nodes has in
      let r = resource_at (all.nodes e.stamp.node) e.name in
      (within, current_is_busy r e.client (use_holder r.state r.state.phase r.client e ((of_nodes.holding e.stamp.node e.name e within.0 within.1).0 (has, refl, refl))))

  named : (i client : ℕ) (name : List ℕ) → IsNode n i → IsBusy (resource_at (all.nodes i) name) client → IsNameOf script name
  named i client name within busy =
      let (who, at_it) = all.known i name client within busy in
      let stands = all.clients client who at_it in
      held_is_named script client who stands.did stands.left name at_it stands.ops_are ((stands.stands i name within).0 busy).1

  pub only_names : (names : List (List ℕ)) → AreNamesOf script names → HasOnlyNames names table
  only_names names are = record {
    waiting = λ e has. let (within, busy) = waiter_is_busy e has in (are.each e.name).1 (named e.stamp.node e.client e.name within busy);
    holding = λ e has. let (within, busy) = holder_is_busy e has in (are.each e.name).1 (named e.stamp.node e.client e.name within busy);
  }

pub only_names_in_table : LawsOfNodes → LawsOfRuns → (script : ScriptState) → IsScript script → (moves : List Move) → Performs script moves
    → (names : List (List ℕ)) → AreNamesOf script names → (table : LockTable) → TableRun (marks_of moves) table → HasOnlyNames names table
only_names_in_table nodes_laws laws script fit moves performs names are table marked =
    only_names laws script fit moves performs.run (all_stand nodes_laws laws script fit moves performs) table marked names are
