-- The lock table of a run has what the nodes at its end hold, and nothing more.
use Rattle.std.proofs.Common.{◌≡◌, ℕ, List, Contains, refl, sym, ap, ◌∙◌, subst, arith}
use Rattle.std.proofs.lemmas.List.Elements.{All-weaker, All-contains_itself}
use Rattle.ra_stamp.specs.declared.entry.Entry.{Entry}
use Rattle.ra_stamp.specs.NodeId.{IsNodeNumber}
use Rattle.ra_node.specs.Resource.{Use, use_of}
use Rattle.ra_node.specs.Resource.Use.{WaitsBy, HoldsBy}
use Rattle.ra_node.specs.Node.{NodeState, resource_at}
use Rattle.ra_table.specs.Table.{LockTable, TableRun}
use Rattle.ra_table.specs.Laws.{SameEntries}
use Rattle.ra_world.specs.Below.{LawsBelow}
use Rattle.ra_world.specs.Traffic.{Move}
use Rattle.ra_world.specs.Run.{IsRun, EndsWith, marks_of}
use Rattle.ra_world.specs.AtNodes.{IsEntryAt, IsOfNode, IsTableOf}
use Rattle.ra_world.proofs.Protocol.{IsNode}
use Rattle.ra_world.proofs.Tables.{of, contains_of, of_contains}
use Rattle.ra_world.proofs.Marking.{waiting_of, granted_of, is_waiting, is_granted}
use Rattle.ra_world.proofs.Uses.{IsRequestOf, use_waits, use_granted}
use Rattle.ra_world.proofs.Cluster.{uses, placed_at}
use Rattle.ra_world.proofs.Reached.{Reached}
use Rattle.ra_world.proofs.Outcomes.{at_end, same_at}

-- a list of entries that a use gives, of one node and on one name
is_among : (f : Use → List Entry) (use_is : Use) (entries : List Entry) (i : ℕ) (name : List ℕ) (e : Entry)
    → of i name entries ≡ f use_is → IsEntryAt entries i name e → Contains (f use_is) e
is_among f use_is entries i name e are is =
    subst (λ (es : List Entry). Contains es e) ((λ k. of (is.1 k) (is.2 k) entries) ∙ are) (contains_of entries e is.0)

module _ (laws : LawsBelow) (n start : ℕ) (moves : List Move) (count : IsNodeNumber n) (run : IsRun n start moves) (nodes : ℕ → NodeState) (ends : EndsWith n start moves nodes)
    (same_tables : (a b : LockTable) → TableRun (marks_of moves) a → TableRun (marks_of moves) b → SameEntries a b) (table : LockTable) (table_run : TableRun (marks_of moves) table) where
  abbrev reached : Reached (Unit {0}) (Unit {0}) n start moves
  reached = at_end laws n start moves count run

  same : SameEntries table reached.table
  same = same_tables table reached.table table_run reached.run

  use_is : (i : ℕ) (name : List ℕ) → IsNode n i → uses nodes i name ≡ uses reached.nodes i name
  use_is i name at = ap (λ (s : NodeState). use_of (resource_at s name)) (same_at laws n start moves count run nodes ends i at)

  -- the request of a node's use is of the node and on the name
  own : (i : ℕ) (name : List ℕ) (e : Entry) → IsNode n i → IsRequestOf (resource_at (reached.nodes i) name).state e → (e.stamp.node ≡ i) × (e.name ≡ name)
  own i name e at is =
      let placed = placed_at n i (reached.nodes i) name (reached.invariant.each i at) in
      (is.node_is ∙ placed.me_is, is.name_is ∙ placed.name_is)

  waits : (i : ℕ) (name : List ℕ) (e : Entry) → IsNode n i → uses nodes i name ≡ WaitsBy e → IsEntryAt table.waiting i name e
  waits i name e at is =
      let there : uses reached.nodes i name ≡ WaitsBy e = sym (use_is i name at) ∙ is in
      let found = of_contains i name reached.table.waiting e (subst (λ (es : List Entry). Contains es e) (sym (reached.invariant.tabled.waiting i name at ∙ ap waiting_of there)) (0, omega arith, refl)) in
      let of_node = own i name e at (use_waits (resource_at (reached.nodes i) name) e there).1 in
      ((same.waiting e).1 found, of_node.0, of_node.1)

  holds : (i : ℕ) (name : List ℕ) (e : Entry) → IsNode n i → uses nodes i name ≡ HoldsBy e → IsEntryAt table.holding i name e
  holds i name e at is =
      let there : uses reached.nodes i name ≡ HoldsBy e = sym (use_is i name at) ∙ is in
      let found = of_contains i name reached.table.holding e (subst (λ (es : List Entry). Contains es e) (sym (reached.invariant.tabled.holding i name at ∙ ap granted_of there)) (0, omega arith, refl)) in
      let of_node = own i name e at (use_granted (resource_at (reached.nodes i) name) e there).1 in
      ((same.holding e).1 found, of_node.0, of_node.1)

  pub table_of_nodes : IsTableOf n nodes table
  table_of_nodes =
      let tabled = reached.invariant.tabled in
      record {
        waiting = λ i name e low high. (
          λ is. use_is i name (low, high) ∙ is_waiting (uses reached.nodes i name) e (is_among waiting_of (uses reached.nodes i name) reached.table.waiting i name e (tabled.waiting i name (low, high)) ((same.waiting e).0 is.0, is.1, is.2)),
          waits i name e (low, high),
        );
        holding = λ i name e low high. (
          λ is. use_is i name (low, high) ∙ is_granted (uses reached.nodes i name) e (is_among granted_of (uses reached.nodes i name) reached.table.holding i name e (tabled.holding i name (low, high)) ((same.holding e).0 is.0, is.1, is.2)),
          holds i name e (low, high),
        );
        waiting_nodes = All-weaker (Contains table.waiting) (IsOfNode n) (λ e at. tabled.waiting_known e ((same.waiting e).0 at)) table.waiting (All-contains_itself table.waiting);
        holding_nodes = All-weaker (Contains table.holding) (IsOfNode n) (λ e at. tabled.holding_known e ((same.holding e).0 at)) table.holding (All-contains_itself table.holding);
      }
