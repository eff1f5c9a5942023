-- What holds at the end of every run: who holds, who waits, what is under way, and that no REPLY is a stray.
use Rattle.std.proofs.Common.{◌≡◌, ◌≢◌, ℕ, ◌+◌, ◌-◌, ◌*◌, ◌≤◌, List, [], ◌∷◌, ◌++◌, Contains, length, Some, refl, sym, ap, ◌∙◌, subst, arith, inl, inr}
use Rattle.std.specs.Prelude.{◌↔◌}
use Rattle.ra_stamp.specs.declared.mode.Mode.{Mode}
use Rattle.ra_stamp.specs.declared.message.Message.{Message}
use Rattle.ra_stamp.specs.declared.message.Message.TheVariants.{Reply}
use Rattle.ra_stamp.specs.declared.entry.Entry.{Entry}
use Rattle.ra_stamp.specs.Mode.{Conflict}
use Rattle.ra_stamp.specs.NodeId.{IsNodeNumber}
use Rattle.ra_automaton.specs.Steps.{Awaits}
use Rattle.ra_node.specs.Resource.{Resource, Use, use_of, held_entry, holder_of, waiting_at}
use Rattle.ra_node.specs.Resource.Use.{Nobody, WaitsBy, HoldsBy}
use Rattle.ra_node.specs.Node.{NodeState, opening_node, resource_at}
use Rattle.ra_node.specs.Events.{NodeEvents}
use Rattle.ra_table.specs.Table.{LockTable, TableRun}
use Rattle.ra_table.specs.Laws.{SameEntries}
use Rattle.ra_world.specs.declared.step.Step.{Step}
use Rattle.ra_world.specs.declared.step.Step.TheVariants.{Deliver}
use Rattle.ra_world.specs.Below.{LawsBelow}
use Rattle.ra_world.specs.Traffic.{Move, LeavesUnderWay, IsUnderWay, sent_by, repeated_by}
use Rattle.ra_world.specs.Run.{happened_at, marks_of, IsFit, IsRun, EndsWith, waiting_at_all}
use Rattle.ra_world.specs.Quiet.{requests_in, withdrawn_in}
use Rattle.ra_world.proofs.Lists.{filter_taken}
use Rattle.ra_world.proofs.Moves.{allows_all, allows_moves, fits_split}
use Rattle.ra_world.proofs.Dialogs.{belongs, between, belongs_at}
use Rattle.ra_world.proofs.Receiving.{was_answered}
use Rattle.ra_world.proofs.Protocol.{IsNode}
use Rattle.ra_world.proofs.Uses.{may_be_granted}
use Rattle.ra_world.proofs.WaitingCounts.{same_over}
use Rattle.ra_world.proofs.Balance.{asking_at_most}
use Rattle.ra_world.proofs.Cluster.{IsTraffic, states}
use Rattle.ra_world.proofs.Reached.{Reached, waits_nowhere, one_list, was_under_way}
use Rattle.ra_world.proofs.Runs.{every_run, same_ends, prefixes}

-- a request that is granted is the use of its resource
held_in : (u : Use) (e : Entry) → held_entry u ≡ Some e → u ≡ HoldsBy e
held_in Nobody e is = absurd cc
held_in (WaitsBy x) e is = absurd cc
held_in (HoldsBy x) e is = cc

held : (r : Resource) (e : Entry) → holder_of r ≡ Some e → use_of r ≡ HoldsBy e
held r e is = held_in (use_of r) e is

module _ (laws : LawsBelow) (n start : ℕ) (moves : List Move) (count : IsNodeNumber n) (run : IsRun n start moves) where
  pub at_end : Reached (Unit {0}) (Unit {0}) n start moves
  at_end = every_run laws n start moves (allows_all moves) count run

  pub same_at : (nodes : ℕ → NodeState) → EndsWith n start moves nodes → (i : ℕ) → IsNode n i → nodes i ≡ at_end.nodes i
  same_at nodes ends i at = same_ends laws.one_end n start moves nodes at_end.nodes ends at_end.ends i at

  -- ---- Who holds and who waits

  pub one_holds : (nodes : ℕ → NodeState) → EndsWith n start moves nodes → (i j : ℕ) (name : List ℕ) (a b : Entry) → IsNode n i → IsNode n j → i ≢ j
      → holder_of (resource_at (nodes i) name) ≡ Some a → holder_of (resource_at (nodes j) name) ≡ Some b → Conflict a.mode b.mode → ⊥
  one_holds nodes ends i j name a b at_i at_j apart holds_a holds_b conflict =
      let uses : (k : ℕ) → IsNode n k → (e : Entry) → holder_of (resource_at (nodes k) name) ≡ Some e → use_of (resource_at (at_end.nodes k) name) ≡ HoldsBy e =
      λ k at e is. held (resource_at (at_end.nodes k) name) e (sym (ap (λ (x : NodeState). holder_of (resource_at x name)) (same_at nodes ends k at)) ∙ is)
      in
      (may_be_granted laws.symmetric start n name at_end.nodes at_end.bag (at_end.invariant.protocol name).exchanges j at_j b (uses j at_j b holds_b)).free i a at_i apart (uses i at_i a holds_a) conflict

  pub has_table : (table : LockTable) × TableRun (marks_of moves) table
  has_table = (at_end.table, at_end.run)

  pub as_many_wait : (nodes : ℕ → NodeState) (table : LockTable) → EndsWith n start moves nodes → ((a b : LockTable) → TableRun (marks_of moves) a → TableRun (marks_of moves) b → SameEntries a b)
      → TableRun (marks_of moves) table → length table.waiting ≡ waiting_at_all n nodes
  as_many_wait nodes table ends same table_run =
      (same table at_end.table table_run at_end.run).waiting_count ∙ at_end.count
      ∙ same_over waiting_at waits_nowhere at_end.nodes nodes 1 n (λ i low high. sym (same_at nodes ends i (low, omega (arith, high))))

  pub sends_at_most : length (sent_by moves) ≤ 2 * (n - 1) * requests_in (marks_of moves) + length (repeated_by moves)
  sends_at_most = omega (arith, at_end.balance, asking_at_most (repeated_by moves))

  pub numbers_at_most : (nodes : ℕ → NodeState) → EndsWith n start moves nodes → (i : ℕ) (name : List ℕ) → IsNode n i → (resource_at (nodes i) name).state.highest ≤ start + requests_in (marks_of moves)
  numbers_at_most nodes ends i name at = omega (arith, at_end.highest i at name, ap (λ (x : NodeState). (resource_at x name).state.highest) (same_at nodes ends i at))

  -- ---- What is under way

  pub something_under_way : (left : List Message) × LeavesUnderWay moves left
  something_under_way = (at_end.bag, at_end.under_way)

  pub is_traffic : (message : Message) → IsUnderWay moves message → IsTraffic n message
  is_traffic message was = (was_under_way laws n start moves at_end message was).traffic

pub among_them : (moves : List Move) (left : List Message) (message : Message) → LeavesUnderWay moves left → IsUnderWay moves message ↔ Contains left message
among_them moves left message less = (λ was. subst (λ (xs : List Message). Contains xs message) (one_list moves was.0 left was.1 less) was.2, λ at. (left, less, at))

-- ---- No REPLY that is delivered is a stray

pub reply_awaited : LawsBelow → (n start : ℕ) (prefix suffix : List Move) (move : Move) (from to : ℕ) (name : List ℕ) (seq : ℕ) (node : NodeState) → IsNodeNumber n → IsRun n start (prefix ++ move ∷ suffix) → repeated_by prefix ≡ [] → withdrawn_in (marks_of prefix) ≡ 0
    → move.step ≡ Deliver (Reply from to name seq) → NodeEvents (opening_node to n start) (happened_at to prefix) node → (mode : Mode) × Awaits (resource_at node name).state from seq mode
reply_awaited laws n start prefix suffix move from to name seq node count run unrepeated unwithdrawn is end =
    let message = Reply from to name seq in
    let before : Reached (Unit {0}) ⊥ n start prefix = every_run laws n start prefix (allows_moves prefix (inr tt) (inl unrepeated) (inl unwithdrawn)) count (prefixes laws.splits n start (move ∷ suffix) prefix run) in
    let fit = subst (λ (step : Step). IsFit n prefix step move.sends move.marks) is (fits_split n [] prefix (move ∷ suffix) run.each_fits).1.0 in
    let was = was_under_way laws n start prefix before message fit in
    let sender = was.traffic.from in
    let s = states before.nodes name in
    let here = filter_taken (belongs name to from) before.bag message was.rest (belongs_at name to from message (record { asker = refl; answerer = refl; name_is = refl })) was.takes in
    let dialog = ((before.invariant.protocol name).exact (λ x. x)).dialog to from was.traffic.to (sender.first, sender.last) (λ e. sender.other (sym e)) in
    let answered = was_answered name to from (s to) (s from) (between name to from before.bag) seq (between name to from was.rest) here dialog in
    let same = laws.one_end (opening_node to n start) node (before.nodes to) (happened_at to prefix) end (before.ends to was.traffic.to.0 was.traffic.to.1) in
    (answered.mode, subst (λ (x : NodeState). Awaits (resource_at x name).state from seq answered.mode) (sym same) answered.awaits)
