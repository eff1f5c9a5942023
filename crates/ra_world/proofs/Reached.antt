-- What is reached at the end of a run: its nodes, what is under way, and its lock table, and all that holds of them. An
-- event of a node leads on.
use Rattle.std.proofs.Common.{◌≡◌, ℕ, ◌≤◌, List, [], ◌∷◌, ◌++◌, All, Contains, length, Option, Some, None, refl, sym, ap, ◌∙◌, subst, arith, inl, inr, ◌+◌, ◌-◌, ◌*◌, mul-add}
use Rattle.std.specs.Prelude.{IsTrue}
use Rattle.std.specs.Ordering.{nat_cmp}
use Rattle.std.specs.FinSet as set
use Rattle.std.specs.FinMap as finmap
use Rattle.std.proofs.lemmas.List.{length-append, append-nil}
use Rattle.std.proofs.lemmas.List.Elements.{All-nil, All-append, All-weaker}
use Rattle.ra_stamp.specs.declared.mode.Mode.{Mode}
use Rattle.ra_stamp.specs.declared.message.Message.{Message}
use Rattle.ra_stamp.specs.declared.entry.Mark.{Mark}
use Rattle.ra_stamp.specs.Message.{seq_of}
use Rattle.ra_stamp.specs.NodeId.{IsNodeNumber}
use Rattle.ra_bag.specs.Bag.{TakesFirst}
use Rattle.ra_automaton.proofs.Apart.{cases_same}
use Rattle.ra_node.proofs.Lookups.{nothing_met, same_or_apart}
use Rattle.ra_node.proofs.Updates.{IsUpdate, event_updates, updated_here}
use Rattle.ra_node.specs.Resource.{Resource, unmet, use_of, waiting_at}
use Rattle.ra_node.specs.Node.{NodeState, opening_node, resource_at, waiting_count}
use Rattle.ra_node.specs.Events.{Event, Happening, IsNamed, name_of_event, NodeEvent, NodeEvents, IsForThisNode}
use Rattle.ra_node.specs.Events.{Event as acts}
use Rattle.ra_node.specs.Carried.{IsSend, MarksLead}
use Rattle.ra_table.specs.Table.{LockTable, empty_table, TableSteps, TableRun}
use Rattle.ra_world.specs.Below.{LawsBelow}
use Rattle.ra_world.specs.Traffic.{Move, sent_by, put_in, put_by, taken_in, taken_by, lost_by, repeated_in, repeated_by, TakesEach, LeavesUnderWay, IsUnderWay}
use Rattle.ra_world.specs.Run.{events_at, happened_at, marks_of, EndsWith, with_node}
use Rattle.ra_world.specs.Quiet.{requests_in}
use Rattle.ra_world.proofs.Lists.{All-taken, takes_out, less_more, less_joined, less_alike}
use Rattle.ra_world.proofs.Moves.{sent_more, put_more, taken_more, lost_more, repeated_more, marks_more, happens, happened_more, event_copies_nothing, event_loses_nothing, requests_both}
use Rattle.ra_world.proofs.Members.{nobody}
use Rattle.ra_world.proofs.Protocol.{IsNode, HasOwn}
use Rattle.ra_world.proofs.AutomatonSteps.{awaits_has}
use Rattle.ra_world.proofs.Marking.{waiting_of, granted_of}
use Rattle.ra_world.proofs.Balance.{asking, owed}
use Rattle.ra_world.proofs.Rising.{RaisesTo, Rises}
use Rattle.ra_world.proofs.WaitingCounts.{total, over, one_update, one_node, marks_count, use_count, none_counted}
use Rattle.ra_world.proofs.Cluster.{IsThere, IsTraffic, Invariant, Went, placed_at}
use Rattle.ra_world.proofs.Nodes.{put_node, EndsAt, happens_here, ends_after}

-- messages are lost only if Lossy is so, and repeated only if Copied is so
pub record Reached (Lossy Copied : Type 0) (n start : ℕ) (moves : List Move) : Type 0 where
  pub nodes : ℕ → NodeState
  pub bag : List Message
  pub table : LockTable
  pub ends : EndsWith n start moves nodes
  pub under_way : LeavesUnderWay moves bag
  pub run : TableRun (marks_of moves) table
  pub invariant : Invariant Lossy Copied start n nodes bag table
  pub count : length table.waiting ≡ over waiting_at nodes 1 n
  -- how many REQUESTs that came again joined a deferral of their sender's
  pub joined : ℕ
  pub none_joined : (Copied → ⊥) → joined ≡ 0
  pub balance : length (sent_by moves) + asking bag + asking (lost_by moves) + over owed nodes 1 n + joined ≡ 2 * (n - 1) * requests_in (marks_of moves) + asking (repeated_by moves)
  -- the first number of names that the node has not met, or has forgotten
  pub starts : (i : ℕ) → IsNode n i → (nodes i).start ≤ start + requests_in (marks_of moves)
  pub highest : (i : ℕ) → IsNode n i → (r : List ℕ) → (resource_at (nodes i) r).state.highest ≤ start + requests_in (marks_of moves)
  pub raising : All (RaisesTo (start + requests_in (marks_of moves))) bag

-- ---- At the start

pub owes_nowhere : (me nodes : ℕ) (name : List ℕ) (start : ℕ) → owed (unmet me nodes name start) ≡ 0
owes_nowhere me nodes name start = finmap.len-empty nat_cmp ℕ

pub waits_nowhere : (me nodes : ℕ) (name : List ℕ) (start : ℕ) → waiting_at (unmet me nodes name start) ≡ 0
waits_nowhere me nodes name start = refl

some_none : (k : ℕ) → ◌≡◌ {A = Option ℕ} None (Some k) → ⊥
some_none k e = cc

pub opening : LawsBelow → (Lossy Copied : Type 0) (n start : ℕ) → IsNodeNumber n → Reached Lossy Copied n start []
opening laws Lossy Copied n start count =
    let nodes = λ (i : ℕ). opening_node i n start in
    let there : (i : ℕ) → IsNode n i → IsThere n i (opening_node i n start) = λ i at. record { consistent = laws.opens i n start count at; me_is = refl; nodes_is = refl } in
    record {
      nodes = nodes;
      bag = [];
      table = empty_table;
      ends = λ i low high. refl;
      under_way = refl;
      run = refl;
      invariant = record {
        each = there;
        protocol = λ r.
            let each = λ (i : ℕ) (at : IsNode n i). placed_at n i (opening_node i n start) r (there i at) in
            let none = λ (i j : ℕ). ap (λ (x : Resource). finmap.get x.state.deferred i) (nothing_met j n start r) ∙ finmap.get-empty nat_cmp i in
            let idle = λ (i seq : ℕ) (mode : Mode) (own : HasOwn (resource_at (opening_node i n start) r).state.phase seq mode). subst (λ (x : Resource). HasOwn x.state.phase seq mode) (nothing_met i n start r) own in
            record {
              exchanges = record {
                each = each;
                dialog = λ i j at_i at_j apart. record {
                  asked = λ seq mode at. absurd (omega (arith, at.1));
                  deferred = λ seq is. absurd (some_none seq (sym (none i j) ∙ is));
                  answered = λ seq at. absurd (omega (arith, at.1));
                  pending = λ seq mode awaits. absurd (idle i seq mode (awaits_has (resource_at (opening_node i n start) r).state j seq mode awaits));
                };
                passed = λ i j seq mode at_i at_j apart own free. absurd (idle i seq mode own);
                risen = λ i at. omega (arith, ap (λ (x : Resource). x.state.highest) (nothing_met i n start r));
              };
              exact = λ _. record {
                each = each;
                dialog = λ i j at_i at_j apart. inl (record { none = refl; not_deferred = none i j; unheard = λ awaited. absurd (nobody j (subst (λ (x : Resource). IsTrue (set.contains x.state.awaited j)) (nothing_met i n start r) awaited)) });
                passed = λ i j seq mode at_i at_j apart own free. absurd (idle i seq mode own);
              };
            };
        traffic = All-nil (IsTraffic n);
        tabled = record {
          waiting = λ i r at. sym (ap (λ (x : Resource). waiting_of (use_of x)) (nothing_met i n start r));
          holding = λ i r at. sym (ap (λ (x : Resource). granted_of (use_of x)) (nothing_met i n start r));
          waiting_known = λ e at. absurd (omega (arith, at.1));
          holding_known = λ e at. absurd (omega (arith, at.1));
          reached = λ e at j j_at. absurd (omega (arith, at.1));
        };
      };
      count = sym (none_counted waiting_at waits_nowhere nodes 1 n (λ i. refl));
      joined = 0;
      none_joined = λ _. refl;
      balance = omega (arith, none_counted owed owes_nowhere nodes 1 n (λ i. refl));
      starts = λ i at. omega arith;
      highest = λ i at r. omega (arith, ap (λ (x : Resource). x.state.highest) (nothing_met i n start r));
      raising = All-nil (RaisesTo (start + 0));
    }

-- ---- What is under way

-- one more move: what it takes is gone, and what it puts there comes after the rest
pub under_way_more : (ms : List Move) (m : Move) (left next : List Message) → LeavesUnderWay ms left → TakesEach left (taken_in m.step) next → LeavesUnderWay (ms ++ m ∷ []) (next ++ put_in m)
under_way_more ms m left next less takes =
    subst (λ (put : List Message). TakesEach put (taken_by (ms ++ m ∷ [])) (next ++ put_in m)) (sym (put_more ms m))
    (subst (λ (taken : List Message). TakesEach (put_by ms ++ put_in m) taken (next ++ put_in m)) (sym (taken_more ms m))
    (less_more (put_by ms) (taken_by ms ++ taken_in m.step) next (put_in m) (less_joined (put_by ms) (taken_by ms) left (taken_in m.step) next less takes)))

-- if it puts no copy there, that is what it sends
pub under_way_sent : (ms : List Move) (m : Move) (left next : List Message) → LeavesUnderWay ms left → TakesEach left (taken_in m.step) next → repeated_in m.step ≡ [] → LeavesUnderWay (ms ++ m ∷ []) (next ++ m.sends)
under_way_sent ms m left next less takes none =
    subst (λ (xs : List Message). LeavesUnderWay (ms ++ m ∷ []) (next ++ xs)) (ap (λ (xs : List Message). m.sends ++ xs) none ∙ append-nil m.sends) (under_way_more ms m left next less takes)

-- what is under way is one list
pub one_list : (ms : List Move) (a b : List Message) → LeavesUnderWay ms a → LeavesUnderWay ms b → a ≡ b
one_list ms a b less less' = less_alike (put_by ms) (taken_by ms) a b less less'

pub record IsTakenFrom (n : ℕ) (bag : List Message) (message : Message) : Type 0 where
  pub rest : List Message
  pub takes : TakesFirst bag message rest
  pub traffic : IsTraffic n message

pub was_under_way : LawsBelow → {Lossy Copied : Type 0} (n start : ℕ) (ms : List Move) (reached : Reached Lossy Copied n start ms) (message : Message) → IsUnderWay ms message → IsTakenFrom n reached.bag message
was_under_way laws n start ms reached message was =
    let same = one_list ms was.0 reached.bag was.1 reached.under_way in
    let out = takes_out laws.same_or_apart reached.bag message (subst (λ (xs : List Message). Contains xs message) same was.2) in
    record { rest = out.0; takes = out.1; traffic = (All-taken (IsTraffic n) reached.bag message out.0 out.1 reached.invariant.traffic).0 }

-- ---- An event of a node

module _ (laws : LawsBelow) {Lossy Copied : Type 0} (n start : ℕ) (ms : List Move) (m : Move) (before : Reached Lossy Copied n start ms) (p : ℕ) (within : IsNode n p) (event : Event) (here : events_at p m.step ≡ event ∷ []) where
  pub event_happened : EndsAt n start (ms ++ m ∷ []) p → (new : NodeState) × NodeEvent (before.nodes p) event m.sends m.marks new
  event_happened end =
      let parts = laws.splits (happened_at p ms) (happens p m) (opening_node p n start) end.0 (subst (λ (hs : List Happening). NodeEvents (opening_node p n start) hs end.0) (happened_more p ms m) end.1) in
      let same : parts.0 ≡ before.nodes p = laws.one_end (opening_node p n start) parts.0 (before.nodes p) (happened_at p ms) parts.1 (before.ends p within.0 within.1) in
      let one = subst (λ (hs : List Happening). NodeEvents parts.0 hs end.0) (happens_here p m event here) parts.2 in
      (one.0, subst (λ (x : NodeState). NodeEvent x event m.sends m.marks one.0) same one.1)

  module _ (new : NodeState) (happened : NodeEvent (before.nodes p) event m.sends m.marks new) (for : IsForThisNode (before.nodes p) event) (numbered : (message : Message) → event ≡ acts.Receive message → 1 ≤ seq_of message) (named : IsNamed event) where
    abbrev pub name : List ℕ
    name = name_of_event event

    pub went : Went n before.nodes (with_node before.nodes p new) p name new m.sends
    went =
        let there = before.invariant.each p within in
        let same = laws.same_node (before.nodes p) new event m.sends m.marks happened in
        record {
          within = within;
          turned = put_node before.nodes p new;
          there = record { consistent = laws.consistent (before.nodes p) new event m.sends m.marks there.consistent for happened; me_is = same.0 ∙ there.me_is; nodes_is = same.1 ∙ there.nodes_is };
          others = λ q apart. laws.other_names (before.nodes p) new event m.sends m.marks q happened named apart;
          sent = subst (λ (k : ℕ). All (IsSend p k name) m.sends) there.nodes_is
              (subst (λ (k : ℕ). All (IsSend k (before.nodes p).nodes name) m.sends) there.me_is (laws.own_sends (before.nodes p) new event m.sends m.marks there.consistent for happened));
          numbered = laws.numbered (before.nodes p) new event m.sends m.marks there.consistent for happened numbered;
        }

    pub leads : MarksLead (use_of (resource_at (before.nodes p) name)) m.marks (use_of (resource_at new name))
    leads = laws.one_request (before.nodes p) new event m.sends m.marks happened

    changed : (x : Resource) × IsUpdate (before.nodes p) name x new
    changed = event_updates (before.nodes p) new event m.sends m.marks happened named

    resource_is : resource_at new name ≡ changed.0
    resource_is = updated_here (before.nodes p) new name changed.0 changed.1

    counted : (t : LockTable) → TableSteps before.table m.marks t → length t.waiting ≡ over waiting_at (with_node before.nodes p new) 1 n
    counted t steps =
        let marked = marks_count m.marks before.table t (use_of (resource_at (before.nodes p) name)) (use_of (resource_at new name)) steps leads in
        let was = use_count (resource_at (before.nodes p) name) ((before.invariant.each p within).consistent.each name).client_fits in
        let is = use_count (resource_at new name) (went.there.consistent.each name).client_fits in
        let resource = one_update waiting_at waits_nowhere (before.nodes p) new name changed.0 changed.1 in
        let node = one_node waiting_at waits_nowhere before.nodes (with_node before.nodes p new) p 1 n within.0 (omega (arith, within.1)) went.turned.there in
        omega (arith, marked, was, is, resource, node, before.count, ap waiting_count went.turned.here, ap waiting_at resource_is)

    balanced_after : (bag : List Message) (more : ℕ) → length m.sends + asking bag + owed (resource_at new name) + more ≡ asking before.bag + owed (resource_at (before.nodes p) name) + 2 * (n - 1) * requests_in m.marks
        → length (sent_by (ms ++ m ∷ [])) + asking bag + asking (lost_by (ms ++ m ∷ [])) + over owed (with_node before.nodes p new) 1 n + (before.joined + more)
        ≡ 2 * (n - 1) * requests_in (marks_of (ms ++ m ∷ [])) + asking (repeated_by (ms ++ m ∷ []))
    balanced_after bag more balanced =
        let resource = one_update owed owes_nowhere (before.nodes p) new name changed.0 changed.1 in
        let node = one_node owed owes_nowhere before.nodes (with_node before.nodes p new) p 1 n within.0 (omega (arith, within.1)) went.turned.there in
        let sent = ap length (sent_more ms m) ∙ length-append (sent_by ms) m.sends in
        let marked = ap requests_in (marks_more ms m) ∙ requests_both (marks_of ms) m.marks in
        let product : 2 * (n - 1) * requests_in (marks_of (ms ++ m ∷ [])) ≡ 2 * (n - 1) * requests_in (marks_of ms) + 2 * (n - 1) * requests_in m.marks =
        ap (λ k. 2 * (n - 1) * k) marked ∙ mul-add (2 * (n - 1)) (requests_in (marks_of ms)) (requests_in m.marks)
        in
        let lost = ap asking (lost_more ms m ∙ ap (λ (xs : List Message). lost_by ms ++ xs) (event_loses_nothing p m.step event here) ∙ append-nil (lost_by ms)) in
        let copied = ap asking (repeated_more ms m ∙ ap (λ (xs : List Message). repeated_by ms ++ xs) (event_copies_nothing p m.step event here) ∙ append-nil (repeated_by ms)) in
        omega (arith, before.balance, balanced, resource, node, sent, lost, copied, product, ap (total owed) went.turned.here, ap owed resource_is)

    requests_now : requests_in (marks_of (ms ++ m ∷ [])) ≡ requests_in (marks_of ms) + requests_in m.marks
    requests_now = ap requests_in (marks_more ms m) ∙ requests_both (marks_of ms) m.marks

    starts_after : (i : ℕ) → IsNode n i → (with_node before.nodes p new i).start ≤ start + requests_in (marks_of (ms ++ m ∷ []))
    starts_after i at = elim (cases_same i p) [
      | inr apart ↦ omega (arith, requests_now, before.starts i at, ap (λ (x : NodeState). x.start) (went.turned.there i apart))
      | inl is ↦
          let now = ap (λ (x : NodeState). x.start) (ap (with_node before.nodes p new) is ∙ went.turned.here) in
          omega (arith, requests_now, now, before.starts p within, laws.same_start (before.nodes p) new event m.sends m.marks happened named)
    ]

    highest_after : Rises (resource_at new name) m.sends (start + requests_in (marks_of ms) + requests_in m.marks) → (i : ℕ) → IsNode n i → (r : List ℕ)
        → (resource_at (with_node before.nodes p new i) r).state.highest ≤ start + requests_in (marks_of (ms ++ m ∷ []))
    highest_after rises i at r = elim (cases_same i p) [
      | inr apart ↦ omega (arith, requests_now, before.highest i at r, ap (λ (x : NodeState). (resource_at x r).state.highest) (went.turned.there i apart))
      | inl is ↦
          let now = ap (λ (x : NodeState). (resource_at x r).state.highest) (ap (with_node before.nodes p new) is ∙ went.turned.here) in
          elim (same_or_apart r name) [
            | inl same ↦ omega (arith, requests_now, now, rises.highest, ap (λ (q : List ℕ). (resource_at new q).state.highest) same)
            | inr other ↦ omega (arith, requests_now, now, before.highest p within r, ap (λ (x : Resource). x.state.highest) (went.others r other))
          ]
    ]

    raising_after : (rest : List Message) → All (RaisesTo (start + requests_in (marks_of ms))) rest → Rises (resource_at new name) m.sends (start + requests_in (marks_of ms) + requests_in m.marks)
        → All (RaisesTo (start + requests_in (marks_of (ms ++ m ∷ [])))) (rest ++ m.sends)
    raising_after rest all rises =
        let was = start + requests_in (marks_of ms) in
        let top = start + requests_in (marks_of (ms ++ m ∷ [])) in
        All-append (RaisesTo top) rest m.sends (All-weaker (RaisesTo was) (RaisesTo top) (λ x low. omega (arith, requests_now, low)) rest all)
        (All-weaker (RaisesTo (was + requests_in m.marks)) (RaisesTo top) (λ x low. omega (arith, requests_now, low)) m.sends rises.raising)

    -- all of it together
    pub reached : (rest : List Message) → LeavesUnderWay (ms ++ m ∷ []) (rest ++ m.sends) → (t : LockTable) × TableSteps before.table m.marks t × Invariant Lossy Copied start n (with_node before.nodes p new) (rest ++ m.sends) t
        → (more : ℕ) → ((Copied → ⊥) → more ≡ 0) → length m.sends + asking (rest ++ m.sends) + owed (resource_at new name) + more ≡ asking before.bag + owed (resource_at (before.nodes p) name) + 2 * (n - 1) * requests_in m.marks
        → All (RaisesTo (start + requests_in (marks_of ms))) rest → Rises (resource_at new name) m.sends (start + requests_in (marks_of ms) + requests_in m.marks)
        → Reached Lossy Copied n start (ms ++ m ∷ [])
    reached rest under_way result more none_more balanced raising rises =
        record {
          nodes = with_node before.nodes p new;
          bag = rest ++ m.sends;
          table = result.0;
          ends = ends_after laws.joins n start ms m before.nodes p event new before.ends here happened;
          under_way = under_way;
          run = subst (λ (marks : List Mark). TableRun marks result.0) (sym (marks_more ms m)) (laws.table_joins (marks_of ms) m.marks empty_table before.table result.0 before.run result.1);
          invariant = result.2;
          count = counted result.0 result.1;
          joined = before.joined + more;
          none_joined = λ uncopied. omega (arith, before.none_joined uncopied, none_more uncopied);
          balance = balanced_after (rest ++ m.sends) more balanced;
          starts = starts_after;
          highest = highest_after rises;
          raising = raising_after rest raising rises;
        }
