-- Each step of a run leads from what is reached before it to what is reached after it.
use Rattle.std.proofs.Common.{◌≡◌, ℕ, ◌≤◌, true, List, [], ◌∷◌, ◌++◌, All, Contains, length, ◌+◌, refl, sym, ap, ◌∙◌, subst, arith, ◌-◌, ◌*◌, ◌⊎◌, None, inl, inr}
use Rattle.std.specs.FinMap as finmap
use Rattle.std.proofs.lemmas.List.{append-nil}
use Rattle.std.proofs.lemmas.List.Elements.{All-push, All-contains}
use Rattle.std.proofs.lemmas.Bool.{false≢true}
use Rattle.ra_stamp.specs.declared.mode.Mode.{Mode}
use Rattle.ra_stamp.specs.declared.message.Message.{Message}
use Rattle.ra_stamp.specs.declared.message.Message.TheVariants.{Request, Reply}
use Rattle.ra_stamp.specs.declared.entry.Mark.{Mark}
use Rattle.ra_stamp.specs.Message.{from_of, to_of, name_of, seq_of}
use Rattle.ra_automaton.specs.State.{State, IsOtherNode, IsForNode}
use Rattle.ra_bag.specs.Bag.{TakesFirst}
use Rattle.ra_node.specs.Resource.{Resource}
use Rattle.ra_automaton.specs.State.{IsConsistent}
use Rattle.ra_node.specs.Turns.{AskTurn, LeaveTurn, CancelTurn, ReceiveTurn}
use Rattle.ra_node.specs.Resource.{waiting_at}
use Rattle.ra_node.proofs.Forgetting.{NothingElse, any_ones, slots_of, all_consistent, total_stays, waiting_unmoved, deferrals_unmoved}
use Rattle.ra_automaton.proofs.Apart.{cases_same}
use Rattle.ra_node.specs.Node.{NodeState, resource_at}
use Rattle.ra_node.specs.Events.{IsForThisNode}
use Rattle.ra_node.specs.Events.{Event as acts}
use Rattle.ra_table.specs.Table.{TableRun}
use Rattle.ra_world.specs.declared.step.Step.{Step}
use Rattle.ra_world.specs.declared.step.Step.TheVariants.{Ask, Leave, Cancel, Deliver, Lose, Repeat, Forget}
use Rattle.ra_world.specs.Below.{LawsBelow}
use Rattle.ra_world.specs.Traffic.{Move, LeavesUnderWay, IsUnderWay, sent_by, lost_by, repeated_by}
use Rattle.ra_world.specs.Run.{marks_of, IsFit, with_node}
use Rattle.ra_world.specs.Quiet.{requests_in, withdrawn_in}
use Rattle.ra_world.proofs.Lists.{filter_taken, All-taken}
use Rattle.ra_world.proofs.Moves.{Allows, sent_more, lost_more, repeated_more, marks_more, at_node}
use Rattle.ra_world.proofs.Dialogs.{belongs, between, belongs_at}
use Rattle.ra_world.proofs.Receiving.{was_asked}
use Rattle.ra_world.proofs.Balance.{is_request, asking, asking_both, asking_taken, owed, ask_balanced, leave_balanced, cancel_balanced, receive_balanced}
use Rattle.ra_world.proofs.Rising.{RaisesTo, ask_rises, leave_rises, cancel_rises, receive_rises}
use Rattle.ra_world.proofs.Protocol.{IsNode, Protocol}
use Rattle.ra_world.proofs.WaitingCounts.{total, one_node}
use Rattle.ra_node.proofs.Lookups.{resource_changed}
use Rattle.ra_node.proofs.Updates.{received_turn}
use Rattle.ra_world.proofs.Cluster.{states, IsThere, asked, left, cancelled, forgot, received, lost, copied}
use Rattle.ra_world.proofs.Nodes.{EndsAt, put_node, ends_after, left_alone}
use Rattle.ra_world.proofs.Reached.{Reached, waits_nowhere, owes_nowhere, under_way_more, under_way_sent, one_list, was_under_way, event_happened, went, leads, reached}

-- a REQUEST that comes was not deferred before
fresh_at : {Lossy : Type 0} (n : ℕ) (s : ℕ → State) (bag rest : List Message) (message : Message) → Protocol Lossy n (name_of message) s bag → IsNode n (to_of message) → IsOtherNode (to_of message) n (from_of message)
    → TakesFirst bag message rest → is_request message ≡ true → finmap.get (s (to_of message)).deferred (from_of message) ≡ None
fresh_at n s bag rest (Request from to name mode seq) protocol within other takes asks =
    (was_asked name from to (s from) (s to) (between name from to bag) seq mode (between name from to rest)
    (filter_taken (belongs name from to) bag (Request from to name mode seq) rest (belongs_at name from to (Request from to name mode seq) (record { asker = refl; answerer = refl; name_is = refl })) takes)
    (protocol.dialog from to (other.first, other.last) within other.other)).not_deferred
fresh_at n s bag rest (Reply from to name seq) protocol within other takes asks = absurd (false≢true asks)

fresh_request : {Lossy : Type 0} (n : ℕ) (s : ℕ → State) (bag rest : List Message) (message : Message) → Protocol Lossy n (name_of message) s bag → IsNode n (to_of message) → IsOtherNode (to_of message) n (from_of message)
    → TakesFirst bag message rest → (from to seq : ℕ) (name : List ℕ) (mode : Mode) → message ≡ Request from to name mode seq → finmap.get (s (to_of message)).deferred from ≡ None
fresh_request n s bag rest message protocol within other takes from to seq name mode is =
    ap (finmap.get (s (to_of message)).deferred) (sym (ap from_of is)) ∙ fresh_at n s bag rest message protocol within other takes (ap is_request is)

-- no message comes by an ask or a leave, and one that comes has its own number
not_by_ask : (client : ℕ) (name : List ℕ) (mode : Mode) (message : Message) → acts.Ask client name mode ≡ acts.Receive message → 1 ≤ seq_of message
not_by_ask client name mode message is = absurd cc

not_by_leave : (client : ℕ) (name : List ℕ) (message : Message) → acts.Leave client name ≡ acts.Receive message → 1 ≤ seq_of message
not_by_leave client name message is = absurd cc

not_by_cancel : (client : ℕ) (name : List ℕ) (message : Message) → acts.Cancel client name ≡ acts.Receive message → 1 ≤ seq_of message
not_by_cancel client name message is = absurd cc

by_receive : (came : Message) → 1 ≤ seq_of came → (message : Message) → acts.Receive came ≡ acts.Receive message → 1 ≤ seq_of message
by_receive came numbered message is = let same : came ≡ message = cc in subst (λ (x : Message). 1 ≤ seq_of x) same numbered

module _ (laws : LawsBelow) {Lossy Copied : Type 0} (n start : ℕ) (ms : List Move) (sends : List Message) (marks : List Mark) (before : Reached Lossy Copied n start ms) where
  abbrev move : Step → Move
  move step = record { step = step; sends = sends; marks = marks }

  ask_reached : (p client : ℕ) (name : List ℕ) (mode : Mode) → IsNode n p → EndsAt n start (ms ++ move (Ask p client name mode) ∷ []) p → Reached Lossy Copied n start (ms ++ move (Ask p client name mode) ∷ [])
  ask_reached p client name mode within end =
      let m = move (Ask p client name mode) in
      let event = acts.Ask client name mode in
      let here = at_node p event in
      let happened = event_happened laws n start ms m before p within event here end in
      let new = happened.0 in
      let unnumbered = not_by_ask client name mode in
      let turn : AskTurn (resource_at (before.nodes p) name) client mode sends marks (resource_at new name) =
      subst (λ (x : Resource). AskTurn (resource_at (before.nodes p) name) client mode sends marks x)
      (sym (ap (λ (x : NodeState). resource_at x name) happened.1.new_is ∙ resource_changed (before.nodes p) name happened.1.resource)) happened.1.turn
      in
      let result = asked laws.symmetric start n before.nodes (with_node before.nodes p new) p name new sends before.bag before.bag before.table before.invariant
      (went laws n start ms m before p within event here new happened.1 tt unnumbered tt) client mode marks refl turn
      (leads laws n start ms m before p within event here new happened.1 tt unnumbered tt)
      in
      let placed = (before.invariant.protocol name).exchanges.each p within in
      let balanced = ask_balanced n (2 * (n - 1)) refl (resource_at (before.nodes p) name) (resource_at new name) (subst (λ (k : ℕ). IsNode n k) (sym placed.me_is) within) placed.nodes_is sends marks client mode before.bag turn in
      let rises = ask_rises (resource_at (before.nodes p) name) (resource_at new name) sends marks (start + requests_in (marks_of ms)) (before.highest p within name) client mode turn in
      reached laws n start ms m before p within event here new happened.1 tt unnumbered tt before.bag (under_way_sent ms m before.bag before.bag before.under_way refl refl) result
      0 (λ _. refl) (omega (arith, balanced, asking_both before.bag sends)) before.raising rises

  leave_reached : (p client : ℕ) (name : List ℕ) → IsNode n p → EndsAt n start (ms ++ move (Leave p client name) ∷ []) p → Reached Lossy Copied n start (ms ++ move (Leave p client name) ∷ [])
  leave_reached p client name within end =
      let m = move (Leave p client name) in
      let event = acts.Leave client name in
      let here = at_node p event in
      let happened = event_happened laws n start ms m before p within event here end in
      let new = happened.0 in
      let unnumbered = not_by_leave client name in
      let turn : LeaveTurn (resource_at (before.nodes p) name) client sends marks (resource_at new name) =
      subst (λ (x : Resource). LeaveTurn (resource_at (before.nodes p) name) client sends marks x)
      (sym (ap (λ (x : NodeState). resource_at x name) happened.1.new_is ∙ resource_changed (before.nodes p) name happened.1.resource)) happened.1.turn
      in
      let result = left laws.symmetric start n before.nodes (with_node before.nodes p new) p name new sends before.bag before.bag before.table before.invariant
      (went laws n start ms m before p within event here new happened.1 tt unnumbered tt) client marks refl turn
      (leads laws n start ms m before p within event here new happened.1 tt unnumbered tt)
      (λ mid replies step. laws.leave_consistent (resource_at (before.nodes p) name).state mid replies ((before.invariant.each p within).consistent.each name).state step)
      in
      let placed = (before.invariant.protocol name).exchanges.each p within in
      let balanced = leave_balanced n (2 * (n - 1)) refl (resource_at (before.nodes p) name) (resource_at new name) (subst (λ (k : ℕ). IsNode n k) (sym placed.me_is) within) placed.nodes_is sends marks client before.bag turn in
      let rises = leave_rises (resource_at (before.nodes p) name) (resource_at new name) sends marks (start + requests_in (marks_of ms)) (before.highest p within name) client turn in
      reached laws n start ms m before p within event here new happened.1 tt unnumbered tt before.bag (under_way_sent ms m before.bag before.bag before.under_way refl refl) result
      0 (λ _. refl) (omega (arith, balanced, asking_both before.bag sends)) before.raising rises

  cancel_reached : (withdrawn_in marks ≡ 0) ⊎ Copied → (p client : ℕ) (name : List ℕ) → IsNode n p → EndsAt n start (ms ++ move (Cancel p client name) ∷ []) p → Reached Lossy Copied n start (ms ++ move (Cancel p client name) ∷ [])
  cancel_reached may p client name within end =
      let m = move (Cancel p client name) in
      let event = acts.Cancel client name in
      let here = at_node p event in
      let happened = event_happened laws n start ms m before p within event here end in
      let new = happened.0 in
      let unnumbered = not_by_cancel client name in
      let turn : CancelTurn (resource_at (before.nodes p) name) client sends marks (resource_at new name) =
      subst (λ (x : Resource). CancelTurn (resource_at (before.nodes p) name) client sends marks x)
      (sym (ap (λ (x : NodeState). resource_at x name) happened.1.new_is ∙ resource_changed (before.nodes p) name happened.1.resource)) happened.1.turn
      in
      let result = cancelled laws.symmetric start n before.nodes (with_node before.nodes p new) p name new sends before.bag before.bag before.table before.invariant
      (went laws n start ms m before p within event here new happened.1 tt unnumbered tt) client marks refl turn
      (leads laws n start ms m before p within event here new happened.1 tt unnumbered tt)
      may (λ mid replies step. laws.withdraw_consistent (resource_at (before.nodes p) name).state mid replies ((before.invariant.each p within).consistent.each name).state step)
      in
      let placed = (before.invariant.protocol name).exchanges.each p within in
      let balanced = cancel_balanced n (2 * (n - 1)) refl (resource_at (before.nodes p) name) (resource_at new name) (subst (λ (k : ℕ). IsNode n k) (sym placed.me_is) within) placed.nodes_is sends marks client before.bag turn in
      let rises = cancel_rises (resource_at (before.nodes p) name) (resource_at new name) sends marks (start + requests_in (marks_of ms)) (before.highest p within name) client turn in
      reached laws n start ms m before p within event here new happened.1 tt unnumbered tt before.bag (under_way_sent ms m before.bag before.bag before.under_way refl refl) result
      0 (λ _. refl) (omega (arith, balanced, asking_both before.bag sends)) before.raising rises

  deliver_reached : (message : Message) → IsUnderWay ms message → ((i : ℕ) → IsNode n i → EndsAt n start (ms ++ move (Deliver message) ∷ []) i) → Reached Lossy Copied n start (ms ++ move (Deliver message) ∷ [])
  deliver_reached message is_under_way ends =
      let m = move (Deliver message) in
      let was = was_under_way laws n start ms before message is_under_way in
      let p = to_of message in
      let within = was.traffic.to in
      let event = acts.Receive message in
      let here = at_node p event in
      let happened = event_happened laws n start ms m before p within event here (ends p within) in
      let new = happened.0 in
      let numbered = by_receive message was.traffic.numbered in
      let name = name_of message in
      let there = before.invariant.each p within in
      let for' : IsForNode p n message = record { to = refl; from = was.traffic.from } in
      let for : IsForThisNode (before.nodes p) event = subst (λ (k : ℕ). IsForNode k (before.nodes p).nodes message) (sym there.me_is) (subst (λ (k : ℕ). IsForNode p k message) (sym there.nodes_is) for') in
      let turn : ReceiveTurn (resource_at (before.nodes p) name) message sends marks (resource_at new name) =
      received_turn (before.nodes p) new message sends marks happened.1
      in
      let result = received laws.symmetric start n before.nodes (with_node before.nodes p new) p name new sends before.bag was.rest before.table before.invariant
      (went laws n start ms m before p within event here new happened.1 for numbered tt) message marks was.takes for' refl turn
      (leads laws n start ms m before p within event here new happened.1 for numbered tt)
      in
      let placed = (before.invariant.protocol name).exchanges.each p within in
      let balanced = receive_balanced n (2 * (n - 1)) refl (resource_at (before.nodes p) name) (resource_at new name) (subst (λ (k : ℕ). IsNode n k) (sym placed.me_is) within) placed.nodes_is sends marks message before.bag was.rest was.takes turn in
      let raising = All-taken (RaisesTo (start + requests_in (marks_of ms))) before.bag message was.rest was.takes before.raising in
      let rises = receive_rises (resource_at (before.nodes p) name) (resource_at new name) sends marks (start + requests_in (marks_of ms)) (before.highest p within name) message raising.0 turn in
      reached laws n start ms m before p within event here new happened.1 for numbered tt was.rest (under_way_sent ms m before.bag was.rest before.under_way (was.rest, was.takes, refl) refl) result
      balanced.0 (λ uncopied. balanced.2 (fresh_request n (states before.nodes name) before.bag was.rest message ((before.invariant.protocol name).exact uncopied) within was.traffic.from was.takes))
      (omega (arith, balanced.1, asking_both was.rest sends)) raising.1 rises

  -- a step without marks makes no request, and raises no number
  unmarked : (step : Step) → marks ≡ [] → requests_in (marks_of (ms ++ move step ∷ [])) ≡ requests_in (marks_of ms)
  unmarked step none = ap requests_in (marks_more ms (move step) ∙ ap (λ (xs : List Mark). marks_of ms ++ xs) none ∙ append-nil (marks_of ms))

  raising_still : (step : Step) → marks ≡ [] → (bag : List Message) → All (RaisesTo (start + requests_in (marks_of ms))) bag → All (RaisesTo (start + requests_in (marks_of (ms ++ move step ∷ [])))) bag
  raising_still step none bag all = subst (λ (k : ℕ). All (RaisesTo (start + k)) bag) (sym (unmarked step none)) all

  lose_reached : Lossy → (message : Message) → IsUnderWay ms message → sends ≡ [] → marks ≡ [] → Reached Lossy Copied n start (ms ++ move (Lose message) ∷ [])
  lose_reached lossy message is_under_way no_sends no_marks =
      let m = move (Lose message) in
      let was = was_under_way laws n start ms before message is_under_way in
      record {
        nodes = before.nodes;
        bag = was.rest;
        table = before.table;
        ends = λ i low high. left_alone n start i ms m (before.nodes i) refl (before.ends i low high);
        under_way = subst (λ (xs : List Message). LeavesUnderWay (ms ++ m ∷ []) xs) (ap (λ (xs : List Message). was.rest ++ xs) no_sends ∙ append-nil was.rest) (under_way_sent ms m before.bag was.rest before.under_way (was.rest, was.takes, refl) refl);
        run = subst (λ (xs : List Mark). TableRun xs before.table) (sym (marks_more ms m ∙ ap (λ (xs : List Mark). marks_of ms ++ xs) no_marks ∙ append-nil (marks_of ms))) before.run;
        invariant = lost lossy start n before.nodes before.bag was.rest before.table message before.invariant was.takes;
        count = before.count;
        joined = before.joined;
        none_joined = before.none_joined;
        balance = omega (
          arith,
          before.balance,
          asking_taken before.bag message was.rest was.takes,
          ap asking (lost_more ms m) ∙ asking_both (lost_by ms) (message ∷ []),
          ap asking (repeated_more ms m ∙ append-nil (repeated_by ms)),
          ap length (sent_more ms m ∙ ap (λ (xs : List Message). sent_by ms ++ xs) no_sends ∙ append-nil (sent_by ms)),
          ap (λ k. 2 * (n - 1) * k) (unmarked (Lose message) no_marks),
        );
        starts = λ i at. omega (arith, before.starts i at, unmarked (Lose message) no_marks);
        highest = λ i at r. omega (arith, before.highest i at r, unmarked (Lose message) no_marks);
        raising = raising_still (Lose message) no_marks was.rest (All-taken (RaisesTo (start + requests_in (marks_of ms))) before.bag message was.rest was.takes before.raising).1;
      }

  copy_reached : Copied → (message : Message) → IsUnderWay ms message → sends ≡ [] → marks ≡ [] → Reached Lossy Copied n start (ms ++ move (Repeat message) ∷ [])
  copy_reached copies message is_under_way no_sends no_marks =
      let m = move (Repeat message) in
      let there : Contains before.bag message = subst (λ (xs : List Message). Contains xs message) (one_list ms is_under_way.0 before.bag is_under_way.1 before.under_way) is_under_way.2 in
      record {
        nodes = before.nodes;
        bag = before.bag ++ message ∷ [];
        table = before.table;
        ends = λ i low high. left_alone n start i ms m (before.nodes i) refl (before.ends i low high);
        under_way = subst (λ (xs : List Message). LeavesUnderWay (ms ++ m ∷ []) (before.bag ++ xs)) (ap (λ (xs : List Message). xs ++ message ∷ []) no_sends) (under_way_more ms m before.bag before.bag before.under_way refl);
        run = subst (λ (xs : List Mark). TableRun xs before.table) (sym (marks_more ms m ∙ ap (λ (xs : List Mark). marks_of ms ++ xs) no_marks ∙ append-nil (marks_of ms))) before.run;
        invariant = copied copies start n before.nodes before.bag before.table message before.invariant there;
        count = before.count;
        joined = before.joined;
        none_joined = before.none_joined;
        balance = omega (
          arith,
          before.balance,
          asking_both before.bag (message ∷ []),
          ap asking (lost_more ms m ∙ append-nil (lost_by ms)),
          ap asking (repeated_more ms m) ∙ asking_both (repeated_by ms) (message ∷ []),
          ap length (sent_more ms m ∙ ap (λ (xs : List Message). sent_by ms ++ xs) no_sends ∙ append-nil (sent_by ms)),
          ap (λ k. 2 * (n - 1) * k) (unmarked (Repeat message) no_marks),
        );
        starts = λ i at. omega (arith, before.starts i at, unmarked (Repeat message) no_marks);
        highest = λ i at r. omega (arith, before.highest i at r, unmarked (Repeat message) no_marks);
        raising = raising_still (Repeat message) no_marks (before.bag ++ message ∷ [])
            (All-push (RaisesTo (start + requests_in (marks_of ms))) before.bag message before.raising (All-contains (RaisesTo (start + requests_in (marks_of ms))) before.bag message before.raising there));
      }

  -- a node forgets names: this makes no message and no mark, and its numbers rise to one that it had met
  forget_reached : (p : ℕ) → IsNode n p → EndsAt n start (ms ++ move (Forget p) ∷ []) p → Reached Lossy Copied n start (ms ++ move (Forget p) ∷ [])
  forget_reached p within end =
      let m = move (Forget p) in
      let here = at_node p acts.Forget in
      let happened = event_happened laws n start ms m before p within acts.Forget here end in
      let new = happened.0 in
      let event = happened.1 in
      let no_sends = event.sends_are in
      let no_marks = event.marks_are in
      let nodes = with_node before.nodes p new in
      let turned = put_node before.nodes p new in
      let was = before.invariant.each p within in
      let there : IsThere n p new = record { consistent = laws.consistent (before.nodes p) new acts.Forget sends marks was.consistent tt event; me_is = event.me_is ∙ was.me_is; nodes_is = event.nodes_is ∙ was.nodes_is } in
      let most = start + requests_in (marks_of ms) in
      let low : event.number ≤ most = elim event.common.is_one [
        | inl none ↦ omega (arith, none)
        | inr is ↦ elim is [
          | inl first ↦ omega (arith, first, before.starts p within)
          | inr at ↦ omega (arith, at.1, before.highest p within at.0)
        ]
      ] in
      let waits = one_node waiting_at waits_nowhere before.nodes nodes p 1 n within.0 (omega (arith, within.1)) turned.there in
      let owes = one_node owed owes_nowhere before.nodes nodes p 1 n within.0 (omega (arith, within.1)) turned.there in
      record {
        nodes = nodes;
        bag = before.bag;
        table = before.table;
        ends = ends_after laws.joins n start ms m before.nodes p acts.Forget new before.ends here event;
        under_way = subst (λ (xs : List Message). LeavesUnderWay (ms ++ m ∷ []) xs) (ap (λ (xs : List Message). before.bag ++ xs) no_sends ∙ append-nil before.bag) (under_way_sent ms m before.bag before.bag before.under_way refl refl);
        run = subst (λ (xs : List Mark). TableRun xs before.table) (sym (marks_more ms m ∙ ap (λ (xs : List Mark). marks_of ms ++ xs) no_marks ∙ append-nil (marks_of ms))) before.run;
        invariant = forgot start n before.nodes nodes p new before.bag before.table before.invariant within turned there sends marks event;
        count = omega (arith, before.count, waits, total_stays NothingElse waiting_at waiting_unmoved (before.nodes p) new sends marks event (any_ones (slots_of (before.nodes p))), ap (total waiting_at) turned.here);
        joined = before.joined;
        none_joined = before.none_joined;
        balance = omega (
          arith,
          before.balance,
          owes,
          total_stays (λ r. IsConsistent r.state) owed deferrals_unmoved (before.nodes p) new sends marks event (all_consistent (before.nodes p) was.consistent),
          ap (total owed) turned.here,
          ap asking (lost_more ms m ∙ append-nil (lost_by ms)),
          ap asking (repeated_more ms m ∙ append-nil (repeated_by ms)),
          ap length (sent_more ms m ∙ ap (λ (xs : List Message). sent_by ms ++ xs) no_sends ∙ append-nil (sent_by ms)),
          ap (λ k. 2 * (n - 1) * k) (unmarked (Forget p) no_marks),
        );
        starts = λ i at. elim (cases_same i p) [
          | inr apart ↦ omega (arith, before.starts i at, unmarked (Forget p) no_marks, ap (λ (x : NodeState). x.start) (turned.there i apart))
          | inl is ↦ omega (arith, low, before.starts p within, unmarked (Forget p) no_marks, event.start_is, ap (λ (x : NodeState). x.start) (ap nodes is ∙ turned.here))
        ];
        highest = λ i at r. elim (cases_same i p) [
          | inr apart ↦ omega (arith, before.highest i at r, unmarked (Forget p) no_marks, ap (λ (x : NodeState). (resource_at x r).state.highest) (turned.there i apart))
          | inl is ↦
              let now = ap (λ (x : NodeState). (resource_at x r).state.highest) (ap nodes is ∙ turned.here) in
              omega (arith, low, before.highest p within r, unmarked (Forget p) no_marks, now, ap (λ (x : Resource). x.state.highest) (event.resources r))
        ];
        raising = raising_still (Forget p) no_marks before.bag before.raising;
      }

pub step_reached : LawsBelow → {Lossy Copied : Type 0} (n start : ℕ) (ms : List Move) (step : Step) (sends : List Message) (marks : List Mark) → Reached Lossy Copied n start ms → Allows Lossy Copied step marks → IsFit n ms step sends marks
    → ((i : ℕ) → IsNode n i → EndsAt n start (ms ++ record { step = step; sends = sends; marks = marks } ∷ []) i) → Reached Lossy Copied n start (ms ++ record { step = step; sends = sends; marks = marks } ∷ [])
step_reached laws n start ms (Ask node client name mode) sends marks before may fit ends = ask_reached laws n start ms sends marks before node client name mode fit (ends node fit)
step_reached laws n start ms (Leave node client name) sends marks before may fit ends = leave_reached laws n start ms sends marks before node client name fit (ends node fit)
step_reached laws n start ms (Cancel node client name) sends marks before may fit ends = cancel_reached laws n start ms sends marks before may.1 node client name fit (ends node fit)
step_reached laws n start ms (Forget node) sends marks before may fit ends = forget_reached laws n start ms sends marks before node fit (ends node fit)
step_reached laws n start ms (Deliver message) sends marks before may fit ends = deliver_reached laws n start ms sends marks before message fit ends
step_reached laws n start ms (Lose message) sends marks before may fit ends = lose_reached laws n start ms sends marks before may.0 message fit.0 fit.1 fit.2
step_reached laws n start ms (Repeat message) sends marks before may fit ends = copy_reached laws n start ms sends marks before may.0 message fit.0 fit.1 fit.2
