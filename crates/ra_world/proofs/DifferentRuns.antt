-- All messages that a run sends are different, if nothing was repeated.
use Rattle.std.proofs.Common.{◌≡◌, ◌≢◌, ℕ, ◌+◌, ◌≤◌, List, [], ◌∷◌, ◌++◌, All, map, Option, Some, None, refl, sym, ap, ◌∙◌, subst, append_assoc, arith}
use Rattle.std.proofs.lemmas.List.{append-nil}
use Rattle.std.proofs.lemmas.List.Elements.{All-nil, All-append, All-weaker}
use Rattle.ra_stamp.specs.declared.message.Message.{Message}
use Rattle.ra_stamp.specs.declared.message.Message.TheVariants.{Request, Reply}
use Rattle.ra_stamp.specs.declared.mode.Mode.{Mode}
use Rattle.ra_stamp.specs.declared.entry.Mark.{Mark}
use Rattle.ra_stamp.specs.Message.{from_of, to_of, name_of}
use Rattle.ra_stamp.specs.NodeId.{IsNodeNumber}
use Rattle.ra_automaton.specs.State.{IsOtherNode, IsForNode}
use Rattle.ra_node.specs.Resource.{Resource}
use Rattle.ra_node.specs.Turns.{AskTurn, LeaveTurn, CancelTurn, ReceiveTurn}
use Rattle.ra_node.specs.Node.{NodeState, opening_node, resource_at}
use Rattle.ra_node.specs.Events.{Event, Happening, IsNamed, name_of_event, NodeEvent, NodeEvents, IsForThisNode}
use Rattle.ra_node.specs.Events.{Event as acts}
use Rattle.ra_node.specs.Carried.{IsSend}
use Rattle.ra_world.specs.Below.{LawsBelow}
use Rattle.ra_world.specs.declared.step.Step.{Step}
use Rattle.ra_world.specs.declared.step.Step.TheVariants.{Ask, Leave, Cancel, Deliver, Lose, Repeat, Forget}
use Rattle.ra_world.specs.Traffic.{Move, sent_by, taken_in, repeated_in, repeated_by, TakesEach, IsUnderWay}
use Rattle.ra_world.specs.Run.{events_at, happened_at, IsFit, IsRun}
use Rattle.ra_world.proofs.Dialogs.{belongs, between, asker_of, answerer_of, belongs_here}
use Rattle.ra_world.proofs.Protocol.{IsNode}
use Rattle.ra_node.proofs.Lookups.{resource_changed}
use Rattle.ra_node.proofs.Updates.{received_turn}
use Rattle.ra_world.proofs.Moves.{allows_all, sent_more, happens, happened_more, fits_split, at_node, only_at}
use Rattle.ra_world.proofs.Reached.{Reached, under_way_sent, one_list, was_under_way}
use Rattle.ra_world.proofs.Runs.{prefixes, every_run}
use Rattle.ra_world.proofs.DifferentLists.{AreDifferent, none_different, different_by}
use Rattle.ra_world.proofs.DifferentEvents.{EverySaid, Happens, said_by_same, said_after_loss, said_by_ask, said_by_leave, said_by_cancel, said_by_receive, said_by_forget}
use Rattle.ra_world.proofs.DifferentDialogs.{asked_for, deferred_with}
use Rattle.ra_world.proofs.Cluster.{states}
use Rattle.ra_world.proofs.Lists.{none_some}
use Rattle.std.specs.FinMap as finmap

-- a message is from one of n nodes, and for another one
abbrev IsBetween : ℕ → Message → Type 0
IsBetween n m = IsNode n (to_of m) × IsOtherNode (to_of m) n (from_of m)

-- what is known of a run: its messages go between nodes, and the messages of each dialog are different
pub record Known (n start : ℕ) (moves : List Move) (at : Reached (Unit {0}) (Unit {0}) n start moves) : Type 0 where
  pub traffic : All (IsBetween n) (sent_by moves)
  pub said : EverySaid n at.nodes at.bag (sent_by moves)

-- nobody is deferred if no number was used
undeferred : (seq : ℕ) (o : Option ℕ) → ((k : ℕ) → o ≡ Some k → ⊥) → deferred_with seq o ≡ 0
undeferred seq None none = refl
undeferred seq (Some k) none = absurd (none k refl)

none_of_both : (xs ys : List Message) → xs ++ ys ≡ [] → (xs ≡ []) × (ys ≡ [])
none_of_both [] ys e = (refl, e)
none_of_both (x ∷ xs) ys e = absurd (none_some (sym e))

-- before anything was sent
nothing_known : (n start : ℕ) (at : Reached (Unit {0}) (Unit {0}) n start []) → Known n start [] at
nothing_known n start at =
    record {
      traffic = All-nil (IsBetween n);
      said = λ r i j at_i at_j apart. record { different = none_different; met = All-nil _; once = λ seq. none_yet r i j at_i at_j apart seq };
    }
  where
    -- nothing is under way, and nobody has used a number yet
    none_yet : (r : List ℕ) (i j : ℕ) → IsNode n i → IsNode n j → i ≢ j → (seq : ℕ) → asked_for seq (between r i j at.bag) + deferred_with seq (finmap.get (states at.nodes r j).deferred i) + 0 ≤ 1
    none_yet r i j at_i at_j apart seq =
        let d = (at.invariant.protocol r).exchanges.dialog i j at_i at_j apart in
        omega (
          arith,
          ap (λ (xs : List Message). asked_for seq (between r i j xs)) at.under_way,
          undeferred seq (finmap.get (states at.nodes r j).deferred i) (λ k is. let used = d.deferred k is in omega (arith, used.above, used.reached, at.highest i at_i r)),
        )

-- then all messages are different, since equal ones are of one dialog
all_different : (n start : ℕ) (moves : List Move) (at : Reached (Unit {0}) (Unit {0}) n start moves) → Known n start moves at → AreDifferent (sent_by moves)
all_different n start moves at known =
    different_by (λ m x. belongs (name_of m) (asker_of m) (answerer_of m) x) belongs_here (sent_by moves)
    (All-weaker (IsBetween n) (λ m. AreDifferent (between (name_of m) (asker_of m) (answerer_of m) (sent_by moves))) apart (sent_by moves) known.traffic)
  where
    apart : (m : Message) → IsBetween n m → AreDifferent (between (name_of m) (asker_of m) (answerer_of m) (sent_by moves))
    apart (Request from to name mode seq) goes = (known.said name from to (goes.1.first, goes.1.last) goes.0 goes.1.other).different
    apart (Reply from to name seq) goes = (known.said name to from goes.0 (goes.1.first, goes.1.last) (λ e. goes.1.other (sym e))).different

module _ (laws : LawsBelow) (n start : ℕ) where
  -- ---- One more move

  module _ (ms : List Move) (m : Move) (before : Reached (Unit {0}) (Unit {0}) n start ms) (after : Reached (Unit {0}) (Unit {0}) n start (ms ++ m ∷ [])) (known : Known n start ms before) where
    abbrev happening : Event → Happening
    happening event = record { event = event; sends = m.sends; marks = m.marks }

    -- what happened at a node by the move leads from its state before to the one after
    happens_from : (i : ℕ) → IsNode n i → NodeEvents (before.nodes i) (happens i m) (after.nodes i)
    happens_from i at =
        let parts = laws.splits (happened_at i ms) (happens i m) (opening_node i n start) (after.nodes i)
        (subst (λ (hs : List Happening). NodeEvents (opening_node i n start) hs (after.nodes i)) (happened_more i ms m) (after.ends i at.0 at.1)) in
        let same = laws.one_end (opening_node i n start) parts.0 (before.nodes i) (happened_at i ms) parts.1 (before.ends i at.0 at.1) in
        subst (λ (x : NodeState). NodeEvents x (happens i m) (after.nodes i)) same parts.2

    by_events : (i : ℕ) (events : List Event) → IsNode n i → events_at i m.step ≡ events → NodeEvents (before.nodes i) (map happening events) (after.nodes i)
    by_events i events at are = subst (λ (es : List Event). NodeEvents (before.nodes i) (map happening es) (after.nodes i)) are (happens_from i at)

    known_after : repeated_in m.step ≡ [] → All (IsBetween n) m.sends → (next : List Message) → TakesEach before.bag (taken_in m.step) next → EverySaid n after.nodes (next ++ m.sends) (sent_by ms ++ m.sends) → Known n start (ms ++ m ∷ []) after
    known_after copies traffic next takes said =
        let left = one_list (ms ++ m ∷ []) (next ++ m.sends) after.bag (under_way_sent ms m before.bag next before.under_way takes copies) after.under_way in
        record {
          traffic = subst (All (IsBetween n)) (sym (sent_more ms m)) (All-append (IsBetween n) (sent_by ms) m.sends known.traffic traffic);
          said = subst (EverySaid n after.nodes after.bag) (sym (sent_more ms m)) (subst (λ (xs : List Message). EverySaid n after.nodes xs (sent_by ms ++ m.sends)) left said);
        }

    -- an event at a node
    module _ (p : ℕ) (within : IsNode n p) (event : Event) (here : events_at p m.step ≡ event ∷ []) (for : IsForThisNode (before.nodes p) event) where
      happened : NodeEvent (before.nodes p) event m.sends m.marks (after.nodes p)
      happened = let one = by_events p (event ∷ []) within here in subst (λ (x : NodeState). NodeEvent (before.nodes p) event m.sends m.marks x) (sym one.2) one.1

      own : All (IsSend p n (name_of_event event)) m.sends
      own =
          let there = before.invariant.each p within in
          let sends = laws.own_sends (before.nodes p) (after.nodes p) event m.sends m.marks there.consistent for happened in
          subst (λ (k : ℕ). All (IsSend p k (name_of_event event)) m.sends) there.nodes_is (subst (λ (k : ℕ). All (IsSend k (before.nodes p).nodes (name_of_event event)) m.sends) there.me_is sends)

      sent_between : All (IsBetween n) m.sends
      sent_between =
          All-weaker (IsSend p n (name_of_event event)) (IsBetween n)
          (λ x send. (
            (send.to.first, send.to.last),
            record { first = subst (λ (k : ℕ). 1 ≤ k) (sym send.from) within.0; last = subst (λ (k : ℕ). k ≤ n) (sym send.from) within.1; other = λ e. send.to.other (sym e ∙ send.from) },
          )) m.sends own

      event_happens : IsNamed event → Happens n before.nodes after.nodes p (name_of_event event) m.sends
      event_happens named =
          record {
            within = within;
            there = λ k at apart. by_events k [] at (only_at p k m.step event here apart);
            others = λ q apart. laws.other_names (before.nodes p) (after.nodes p) event m.sends m.marks q happened named apart;
            sent = own;
          }

  -- ---- Each step

  module _ (ms : List Move) (sends : List Message) (marks : List Mark) (before : Reached (Unit {0}) (Unit {0}) n start ms) (known : Known n start ms before) where
    abbrev by : Step → Move
    by step = record { step = step; sends = sends; marks = marks }

    abbrev After : Step → Type 0
    After step = Reached (Unit {0}) (Unit {0}) n start (ms ++ by step ∷ [])

    known_by_ask : (p client : ℕ) (name : List ℕ) (mode : Mode) → IsNode n p → (after : After (Ask p client name mode)) → Known n start (ms ++ by (Ask p client name mode) ∷ []) after
    known_by_ask p client name mode within after =
        let m = by (Ask p client name mode) in
        let event = acts.Ask client name mode in
        let here = at_node p event in
        let did = happened ms m before after known p within event here tt in
        let turn : AskTurn (resource_at (before.nodes p) name) client mode sends marks (resource_at (after.nodes p) name) =
        subst (λ (x : Resource). AskTurn (resource_at (before.nodes p) name) client mode sends marks x)
        (sym (ap (λ (x : NodeState). resource_at x name) did.new_is ∙ resource_changed (before.nodes p) name did.resource)) did.turn
        in
        known_after ms m before after known refl (sent_between ms m before after known p within event here tt) before.bag refl
        (said_by_ask start n before.nodes after.nodes p name sends before.bag (sent_by ms) (λ q. (before.invariant.protocol q).exchanges) known.said (event_happens ms m before after known p within event here tt tt) client mode marks turn)

    known_by_leave : (p client : ℕ) (name : List ℕ) → IsNode n p → (after : After (Leave p client name)) → Known n start (ms ++ by (Leave p client name) ∷ []) after
    known_by_leave p client name within after =
        let m = by (Leave p client name) in
        let event = acts.Leave client name in
        let here = at_node p event in
        let did = happened ms m before after known p within event here tt in
        let turn : LeaveTurn (resource_at (before.nodes p) name) client sends marks (resource_at (after.nodes p) name) =
        subst (λ (x : Resource). LeaveTurn (resource_at (before.nodes p) name) client sends marks x)
        (sym (ap (λ (x : NodeState). resource_at x name) did.new_is ∙ resource_changed (before.nodes p) name did.resource)) did.turn
        in
        known_after ms m before after known refl (sent_between ms m before after known p within event here tt) before.bag refl
        (said_by_leave start n before.nodes after.nodes p name sends before.bag (sent_by ms) (λ q. (before.invariant.protocol q).exchanges) known.said (event_happens ms m before after known p within event here tt tt) client marks turn)

    known_by_cancel : (p client : ℕ) (name : List ℕ) → IsNode n p → (after : After (Cancel p client name)) → Known n start (ms ++ by (Cancel p client name) ∷ []) after
    known_by_cancel p client name within after =
        let m = by (Cancel p client name) in
        let event = acts.Cancel client name in
        let here = at_node p event in
        let did = happened ms m before after known p within event here tt in
        let turn : CancelTurn (resource_at (before.nodes p) name) client sends marks (resource_at (after.nodes p) name) =
        subst (λ (x : Resource). CancelTurn (resource_at (before.nodes p) name) client sends marks x)
        (sym (ap (λ (x : NodeState). resource_at x name) did.new_is ∙ resource_changed (before.nodes p) name did.resource)) did.turn
        in
        known_after ms m before after known refl (sent_between ms m before after known p within event here tt) before.bag refl
        (said_by_cancel start n before.nodes after.nodes p name sends before.bag (sent_by ms) (λ q. (before.invariant.protocol q).exchanges) known.said (event_happens ms m before after known p within event here tt tt) client marks turn)

    known_by_forget : (p : ℕ) → IsNode n p → (after : After (Forget p)) → Known n start (ms ++ by (Forget p) ∷ []) after
    known_by_forget p within after =
        let m = by (Forget p) in
        let here = at_node p acts.Forget in
        let did = happened ms m before after known p within acts.Forget here tt in
        known_after ms m before after known refl (sent_between ms m before after known p within acts.Forget here tt) before.bag refl
        (said_by_forget n before.nodes after.nodes p before.bag (sent_by ms) sends marks (λ k at apart. by_events ms m before after known k [] at (only_at p k m.step acts.Forget here apart)) did known.said)

    known_by_deliver : (message : Message) → IsUnderWay ms message → (after : After (Deliver message)) → Known n start (ms ++ by (Deliver message) ∷ []) after
    known_by_deliver message was after =
        let m = by (Deliver message) in
        let taken = was_under_way laws n start ms before message was in
        let p = to_of message in
        let within = taken.traffic.to in
        let event = acts.Receive message in
        let name = name_of message in
        let here = at_node p event in
        let there = before.invariant.each p within in
        let for' : IsForNode p n message = record { to = refl; from = taken.traffic.from } in
        let for : IsForThisNode (before.nodes p) event = subst (λ (k : ℕ). IsForNode k (before.nodes p).nodes message) (sym there.me_is) (subst (λ (k : ℕ). IsForNode p k message) (sym there.nodes_is) for') in
        let did = happened ms m before after known p within event here for in
        let turn : ReceiveTurn (resource_at (before.nodes p) name) message sends marks (resource_at (after.nodes p) name) =
        received_turn (before.nodes p) (after.nodes p) message sends marks did
        in
        known_after ms m before after known refl (sent_between ms m before after known p within event here for) taken.rest (taken.rest, taken.takes, refl)
        (said_by_receive start n before.nodes after.nodes p name sends before.bag (sent_by ms) (λ q. (before.invariant.protocol q).exchanges) known.said (event_happens ms m before after known p within event here for tt)
        message taken.rest marks taken.takes for' refl turn)

    known_by_lose : (message : Message) → IsUnderWay ms message → sends ≡ [] → (after : After (Lose message)) → Known n start (ms ++ by (Lose message) ∷ []) after
    known_by_lose message was nothing after =
        let m = by (Lose message) in
        let taken = was_under_way laws n start ms before message was in
        let no_more : (xs : List Message) → xs ≡ xs ++ sends = λ xs. sym (ap (λ (ys : List Message). xs ++ ys) nothing ∙ append-nil xs) in
        let said : EverySaid n after.nodes taken.rest (sent_by ms) =
        said_by_same n before.nodes after.nodes taken.rest (sent_by ms) (λ i at. by_events ms m before after known i [] at refl)
        (said_after_loss n before.nodes before.bag taken.rest (sent_by ms) message taken.takes known.said)
        in
        known_after ms m before after known refl (subst (All (IsBetween n)) (sym nothing) (All-nil (IsBetween n))) taken.rest (taken.rest, taken.takes, refl)
        (subst (λ (xs : List Message). EverySaid n after.nodes xs (sent_by ms ++ sends)) (no_more taken.rest) (subst (EverySaid n after.nodes taken.rest) (no_more (sent_by ms)) said))

    known_by : (step : Step) → repeated_in step ≡ [] → IsFit n ms step sends marks → (after : After step) → Known n start (ms ++ by step ∷ []) after
    known_by (Ask node client name mode) may fit after = known_by_ask node client name mode fit after
    known_by (Leave node client name) may fit after = known_by_leave node client name fit after
    known_by (Deliver message) may fit after = known_by_deliver message fit after
    known_by (Lose message) may fit after = known_by_lose message fit.0 fit.1 after
    known_by (Cancel node client name) may fit after = known_by_cancel node client name fit after
    known_by (Forget node) may fit after = known_by_forget node fit after
    known_by (Repeat message) may fit after = absurd (none_some (sym may))

  -- ---- Every run

  module _ (count : IsNodeNumber n) where
    reached : (moves : List Move) → IsRun n start moves → Reached (Unit {0}) (Unit {0}) n start moves
    reached moves run = every_run laws n start moves (allows_all moves) count run

    -- one move after the other, none of them a repeat
    move_by_move : (suffix ms : List Move) (run : IsRun n start ms) → repeated_by suffix ≡ [] → Known n start ms (reached ms run) → IsRun n start (ms ++ suffix) → AreDifferent (sent_by (ms ++ suffix))
    move_by_move [] ms run none known all = subst (λ (moves : List Move). AreDifferent (sent_by moves)) (sym (append-nil ms)) (all_different n start ms (reached ms run) known)
    move_by_move (m ∷ suffix) ms run none known all =
        let again : ms ++ m ∷ suffix ≡ (ms ++ m ∷ []) ++ suffix = sym (append_assoc ms (m ∷ []) suffix) in
        let all' = subst (IsRun n start) again all in
        let run' = prefixes laws.splits n start suffix (ms ++ m ∷ []) all' in
        let fit = (fits_split n [] ms (m ∷ suffix) all.each_fits).1.0 in
        let both = none_of_both (repeated_in m.step) (repeated_by suffix) none in
        let next = known_by ms m.sends m.marks (reached ms run) known m.step both.0 fit (reached (ms ++ m ∷ []) run') in
        subst (λ (moves : List Move). AreDifferent (sent_by moves)) (sym again) (move_by_move suffix (ms ++ m ∷ []) run' both.1 next all')

    pub messages_differ : (moves : List Move) → IsRun n start moves → repeated_by moves ≡ [] → AreDifferent (sent_by moves)
    messages_differ moves run unrepeated =
        let first = prefixes laws.splits n start moves [] run in
        move_by_move moves [] first unrepeated (nothing_known n start (reached [] first)) run
