-- What holds of a cluster at any moment, and that each event of a node keeps it.
use Rattle.std.proofs.Common.{◌≡◌, ◌≢◌, ◌⊎◌, ℕ, ◌≤◌, Bool, true, false, cond, List, [], ◌∷◌, ◌++◌, All, Contains, refl, sym, ap, ◌∙◌, subst, append_assoc, arith, nat_eq, inl, inr}
use Rattle.std.proofs.lemmas.List.{append-nil}
use Rattle.std.proofs.lemmas.List.Elements.{All-append, All-weaker, All-push, All-contains}
use Rattle.std.proofs.lemmas.Bool.{eq-eqb, ne_eqb}
use Rattle.ra_stamp.specs.declared.mode.Mode.{Mode}
use Rattle.ra_stamp.specs.declared.message.Message.{Message}
use Rattle.ra_stamp.specs.declared.message.Message.TheVariants.{Request, Reply}
use Rattle.ra_stamp.specs.declared.entry.Entry.{Entry}
use Rattle.ra_stamp.specs.declared.entry.Mark.{Mark}
use Rattle.ra_stamp.specs.declared.entry.Mark.TheVariants.{Left, Withdrawn}
use Rattle.ra_stamp.specs.Message.{from_of, to_of, name_of, seq_of}
use Rattle.ra_stamp.specs.Mode.{Conflict}
use Rattle.ra_automaton.specs.State.{State, IsOtherNode, IsForNode, IsConsistent}
use Rattle.ra_automaton.specs.Steps.{RequestStep, ReceiveStep, LeaveStep, WithdrawStep, EndAndRequestStep}
use Rattle.ra_automaton.proofs.Ending.{EndStep}
use Rattle.ra_node.proofs.Endings.{AreEnded, leaves_ended, withdraws_ended}
use Rattle.ra_node.proofs.Forgetting.{forget_uses}
use Rattle.ra_node.specs.Forgetting.{raised}
use Rattle.ra_node.specs.Events.{ForgetEvent}
use Rattle.ra_world.specs.Quiet.{withdrawn_in}
use Rattle.ra_bag.specs.Bag.{TakesFirst}
use Rattle.ra_node.specs.Resource.{Resource, Use, use_of}
use Rattle.ra_node.specs.Resource.Use.{Nobody, WaitsBy, HoldsBy}
use Rattle.ra_node.proofs.HandOverStep.{handed_marks}
use Rattle.ra_node.specs.Turns.{request_marks, next_entry, EntersBy, AskTurn, Leaves, Withdraws, EndTurn, LeaveTurn, CancelTurn, ReceiveTurn}
use Rattle.ra_node.specs.Node.{NodeState, resource_at, IsConsistentNode}
use Rattle.ra_node.specs.Carried.{IsSend, MarksLead}
use Rattle.ra_table.specs.Table.{LockTable, TableSteps}
use Rattle.ra_automaton.proofs.Apart.{cases_same}
use Rattle.ra_node.proofs.Lookups.{same_or_apart}
use Rattle.ra_world.proofs.Lists.{filter_left, All-taken}
use Rattle.ra_world.proofs.Dialogs.{belongs, between, IsOf, belongs_not, between_none}
use Rattle.ra_world.proofs.Protocol.{IsNode, IsPlaced, Changes}
use Rattle.ra_world.proofs.Asking.{none_between}
use Rattle.ra_world.proofs.Conduct.{Conduct, request_conduct, leave_conduct, withdraw_conduct, rise_conduct, request_taken_conduct, reply_taken_conduct, lost_conduct, copied_conduct, undisturbed_conduct}
use Rattle.ra_world.proofs.Marking.{Tabled, Alters, unmarked}
use Rattle.ra_world.proofs.EventMarks.{MayBeGranted, IsOwn, same_others, use_after, run_request, run_entered, EndsWithMark, left_ends, withdrawn_ends, run_end, run_handed, run_nothing}
use Rattle.ra_world.proofs.Uses.{IsRequestOf, use_granted, use_waits, may_be_granted}

abbrev pub states : (ℕ → NodeState) → List ℕ → ℕ → State
states nodes r i = (resource_at (nodes i) r).state

abbrev pub uses : (ℕ → NodeState) → ℕ → List ℕ → Use
uses nodes i r = use_of (resource_at (nodes i) r)

abbrev pub reaches : (ℕ → NodeState) → ℕ → List ℕ → ℕ
reaches nodes i r = (resource_at (nodes i) r).state.highest

pub record IsThere (n i : ℕ) (node : NodeState) : Type 0 where
  pub consistent : IsConsistentNode node
  pub me_is : node.me ≡ i
  pub nodes_is : node.nodes ≡ n

-- a message under way is from a node, for another one, and has a number
pub record IsTraffic (n : ℕ) (m : Message) : Type 0 where
  pub to : IsNode n (to_of m)
  pub from : IsOtherNode (to_of m) n (from_of m)
  pub numbered : 1 ≤ seq_of m

pub record Invariant (Lossy Copied : Type 0) (start n : ℕ) (nodes : ℕ → NodeState) (bag : List Message) (table : LockTable) : Type 0 where
  pub each : (i : ℕ) → IsNode n i → IsThere n i (nodes i)
  pub protocol : (r : List ℕ) → Conduct Lossy Copied start n r (states nodes r) bag
  pub traffic : All (IsTraffic n) bag
  pub tabled : Tabled n (uses nodes) (reaches nodes) table

pub placed_at : (n i : ℕ) (node : NodeState) (r : List ℕ) → IsThere n i node → IsPlaced n r i (resource_at node r).state
placed_at n i node r there =
    let here = there.consistent.each r in
    record { consistent = here.state; me_is = here.me_is ∙ there.me_is; nodes_is = here.nodes_is ∙ there.nodes_is; name_is = here.name_is }

-- ---- What marks say of the use of a name

leads_request : (entered : Bool) (w w' : Use) (e : Entry) → MarksLead w (request_marks entered e) w' → (w ≡ Nobody) × (w' ≡ use_after entered e)
leads_request false w w' e leads = (leads.0, leads.1)
leads_request true w w' e leads = (leads.0, leads.1.1)

-- before the mark of a request's end its client uses the resource, and after it nobody does
abbrev LeadsEnd : (Entry → Mark) → (Entry → Use) → Type 0
LeadsEnd mark was = (e : Entry) (marks : List Mark) (w w' : Use) → MarksLead w (mark e ∷ marks) w' → (w ≡ was e) × MarksLead Nobody marks w'

handed_raises : {mode : Mode} {sends : List Message} {entered : Bool} (old new : State) (step : EndAndRequestStep (EndStep old) mode sends entered new) → old.highest ≤ new.highest
handed_raises old new step =
    elim step.asks.begins [
      | inl asks ↦ omega (arith, step.ends.highest_is, ap (λ (x : State). x.highest) asks.new_is)
      | inr alone ↦ omega (arith, step.ends.highest_is, ap (λ (x : State). x.highest) alone.new_is)
    ]

-- the nodes except for one are as before
pub record Turned (nodes nodes' : ℕ → NodeState) (p : ℕ) (new : NodeState) : Type 0 where
  pub here : nodes' p ≡ new
  pub there : (k : ℕ) → k ≢ p → nodes' k ≡ nodes k

-- the outcome of an event at a node, on a name: its resource went on, all others stayed
pub record Went (n : ℕ) (nodes nodes' : ℕ → NodeState) (p : ℕ) (r : List ℕ) (new : NodeState) (sends : List Message) : Type 0 where
  pub within : IsNode n p
  pub turned : Turned nodes nodes' p new
  pub there : IsThere n p new
  pub others : (q : List ℕ) → q ≢ r → resource_at new q ≡ resource_at (nodes p) q
  pub sent : All (IsSend p n r) sends
  pub numbered : All (λ m. 1 ≤ seq_of m) sends

module _ {Lossy Copied : Type 0} (symmetric : (a b : Mode) → Conflict a b → Conflict b a) (start n : ℕ) (nodes nodes' : ℕ → NodeState) (p : ℕ) (r : List ℕ) (new : NodeState) (sends : List Message) (bag rest : List Message) (table : LockTable) (old : Invariant Lossy Copied start n nodes bag table) (went : Went n nodes nodes' p r new sends) where
  abbrev before : Resource
  before = resource_at (nodes p) r

  abbrev after : Resource
  after = resource_at new r

  each_still : (i : ℕ) → IsNode n i → IsThere n i (nodes' i)
  each_still i at = elim (cases_same i p) [
    | inl same ↦ subst (λ (k : ℕ). IsThere n k (nodes' k)) (sym same) (subst (IsThere n p) (sym went.turned.here) went.there)
    | inr apart ↦ subst (IsThere n i) (sym (went.turned.there i apart)) (old.each i at)
  ]

  traffic_still : All (IsTraffic n) rest → All (IsTraffic n) (rest ++ sends)
  traffic_still all =
      All-append (IsTraffic n) rest sends all (λ k d lt.
      let send = went.sent k d lt in
      record {
        to = (send.to.first, send.to.last);
        from = record { first = subst (λ (k : ℕ). 1 ≤ k) (sym send.from) went.within.0; last = subst (λ (k : ℕ). k ≤ n) (sym send.from) went.within.1; other = λ e. send.to.other (sym e ∙ send.from) };
        numbered = went.numbered k d lt;
      })

  pub state_changes : Changes (states nodes r) (states nodes' r) p after.state
  state_changes = record { here = ap (λ (x : NodeState). (resource_at x r).state) went.turned.here; there = λ k apart. ap (λ (x : NodeState). (resource_at x r).state) (went.turned.there k apart) }

  placed_after : IsPlaced n r p after.state
  placed_after = placed_at n p new r went.there

  resource_of : (i : ℕ) (q : List ℕ) → (i ≡ p → q ≡ r → ⊥) → resource_at (nodes' i) q ≡ resource_at (nodes i) q
  resource_of i q apart = elim (cases_same i p) [
    | inl same ↦
        subst (λ (k : ℕ). resource_at (nodes' k) q ≡ resource_at (nodes k) q) (sym same) (ap (λ (x : NodeState). resource_at x q) went.turned.here ∙ went.others q (λ e. apart same e))
    | inr other ↦ ap (λ (x : NodeState). resource_at x q) (went.turned.there i other)
  ]

  -- another name goes its own way
  elsewhere : ((q : List ℕ) (i j : ℕ) → q ≢ r → between q i j rest ≡ between q i j bag) → (q : List ℕ) → q ≢ r → Conduct Lossy Copied start n q (states nodes' q) (rest ++ sends)
  elsewhere untaken q apart =
      undisturbed_conduct start n q (states nodes q) (states nodes' q) bag (rest ++ sends)
      (λ i. ap (λ (x : Resource). x.state) (resource_of i q (λ _ e. apart e)))
      (λ i j. none_between q i j rest sends (between_none q i j sends (All-weaker (IsSend p n r) (λ m. IsOf q i j m → ⊥) (λ m send is. apart (sym is.name_is ∙ send.name_is)) sends went.sent)) ∙ untaken q i j apart)
      (old.protocol q)

  alters : (x : Use) → use_of after ≡ x → Alters (uses nodes) (uses nodes') p r x
  alters x is = record { here = ap (λ (y : NodeState). use_of (resource_at y r)) went.turned.here ∙ is; there = λ i q apart. ap use_of (resource_of i q apart) }

  higher : before.state.highest ≤ after.state.highest → (i : ℕ) (q : List ℕ) → reaches nodes i q ≤ reaches nodes' i q
  higher more i q = elim (cases_same i p) [
    | inr apart ↦ omega (arith, ap (λ (x : Resource). x.state.highest) (resource_of i q (λ same _. apart same)))
    | inl same ↦ elim (same_or_apart q r) [
      | inr other ↦ omega (arith, ap (λ (x : Resource). x.state.highest) (resource_of i q (λ _ e. other e)))
      | inl here ↦
          let was : reaches nodes i q ≡ before.state.highest = (λ k. reaches nodes (same k) (here k)) in
          let is : reaches nodes' i q ≡ after.state.highest = (λ k. reaches nodes' (same k) (here k)) ∙ ap (λ (x : NodeState). (resource_at x r).state.highest) went.turned.here in
          omega (arith, was, is, more)
    ]
  ]

  -- all of it together
  pub goes_on : Conduct Lossy Copied start n r (states nodes' r) (rest ++ sends) → ((q : List ℕ) (i j : ℕ) → q ≢ r → between q i j rest ≡ between q i j bag) → All (IsTraffic n) rest
      → (t : LockTable) → Tabled n (uses nodes') (reaches nodes') t → Invariant Lossy Copied start n nodes' (rest ++ sends) t
  goes_on here untaken all t tabled =
      record {
        each = each_still;
        protocol = λ q. elim (same_or_apart q r) [
          | inl same ↦ subst (λ (x : List ℕ). Conduct Lossy Copied start n x (states nodes' x) (rest ++ sends)) (sym same) here
          | inr apart ↦ elsewhere untaken q apart
        ];
        traffic = traffic_still all;
        tabled = tabled;
      }

  -- a client that is granted by this event may be
  grant : Conduct Lossy Copied start n r (states nodes' r) (rest ++ sends) → (e : Entry) → use_of after ≡ HoldsBy e → MayBeGranted n (uses nodes) (reaches nodes') p r e
  grant here e is =
      same_others n (uses nodes') (uses nodes) (reaches nodes') p r e (λ j apart. sym (ap use_of (resource_of j r (λ same _. apart same))))
      (may_be_granted symmetric start n r nodes' (rest ++ sends) here.exchanges p went.within e (ap (λ (y : NodeState). use_of (resource_at y r)) went.turned.here ∙ is))

  own_before : (e : Entry) → IsRequestOf before.state e → IsOwn p r e
  own_before e is =
      let placed = (old.protocol r).exchanges.each p went.within in
      record { node_is = is.node_is ∙ placed.me_is; name_is = is.name_is ∙ placed.name_is }

  own_after : (e : Entry) → IsRequestOf after.state e → IsOwn p r e
  own_after e is = record { node_is = is.node_is ∙ placed_after.me_is; name_is = is.name_is ∙ placed_after.name_is }

  -- the use of the name stays
  unaltered : use_of after ≡ use_of before → (i : ℕ) (q : List ℕ) → uses nodes' i q ≡ uses nodes i q
  unaltered same i q = elim (cases_same i p) [
    | inr apart ↦ ap use_of (resource_of i q (λ is _. apart is))
    | inl is_p ↦ elim (same_or_apart q r) [
      | inr other ↦ ap use_of (resource_of i q (λ _ e. other e))
      | inl is_r ↦ (λ k. uses nodes' (is_p k) (is_r k)) ∙ ap (λ (x : NodeState). use_of (resource_at x r)) went.turned.here ∙ same ∙ sym (λ k. uses nodes (is_p k) (is_r k))
    ]
  ]

  unmoved : after.state ≡ before.state → (i : ℕ) → states nodes' r i ≡ states nodes r i
  unmoved same i = elim (cases_same i p) [
    | inr apart ↦ state_changes.there i apart
    | inl is_p ↦ ap (states nodes' r) is_p ∙ state_changes.here ∙ same ∙ sym (ap (states nodes r) is_p)
  ]

  -- ---- A client asks

  request_raises : (mode : Mode) (entered : Bool) → RequestStep before.state mode sends entered after.state → before.state.highest ≤ after.state.highest
  request_raises mode entered step = elim step.begins [
    | inl asks ↦ omega (arith, ap (λ (x : State). x.highest) asks.new_is)
    | inr alone ↦ omega (arith, ap (λ (x : State). x.highest) alone.new_is)
  ]

  pub asked : (client : ℕ) (mode : Mode) (marks : List Mark) → rest ≡ bag → AskTurn before client mode sends marks after → MarksLead (use_of before) marks (use_of after)
      → (t : LockTable) × TableSteps table marks t × Invariant Lossy Copied start n nodes' (rest ++ sends) t
  asked client mode marks same turn leads =
      let untaken = λ (q : List ℕ) (i j : ℕ) (apart : q ≢ r). ap (between q i j) same in
      let all = subst (All (IsTraffic n)) (sym same) old.traffic in
      elim turn.1 [
        | inl asks ↦
            let kept = request_conduct start n r (states nodes r) (states nodes' r) bag p after.state (old.protocol r) went.within state_changes mode sends asks.entered asks.step placed_after in
            let here : Conduct Lossy Copied start n r (states nodes' r) (rest ++ sends) = subst (λ (ms : List Message). Conduct Lossy Copied start n r (states nodes' r) (ms ++ sends)) (sym same) kept in
            let e = next_entry before client mode in
            let both = leads_request asks.entered (use_of before) (use_of after) e (subst (λ (ms : List Mark). MarksLead (use_of before) ms (use_of after)) asks.marks_are leads) in
            let run = run_request n p r went.within asks.entered e (uses nodes) (uses nodes') (reaches nodes) (reaches nodes') table old.tabled (own_before e (record { node_is = refl; name_is = refl })) both.0
            (alters (use_after asks.entered e) both.1) (omega arith) (higher (request_raises mode asks.entered asks.step)) (λ yes. grant here e (both.1 ∙ ap (λ b. use_after b e) yes))
            in
            (run.0, subst (λ (ms : List Mark). TableSteps table ms run.0) (sym asks.marks_are) run.1, goes_on here untaken all run.0 run.2)
        | inr queues ↦
            let same_state : after.state ≡ before.state = ap (λ (x : Resource). x.state) queues.new_is in
            let none : rest ++ sends ≡ bag = (λ k. same k ++ queues.sends_are k) ∙ append-nil bag in
            let here : Conduct Lossy Copied start n r (states nodes' r) (rest ++ sends) = undisturbed_conduct start n r (states nodes r) (states nodes' r) bag (rest ++ sends) (unmoved same_state) (λ i j. ap (between r i j) none) (old.protocol r) in
            let stays : use_of after ≡ use_of before = subst (λ (ms : List Mark). MarksLead (use_of before) ms (use_of after)) queues.marks_are leads in
            let run = run_nothing n p r went.within (uses nodes) (uses nodes') (reaches nodes) (reaches nodes') table old.tabled (unaltered stays) (higher (omega (arith, ap (λ (x : State). x.highest) same_state))) in
            (run.0, subst (λ (ms : List Mark). TableSteps table ms run.0) (sym queues.marks_are) run.1, goes_on here untaken all run.0 run.2)
      ]

  -- ---- A client leaves

  -- the states with one put in the place of another
  abbrev with_state : (ℕ → State) → State → ℕ → State
  with_state s x i = cond (nat_eq i p) x (s i)

  put_state : (s : ℕ → State) (x : State) → Changes s (with_state s x) p x
  put_state s x = record { here = ap (λ b. cond b x (s p)) (eq-eqb p p refl); there = λ k apart. ap (λ b. cond b x (s k)) (ne_eqb k p apart) }

  -- the request of a client ends, by a leave or a withdrawal
  module _ (Ends : Entry → List Message → Resource → Type 0) (mark : Entry → Mark) (was : Entry → Use) (ended_by : AreEnded before Ends) (leads_end : LeadsEnd mark was) (marks_end : EndsWithMark n p r went.within mark was)
      (own : (e : Entry) → use_of before ≡ was e → IsRequestOf before.state e)
      -- what an end keeps of the dialogs, and that it keeps the state consistent
      (conducts : (e : Entry) (replies : List Message) (x : Resource) → Ends e replies x → (s' : ℕ → State) → Changes (states nodes r) s' p x.state → IsPlaced n r p x.state → Conduct Lossy Copied start n r s' (bag ++ replies))
      (consistent : (e : Entry) (replies : List Message) (x : Resource) → Ends e replies x → IsConsistent x.state)
    where
      pub ended : (marks : List Mark) → rest ≡ bag → EndTurn Ends mark before sends marks after → MarksLead (use_of before) marks (use_of after)
          → (t : LockTable) × TableSteps table marks t × Invariant Lossy Copied start n nodes' (rest ++ sends) t
      ended marks same turn leads =
          let untaken = λ (q : List ℕ) (i j : ℕ) (apart : q ≢ r). ap (between q i j) same in
          let all = subst (All (IsTraffic n)) (sym same) old.traffic in
          let placed = (old.protocol r).exchanges.each p went.within in
          elim turn [
            | inl nobody ↦
                let kept = conducts nobody.entry sends after nobody.ends (states nodes' r) state_changes placed_after in
                let here : Conduct Lossy Copied start n r (states nodes' r) (rest ++ sends) = subst (λ (ms : List Message). Conduct Lossy Copied start n r (states nodes' r) (ms ++ sends)) (sym same) kept in
                let e = nobody.entry in
                let both = leads_end e [] (use_of before) (use_of after) (subst (λ (ms : List Mark). MarksLead (use_of before) ms (use_of after)) nobody.marks_are leads) in
                let run = run_end n p r went.within mark was marks_end e (uses nodes) (uses nodes') (reaches nodes) (reaches nodes') table old.tabled (own_before e (own e both.0)) both.0 (alters Nobody both.1)
                (higher (omega (arith, (ended_by e sends after nobody.ends).step.highest_is)))
                in
                (run.0, subst (λ (ms : List Mark). TableSteps table ms run.0) (sym nobody.marks_are) run.1, goes_on here untaken all run.0 run.2)
            | inr hands ↦
                let step : EndAndRequestStep (EndStep before.state) hands.next.mode sends hands.asks.entered after.state = record {
                  between = hands.between.state;
                  replies = hands.replies;
                  requests = hands.requests;
                  ends = (ended_by hands.entry hands.replies hands.between hands.ends).step;
                  asks = hands.asks.step;
                  sends_are = hands.sends_are;
                } in
                let handed = handed_marks Ends mark before ended_by sends marks after hands in
                let mid = step.between in
                let s1 = with_state (states nodes r) mid in
                let put = put_state (states nodes r) mid in
                let placed_mid : IsPlaced n r p mid = record {
                  consistent = consistent hands.entry hands.replies hands.between hands.ends;
                  me_is = step.ends.me_is ∙ placed.me_is;
                  nodes_is = step.ends.nodes_is ∙ placed.nodes_is;
                  name_is = step.ends.name_is ∙ placed.name_is;
                } in
                let first = conducts hands.entry hands.replies hands.between hands.ends s1 put placed_mid in
                let asks : RequestStep (s1 p) hands.next.mode step.requests hands.asks.entered after.state = subst (λ (x : State). RequestStep x hands.next.mode step.requests hands.asks.entered after.state) (sym put.here) step.asks in
                let second = request_conduct start n r s1 (states nodes' r) (bag ++ step.replies) p after.state first went.within
                (record { here = state_changes.here; there = λ k apart. state_changes.there k apart ∙ sym (put.there k apart) }) hands.next.mode step.requests hands.asks.entered asks placed_after
                in
                let sent : (bag ++ step.replies) ++ step.requests ≡ rest ++ sends = append_assoc bag step.replies step.requests ∙ sym (λ k. same k ++ step.sends_are k) in
                let here : Conduct Lossy Copied start n r (states nodes' r) (rest ++ sends) = subst (Conduct Lossy Copied start n r (states nodes' r)) sent second in
                let e = hands.entry in
                let f = next_entry before hands.next.client hands.next.mode in
                let both = leads_end e (request_marks hands.asks.entered f) (use_of before) (use_of after) (subst (λ (ms : List Mark). MarksLead (use_of before) ms (use_of after)) handed leads) in
                let next = (leads_request hands.asks.entered Nobody (use_of after) f both.1).1 in
                let run = run_handed n p r went.within mark was marks_end e hands.asks.entered f (uses nodes) (uses nodes') (reaches nodes) (reaches nodes') table old.tabled (own_before e (own e both.0)) (own_before f (record { node_is = refl; name_is = refl })) both.0
                (alters (use_after hands.asks.entered f) next) (omega arith) (higher (handed_raises before.state after.state step)) (λ yes. grant here f (next ∙ ap (λ b. use_after b f) yes))
                in
                (run.0, subst (λ (ms : List Mark). TableSteps table ms run.0) (sym handed) run.1, goes_on here untaken all run.0 run.2)
          ]

  pub left : (client : ℕ) (marks : List Mark) → rest ≡ bag → LeaveTurn before client sends marks after → MarksLead (use_of before) marks (use_of after)
      → ((m : State) (replies : List Message) → LeaveStep before.state replies m → IsConsistent m)
      → (t : LockTable) × TableSteps table marks t × Invariant Lossy Copied start n nodes' (rest ++ sends) t
  left client marks same turn leads consistent =
      ended (Leaves before client) Left HoldsBy (leaves_ended before client) (λ e ms w w' lead. (lead.0, lead.1)) (left_ends n p r went.within) (λ e used. (use_granted before e used).1)
      (λ e replies x leaves s' changes placed. leave_conduct start n r (states nodes r) s' bag p x.state (old.protocol r) went.within changes replies leaves.step placed)
      (λ e replies x leaves. consistent x.state replies leaves.step) marks same turn leads

  -- ---- A client gives up

  -- nothing is sent or marked, and only the queue changes
  queue_left : (marks : List Mark) → rest ≡ bag → after.state ≡ before.state → after.client ≡ before.client → sends ≡ [] → marks ≡ [] → MarksLead (use_of before) marks (use_of after)
      → (t : LockTable) × TableSteps table marks t × Invariant Lossy Copied start n nodes' (rest ++ sends) t
  queue_left marks same same_state same_client no_sends no_marks leads =
      let untaken = λ (q : List ℕ) (i j : ℕ) (apart : q ≢ r). ap (between q i j) same in
      let all = subst (All (IsTraffic n)) (sym same) old.traffic in
      let none : rest ++ sends ≡ bag = (λ k. same k ++ no_sends k) ∙ append-nil bag in
      let here : Conduct Lossy Copied start n r (states nodes' r) (rest ++ sends) = undisturbed_conduct start n r (states nodes r) (states nodes' r) bag (rest ++ sends) (unmoved same_state) (λ i j. ap (between r i j) none) (old.protocol r) in
      let stays : use_of after ≡ use_of before = subst (λ (ms : List Mark). MarksLead (use_of before) ms (use_of after)) no_marks leads in
      let run = run_nothing n p r went.within (uses nodes) (uses nodes') (reaches nodes) (reaches nodes') table old.tabled (unaltered stays) (higher (omega (arith, ap (λ (x : State). x.highest) same_state))) in
      (run.0, subst (λ (ms : List Mark). TableSteps table ms run.0) (sym no_marks) run.1, goes_on here untaken all run.0 run.2)

  -- a request is withdrawn only if Copied is so
  pub cancelled : (client : ℕ) (marks : List Mark) → rest ≡ bag → CancelTurn before client sends marks after → MarksLead (use_of before) marks (use_of after) → (withdrawn_in marks ≡ 0) ⊎ Copied
      → ((m : State) (replies : List Message) → WithdrawStep before.state replies m → IsConsistent m)
      → (t : LockTable) × TableSteps table marks t × Invariant Lossy Copied start n nodes' (rest ++ sends) t
  cancelled client marks same turn leads may consistent =
      elim turn [
        | inl goes ↦ queue_left marks same (ap (λ (x : Resource). x.state) goes.new_is) (ap (λ (x : Resource). x.client) goes.new_is) goes.sends_are goes.marks_are leads
        | inr ends ↦
            let copied : Copied = elim may [ inr copied ↦ copied | inl none ↦ absurd (omega (arith, none, one_withdrawn ends)) ] in
            ended (Withdraws before client) Withdrawn WaitsBy (withdraws_ended before client) (λ e ms w w' lead. (lead.0, lead.1)) (withdrawn_ends n p r went.within) (λ e used. (use_waits before e used).1)
            (λ e replies x withdraws s' changes placed. withdraw_conduct start n r (states nodes r) s' bag p x.state (old.protocol r) went.within changes copied replies withdraws.step placed)
            (λ e replies x withdraws. consistent x.state replies withdraws.step) marks same ends leads
      ]
    where
      one_withdrawn : EndTurn (Withdraws before client) Withdrawn before sends marks after → 1 ≤ withdrawn_in marks
      one_withdrawn ends = elim ends [
        | inl nobody ↦ omega (arith, ap withdrawn_in nobody.marks_are)
        | inr hands ↦ omega (arith, ap withdrawn_in hands.marks_are)
      ]

  -- ---- A message comes

  receive_raises : (m : Message) (entered : Bool) → ReceiveStep before.state m sends entered after.state → before.state.highest ≤ after.state.highest
  receive_raises (Request from to name mode seq) entered step = elim step.1 [
    | inl defers ↦ omega (arith, ap (λ (x : State). x.highest) defers.new_is)
    | inr replies ↦ omega (arith, ap (λ (x : State). x.highest) replies.new_is)
  ]
  receive_raises (Reply from to name seq) entered step = elim step.1 [
    | inl stray ↦ omega (arith, ap (λ (x : State). x.highest) stray.new_is)
    | inr awaited ↦ elim awaited.1 [
      | inl enters ↦ omega (arith, ap (λ (x : State). x.highest) enters.new_is)
      | inr on ↦ omega (arith, ap (λ (x : State). x.highest) on.new_is)
    ]
  ]

  taken_protocol : (m : Message) (entered : Bool) → TakesFirst bag m rest → IsForNode p n m → name_of m ≡ r → ReceiveStep before.state m sends entered after.state → Conduct Lossy Copied start n r (states nodes' r) (rest ++ sends)
  taken_protocol (Request from to name mode seq) entered takes for name_is step =
      request_taken_conduct start n r (states nodes r) (states nodes' r) bag rest p from after.state (old.protocol r) went.within (for.from.first, for.from.last) for.from.other state_changes placed_after sends seq mode
      (subst (λ (k : ℕ). TakesFirst bag (Request from k r mode seq) rest) for.to (subst (λ (q : List ℕ). TakesFirst bag (Request from to q mode seq) rest) name_is takes)) step.1
  taken_protocol (Reply from to name seq) entered takes for name_is step =
      reply_taken_conduct start n r (states nodes r) (states nodes' r) bag rest p from after.state (old.protocol r) went.within (for.from.first, for.from.last) for.from.other state_changes placed_after sends seq entered
      (subst (λ (k : ℕ). TakesFirst bag (Reply from k r seq) rest) for.to (subst (λ (q : List ℕ). TakesFirst bag (Reply from to q seq) rest) name_is takes)) step.0 step.1

  entering : (entered : Bool) (marks : List Mark) → EntersBy entered after marks → MarksLead (use_of before) marks (use_of after) → Conduct Lossy Copied start n r (states nodes' r) (rest ++ sends) → before.state.highest ≤ after.state.highest
      → (t : LockTable) × TableSteps table marks t × Tabled n (uses nodes') (reaches nodes') t
  entering false marks none leads here more =
      let stays : use_of after ≡ use_of before = subst (λ (ms : List Mark). MarksLead (use_of before) ms (use_of after)) none leads in
      let run = run_nothing n p r went.within (uses nodes) (uses nodes') (reaches nodes) (reaches nodes') table old.tabled (unaltered stays) (higher more) in
      (run.0, subst (λ (ms : List Mark). TableSteps table ms run.0) (sym none) run.1, run.2)
  entering true marks some leads here more =
      let e = some.0 in
      let both = subst (λ (ms : List Mark). MarksLead (use_of before) ms (use_of after)) some.2 leads in
      let own = own_before e (use_waits before e both.0).1 in
      let run = run_entered n p r went.within e (uses nodes) (uses nodes') (reaches nodes) (reaches nodes') table old.tabled own both.0 (alters (HoldsBy e) both.1) (higher more) (grant here e both.1) in
      (run.0, subst (λ (ms : List Mark). TableSteps table ms run.0) (sym some.2) run.1, run.2)

  pub received : (m : Message) (marks : List Mark) → TakesFirst bag m rest → IsForNode p n m → name_of m ≡ r → ReceiveTurn before m sends marks after → MarksLead (use_of before) marks (use_of after)
      → (t : LockTable) × TableSteps table marks t × Invariant Lossy Copied start n nodes' (rest ++ sends) t
  received m marks takes for name_is turn leads =
      let here = taken_protocol m turn.entered takes for name_is turn.step in
      let run = entering turn.entered marks turn.enters leads here (receive_raises m turn.entered turn.step) in (
        run.0,
        run.1,
        goes_on here (λ q i j apart. filter_left (belongs q i j) bag m rest (belongs_not q i j m (λ is. apart (sym is.name_is ∙ name_is))) takes)
            (All-taken (IsTraffic n) bag m rest takes old.traffic).1 run.0 run.2,
      )

-- ---- A node forgets names

module _ {Lossy Copied : Type 0} (start n : ℕ) (nodes nodes' : ℕ → NodeState) (p : ℕ) (new : NodeState) (bag : List Message) (table : LockTable) (old : Invariant Lossy Copied start n nodes bag table) (within : IsNode n p) (turned : Turned nodes nodes' p new)
    (there : IsThere n p new) (sends : List Message) (marks : List Mark) (event : ForgetEvent (nodes p) sends marks new) where
  forgot_each : (i : ℕ) → IsNode n i → IsThere n i (nodes' i)
  forgot_each i at = elim (cases_same i p) [
    | inl same ↦ subst (λ (k : ℕ). IsThere n k (nodes' k)) (sym same) (subst (IsThere n p) (sym turned.here) there)
    | inr apart ↦ subst (IsThere n i) (sym (turned.there i apart)) (old.each i at)
  ]

  resource_now : (i : ℕ) (q : List ℕ) → (i ≡ p) × (resource_at (nodes' i) q ≡ raised event.number (resource_at (nodes i) q)) ⊎ (resource_at (nodes' i) q ≡ resource_at (nodes i) q)
  resource_now i q = elim (cases_same i p) [
    | inl same ↦ inl (same, subst (λ (k : ℕ). resource_at (nodes' k) q ≡ raised event.number (resource_at (nodes k) q)) (sym same) (ap (λ (x : NodeState). resource_at x q) turned.here ∙ event.resources q))
    | inr apart ↦ inr (ap (λ (x : NodeState). resource_at x q) (turned.there i apart))
  ]

  pub forgot : Invariant Lossy Copied start n nodes' bag table
  forgot =
      record {
        each = forgot_each;
        protocol = λ r.
            rise_conduct start n r (states nodes r) (states nodes' r) bag p (resource_at new r).state (old.protocol r) within
            (record { here = ap (λ (x : NodeState). (resource_at x r).state) turned.here; there = λ k apart. ap (λ (x : NodeState). (resource_at x r).state) (turned.there k apart) })
            event.number (ap (λ (x : Resource). x.state) (event.resources r)) (placed_at n p new r there);
        traffic = old.traffic;
        tabled = unmarked n (uses nodes) (uses nodes') (reaches nodes) (reaches nodes') table old.tabled p [] within
            (λ i q. elim (resource_now i q) [ inl rises ↦ omega (arith, ap (λ (x : Resource). x.state.highest) rises.1) | inr same ↦ omega (arith, ap (λ (x : Resource). x.state.highest) same) ])
            (λ i q. elim (cases_same i p) [
              | inl same ↦ subst (λ (k : ℕ). uses nodes' k q ≡ uses nodes k q) (sym same) (ap (λ (x : NodeState). use_of (resource_at x q)) turned.here ∙ forget_uses (nodes p) new sends marks event q)
              | inr apart ↦ ap (λ (x : NodeState). use_of (resource_at x q)) (turned.there i apart)
            ]);
      }

-- ---- A message is lost, or comes once more

pub lost : {Lossy Copied : Type 0} → Lossy → (start n : ℕ) (nodes : ℕ → NodeState) (bag rest : List Message) (table : LockTable) (m : Message) → Invariant Lossy Copied start n nodes bag table → TakesFirst bag m rest → Invariant Lossy Copied start n nodes rest table
lost {Lossy} {Copied} lossy start n nodes bag rest table m old takes =
    record {
      each = old.each;
      protocol = λ r. lost_conduct lossy start n r (states nodes r) bag rest m (old.protocol r) takes;
      traffic = (All-taken (IsTraffic n) bag m rest takes old.traffic).1;
      tabled = old.tabled;
    }

pub copied : {Lossy Copied : Type 0} → Copied → (start n : ℕ) (nodes : ℕ → NodeState) (bag : List Message) (table : LockTable) (m : Message) → Invariant Lossy Copied start n nodes bag table → Contains bag m → Invariant Lossy Copied start n nodes (bag ++ m ∷ []) table
copied {Lossy} {Copied} copies start n nodes bag table m old there =
    record {
      each = old.each;
      protocol = λ r. copied_conduct copies start n r (states nodes r) bag m there (old.protocol r);
      traffic = All-push (IsTraffic n) bag m old.traffic (All-contains (IsTraffic n) bag m old.traffic there);
      tabled = old.tabled;
    }
