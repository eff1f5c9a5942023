-- What is said by an event of a node, on all names: each event, and each loss, keeps that all messages of a dialog are
-- different, also if requests are withdrawn.
use Rattle.std.proofs.Common.{◌≡◌, ◌≢◌, ℕ, ◌+◌, ◌≤◌, Bool, cond, map, List, [], ◌++◌, All, Some, refl, sym, ap, ◌∙◌, subst, append_assoc, arith, eqb, inl, inr}
use Rattle.std.specs.Ordering.{nat_cmp}
use Rattle.std.specs.FinMap as finmap
use Rattle.std.proofs.lemmas.List.{append-nil}
use Rattle.std.proofs.lemmas.Bool.{eq-eqb, ne_eqb}
use Rattle.std.proofs.lemmas.List.Elements.{All-weaker}
use Rattle.ra_stamp.specs.declared.mode.Mode.{Mode}
use Rattle.ra_stamp.specs.declared.message.Message.{Message}
use Rattle.ra_stamp.specs.declared.message.Message.TheVariants.{Request, Reply}
use Rattle.ra_stamp.specs.declared.entry.Mark.{Mark}
use Rattle.ra_stamp.specs.Message.{name_of}
use Rattle.ra_automaton.specs.State.{State, IsForNode}
use Rattle.ra_automaton.specs.Steps.{RequestStep, EndAndRequestStep, ReceiveStep}
use Rattle.ra_automaton.proofs.Ending.{EndStep}
use Rattle.ra_stamp.specs.declared.entry.Entry.{Entry}
use Rattle.ra_stamp.specs.declared.entry.Mark.TheVariants.{Left, Withdrawn}
use Rattle.ra_node.proofs.Endings.{AreEnded, leaves_ended, withdraws_ended}
use Rattle.ra_node.specs.Events.{ForgetEvent}
use Rattle.ra_bag.specs.Bag.{TakesFirst}
use Rattle.ra_node.specs.Resource.{Resource}
use Rattle.ra_node.proofs.HandOverStep.{handed_step}
use Rattle.ra_node.specs.Turns.{AskTurn, Leaves, Withdraws, EndTurn, LeaveTurn, CancelTurn, ReceiveTurn}
use Rattle.ra_node.specs.Node.{NodeState, resource_at}
use Rattle.ra_node.specs.Carried.{IsSend}
use Rattle.ra_automaton.proofs.Apart.{cases_same}
use Rattle.ra_node.proofs.Lookups.{same_or_apart}
use Rattle.ra_world.proofs.Dialogs.{between, IsOf, between_none, replies_of_others}
use Rattle.ra_world.proofs.Protocol.{IsNode, IsPlaced}
use Rattle.ra_world.proofs.Exchanges.{Exchanges}
use Rattle.ra_world.proofs.Asking.{none_between}
use Rattle.ra_world.proofs.Cluster.{states}
use Rattle.ra_world.proofs.DifferentDialogs.{asked_for, deferred_with, AllSaid}
use Rattle.ra_world.proofs.DifferentTurns.{fewer_asked, IsNew, next_is_new, said_nothing, said_asking, said_ending, said_on_request, said_on_reply}

-- of all dialogs, about all names
abbrev pub EverySaid : ℕ → (ℕ → NodeState) → List Message → List Message → Type 0
EverySaid n nodes bag sent = (r : List ℕ) → AllSaid n r (states nodes r) bag sent

-- nodes that are as before, and a list of messages under way that is as before
pub said_by_same : (n : ℕ) (nodes nodes' : ℕ → NodeState) (bag sent : List Message) → ((i : ℕ) → IsNode n i → nodes' i ≡ nodes i) → EverySaid n nodes bag sent → EverySaid n nodes' bag sent
said_by_same n nodes nodes' bag sent same said r =
    said_nothing n r (states nodes r) (states nodes' r) bag bag sent sent (said r) (λ i at. omega (arith, ap (λ (x : NodeState). (resource_at x r).state.highest) (same i at)))
    (λ i j at_i at_j. ap (λ (x : NodeState). finmap.get (resource_at x r).state.deferred i) (same j at_j)) (λ i j k at_i at_j apart. omega arith) (λ i j. refl)

-- a message is lost
pub said_after_loss : (n : ℕ) (nodes : ℕ → NodeState) (bag rest sent : List Message) (m : Message) → TakesFirst bag m rest → EverySaid n nodes bag sent → EverySaid n nodes rest sent
said_after_loss n nodes bag rest sent m takes said r =
    said_nothing n r (states nodes r) (states nodes r) bag rest sent sent (said r) (λ i at. omega arith) (λ i j at_i at_j. refl)
    (λ i j k at_i at_j apart. fewer_asked r i j bag m rest takes k) (λ i j. refl)

-- a node forgets names: its numbers rise, and nothing is said
pub said_by_forget : (n : ℕ) (nodes nodes' : ℕ → NodeState) (p : ℕ) (bag sent sends : List Message) (marks : List Mark) → ((k : ℕ) → IsNode n k → k ≢ p → nodes' k ≡ nodes k) → ForgetEvent (nodes p) sends marks (nodes' p)
    → EverySaid n nodes bag sent → EverySaid n nodes' (bag ++ sends) (sent ++ sends)
said_by_forget n nodes nodes' p bag sent sends marks there event said r =
    said_nothing n r (states nodes r) (states nodes' r) bag (bag ++ sends) sent (sent ++ sends) (said r) (λ i at. (kept i at).0) (λ i j at_i at_j. ap (λ (d : finmap.FinMap nat_cmp ℕ). finmap.get d i) (kept j at_j).1)
    (λ i j k at_i at_j apart. omega (arith, ap (λ (xs : List Message). asked_for k (between r i j xs)) (no_more bag))) (λ i j. ap (between r i j) (no_more sent))
  where
    no_more : (xs : List Message) → xs ++ sends ≡ xs
    no_more xs = ap (λ (ys : List Message). xs ++ ys) event.sends_are ∙ append-nil xs

    kept : (i : ℕ) → IsNode n i → ((states nodes r i).highest ≤ (states nodes' r i).highest) × ((states nodes' r i).deferred ≡ (states nodes r i).deferred)
    kept i at = elim (cases_same i p) [
      | inr apart ↦ (omega (arith, ap (λ (x : NodeState). (resource_at x r).state.highest) (there i at apart)), ap (λ (x : NodeState). (resource_at x r).state.deferred) (there i at apart))
      | inl is ↦
          subst (λ (k : ℕ). ((states nodes r k).highest ≤ (states nodes' r k).highest) × ((states nodes' r k).deferred ≡ (states nodes r k).deferred)) (sym is)
          (omega (arith, ap (λ (x : Resource). x.state.highest) (event.resources r)), ap (λ (x : Resource). x.state.deferred) (event.resources r))
    ]

-- the outcome of an event at a node, on a name: its resource went on, all others stayed
pub record Happens (n : ℕ) (nodes nodes' : ℕ → NodeState) (p : ℕ) (r : List ℕ) (sends : List Message) : Type 0 where
  pub within : IsNode n p
  pub there : (k : ℕ) → IsNode n k → k ≢ p → nodes' k ≡ nodes k
  pub others : (q : List ℕ) → q ≢ r → resource_at (nodes' p) q ≡ resource_at (nodes p) q
  pub sent : All (IsSend p n r) sends

module _ {Lossy : Type 0} (start n : ℕ) (nodes nodes' : ℕ → NodeState) (p : ℕ) (r : List ℕ) (sends bag sent : List Message) (exchanges : (q : List ℕ) → Exchanges Lossy start n q (states nodes q) bag) (said : EverySaid n nodes bag sent)
    (happens : Happens n nodes nodes' p r sends) where
  abbrev s : ℕ → State
  s = states nodes r

  abbrev s' : ℕ → State
  s' = states nodes' r

  abbrev before : Resource
  before = resource_at (nodes p) r

  abbrev after : Resource
  after = resource_at (nodes' p) r

  placed : IsPlaced n r p (s p)
  placed = (exchanges r).each p happens.within

  state_there : (k : ℕ) → IsNode n k → k ≢ p → s' k ≡ s k
  state_there k at apart = ap (λ (x : NodeState). (resource_at x r).state) (happens.there k at apart)

  -- another name
  elsewhere : (rest : List Message) → ((q : List ℕ) (i j k : ℕ) → IsNode n i → IsNode n j → i ≢ j → asked_for k (between q i j rest) ≤ asked_for k (between q i j bag)) → (q : List ℕ) → q ≢ r
      → AllSaid n q (states nodes' q) (rest ++ sends) (sent ++ sends)
  elsewhere rest left q apart =
      said_nothing n q (states nodes q) (states nodes' q) bag (rest ++ sends) sent (sent ++ sends) (said q) (λ i at. omega (arith, ap (λ (x : Resource). x.state.highest) (same i at)))
      (λ i j at_i at_j. ap (λ (x : Resource). finmap.get x.state.deferred i) (same j at_j))
      (λ i j k at_i at_j other. omega (arith, ap (asked_for k) (none_between q i j rest sends (of_others i j)), left q i j k at_i at_j other))
      (λ i j. none_between q i j sent sends (of_others i j))
    where
      same : (i : ℕ) → IsNode n i → resource_at (nodes' i) q ≡ resource_at (nodes i) q
      same i at = elim (cases_same i p) [
        | inl is ↦ subst (λ (k : ℕ). resource_at (nodes' k) q ≡ resource_at (nodes k) q) (sym is) (happens.others q apart)
        | inr other ↦ ap (λ (x : NodeState). resource_at x q) (happens.there i at other)
      ]

      of_others : (i j : ℕ) → between q i j sends ≡ []
      of_others i j = between_none q i j sends (All-weaker (IsSend p n r) (λ m. IsOf q i j m → ⊥) (λ m send is. apart (sym is.name_is ∙ send.name_is)) sends happens.sent)

  every : (rest : List Message) → ((q : List ℕ) (i j k : ℕ) → IsNode n i → IsNode n j → i ≢ j → asked_for k (between q i j rest) ≤ asked_for k (between q i j bag)) → AllSaid n r s' (rest ++ sends) (sent ++ sends)
      → EverySaid n nodes' (rest ++ sends) (sent ++ sends)
  every rest left here q = elim (same_or_apart q r) [
    | inl same ↦ subst (λ (x : List ℕ). AllSaid n x (states nodes' x) (rest ++ sends) (sent ++ sends)) (sym same) here
    | inr apart ↦ elsewhere rest left q apart
  ]

  -- no message is taken
  untaken : (q : List ℕ) (i j k : ℕ) → IsNode n i → IsNode n j → i ≢ j → asked_for k (between q i j bag) ≤ asked_for k (between q i j bag)
  untaken q i j k at_i at_j apart = omega arith

  -- nothing is sent, and the state stays
  queue_only : s' p ≡ s p → sends ≡ [] → EverySaid n nodes' (bag ++ sends) (sent ++ sends)
  queue_only same_state nothing =
      let all_same : (i : ℕ) → IsNode n i → s' i ≡ s i = λ i at. elim (cases_same i p) [ inl is ↦ subst (λ (k : ℕ). s' k ≡ s k) (sym is) same_state | inr apart ↦ state_there i at apart ] in
      let no_more : (xs : List Message) → xs ++ sends ≡ xs = λ xs. ap (λ (ys : List Message). xs ++ ys) nothing ∙ append-nil xs in
      every bag untaken (said_nothing n r s s' bag (bag ++ sends) sent (sent ++ sends) (said r) (λ i at. omega (arith, ap (λ (x : State). x.highest) (all_same i at)))
      (λ i j at_i at_j. ap (λ (x : State). finmap.get x.deferred i) (all_same j at_j)) (λ i j k at_i at_j apart. omega (arith, ap (λ (xs : List Message). asked_for k (between r i j xs)) (no_more bag))) (λ i j. ap (between r i j) (no_more sent)))

  -- ---- A client asks

  pub said_by_ask : (client : ℕ) (mode : Mode) (marks : List Mark) → AskTurn before client mode sends marks after → EverySaid n nodes' (bag ++ sends) (sent ++ sends)
  said_by_ask client mode marks turn = elim turn.1 [
    | inl asks ↦ every bag untaken (said_asking n r s s' bag sent (said r) p happens.within state_there placed.me_is placed.nodes_is placed.name_is mode sends asks.entered asks.step (next_is_new start n r s bag p happens.within (exchanges r)))
    | inr queues ↦ queue_only (ap (λ (x : Resource). x.state) queues.new_is) queues.sends_are
  ]

  -- ---- The request of a client ends

  met : (x k : ℕ) → IsNode n x → x ≢ p → finmap.get (s p).deferred x ≡ Some k → k ≤ (s x).highest
  met x k at apart some = (((exchanges r).dialog x p at happens.within apart).deferred k some).reached

  -- in between, it has ended and the next one has not begun
  abbrev with_state : State → ℕ → State
  with_state mid i = cond (eqb i p) mid (s i)

  put_here : (mid : State) → with_state mid p ≡ mid
  put_here mid = ap (λ b. cond b mid (s p)) (eq-eqb p p refl)

  put_there : (mid : State) (k : ℕ) → k ≢ p → with_state mid k ≡ s k
  put_there mid k apart = ap (λ b. cond b mid (s k)) (ne_eqb k p apart)

  hands_over : (mode : Mode) (entered : Bool) → EndAndRequestStep (EndStep (s p)) mode sends entered (s' p) → AllSaid n r s' (bag ++ sends) (sent ++ sends)
  hands_over mode entered step =
      let mid = step.between in
      let s1 = with_state mid in
      let ends : EndStep (s p) step.replies (s1 p) = subst (λ (x : State). EndStep (s p) step.replies x) (sym (put_here mid)) step.ends in
      let gone = said_ending n r s s1 bag sent (said r) p happens.within (λ k at apart. put_there mid k apart) placed.me_is placed.name_is met step.replies ends in
      -- the next number is as before, and so are the REQUESTs and whom the others defer
      let was = next_is_new start n r s bag p happens.within (exchanges r) in
      let new : IsNew n r p s1 (bag ++ step.replies) ((s1 p).highest + 1) =
      subst (λ (k : ℕ). IsNew n r p s1 (bag ++ step.replies) (k + 1)) (sym ends.highest_is) (λ x at apart. (
        ap (asked_for ((s p).highest + 1)) (none_between r p x bag step.replies (replies_to_others x apart step.replies step.ends)) ∙ (was x at apart).0,
        ap (λ (t : State). deferred_with ((s p).highest + 1) (finmap.get t.deferred p)) (put_there mid x apart) ∙ (was x at apart).1,
      )) in
      let asked = said_asking n r s1 s' (bag ++ step.replies) (sent ++ step.replies) gone p happens.within (λ k at apart. state_there k at apart ∙ sym (put_there mid k apart))
      (ends.me_is ∙ placed.me_is) (ends.nodes_is ∙ placed.nodes_is) (ends.name_is ∙ placed.name_is) mode step.requests entered
      (subst (λ (x : State). RequestStep x mode step.requests entered (s' p)) (sym (put_here mid)) step.asks) new in
      let all : (xs : List Message) → (xs ++ step.replies) ++ step.requests ≡ xs ++ sends = λ xs. append_assoc xs step.replies step.requests ∙ sym (ap (λ (ys : List Message). xs ++ ys) step.sends_are) in
      subst (λ (xs : List Message). AllSaid n r s' xs (sent ++ sends)) (all bag) (subst (λ (xs : List Message). AllSaid n r s' ((bag ++ step.replies) ++ step.requests) xs) (all sent) asked)
    where
      -- the REPLYs belong to the dialogs in which p answers
      replies_to_others : (x : ℕ) → x ≢ p → (replies : List Message) → EndStep (s p) replies step.between → between r p x replies ≡ []
      replies_to_others x apart replies ends =
          ap (between r p x) (ends.sends_are ∙ (λ i. map (λ e. Reply (placed.me_is i) e.0 (placed.name_is i) e.1) (finmap.entries (s p).deferred)))
          ∙ replies_of_others r r p x p (finmap.entries (s p).deferred) (λ e _. apart e)

  said_by_end : (Ends : Entry → List Message → Resource → Type 0) (mark : Entry → Mark) → AreEnded before Ends → (marks : List Mark) → EndTurn Ends mark before sends marks after → EverySaid n nodes' (bag ++ sends) (sent ++ sends)
  said_by_end Ends mark ended marks turn = elim turn [
    | inl nobody ↦ every bag untaken (said_ending n r s s' bag sent (said r) p happens.within state_there placed.me_is placed.name_is met sends (ended nobody.entry sends after nobody.ends).step)
    | inr hands ↦ every bag untaken (hands_over hands.next.mode hands.asks.entered (handed_step Ends mark before ended sends marks after hands))
  ]

  pub said_by_leave : (client : ℕ) (marks : List Mark) → LeaveTurn before client sends marks after → EverySaid n nodes' (bag ++ sends) (sent ++ sends)
  said_by_leave client marks turn = said_by_end (Leaves before client) Left (leaves_ended before client) marks turn

  pub said_by_cancel : (client : ℕ) (marks : List Mark) → CancelTurn before client sends marks after → EverySaid n nodes' (bag ++ sends) (sent ++ sends)
  said_by_cancel client marks turn = elim turn [
    | inl goes ↦ queue_only (ap (λ (x : Resource). x.state) goes.new_is) goes.sends_are
    | inr ends ↦ said_by_end (Withdraws before client) Withdrawn (withdraws_ended before client) marks ends
  ]

  -- ---- A message comes

  received : (m : Message) (rest : List Message) (entered : Bool) → TakesFirst bag m rest → IsForNode p n m → name_of m ≡ r → ReceiveStep (s p) m sends entered (s' p) → AllSaid n r s' (rest ++ sends) (sent ++ sends)
  received (Request from to name mode seq) rest entered takes for name_is step =
      said_on_request n r s s' bag sent (said r) p happens.within state_there start (exchanges r) rest sends from (for.from.first, for.from.last) for.from.other seq mode
      (subst (λ (k : ℕ). TakesFirst bag (Request from k r mode seq) rest) for.to (subst (λ (q : List ℕ). TakesFirst bag (Request from to q mode seq) rest) name_is takes)) step.1
  received (Reply from to name seq) rest entered takes for name_is step =
      said_on_reply n r s s' bag sent (said r) p happens.within state_there start (exchanges r) rest sends from seq entered (Reply from to name seq) takes step.0 step.1

  pub said_by_receive : (m : Message) (rest : List Message) (marks : List Mark) → TakesFirst bag m rest → IsForNode p n m → name_of m ≡ r → ReceiveTurn before m sends marks after → EverySaid n nodes' (rest ++ sends) (sent ++ sends)
  said_by_receive m rest marks takes for name_is turn =
      every rest (λ q i j k at_i at_j apart. fewer_asked q i j bag m rest takes k) (received m rest turn.entered takes for name_is turn.step)
