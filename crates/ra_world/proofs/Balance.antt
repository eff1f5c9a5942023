-- How many messages were sent. Those sent, the REQUESTs under way, the REQUESTs lost and the deferred REPLYs are together
-- two for each request and each other node, if nothing is repeated. A copied REQUEST adds one to them, or none if its
-- sender is deferred already when it comes.
use Rattle.std.proofs.Common.{◌≡◌, ◌≢◌, ◌⊎◌, ℕ, zero, suc, ◌+◌, ◌-◌, ◌*◌, ◌<◌, ◌≤◌, Bool, true, false, cond, not, List, [], ◌∷◌, ◌++◌, length, filter, map, Option, Some, None, refl, sym, ap, ◌∙◌, subst, arith, inl, inr}
use Rattle.std.specs.Prelude.{◌==◌, is_some}
use Rattle.std.specs.List.{range_with_len}
use Rattle.std.specs.Ordering.{nat_cmp}
use Rattle.std.specs.Cmp.{nat_cmp_total}
use Rattle.std.specs.FinMap as finmap
use Rattle.std.proofs.lemmas.List.{length-append, length-map}
use Rattle.std.proofs.lemmas.List.Elements.{filter-append}
use Rattle.std.proofs.lemmas.Bool.Decides.{nat_tests}
use Rattle.ra_stamp.specs.declared.mode.Mode.{Mode}
use Rattle.ra_stamp.specs.declared.message.Message.{Message}
use Rattle.ra_stamp.specs.declared.message.Message.TheVariants.{Request, Reply}
use Rattle.ra_stamp.specs.declared.entry.Entry.{Entry}
use Rattle.ra_stamp.specs.declared.entry.Mark.{Mark}
use Rattle.ra_automaton.specs.State.{State}
use Rattle.ra_automaton.specs.Steps.{others_of, later_of, RequestStep}
use Rattle.ra_automaton.proofs.Ending.{EndStep}
use Rattle.ra_node.proofs.Endings.{AreEnded, leaves_ended, withdraws_ended}
use Rattle.ra_stamp.specs.declared.entry.Mark.TheVariants.{Left, Withdrawn}
use Rattle.ra_bag.specs.Bag.{TakesFirst}
use Rattle.ra_node.specs.Resource.{Resource}
use Rattle.ra_node.proofs.HandOverStep.{handed_step, handed_marks}
use Rattle.ra_node.specs.Turns.{request_marks, next_entry, EntersBy, AskTurn, Leaves, Withdraws, EndTurn, LeaveTurn, CancelTurn, ReceiveTurn}
use Rattle.ra_world.specs.Quiet.{requests_in}
use Rattle.ra_automaton.proofs.Apart.{cases_same}
use Rattle.ra_world.proofs.Protocol.{IsNode}

-- ---- REQUESTs

abbrev pub is_request : Message → Bool
is_request (Request from to name mode seq) = true
is_request (Reply from to name seq) = false

-- how many of these messages are REQUESTs
abbrev pub asking : List Message → ℕ
asking ms = length (filter is_request ms)

pub asking_both : (xs ys : List Message) → asking (xs ++ ys) ≡ asking xs + asking ys
asking_both xs ys = ap length (filter-append is_request xs ys) ∙ length-append (filter is_request xs) (filter is_request ys)

asking_requests : (p : ℕ) (name : List ℕ) (mode : Mode) (seq : ℕ) (os : List ℕ) → asking (map (λ o. Request p o name mode seq) os) ≡ length os
asking_requests p name mode seq [] = refl
asking_requests p name mode seq (o ∷ os) = omega (arith, asking_requests p name mode seq os)

asking_replies : (p : ℕ) (name : List ℕ) (es : List (ℕ × ℕ)) → asking (map (λ e. Reply p e.0 name e.1) es) ≡ 0
asking_replies p name [] = refl
asking_replies p name (e ∷ es) = asking_replies p name es

pub asking_taken : (bag : List Message) (m : Message) (rest : List Message) → TakesFirst bag m rest → asking bag ≡ asking rest + asking (m ∷ [])
asking_taken bag m rest takes =
    let was = ap asking takes.old_is ∙ asking_both takes.prefix (m ∷ takes.suffix) in
    let one : asking (m ∷ takes.suffix) ≡ asking (m ∷ []) + asking takes.suffix = asking_both (m ∷ []) takes.suffix in
    let is = ap asking takes.new_is ∙ asking_both takes.prefix takes.suffix in
    omega (arith, was, one, is)

pub asking_at_most : (ms : List Message) → asking ms ≤ length ms
asking_at_most [] = omega arith
asking_at_most (Request from to name mode seq ∷ ms) = omega (arith, asking_at_most ms)
asking_at_most (Reply from to name seq ∷ ms) = omega (arith, asking_at_most ms)

-- ---- The other nodes

count_others : (p first n : ℕ) → (p < first) ⊎ (first + n ≤ p) → length (filter (λ node. not (node == p)) (range_with_len first n)) ≡ n
count_others p first zero out = refl
count_others p first (suc n) out =
    let passes : not (first == p) ≡ true = is_not first p (elim out [ inl low ↦ λ e. omega (arith, low, e) | inr high ↦ λ e. omega (arith, high, e) ]) in
    ap (λ b. length (cond b (first ∷ filter (λ node. not (node == p)) (range_with_len (first + 1) n)) (filter (λ node. not (node == p)) (range_with_len (first + 1) n)))) passes
    ∙ ap suc (count_others p (first + 1) n (elim out [ inl low ↦ inl (omega (arith, low)) | inr high ↦ inr (omega (arith, high)) ]))
  where
    is_not : (a b : ℕ) → a ≢ b → not (a == b) ≡ true
    is_not a b apart = grind (arith, nat_tests)

count_but_one : (p first n : ℕ) → first ≤ p → p < first + n → length (filter (λ node. not (node == p)) (range_with_len first n)) + 1 ≡ n
count_but_one p first zero low high = absurd (omega (arith, low, high))
count_but_one p first (suc n) low high =
    elim (cases_same first p) [
      | inl same ↦
          let fails : not (first == p) ≡ false = is first p same in
          let rest = count_others p (first + 1) n (inl (omega (arith, same))) in
          omega (arith, ap (λ b. length (cond b (first ∷ filter (λ node. not (node == p)) (range_with_len (first + 1) n)) (filter (λ node. not (node == p)) (range_with_len (first + 1) n)))) fails, rest)
      | inr apart ↦
          let passes : not (first == p) ≡ true = is_not first p apart in
          let rest = count_but_one p (first + 1) n (omega (arith, low, apart)) (omega (arith, high)) in
          omega (arith, ap (λ b. length (cond b (first ∷ filter (λ node. not (node == p)) (range_with_len (first + 1) n)) (filter (λ node. not (node == p)) (range_with_len (first + 1) n)))) passes, rest)
    ]
  where
    is_not : (a b : ℕ) → a ≢ b → not (a == b) ≡ true
    is_not a b apart = grind (arith, nat_tests)

    is : (a b : ℕ) → a ≡ b → not (a == b) ≡ false
    is a b same = grind (arith, nat_tests)

others_count : (p n : ℕ) → IsNode n p → length (others_of p n) + 1 ≡ n
others_count p n within = count_but_one p 1 n within.0 (omega (arith, within.1))

-- ---- One turn

abbrev pub owed : Resource → ℕ
owed r = finmap.len r.state.deferred

-- what is sent, with the REQUESTs under way and the deferrals, grows by this many for each request
abbrev pub IsBalanced : ℕ → ℕ → ℕ → List Message → Resource → Resource → List Mark → Type 0
IsBalanced each was left sends before after marks = length sends + (left + asking sends) + owed after ≡ was + owed before + each * requests_in marks

pub marks_request : (entered : Bool) (e : Entry) → requests_in (request_marks entered e) ≡ 1
marks_request false e = refl
marks_request true e = refl

requests_sent : (n : ℕ) (s : State) (mode : Mode) (sends : List Message) (entered : Bool) (new : State) → IsNode n s.me → s.nodes ≡ n → RequestStep s mode sends entered new
    → (length sends + 1 ≡ n) × (asking sends ≡ length sends) × (new.deferred ≡ s.deferred)
requests_sent n s mode sends entered new within nodes_is step =
    let os = others_of s.me s.nodes in
    let long : length sends ≡ length os = ap length step.sends_are ∙ length-map os (λ o. Request s.me o s.name mode (s.highest + 1)) in
    let many : asking sends ≡ length os = ap asking step.sends_are ∙ asking_requests s.me s.name mode (s.highest + 1) os in
    let others : length os + 1 ≡ s.nodes = others_count s.me s.nodes (within.0, subst (λ (k : ℕ). s.me ≤ k) (sym nodes_is) within.1) in (
      omega (arith, long, others, nodes_is),
      many ∙ sym long,
      elim step.begins [ inl asks ↦ ap (λ (t : State). t.deferred) asks.new_is | inr alone ↦ ap (λ (t : State). t.deferred) alone.new_is ],
    )

replies_sent : (s : State) (sends : List Message) (new : State) → EndStep s sends new → (length sends ≡ finmap.len s.deferred) × (asking sends ≡ 0) × (finmap.len new.deferred ≡ 0)
replies_sent s sends new step =
    let es = finmap.entries s.deferred in (
      ap length step.sends_are ∙ length-map es (λ e. Reply s.me e.0 s.name e.1) ∙ sym (finmap.len-entries s.deferred),
      ap asking step.sends_are ∙ asking_replies s.me s.name es,
      ap finmap.len step.none_deferred ∙ finmap.len-empty nat_cmp ℕ,
    )

-- a REQUEST comes from a node that is not deferred
abbrev pub IsFresh : Resource → Message → Type 0
IsFresh before m = (from to seq : ℕ) (name : List ℕ) (mode : Mode) → m ≡ Request from to name mode seq → finmap.get before.state.deferred from ≡ None

module _ (n each : ℕ) (each_is : each ≡ 2 * (n - 1)) (before after : Resource) (within : IsNode n before.state.me) (nodes_is : before.state.nodes ≡ n) (sends : List Message) (marks : List Mark) where
  pub ask_balanced : (client : ℕ) (mode : Mode) (bag : List Message) → AskTurn before client mode sends marks after → IsBalanced each (asking bag) (asking bag) sends before after marks
  ask_balanced client mode bag turn = elim turn.1 [
    | inl asks ↦
        let sent = requests_sent n before.state mode sends asks.entered after.state within nodes_is asks.step in
        let one : requests_in marks ≡ 1 = ap requests_in asks.marks_are ∙ marks_request asks.entered (next_entry before client mode) in
        omega (arith, sent.0, sent.1, ap finmap.len sent.2, each_is, ap (λ k. each * k) one)
    | inr queues ↦
        omega (arith, ap length queues.sends_are, ap asking queues.sends_are, ap (λ (x : Resource). finmap.len x.state.deferred) queues.new_is, ap (λ (ms : List Mark). each * requests_in ms) queues.marks_are)
  ]

  -- the mark of an end is no request
  end_balanced : (Ends : Entry → List Message → Resource → Type 0) (mark : Entry → Mark) (ended : AreEnded before Ends) → ((e : Entry) (ms : List Mark) → requests_in (mark e ∷ ms) ≡ requests_in ms) → (bag : List Message) → EndTurn Ends mark before sends marks after → IsBalanced each (asking bag) (asking bag) sends before after marks
  end_balanced Ends mark ended none bag turn = elim turn [
    | inl nobody ↦
        let sent = replies_sent before.state sends after.state (ended nobody.entry sends after nobody.ends).step in
        let unasked : requests_in marks ≡ 0 = ap requests_in nobody.marks_are ∙ none nobody.entry [] in
        omega (arith, sent.0, sent.1, sent.2, ap (λ k. each * k) unasked)
    | inr hands ↦
        let step = handed_step Ends mark before ended sends marks after hands in
        let mid = step.between in
        let replied = replies_sent before.state step.replies mid step.ends in
        let sent = requests_sent n mid hands.next.mode step.requests hands.asks.entered after.state (subst (λ (k : ℕ). IsNode n k) (sym step.ends.me_is) within) (step.ends.nodes_is ∙ nodes_is) step.asks in
        let e = next_entry before hands.next.client hands.next.mode in
        let one : requests_in marks ≡ 1 = ap requests_in (handed_marks Ends mark before ended sends marks after hands) ∙ none hands.entry (request_marks hands.asks.entered e) ∙ marks_request hands.asks.entered e in
        let long = ap length step.sends_are ∙ length-append step.replies step.requests in
        let many = ap asking step.sends_are ∙ asking_both step.replies step.requests in
        omega (arith, replied.0, replied.1, replied.2, sent.0, sent.1, ap finmap.len sent.2, long, many, each_is, ap (λ k. each * k) one)
  ]

  pub leave_balanced : (client : ℕ) (bag : List Message) → LeaveTurn before client sends marks after → IsBalanced each (asking bag) (asking bag) sends before after marks
  leave_balanced client bag turn = end_balanced (Leaves before client) Left (leaves_ended before client) (λ e ms. refl) bag turn

  pub cancel_balanced : (client : ℕ) (bag : List Message) → CancelTurn before client sends marks after → IsBalanced each (asking bag) (asking bag) sends before after marks
  cancel_balanced client bag turn = elim turn [
    | inl goes ↦
        omega (arith, ap length goes.sends_are, ap asking goes.sends_are, ap (λ (x : Resource). finmap.len x.state.deferred) goes.new_is, ap (λ (ms : List Mark). each * requests_in ms) goes.marks_are)
    | inr ends ↦ end_balanced (Withdraws before client) Withdrawn (withdraws_ended before client) (λ e ms. refl) bag ends
  ]

  no_requests : (entered : Bool) → EntersBy entered after marks → requests_in marks ≡ 0
  no_requests false none = ap requests_in none
  no_requests true some = ap requests_in some.2

  -- so it is for a message that comes, but a REQUEST that is deferred may join one of its sender that is deferred already
  pub receive_balanced : (m : Message) (bag rest : List Message) → TakesFirst bag m rest → ReceiveTurn before m sends marks after
      → (joined : ℕ) × (length sends + (asking rest + asking sends) + owed after + joined ≡ asking bag + owed before + each * requests_in marks) × (IsFresh before m → joined ≡ 0)
  receive_balanced (Request from to name mode seq) bag rest takes turn =
      let taken = asking_taken bag (Request from to name mode seq) rest takes in
      let none : each * requests_in marks ≡ each * 0 = ap (λ k. each * k) (no_requests turn.entered turn.enters) in
      elim turn.step.1 [
        | inl defers ↦
            let more : finmap.len after.state.deferred ≡ cond (is_some (finmap.get before.state.deferred from)) (finmap.len before.state.deferred) (finmap.len before.state.deferred + 1) =
            ap (λ (t : State). finmap.len t.deferred) defers.new_is
            ∙ finmap.len-insert nat_cmp_total before.state.deferred from (later_of (finmap.get before.state.deferred from) seq)
            in
            let joined = join_one from (finmap.get before.state.deferred from) refl more in
            (joined.0, omega (arith, taken, none, joined.1, ap length defers.sends_are, ap asking defers.sends_are), λ fresh. joined.2 (fresh from to seq name mode refl))
        | inr replies ↦ (0, omega (arith, taken, none, ap (λ (t : State). finmap.len t.deferred) replies.new_is, ap length replies.sends_are, ap asking replies.sends_are), λ _. refl)
      ]
    where
      some_none : {d : ℕ} → ◌≡◌ {A = Option ℕ} (Some d) None → ⊥
      some_none e = cc

      join_one : (from : ℕ) (was : Option ℕ) → finmap.get before.state.deferred from ≡ was
          → finmap.len after.state.deferred ≡ cond (is_some (finmap.get before.state.deferred from)) (finmap.len before.state.deferred) (finmap.len before.state.deferred + 1)
          → (joined : ℕ) × (finmap.len after.state.deferred + joined ≡ finmap.len before.state.deferred + 1) × (finmap.get before.state.deferred from ≡ None → joined ≡ 0)
      join_one from None was more =
          (0, omega (arith, more ∙ ap (λ o. cond (is_some o) (finmap.len before.state.deferred) (finmap.len before.state.deferred + 1)) was), λ _. refl)
      join_one from (Some d) was more =
          (1, omega (arith, more ∙ ap (λ o. cond (is_some o) (finmap.len before.state.deferred) (finmap.len before.state.deferred + 1)) was), λ none. absurd (some_none (sym was ∙ none)))
  receive_balanced (Reply from to name seq) bag rest takes turn =
      let taken = asking_taken bag (Reply from to name seq) rest takes in
      let none : each * requests_in marks ≡ each * 0 = ap (λ k. each * k) (no_requests turn.entered turn.enters) in
      let same : finmap.len after.state.deferred ≡ finmap.len before.state.deferred = elim turn.step.1 [
        | inl stray ↦ ap (λ (t : State). finmap.len t.deferred) stray.new_is
        | inr awaited ↦ elim awaited.1 [
          | inl enters ↦ ap (λ (t : State). finmap.len t.deferred) enters.new_is
          | inr on ↦ ap (λ (t : State). finmap.len t.deferred) on.new_is
        ]
      ] in
      (0, omega (arith, taken, none, same, ap length turn.step.0, ap asking turn.step.0), λ _. refl)
