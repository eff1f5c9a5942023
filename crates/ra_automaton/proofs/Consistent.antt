-- Each step leads from a consistent state to a consistent one.
use Rattle.std.proofs.Common.{◌≡◌, ◌≢◌, ◌⊎◌, ◌↔◌, ℕ, ◌+◌, ◌<◌, ◌≤◌, max, Bool, true, false, cond, not, ◌&&◌, List, Option, Some, None, refl, sym, ap, ◌∙◌, subst, arith, inl, inr}
use Rattle.std.specs.Prelude.{◌==◌, IsTrue}
use Rattle.std.specs.Ordering.{nat_cmp, eq_by_cmp}
use Rattle.std.specs.Cmp.{nat_cmp_total}
use Rattle.std.specs.FinSet as set
use Rattle.std.specs.FinMap as map
use Rattle.std.proofs.lemmas.Bool.Decides.{nat_tests}
use Rattle.ra_stamp.specs.declared.mode.Mode.{Mode}
use Rattle.ra_stamp.specs.declared.message.Message.{Message}
use Rattle.ra_stamp.specs.declared.message.Message.TheVariants.{Request, Reply}
use Rattle.ra_stamp.specs.Message.{from_of}
use Rattle.ra_stamp.specs.Stamp.{IsEarlier}
use Rattle.ra_automaton.specs.declared.phase.Phase.{Phase}
use Rattle.ra_automaton.specs.declared.phase.Phase.TheVariants.{Idle, Waiting, Inside}
use Rattle.ra_automaton.specs.State.{State, IsOther, IsWaitingPhase, IsInside, HasNumber, IsConsistent}
use Rattle.ra_automaton.specs.Steps.{others_of, later_of, Begins, RequestStep, Defers, RepliesAtOnce, TakesReply, ReceiveStep, LeaveStep, LeaveAndRequestStep, WithdrawStep, WithdrawAndRequestStep, OwnGoesFirst}
use Rattle.ra_automaton.proofs.Apart.{tied, untied, cases_same}
use Rattle.ra_automaton.proofs.Ranges.{any_inside, any_passes}

pub not_me : (q me : ℕ) → not (q == me) ≡ true → q ≢ me
not_me q me h e = grind (arith, nat_tests)

is_not : (q me : ℕ) → q ≢ me → not (q == me) ≡ true
is_not q me h = grind (arith, nat_tests)

-- a node that is asked is another node
asked_is_other : (s : State) (node : ℕ) → IsTrue (set.contains (set.from_list {R = nat_cmp} (others_of s.me s.nodes)) node) → IsOther s node
asked_is_other s node h =
    let found = any_passes (λ k. not (k == s.me)) 1 s.nodes node (sym (set.contains-from_list_nat (others_of s.me s.nodes) node) ∙ h) in
    record { first = found.0; last = omega (arith, found.1); other = not_me node s.me found.2 }

pub other_is_asked : (me nodes node : ℕ) → 1 ≤ node → node ≤ nodes → node ≢ me → set.contains (set.from_list {R = nat_cmp} (others_of me nodes)) node ≡ true
other_is_asked me nodes node low high apart =
    set.contains-from_list_nat (others_of me nodes) node ∙ (any_inside (λ k. not (k == me)) 1 nodes node low (omega (arith, high)) ∙ is_not node me apart)

true_is_not_false : true ≡ false → ⊥
true_is_not_false e = cc

somebody_is_asked : (me nodes : ℕ) → 1 < nodes → set.from_list {R = nat_cmp} (others_of me nodes) ≡ set.empty → ⊥
somebody_is_asked me nodes many e =
    let nobody = λ (q : ℕ). ap (λ (s : set.FinSet nat_cmp). set.contains s q) e ∙ set.contains-empty nat_cmp q in
    elim (cases_same 1 me) [
      | inl same ↦ true_is_not_false (sym (other_is_asked me nodes 2 (omega arith) (omega arith) (λ k. omega arith)) ∙ nobody 2)
      | inr apart ↦ true_is_not_false (sym (other_is_asked me nodes 1 (omega arith) (omega arith) apart) ∙ nobody 1)
    ]

-- a number that a node has met is one that it has met later too
met_higher : (number highest higher : ℕ) → highest ≤ higher → (1 ≤ number) × (number ≤ highest) → (1 ≤ number) × (number ≤ higher)
met_higher number highest higher le h = (h.0, omega (arith, h.1))

pub consistent_asked : (old : State) (mode : Mode) → IsConsistent old → old.phase ≡ Idle → 1 < old.nodes
    → IsConsistent (record old { highest = old.highest + 1; phase = Waiting (old.highest + 1) mode; awaited = set.from_list (others_of old.me old.nodes) })
consistent_asked old mode h idle many =
    record {
      count = h.count;
      member = h.member;
      awaited_others = asked_is_other old;
      deferred_others = h.deferred_others;
      deferred_numbers = λ node number k. met_higher number old.highest (old.highest + 1) (omega arith) (h.deferred_numbers node number k);
      awaits = λ _. somebody_is_asked old.me old.nodes many;
      awaits_only = λ k. absurd (k tt);
      defers_only = λ e. absurd cc;
      numbered = (omega arith, omega arith);
    }

idle_awaits_nobody : (s : State) → IsConsistent s → s.phase ≡ Idle → s.awaited ≡ set.empty
idle_awaits_nobody s h idle = h.awaits_only (λ w. subst IsWaitingPhase idle w)

pub consistent_alone : (old : State) (mode : Mode) → IsConsistent old → old.phase ≡ Idle
    → IsConsistent (record old { highest = old.highest + 1; phase = Inside (old.highest + 1) mode })
consistent_alone old mode h idle =
    record {
      count = h.count;
      member = h.member;
      awaited_others = h.awaited_others;
      deferred_others = h.deferred_others;
      deferred_numbers = λ node number k. met_higher number old.highest (old.highest + 1) (omega arith) (h.deferred_numbers node number k);
      awaits = λ w. absurd w;
      awaits_only = λ _. idle_awaits_nobody old h idle;
      defers_only = λ e. absurd cc;
      numbered = (omega arith, omega arith);
    }

pub consistent_begins : (old : State) (mode : Mode) (entered : Bool) (new : State) → IsConsistent old → old.phase ≡ Idle → Begins old mode entered new → IsConsistent new
consistent_begins old mode entered new h idle begins =
    elim begins [
      | inl asks ↦ subst IsConsistent (sym asks.new_is) (consistent_asked old mode h idle asks.others)
      | inr alone ↦ subst IsConsistent (sym alone.new_is) (consistent_alone old mode h idle)
    ]

numbered_higher : (phase : Phase) (highest higher : ℕ) → highest ≤ higher → HasNumber phase highest → HasNumber phase higher
numbered_higher Idle highest higher le h = tt
numbered_higher (Waiting seq mode) highest higher le h = (h.0, omega (arith, h.1))
numbered_higher (Inside seq mode) highest higher le h = (h.0, omega (arith, h.1))

pub consistent_meet : (s : State) (seq : ℕ) → IsConsistent s → IsConsistent (record s { highest = max s.highest seq })
consistent_meet s seq h =
    record {
      count = h.count;
      member = h.member;
      awaited_others = h.awaited_others;
      deferred_others = h.deferred_others;
      deferred_numbers = λ node number k. met_higher number s.highest (max s.highest seq) (omega arith) (h.deferred_numbers node number k);
      awaits = h.awaits;
      awaits_only = h.awaits_only;
      defers_only = h.defers_only;
      numbered = numbered_higher s.phase s.highest (max s.highest seq) (omega arith) h.numbered;
    }

put_in : (s : State) (other number later node : ℕ) → IsConsistent s → IsOther s other → map.get (map.insert s.deferred other later) node ≡ Some number → IsOther s node
put_in s other number later node h is k =
    elim (cases_same node other) [
      | inl same ↦ subst (IsOther s) (sym same) is
      | inr apart ↦ h.deferred_others node number (sym (map.get-insert nat_cmp_total s.deferred other later node ∙ ap (λ b. cond b (Some later) (map.get s.deferred node)) (untied node other apart)) ∙ k)
    ]

put_number : (s : State) (other number later higher node : ℕ) → IsConsistent s → s.highest ≤ higher → (1 ≤ later) × (later ≤ higher)
    → map.get (map.insert s.deferred other later) node ≡ Some number → (1 ≤ number) × (number ≤ higher)
put_number s other number later higher node h le fits k =
    let got = sym (map.get-insert nat_cmp_total s.deferred other later node) ∙ k in
    elim (cases_same node other) [
      | inl same ↦
          let e : later ≡ number = some_same later number (sym (ap (λ b. cond b (Some later) (map.get s.deferred node)) (tied node other same)) ∙ got) in
          subst (λ n. (1 ≤ n) × (n ≤ higher)) e fits
      | inr apart ↦ met_higher number s.highest higher le (h.deferred_numbers node number (sym (ap (λ b. cond b (Some later) (map.get s.deferred node)) (untied node other apart)) ∙ got))
    ]
  where
    some_same : (a b : ℕ) → ◌≡◌ {A = Option ℕ} (Some a) (Some b) → a ≡ b
    some_same a b e = cc

-- of two numbers that a node has met the later one is such a number
pub later_fits : (s : State) (other number : ℕ) → IsConsistent s → 1 ≤ number → (1 ≤ later_of (map.get s.deferred other) number) × (later_of (map.get s.deferred other) number ≤ max s.highest number)
later_fits s other number h one = of_slot (map.get s.deferred other) refl
  where
    of_slot : (slot : Option ℕ) → map.get s.deferred other ≡ slot → (1 ≤ later_of slot number) × (later_of slot number ≤ max s.highest number)
    of_slot None e = (one, omega arith)
    of_slot (Some before) e = let r = h.deferred_numbers other before e in (omega (arith, one), omega (arith, r.1))

pub consistent_put_off : (s : State) (other seq later : ℕ) → IsConsistent s → IsOther s other → s.phase ≢ Idle → (1 ≤ later) × (later ≤ max s.highest seq)
    → IsConsistent (record s { highest = max s.highest seq; deferred = map.insert s.deferred other later })
consistent_put_off s other seq later h is busy fits =
    record {
      count = h.count;
      member = h.member;
      awaited_others = h.awaited_others;
      deferred_others = λ node number k. put_in s other number later node h is k;
      deferred_numbers = λ node number k. put_number s other number later (max s.highest seq) node h (omega arith) fits k;
      awaits = h.awaits;
      awaits_only = h.awaits_only;
      defers_only = λ e. absurd (busy e);
      numbered = numbered_higher s.phase s.highest (max s.highest seq) (omega arith) h.numbered;
    }

still_awaited : (s : State) (other node : ℕ) → IsTrue (set.contains (set.remove s.awaited other) node) → IsTrue (set.contains s.awaited node)
still_awaited s other node k =
    let both : (not (eq_by_cmp nat_cmp node other) && set.contains s.awaited node) ≡ true = sym (set.contains-remove nat_cmp_total s.awaited other node) ∙ k in
    second_true (not (eq_by_cmp nat_cmp node other)) (set.contains s.awaited node) both
  where
    second_true : (a b : Bool) → (a && b) ≡ true → b ≡ true
    second_true true b e = e
    second_true false b e = absurd cc

pub is_waiting : (phase : Phase) (seq : ℕ) (mode : Mode) → phase ≡ Waiting seq mode → IsWaitingPhase phase
is_waiting phase seq mode e = subst IsWaitingPhase (sym e) tt

pub consistent_waits_on : (s : State) (other : ℕ) → IsConsistent s → (set.remove s.awaited other ≡ set.empty → ⊥) → IsWaitingPhase s.phase → IsConsistent (record s { awaited = set.remove s.awaited other })
consistent_waits_on s other h left waiting =
    record {
      count = h.count;
      member = h.member;
      awaited_others = λ node k. h.awaited_others node (still_awaited s other node k);
      deferred_others = h.deferred_others;
      deferred_numbers = h.deferred_numbers;
      awaits = λ _. left;
      awaits_only = λ k. absurd (k waiting);
      defers_only = h.defers_only;
      numbered = h.numbered;
    }

pub consistent_enters : (s : State) (number : ℕ) (mode : Mode) → IsConsistent s → s.phase ≡ Waiting number mode → IsConsistent (record s { phase = Inside number mode; awaited = set.empty })
consistent_enters s number mode h waits =
    record {
      count = h.count;
      member = h.member;
      awaited_others = λ node k. absurd (true_is_not_false (sym k ∙ set.contains-empty nat_cmp node));
      deferred_others = h.deferred_others;
      deferred_numbers = h.deferred_numbers;
      awaits = λ w. absurd w;
      awaits_only = λ _. refl;
      defers_only = λ e. absurd cc;
      numbered = subst (λ phase. HasNumber phase s.highest) waits h.numbered;
    }

pub consistent_reply : (s : State) (other number : ℕ) (entered : Bool) (new : State) → IsConsistent s → TakesReply s other number entered new → IsConsistent new
consistent_reply s other number entered new h takes =
    elim takes [
      | inl stray ↦ subst IsConsistent (sym stray.new_is) h
      | inr awaited ↦ elim awaited.1 [
        | inl enters ↦ subst IsConsistent (sym enters.new_is) (consistent_enters s number awaited.0 h enters.awaits.waits)
        | inr waits ↦ subst IsConsistent (sym waits.new_is) (consistent_waits_on s other h waits.not_last (is_waiting s.phase number awaited.0 waits.awaits.waits))
      ]
    ]

inside_is_not_waiting : (phase : Phase) → IsInside phase → IsWaitingPhase phase → ⊥
inside_is_not_waiting Idle i w = i
inside_is_not_waiting (Waiting seq mode) i w = i
inside_is_not_waiting (Inside seq mode) i w = w

pub consistent_end : (s : State) → IsConsistent s → IsInside s.phase → IsConsistent (record s { phase = Idle; deferred = map.empty })
consistent_end s h inside =
    record {
      count = h.count;
      member = h.member;
      awaited_others = h.awaited_others;
      deferred_others = λ node number k. absurd (some_is_not_none number (sym k ∙ map.get-empty nat_cmp node));
      deferred_numbers = λ node number k. absurd (some_is_not_none number (sym k ∙ map.get-empty nat_cmp node));
      awaits = λ w. absurd w;
      awaits_only = λ _. h.awaits_only (inside_is_not_waiting s.phase inside);
      defers_only = λ _. refl;
      numbered = tt;
    }
  where
    some_is_not_none : (number : ℕ) → ◌≡◌ {A = Option ℕ} (Some number) None → ⊥
    some_is_not_none number e = cc

-- a state without a request is consistent if it awaits and defers nothing
pub consistent_withdrawn : (s : State) → IsConsistent s → IsConsistent (record s { phase = Idle; awaited = set.empty; deferred = map.empty })
consistent_withdrawn s h =
    record {
      count = h.count;
      member = h.member;
      awaited_others = λ node yes. absurd (true_is_not_false (sym yes ∙ set.contains-empty nat_cmp node));
      deferred_others = λ node number k. absurd (some_is_not_none number (sym k ∙ map.get-empty nat_cmp node));
      deferred_numbers = λ node number k. absurd (some_is_not_none number (sym k ∙ map.get-empty nat_cmp node));
      awaits = λ w. absurd w;
      awaits_only = λ _. refl;
      defers_only = λ _. refl;
      numbered = tt;
    }
  where
    some_is_not_none : (number : ℕ) → ◌≡◌ {A = Option ℕ} (Some number) None → ⊥
    some_is_not_none number e = cc

-- a node inside awaits nobody, so at its end it need not forget anybody
pub ended_inside : (s : State) → IsConsistent s → IsInside s.phase
    → record s { phase = Idle; awaited = set.empty; deferred = map.empty } ≡ record s { phase = Idle; deferred = map.empty }
ended_inside s h inside = λ i. record s { phase = Idle; awaited = sym (h.awaits_only (inside_is_not_waiting s.phase inside)) i; deferred = map.empty }

own_is_busy : (phase : Phase) (me other number : ℕ) (wanted : Mode) → OwnGoesFirst phase me other number wanted → phase ≢ Idle
own_is_busy Idle me other number wanted h e = h
own_is_busy (Waiting seq mode) me other number wanted h e = absurd cc
own_is_busy (Inside seq mode) me other number wanted h e = absurd cc

-- a request that is later than the own one has a number of 1 or more
not_earlier : (seq number me other : ℕ) → 1 ≤ seq → IsEarlier (record { seq = seq; node = me }) (record { seq = number; node = other }) → 1 ≤ number
not_earlier seq number me other one earlier = elim earlier [ inl below ↦ omega (arith, one, below) | inr same ↦ omega (arith, one, same.0) ]

own_numbered : (phase : Phase) (highest me other number : ℕ) (wanted : Mode) → HasNumber phase highest → OwnGoesFirst phase me other number wanted → 1 ≤ number
own_numbered Idle highest me other number wanted n h = absurd h
own_numbered (Waiting seq mode) highest me other number wanted n h = not_earlier seq number me other n.0 h.earlier
own_numbered (Inside seq mode) highest me other number wanted n h = not_earlier seq number me other n.0 h.earlier

pub consistent_taken : (old : State) (other number : ℕ) (wanted : Mode) (sends : List Message) (new : State) → IsConsistent old → IsOther old other
    → Defers old other number wanted sends new ⊎ RepliesAtOnce old other number wanted sends new → IsConsistent new
consistent_taken old other number wanted sends new h is takes =
    elim takes [
      | inl defers ↦ subst IsConsistent (sym defers.new_is) (consistent_put_off old other number _ h is (own_is_busy old.phase old.me other number wanted defers.own_first)
          (later_fits old other number h (own_numbered old.phase old.highest old.me other number wanted h.numbered defers.own_first)))
      | inr replies ↦ subst IsConsistent (sym replies.new_is) (consistent_meet old number h)
    ]

-- each step keeps a state consistent
pub consistent_request : (old : State) (mode : Mode) (sends : List Message) (entered : Bool) (new : State) → IsConsistent old → RequestStep old mode sends entered new → IsConsistent new
consistent_request old mode sends entered new h step = consistent_begins old mode entered new h step.idle step.begins

pub consistent_receive : (old : State) (message : Message) (sends : List Message) (entered : Bool) (new : State) → IsConsistent old → IsOther old (from_of message) → ReceiveStep old message sends entered new → IsConsistent new
consistent_receive old (Request from to name mode seq) sends entered new h is step = consistent_taken old from seq mode sends new h is step.1
consistent_receive old (Reply from to name seq) sends entered new h is step = consistent_reply old from seq entered new h step.1

pub consistent_leave : (old : State) (sends : List Message) (new : State) → IsConsistent old → LeaveStep old sends new → IsConsistent new
consistent_leave old sends new h step =
    subst IsConsistent (sym step.new_is) (consistent_end old h (subst IsInside (sym step.inside) tt))

pub consistent_leave_and_request : (old : State) (mode : Mode) (sends : List Message) (entered : Bool) (new : State) → IsConsistent old → LeaveAndRequestStep old mode sends entered new → IsConsistent new
consistent_leave_and_request old mode sends entered new h step =
    consistent_request step.between mode step.requests entered new (consistent_leave old step.replies step.between h step.ends) step.asks

pub consistent_withdraw : (old : State) (sends : List Message) (new : State) → IsConsistent old → WithdrawStep old sends new → IsConsistent new
consistent_withdraw old sends new h step = subst IsConsistent (sym step.new_is) (consistent_withdrawn old h)

pub consistent_withdraw_and_request : (old : State) (mode : Mode) (sends : List Message) (entered : Bool) (new : State) → IsConsistent old → WithdrawAndRequestStep old mode sends entered new → IsConsistent new
consistent_withdraw_and_request old mode sends entered new h step =
    consistent_request step.between mode step.requests entered new (consistent_withdraw old step.replies step.between h step.ends) step.asks

-- what a node that waits, waits with
pub waiting_is : (phase : Phase) → IsWaitingPhase phase → (seq : ℕ) × (mode : Mode) × (phase ≡ Waiting seq mode)
waiting_is Idle h = absurd h
waiting_is (Waiting seq mode) h = (seq, mode, refl)
waiting_is (Inside seq mode) h = absurd h

-- a test whether the node waits tells so of the state that is seen
pub told_waiting : (kept now : State) (seq : ℕ) (mode : Mode) → kept ≡ now → kept.phase ≡ Waiting seq mode → IsTrue true ↔ IsWaitingPhase now.phase
told_waiting kept now seq mode same is = subst (λ (phase : Phase). IsTrue true ↔ IsWaitingPhase phase) (sym is ∙ ap (λ (s : State). s.phase) same) (λ _. tt, λ _. refl)

pub told_not_waiting : (kept now : State) → kept ≡ now → ((seq : ℕ) (mode : Mode) → kept.phase ≡ Waiting seq mode → ⊥) → IsTrue false ↔ IsWaitingPhase now.phase
told_not_waiting kept now same apart =
    (λ yes. absurd (true_is_not_false (sym yes)), λ waits. let own = waiting_is now.phase waits in absurd (apart own.0 own.1 (ap (λ (s : State). s.phase) same ∙ own.2)))

-- a node with a request is not idle
pub inside_is_busy : (phase : Phase) → IsInside phase → phase ≢ Idle
inside_is_busy phase inside idle = subst IsInside idle inside

pub waiting_is_busy : (phase : Phase) → IsWaitingPhase phase → phase ≢ Idle
waiting_is_busy phase waits idle = subst IsWaitingPhase idle waits

-- what a node inside holds
pub inside_is : (phase : Phase) → IsInside phase → (seq : ℕ) × (mode : Mode) × (phase ≡ Inside seq mode)
inside_is Idle h = absurd h
inside_is (Waiting seq mode) h = absurd h
inside_is (Inside seq mode) h = (seq, mode, refl)

-- a test whether the node is inside tells so of the state that is seen
pub told_inside : (kept now : State) (seq : ℕ) (mode : Mode) → kept ≡ now → kept.phase ≡ Inside seq mode → IsTrue true ↔ IsInside now.phase
told_inside kept now seq mode same is = subst (λ (phase : Phase). IsTrue true ↔ IsInside phase) (sym is ∙ ap (λ (s : State). s.phase) same) (λ _. tt, λ _. refl)

pub told_outside : (kept now : State) → kept ≡ now → ((seq : ℕ) (mode : Mode) → kept.phase ≡ Inside seq mode → ⊥) → IsTrue false ↔ IsInside now.phase
told_outside kept now same apart =
    (λ yes. absurd (true_is_not_false (sym yes)), λ inside. let held = inside_is now.phase inside in absurd (apart held.0 held.1 (ap (λ (s : State). s.phase) same ∙ held.2)))
