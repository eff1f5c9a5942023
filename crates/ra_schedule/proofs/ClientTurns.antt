-- What one turn at a name makes of the clients there: who waits, is queued or holds.
use Rattle.std.proofs.Common.{◌≡◌, ◌≢◌, ◌⊎◌, ◌↔◌, ℕ, zero, suc, Bool, true, false, List, [], ◌∷◌, ◌++◌, All, map, Option, Some, None, refl, sym, ap, ◌∙◌, subst, append_assoc, arith, inl, inr}
use Rattle.std.specs.Prelude.{Contains, AllPairs, option_to_list}
use Rattle.std.proofs.lemmas.Bool.{cases_eq}
use Rattle.std.proofs.lemmas.List.{map-append}
use Rattle.std.proofs.lemmas.List.Elements.{All-nil, All-cons, All-head, All-tail, Contains-push, Contains-push_cases, Contains-append_left, Contains-append_right, Contains-append_cases}
use Rattle.ra_stamp.specs.declared.entry.Entry.{Entry}
use Rattle.ra_stamp.specs.declared.entry.Mark.{Mark}
use Rattle.ra_stamp.specs.declared.entry.Mark.TheVariants.{Requested, Entered, Left, Withdrawn}
use Rattle.ra_stamp.specs.declared.message.Message.{Message}
use Rattle.ra_stamp.specs.declared.mode.Mode.{Mode}
use Rattle.ra_automaton.specs.declared.phase.Phase.{Phase}
use Rattle.ra_automaton.specs.declared.phase.Phase.TheVariants.{Idle, Waiting, Inside}
use Rattle.ra_automaton.specs.State.{State}
use Rattle.ra_node.specs.declared.queued_client.Queued.{Queued}
use Rattle.ra_node.specs.Resource.{Resource, Use, use_in, use_of, held_entry, Holds, Waits, IsBusy, clients_of, ClientFits, IsConsistentResource}
use Rattle.ra_node.specs.Resource.Use.{Nobody, WaitsBy, HoldsBy}
use Rattle.ra_node.specs.Turns.{request_marks, AskTurn, EndTurn, Leaves, LeaveTurn, Withdraws, CancelTurn, ReceiveTurn, EntersBy}
use Rattle.ra_node.specs.Carried.{MarksLead}
use Rattle.ra_node.proofs.Endings.{AreEnded, leaves_ended, withdraws_ended}
use Rattle.ra_node.proofs.Uses.{waiter_waits}
use Rattle.ra_schedule.specs.Schedule.{Enters}

-- the client holds here
abbrev pub HasIt : Resource → ℕ → Type 0
HasIt r client = (entry : Entry) × Holds r client entry

-- no mark of these says that the client entered
abbrev pub IsSilent : ℕ → List Mark → Type 0
IsSilent client marks = All (λ mark. Enters client mark → ⊥) marks

-- whether a client holds is as before, and no mark names it; or a mark says that it entered, and now it holds
abbrev pub Becomes : ℕ → List Mark → Type 0 → Type 0 → Type 0
Becomes client marks before after =
    (IsSilent client marks × (before ↔ after)) ⊎ ((IsSilent client marks → ⊥) × (before → ⊥) × after)

-- a turn in which a client neither asks nor leaves
pub record StaysBy (client : ℕ) (marks : List Mark) (old new : Resource) : Type 0 where
  pub stands : IsBusy old client ↔ IsBusy new client
  pub holds : Becomes client marks (HasIt old client) (HasIt new client)

-- ---- By the use of the name

abbrev HoldsIn : Use → ℕ → Type 0
HoldsIn u client = (e : Entry) × (u ≡ HoldsBy e) × (e.client ≡ client)

pub held_is : (u : Use) (e : Entry) → held_entry u ≡ Some e → u ≡ HoldsBy e
held_is Nobody e is = absurd cc
held_is (WaitsBy x) e is = absurd cc
held_is (HoldsBy x) e is = cc

has_in : (r : Resource) (c : ℕ) → HasIt r c → HoldsIn (use_of r) c
has_in r c (e, holds) = (e, held_is (use_of r) e holds.granted, holds.client_is)

in_has : (r : Resource) (c : ℕ) → HoldsIn (use_of r) c → HasIt r c
in_has r c (e, is, client) = (e, record { granted = ap held_entry is; client_is = client })

nobody_holds : (c : ℕ) → HoldsIn Nobody c → ⊥
nobody_holds c (e, is, client) = cc

none_waiting_holds : (x : Entry) (c : ℕ) → HoldsIn (WaitsBy x) c → ⊥
none_waiting_holds x c (e, is, client) = cc

one_holds : (x : Entry) (c : ℕ) → HoldsIn (HoldsBy x) c → x.client ≡ c
one_holds x c (e, is, client) = let same : x ≡ e = cc in ap (λ (y : Entry). y.client) same ∙ client

pub use_holder : (s : State) (phase : Phase) (client : Option ℕ) (e : Entry) → use_in s phase client ≡ HoldsBy e → client ≡ Some e.client
use_holder s phase None e is = absurd cc
use_holder s Idle (Some c) e is = absurd cc
use_holder s (Waiting seq mode) (Some c) e is = absurd cc
use_holder s (Inside seq mode) (Some c) e is = cc

pub use_waiter : (s : State) (phase : Phase) (client : Option ℕ) (e : Entry) → use_in s phase client ≡ WaitsBy e → client ≡ Some e.client
use_waiter s phase None e is = absurd cc
use_waiter s Idle (Some c) e is = absurd cc
use_waiter s (Waiting seq mode) (Some c) e is = cc
use_waiter s (Inside seq mode) (Some c) e is = absurd cc

-- a client that holds is the current one
pub holder_is : (r : Resource) (c : ℕ) → HasIt r c → r.client ≡ Some c
holder_is r c has =
    let (e, is, client) = has_in r c has in
    use_holder r.state r.state.phase r.client e is ∙ ap (λ (k : ℕ). Some k) client

pub holder_stands : (r : Resource) (c : ℕ) → HasIt r c → IsBusy r c
holder_stands r c has =
    subst (λ (o : Option ℕ). Contains (option_to_list o ++ map (λ q. q.client) r.queue) c) (sym (holder_is r c has)) (0, omega arith, refl)

held_or_not : (u : Use) (c : ℕ) → HoldsIn u c ⊎ (HoldsIn u c → ⊥)
held_or_not Nobody c = inr (nobody_holds c)
held_or_not (WaitsBy e) c = inr (none_waiting_holds e c)
held_or_not (HoldsBy e) c = elim (cases_eq e.client c) [
  | inl same ↦ inl (e, refl, same)
  | inr apart ↦ inr (λ h. apart (one_holds e c h))
]

pub has_or_not : (r : Resource) (c : ℕ) → HasIt r c ⊎ (HasIt r c → ⊥)
has_or_not r c = elim (held_or_not (use_of r) c) [
  | inl h ↦ inl (in_has r c h)
  | inr none ↦ inr (λ h. none (has_in r c h))
]

-- ---- By the marks

-- no mark of these says that the client left
abbrev NoneLeaves : ℕ → List Mark → Type 0
NoneLeaves client [] = Unit {0}
NoneLeaves client (Requested e ∷ marks) = NoneLeaves client marks
NoneLeaves client (Entered e ∷ marks) = NoneLeaves client marks
NoneLeaves client (Left e ∷ marks) = (e.client ≢ client) × NoneLeaves client marks
NoneLeaves client (Withdrawn e ∷ marks) = NoneLeaves client marks

-- another mark in front
more_silent : (c : ℕ) (mark : Mark) (marks : List Mark) → (Enters c mark → ⊥) → IsSilent c marks → IsSilent c (mark ∷ marks)
more_silent c mark marks none silent = All-cons (λ m. Enters c m → ⊥) mark marks none silent

less_silent : (c : ℕ) (mark : Mark) (marks : List Mark) → IsSilent c (mark ∷ marks) → IsSilent c marks
less_silent c mark marks silent = All-tail (λ m. Enters c m → ⊥) mark marks silent

-- a mark that does not say that the client entered changes nothing, if the client holds neither before nor after it
passes : (c : ℕ) (mark : Mark) (marks : List Mark) (u next u' : Use) → (Enters c mark → ⊥) → (HoldsIn u c → ⊥) → (HoldsIn next c → ⊥)
    → Becomes c marks (HoldsIn next c) (HoldsIn u' c) → Becomes c (mark ∷ marks) (HoldsIn u c) (HoldsIn u' c)
passes c mark marks u next u' none before between rest = elim rest [
  | inl kept ↦ inl (more_silent c mark marks none kept.0, (λ h. absurd (before h), λ h. absurd (between (kept.1.1 h))))
  | inr came ↦ inr (λ silent. came.0 (less_silent c mark marks silent), before, came.2)
]

leads_to : (c : ℕ) (marks : List Mark) (u u' : Use) → NoneLeaves c marks → MarksLead u marks u' → Becomes c marks (HoldsIn u c) (HoldsIn u' c)
leads_to c [] u u' none leads =
    inl (All-nil (λ m. Enters c m → ⊥), (λ h. subst (λ (w : Use). HoldsIn w c) (sym leads) h, λ h. subst (λ (w : Use). HoldsIn w c) leads h))
leads_to c (Requested e ∷ marks) u u' none leads =
    passes c (Requested e) marks u (WaitsBy e) u' (λ enters. enters) (λ h. nobody_holds c (subst (λ (w : Use). HoldsIn w c) leads.0 h))
    (none_waiting_holds e c) (leads_to c marks (WaitsBy e) u' none leads.1)
leads_to c (Left e ∷ marks) u u' none leads =
    passes c (Left e) marks u Nobody u' (λ enters. enters) (λ h. none.0 (one_holds e c (subst (λ (w : Use). HoldsIn w c) leads.0 h)))
    (nobody_holds c) (leads_to c marks Nobody u' none.1 leads.1)
leads_to c (Withdrawn e ∷ marks) u u' none leads =
    passes c (Withdrawn e) marks u Nobody u' (λ enters. enters) (λ h. none_waiting_holds e c (subst (λ (w : Use). HoldsIn w c) leads.0 h))
    (nobody_holds c) (leads_to c marks Nobody u' none leads.1)
leads_to c (Entered e ∷ marks) u u' none leads =
    let before : HoldsIn u c → ⊥ = λ h. none_waiting_holds e c (subst (λ (w : Use). HoldsIn w c) leads.0 h) in
    let rest = leads_to c marks (HoldsBy e) u' none leads.1 in
    elim (cases_eq e.client c) [
      | inl same ↦ elim rest [
        | inl kept ↦ inr (λ silent. All-head (λ m. Enters c m → ⊥) (Entered e) marks silent same, before, kept.1.0 (e, refl, same))
        | inr came ↦ absurd (came.1 (e, refl, same))
      ]
      | inr apart ↦ passes c (Entered e) marks u (HoldsBy e) u' apart before (λ h. apart (one_holds e c h)) rest
    ]

-- by the marks of a turn in which the client does not leave
holds_then : (c : ℕ) (marks : List Mark) (old new : Resource) → NoneLeaves c marks → MarksLead (use_of old) marks (use_of new)
    → Becomes c marks (HasIt old c) (HasIt new c)
holds_then c marks old new none leads = elim (leads_to c marks (use_of old) (use_of new) none leads) [
  | inl kept ↦ inl (kept.0, (λ h. in_has new c (kept.1.0 (has_in old c h)), λ h. in_has old c (kept.1.1 (has_in new c h))))
  | inr came ↦ inr (came.0, λ h. came.1 (has_in old c h), in_has new c came.2)
]

requests_leave_nobody : (c : ℕ) (entered : Bool) (e : Entry) → NoneLeaves c (request_marks entered e)
requests_leave_nobody c false e = tt
requests_leave_nobody c true e = tt

-- ---- A client asks

same_clients : (r : Resource) (client : Option ℕ) (queue : List Queued) → r.client ≡ client → r.queue ≡ queue
    → clients_of r ≡ option_to_list client ++ map (λ q. q.client) queue
same_clients r client queue a b = cc

idle_has_none : (phase : Phase) (client : Option ℕ) → phase ≡ Idle → ClientFits phase client → client ≡ None
idle_has_none Idle client is fits = fits
idle_has_none (Waiting seq mode) client is fits = absurd cc
idle_has_none (Inside seq mode) client is fits = absurd cc

no_queue : (queue : List Queued) → (queue ≢ [] → ⊥) → queue ≡ []
no_queue [] none = refl
no_queue (q ∷ queue) none = absurd (none (λ e. cc))

asks_last : (me nodes start : ℕ) (name : List ℕ) (old : Resource) (client : ℕ) (mode : Mode) (sends : List Message) (marks : List Mark) (new : Resource)
    → IsConsistentResource me nodes name start old → AskTurn old client mode sends marks new → clients_of new ≡ clients_of old ++ client ∷ []
asks_last me nodes start name old client mode sends marks new consistent turn = elim turn.1 [
  | inl at_once ↦
      let nobody : old.client ≡ None = idle_has_none old.state.phase old.client at_once.step.idle consistent.client_fits in
      let none : old.queue ≡ [] = no_queue old.queue (λ some. let left = turn.0.number_left in let gone = consistent.queue_stays at_once.step.idle some in omega (arith, left, gone)) in
      same_clients new (Some client) [] at_once.client_is (at_once.queue_is ∙ none)
      ∙ ap (λ (xs : List ℕ). xs ++ client ∷ []) (sym (same_clients old None [] nobody none))
  | inr queues ↦
      let q : Queued = record { client = client; mode = mode } in
      ap clients_of queues.new_is
      ∙ ap (λ (xs : List ℕ). option_to_list old.client ++ xs) (map-append (λ (x : Queued). x.client) old.queue (q ∷ []))
      ∙ sym (append_assoc (option_to_list old.client) (map (λ (x : Queued). x.client) old.queue) (client ∷ []))
]

ask_leaves_nobody : (c : ℕ) (old : Resource) (client : ℕ) (mode : Mode) (sends : List Message) (marks : List Mark) (new : Resource)
    → AskTurn old client mode sends marks new → NoneLeaves c marks
ask_leaves_nobody c old client mode sends marks new turn = elim turn.1 [
  | inl at_once ↦ subst (NoneLeaves c) (sym at_once.marks_are) (requests_leave_nobody c at_once.entered _)
  | inr queues ↦ subst (NoneLeaves c) (sym queues.marks_are) tt
]

module _ (me nodes start : ℕ) (name : List ℕ) (old : Resource) (client : ℕ) (mode : Mode) (sends : List Message) (marks : List Mark) (new : Resource)
    (consistent : IsConsistentResource me nodes name start old) (turn : AskTurn old client mode sends marks new) (leads : MarksLead (use_of old) marks (use_of new)) where
  listed : clients_of new ≡ clients_of old ++ client ∷ []
  listed = asks_last me nodes start name old client mode sends marks new consistent turn

  -- it is at the name from then on, and holds it exactly if a mark says that it entered
  pub asker_stands : IsBusy new client
  asker_stands = subst (λ (xs : List ℕ). Contains xs client) (sym listed) (Contains-push (clients_of old) client)

  pub asker_holds : Becomes client marks (HasIt old client) (HasIt new client)
  asker_holds = holds_then client marks old new (ask_leaves_nobody client old client mode sends marks new turn) leads

  pub others_ask : (c : ℕ) → client ≢ c → StaysBy c marks old new
  others_ask c apart = record {
    stands = (
      λ h. subst (λ (xs : List ℕ). Contains xs c) (sym listed) (Contains-append_left (clients_of old) (client ∷ []) c h),
      λ h. elim (Contains-push_cases (clients_of old) client c (subst (λ (xs : List ℕ). Contains xs c) listed h)) [
        | inl before ↦ before
        | inr same ↦ absurd (apart same)
      ],
    );
    holds = holds_then c marks old new (ask_leaves_nobody c old client mode sends marks new turn) leads;
  }

-- ---- One goes from a list

in_rest : (x : ℕ) (xs : List ℕ) (y : ℕ) → Contains (x ∷ xs) y → (x ≡ y) ⊎ Contains xs y
in_rest x xs y (zero, within, is) = inl is
in_rest x xs y (suc k, within, is) = inr (k, omega arith, is)

later : (x : ℕ) (xs : List ℕ) (y : ℕ) → Contains xs y → Contains (x ∷ xs) y
later x xs y (k, within, is) = (suc k, omega arith, is)

-- the others stay
others_there : (front back : List ℕ) (x y : ℕ) → x ≢ y → Contains (front ++ x ∷ back) y ↔ Contains (front ++ back) y
others_there front back x y apart = (
  λ at. elim (Contains-append_cases front (x ∷ back) y at) [
    | inl early ↦ Contains-append_left front back y early
    | inr late ↦ elim (in_rest x back y late) [ inl same ↦ absurd (apart same) | inr rest ↦ Contains-append_right front back y rest ]
  ],
  λ at. elim (Contains-append_cases front back y at) [
    | inl early ↦ Contains-append_left front (x ∷ back) y early
    | inr late ↦ Contains-append_right front (x ∷ back) y (later x back y late)
  ],
)

-- and it is not at the name any more, if it was at it once
gone_from : (front back : List ℕ) (x : ℕ) → AllPairs (λ a b. a ≢ b) (front ++ x ∷ back) → Contains (front ++ back) x → ⊥
gone_from [] back x once (k, within, is) = once 0 (suc k) x (omega arith) (omega arith) (sym is)
gone_from (y ∷ front) back x once at = elim (in_rest y (front ++ back) x at) [
  | inl same ↦
      let (k, within, is) = Contains-append_right front (x ∷ back) x (0, omega arith, refl) in
      once 0 (suc k) x (omega arith) (omega (arith, within)) (same ∙ sym is)
  | inr rest ↦ gone_from front back x (λ i j d before within. once (suc i) (suc j) d (omega (arith, before)) (omega (arith, within))) rest
]

-- ---- A client leaves, or gives up

-- the request of the current client ends, and that client is not at the name any more
ends_first : (Ends : Entry → List Message → Resource → Type 0) (mark : Entry → Mark) (old : Resource) (client : ℕ) → AreEnded old Ends → old.client ≡ Some client
    → (sends : List Message) (marks : List Mark) (new : Resource) → EndTurn Ends mark old sends marks new → clients_of old ≡ client ∷ clients_of new
ends_first Ends mark old client ended current sends marks new turn = elim turn [
  | inl nobody ↦
      let end = ended nobody.entry sends new nobody.ends in
      same_clients old (Some client) old.queue current refl
      ∙ ap (λ (xs : List ℕ). client ∷ xs) (sym (same_clients new None old.queue end.client_is end.queue_is))
  | inr next ↦
      same_clients old (Some client) (next.next ∷ next.rest) current next.queue_was
      ∙ ap (λ (xs : List ℕ). client ∷ xs) (sym (same_clients new (Some next.next.client) next.rest next.asks.client_is next.asks.queue_is))
]

-- no other client leaves by the marks
end_leaves : (Ends : Entry → List Message → Resource → Type 0) (mark : Entry → Mark) (c : ℕ)
    → ((entry : Entry) (sends : List Message) (r : Resource) (marks : List Mark) → Ends entry sends r → NoneLeaves c marks → NoneLeaves c (mark entry ∷ marks))
    → (old : Resource) (sends : List Message) (marks : List Mark) (new : Resource) → EndTurn Ends mark old sends marks new → NoneLeaves c marks
end_leaves Ends mark c more old sends marks new turn = elim turn [
  | inl nobody ↦ subst (NoneLeaves c) (sym nobody.marks_are) (more nobody.entry sends new [] nobody.ends tt)
  | inr next ↦ subst (NoneLeaves c) (sym next.marks_are)
      (more next.entry next.replies next.between next.asked next.ends (subst (NoneLeaves c) (sym next.asks.marks_are) (requests_leave_nobody c next.asks.entered _)))
]

leaver_is : (old : Resource) (client : ℕ) (sends : List Message) (marks : List Mark) (new : Resource) → LeaveTurn old client sends marks new → old.client ≡ Some client
leaver_is old client sends marks new turn = elim turn [
  | inl nobody ↦ holder_is old client (nobody.entry, nobody.ends.holds)
  | inr next ↦ holder_is old client (next.entry, next.ends.holds)
]

-- a client that waits is the current one
waits_current : (r : Resource) (c : ℕ) (e : Entry) → Waits r c e → r.client ≡ Some c
waits_current r c e waits = use_waiter r.state r.state.phase r.client e (waiter_waits r e waits.requested) ∙ ap (λ (k : ℕ). Some k) waits.client_is

waiter_is : (old : Resource) (client : ℕ) (sends : List Message) (marks : List Mark) (new : Resource)
    → EndTurn (Withdraws old client) Withdrawn old sends marks new → old.client ≡ Some client
waiter_is old client sends marks new turn = elim turn [
  | inl nobody ↦ waits_current old client nobody.entry nobody.ends.waits
  | inr next ↦ waits_current old client next.entry next.ends.waits
]

-- the list of the clients before it and after it, when it is taken out
abbrev IsTakenOut : Resource → ℕ → Resource → Type 0
IsTakenOut old client new = (front : List ℕ) × (back : List ℕ) × (clients_of old ≡ front ++ client ∷ back) × (clients_of new ≡ front ++ back)

leaver_out : (old : Resource) (client : ℕ) (sends : List Message) (marks : List Mark) (new : Resource) → LeaveTurn old client sends marks new → IsTakenOut old client new
leaver_out old client sends marks new turn =
    ([], clients_of new, ends_first (Leaves old client) Left old client (leaves_ended old client) (leaver_is old client sends marks new turn) sends marks new turn, refl)

canceller_out : (old : Resource) (client : ℕ) (sends : List Message) (marks : List Mark) (new : Resource) → CancelTurn old client sends marks new → IsTakenOut old client new
canceller_out old client sends marks new turn = elim turn [
  | inl goes ↦
      let first = option_to_list old.client in
      let parts = λ (qs : List Queued). ap (λ (xs : List ℕ). first ++ xs) (map-append (λ (q : Queued). q.client) goes.before qs)
      ∙ sym (append_assoc first (map (λ (q : Queued). q.client) goes.before) (map (λ (q : Queued). q.client) qs)) in
      let front = first ++ map (λ (q : Queued). q.client) goes.before in (
        front,
        map (λ (q : Queued). q.client) goes.after,
        same_clients old old.client (goes.before ++ goes.gone ∷ goes.after) refl goes.queue_was ∙ parts (goes.gone ∷ goes.after)
            ∙ ap (λ (k : ℕ). front ++ k ∷ map (λ (q : Queued). q.client) goes.after) goes.client_is,
        ap clients_of goes.new_is ∙ parts goes.after,
      )
  | inr ends ↦ ([], clients_of new, ends_first (Withdraws old client) Withdrawn old client (withdraws_ended old client) (waiter_is old client sends marks new ends) sends marks new ends, refl)
]

leave_leaves : (c : ℕ) (old : Resource) (client : ℕ) (sends : List Message) (marks : List Mark) (new : Resource)
    → client ≢ c → LeaveTurn old client sends marks new → NoneLeaves c marks
leave_leaves c old client sends marks new apart turn =
    end_leaves (Leaves old client) Left c (λ e ms r more leaves rest. (λ is. apart (sym leaves.holds.client_is ∙ is), rest)) old sends marks new turn

cancel_leaves : (c : ℕ) (old : Resource) (client : ℕ) (sends : List Message) (marks : List Mark) (new : Resource) → CancelTurn old client sends marks new → NoneLeaves c marks
cancel_leaves c old client sends marks new turn = elim turn [
  | inl goes ↦ subst (NoneLeaves c) (sym goes.marks_are) tt
  | inr ends ↦ end_leaves (Withdraws old client) Withdrawn c (λ e ms r more withdraws rest. rest) old sends marks new ends
]

-- it is not at the name any more
out_gone : (old new : Resource) (client : ℕ) → AllPairs (λ a b. a ≢ b) (clients_of old) → IsTakenOut old client new → IsBusy new client → ⊥
out_gone old new client once (front, back, was, is) busy =
    gone_from front back client (subst (AllPairs (λ a b. a ≢ b)) was once) (subst (λ (xs : List ℕ). Contains xs client) is busy)

-- and each other client stays
others_out : (old new : Resource) (client : ℕ) (marks : List Mark) → IsTakenOut old client new → MarksLead (use_of old) marks (use_of new)
    → (c : ℕ) → client ≢ c → NoneLeaves c marks → StaysBy c marks old new
others_out old new client marks (front, back, was, is) leads c apart none =
    let there = others_there front back client c apart in
    record {
      stands = (
        λ h. subst (λ (xs : List ℕ). Contains xs c) (sym is) (there.0 (subst (λ (xs : List ℕ). Contains xs c) was h)),
        λ h. subst (λ (xs : List ℕ). Contains xs c) (sym was) (there.1 (subst (λ (xs : List ℕ). Contains xs c) is h)),
      );
      holds = holds_then c marks old new none leads;
    }

module _ (old : Resource) (client : ℕ) (sends : List Message) (marks : List Mark) (new : Resource)
    (once : AllPairs (λ a b. a ≢ b) (clients_of old)) (turn : LeaveTurn old client sends marks new) (leads : MarksLead (use_of old) marks (use_of new)) where
  pub leaver_gone : IsBusy new client → ⊥
  leaver_gone = out_gone old new client once (leaver_out old client sends marks new turn)

  pub others_leave : (c : ℕ) → client ≢ c → StaysBy c marks old new
  others_leave c apart = others_out old new client marks (leaver_out old client sends marks new turn) leads c apart (leave_leaves c old client sends marks new apart turn)

module _ (old : Resource) (client : ℕ) (sends : List Message) (marks : List Mark) (new : Resource)
    (once : AllPairs (λ a b. a ≢ b) (clients_of old)) (turn : CancelTurn old client sends marks new) (leads : MarksLead (use_of old) marks (use_of new)) where
  pub canceller_gone : IsBusy new client → ⊥
  canceller_gone = out_gone old new client once (canceller_out old client sends marks new turn)

  pub others_cancel : (c : ℕ) → client ≢ c → StaysBy c marks old new
  others_cancel c apart = others_out old new client marks (canceller_out old client sends marks new turn) leads c apart (cancel_leaves c old client sends marks new turn)

-- ---- A message comes

entering_leaves_nobody : (c : ℕ) (entered : Bool) (new : Resource) (marks : List Mark) → EntersBy entered new marks → NoneLeaves c marks
entering_leaves_nobody c false new marks none = subst (NoneLeaves c) (sym none) tt
entering_leaves_nobody c true new marks (entry, holds, is) = subst (NoneLeaves c) (sym is) tt

pub all_receive : (c : ℕ) (old : Resource) (message : Message) (sends : List Message) (marks : List Mark) (new : Resource)
    → ReceiveTurn old message sends marks new → MarksLead (use_of old) marks (use_of new) → StaysBy c marks old new
all_receive c old message sends marks new turn leads =
    let same : clients_of new ≡ clients_of old = same_clients new old.client old.queue turn.client_is turn.queue_is in
    record {
      stands = (λ h. subst (λ (xs : List ℕ). Contains xs c) (sym same) h, λ h. subst (λ (xs : List ℕ). Contains xs c) same h);
      holds = holds_then c marks old new (entering_leaves_nobody c turn.entered new marks turn.enters) leads;
    }
