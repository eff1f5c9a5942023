-- What a client holds at a node, it holds until it leaves.
use Rattle.std.proofs.Common.{◌≡◌, ◌≢◌, ◌⊎◌, inl, inr, ℕ, zero, suc, Bool, true, false, Some, None, List, [], ◌∷◌, refl, sym, ap, ◌∙◌, subst, arith}
use Rattle.std.specs.Prelude.{Contains, Option}
use Rattle.std.proofs.lemmas.Bool.{cases_eq}
use Rattle.ra_stamp.specs.declared.entry.Entry.{Entry}
use Rattle.ra_stamp.specs.declared.entry.Mark.{Mark}
use Rattle.ra_stamp.specs.declared.entry.Mark.TheVariants.{Requested, Entered, Left, Withdrawn}
use Rattle.ra_stamp.specs.declared.message.Message.{Message}
use Rattle.ra_automaton.specs.State.{State}
use Rattle.ra_automaton.specs.declared.phase.Phase.{Phase}
use Rattle.ra_automaton.specs.declared.phase.Phase.TheVariants.{Idle, Waiting, Inside}
use Rattle.ra_node.specs.Resource.{Resource, Use, Holds, use_in, use_of, held_entry}
use Rattle.ra_node.specs.Resource.Use.{Nobody, WaitsBy, HoldsBy}
use Rattle.ra_node.specs.Turns.{EndTurn, EntersBy, request_marks}
use Rattle.ra_node.specs.Node.{NodeState, resource_at}
use Rattle.ra_node.specs.Events.{Event, IsNamed, NodeEvent, name_of_event}
use Rattle.ra_node.specs.Events.Event.{Ask, Leave, Cancel, Receive, Forget}
use Rattle.ra_node.specs.Carried.{MarksLead}
use Rattle.ra_node.specs.Forgetting.{raised}
use Rattle.ra_world.proofs.Lists.{head_of, tail_of}

-- ---- Marks and uses

entered_is : (x y : Entry) → Entered x ≡ Entered y → x ≡ y
entered_is x y same = cc

left_is : (x y : Entry) → Left x ≡ Left y → x ≡ y
left_is x y same = cc

holds_is : (x y : Entry) → HoldsBy x ≡ HoldsBy y → x ≡ y
holds_is x y same = cc

some_is : (x y : Entry) → Some x ≡ Some y → x ≡ y
some_is x y same = cc

pub granted_holds : (u : Use) (e : Entry) → held_entry u ≡ Some e → u ≡ HoldsBy e
granted_holds Nobody e is = absurd (cc)
granted_holds (WaitsBy x) e is = absurd (cc)
granted_holds (HoldsBy x) e is = ap (λ y. HoldsBy y) (some_is x e is)

first_or_later : (m x : Mark) (ms : List Mark) → Contains (m ∷ ms) x → (m ≡ x) ⊎ Contains ms x
first_or_later m x ms (zero, low, is) = inl is
first_or_later m x ms (suc k, low, is) = inr (k, omega (arith, low), is)

none_there : (x : Mark) → Contains [] x → ⊥
none_there x (k, low, is) = absurd (omega (arith, low))

-- a request that enters holds
enters : (entered : Bool) (y e : Entry) (u v : Use) → MarksLead u (request_marks entered y) v → Contains (request_marks entered y) (Entered e) → v ≡ HoldsBy e
enters false y e u v lead has =
    elim (first_or_later (Requested y) (Entered e) [] has) [
      | inl same ↦ absurd (cc)
      | inr later ↦ absurd (none_there (Entered e) later)
    ]
enters true y e u v lead has =
    elim (first_or_later (Requested y) (Entered e) (Entered y ∷ []) has) [
      | inl same ↦ absurd (cc)
      | inr later ↦
          elim (first_or_later (Entered y) (Entered e) [] later) [
            | inl same ↦ lead.1.1 ∙ ap (λ x. HoldsBy x) (entered_is y e same)
            | inr none ↦ absurd (none_there (Entered e) none)
          ]
    ]

-- a use that goes on holds still, if nobody left
holds_on : (e : Entry) (marks : List Mark) (v : Use) → MarksLead (HoldsBy e) marks v → ((x : Entry) (ms : List Mark) → marks ≡ Left x ∷ ms → ⊥) → v ≡ HoldsBy e
holds_on e [] v lead no_left = lead
holds_on e (Requested x ∷ ms) v lead no_left = let never = lead.0 in absurd (cc)
holds_on e (Entered x ∷ ms) v lead no_left = let never = lead.0 in absurd (cc)
holds_on e (Left x ∷ ms) v lead no_left = absurd (no_left x ms refl)
holds_on e (Withdrawn x ∷ ms) v lead no_left = let never = lead.0 in absurd (cc)

-- ---- Events

module _ (e : Entry) (u v : Use) where
  after_end : {Ends : Entry → List Message → Resource → Type 0} (mark : Entry → Mark) (old : Resource) (sends : List Message) (marks : List Mark) (new : Resource)
      → ((x : Entry) → mark x ≡ Entered e → ⊥) → ((x : Entry) (ms : List Mark) → MarksLead u (mark x ∷ ms) v → MarksLead Nobody ms v)
      → EndTurn Ends mark old sends marks new → MarksLead u marks v → Contains marks (Entered e) → v ≡ HoldsBy e
  after_end mark old sends marks new other rest is lead has =
      elim is [
        | inl nobody ↦
            elim (first_or_later (mark nobody.entry) (Entered e) [] (subst (λ (ms : List Mark). Contains ms (Entered e)) nobody.marks_are has)) [
              | inl same ↦ absurd (other nobody.entry same)
              | inr none ↦ absurd (none_there (Entered e) none)
            ]
        | inr next ↦
            let asked_are = next.asks.marks_are in
            let l : MarksLead Nobody next.asked v = rest next.entry next.asked (subst (λ (ms : List Mark). MarksLead u ms v) next.marks_are lead) in
            elim (first_or_later (mark next.entry) (Entered e) next.asked (subst (λ (ms : List Mark). Contains ms (Entered e)) next.marks_are has)) [
              | inl same ↦ absurd (other next.entry same)
              | inr later ↦
                  enters next.asks.entered _ e Nobody v (subst (λ (ms : List Mark). MarksLead Nobody ms v) asked_are l) (subst (λ (ms : List Mark). Contains ms (Entered e)) asked_are later)
            ]
      ]

  entered_by : (entered : Bool) (r : Resource) (marks : List Mark) → EntersBy entered r marks → MarksLead u marks v → Contains marks (Entered e) → v ≡ HoldsBy e
  entered_by false r marks is lead has = absurd (none_there (Entered e) (subst (λ (ms : List Mark). Contains ms (Entered e)) is has))
  entered_by true r marks is lead has =
      let l = subst (λ (ms : List Mark). MarksLead u ms v) is.2 lead in
      elim (first_or_later (Entered is.0) (Entered e) [] (subst (λ (ms : List Mark). Contains ms (Entered e)) is.2 has)) [
        | inl same ↦ l.1 ∙ ap (λ x. HoldsBy x) (entered_is is.0 e same)
        | inr none ↦ absurd (none_there (Entered e) none)
      ]

  nothing_marked : (marks : List Mark) → marks ≡ [] → Contains marks (Entered e) → v ≡ HoldsBy e
  nothing_marked marks are has = absurd (none_there (Entered e) (subst (λ (ms : List Mark). Contains ms (Entered e)) are has))

-- the event that marks a grant leads to a node that holds it
pub event_grants : (old new : NodeState) (event : Event) (sends : List Message) (marks : List Mark) (e : Entry) (u v : Use) → NodeEvent old event sends marks new
    → MarksLead u marks v → Contains marks (Entered e) → v ≡ HoldsBy e
event_grants old new (Ask client name mode) sends marks e u v is lead has =
    elim is.turn.1 [
      | inl asks ↦ enters asks.entered _ e u v (subst (λ (ms : List Mark). MarksLead u ms v) asks.marks_are lead) (subst (λ (ms : List Mark). Contains ms (Entered e)) asks.marks_are has)
      | inr queues ↦ nothing_marked e u v marks queues.marks_are has
    ]
event_grants old new (Leave client name) sends marks e u v is lead has =
    after_end e u v (λ x. Left x) _ sends marks _ (λ x same. absurd (cc)) (λ x ms l. l.1) is.turn lead has
event_grants old new (Cancel client name) sends marks e u v is lead has =
    elim is.turn [
      | inl queue ↦ nothing_marked e u v marks queue.marks_are has
      | inr ends ↦ after_end e u v (λ x. Withdrawn x) _ sends marks _ (λ x same. absurd (cc)) (λ x ms l. l.1) ends lead has
    ]
event_grants old new (Receive message) sends marks e u v is lead has = entered_by e u v is.turn.entered is.resource marks is.turn.enters lead has
event_grants old new Forget sends marks e u v is lead has = nothing_marked e u v marks is.marks_are has

-- ---- Who left

abbrev LeavesBy : NodeState → Event → Entry → Type 0
LeavesBy old (Ask client name mode) x = ⊥
LeavesBy old (Leave client name) x = Holds (resource_at old name) client x
LeavesBy old (Cancel client name) x = ⊥
LeavesBy old (Receive message) x = ⊥
LeavesBy old Forget x = ⊥

requests_only : (entered : Bool) (y x : Entry) (ms : List Mark) → request_marks entered y ≡ Left x ∷ ms → ⊥
requests_only false y x ms is = absurd (cc)
requests_only true y x ms is = absurd (cc)

enters_only : (entered : Bool) (r : Resource) (marks : List Mark) (x : Entry) (ms : List Mark) → EntersBy entered r marks → marks ≡ Left x ∷ ms → ⊥
enters_only false r marks x ms is left = let never : [] ≡ Left x ∷ ms = sym is ∙ left in absurd (cc)
enters_only true r marks x ms is left = let never : Entered is.0 ∷ [] ≡ Left x ∷ ms = sym is.2 ∙ left in absurd (cc)

left_by : (old new : NodeState) (event : Event) (sends : List Message) (marks : List Mark) → NodeEvent old event sends marks new → (x : Entry) (ms : List Mark) → marks ≡ Left x ∷ ms → LeavesBy old event x
left_by old new (Ask client name mode) sends marks is x ms left =
    elim is.turn.1 [
      | inl asks ↦ absurd (requests_only asks.entered _ x ms (sym asks.marks_are ∙ left))
      | inr queues ↦ let never : [] ≡ Left x ∷ ms = sym queues.marks_are ∙ left in absurd (cc)
    ]
left_by old new (Leave client name) sends marks is x ms left =
    elim is.turn [
      | inl nobody ↦ subst (Holds (resource_at old name) client) (left_is nobody.entry x (head_of (sym nobody.marks_are ∙ left))) nobody.ends.holds
      | inr next ↦ subst (Holds (resource_at old name) client) (left_is next.entry x (head_of (sym next.marks_are ∙ left))) next.ends.holds
    ]
left_by old new (Cancel client name) sends marks is x ms left =
    elim is.turn [
      | inl queue ↦ let never : [] ≡ Left x ∷ ms = sym queue.marks_are ∙ left in absurd (cc)
      | inr ends ↦
          elim ends [
            | inl nobody ↦ let never : Withdrawn nobody.entry ∷ [] ≡ Left x ∷ ms = sym nobody.marks_are ∙ left in absurd (cc)
            | inr next ↦ let never : Withdrawn next.entry ∷ next.asked ≡ Left x ∷ ms = sym next.marks_are ∙ left in absurd (cc)
          ]
    ]
left_by old new (Receive message) sends marks is x ms left = absurd (enters_only is.turn.entered is.resource marks x ms is.turn.enters left)
left_by old new Forget sends marks is x ms left = let never : [] ≡ Left x ∷ ms = sym is.marks_are ∙ left in absurd (cc)

-- ---- A grant stays

same_or_not : (a b : List ℕ) → (a ≡ b) ⊎ (a ≡ b → ⊥)
same_or_not [] [] = inl refl
same_or_not [] (y ∷ ys) = inr (λ same. absurd (cc))
same_or_not (x ∷ xs) [] = inr (λ same. absurd (cc))
same_or_not (x ∷ xs) (y ∷ ys) =
    elim (cases_eq x y) [
      | inl head ↦
          elim (same_or_not xs ys) [
            | inl tail ↦ inl (λ at. head at ∷ tail at)
            | inr differ ↦ inr (λ same. differ (tail_of same))
          ]
      | inr differ ↦ inr (λ same. differ (head_of same))
    ]

pub record NodeLaws : Type 0 where
  pub resource : (old new : NodeState) (event : Event) (sends : List Message) (marks : List Mark) (other : List ℕ)
      → NodeEvent old event sends marks new → IsNamed event → other ≢ name_of_event event → resource_at new other ≡ resource_at old other
  pub forgets : (old new : NodeState) (sends : List Message) (marks : List Mark) → NodeEvent old Forget sends marks new
      → (number : ℕ) × ((name : List ℕ) → resource_at new name ≡ raised number (resource_at old name))
  pub one_request : (old new : NodeState) (event : Event) (sends : List Message) (marks : List Mark) → NodeEvent old event sends marks new
      → MarksLead (use_of (resource_at old (name_of_event event))) marks (use_of (resource_at new (name_of_event event)))

-- the event is not a leave by the client of this request, of its name
abbrev pub IsNotItsLeave : Entry → Event → Type 0
IsNotItsLeave e (Ask client name mode) = Unit {0}
IsNotItsLeave e (Leave client name) = client ≡ e.client → name ≡ e.name → ⊥
IsNotItsLeave e (Cancel client name) = Unit {0}
IsNotItsLeave e (Receive message) = Unit {0}
IsNotItsLeave e Forget = Unit {0}

-- a client that left held another request
left_another : (old : NodeState) (event : Event) (e x : Entry) → e.name ≡ name_of_event event → use_of (resource_at old (name_of_event event)) ≡ HoldsBy e → IsNotItsLeave e event → LeavesBy old event x → ⊥
left_another old (Ask client name mode) e x named holds not left = left
left_another old (Leave client name) e x named holds not left =
    let same : e ≡ x = some_is e x (ap held_entry (sym holds) ∙ left.granted) in
    not (sym left.client_is ∙ ap (λ (y : Entry). y.client) (sym same)) (sym named)
left_another old (Cancel client name) e x named holds not left = left
left_another old (Receive message) e x named holds not left = left
left_another old Forget e x named holds not left = left

module _ (laws : NodeLaws) (old new : NodeState) (sends : List Message) (marks : List Mark) (e : Entry) where
  named_lasts : (event : Event) → NodeEvent old event sends marks new → IsNamed event → IsNotItsLeave e event → use_of (resource_at old e.name) ≡ HoldsBy e → use_of (resource_at new e.name) ≡ HoldsBy e
  named_lasts event is named not holds =
      elim (same_or_not e.name (name_of_event event)) [
        | inl same ↦
            let here : use_of (resource_at old (name_of_event event)) ≡ HoldsBy e = ap (λ (n : List ℕ). use_of (resource_at old n)) (sym same) ∙ holds in
            let lead = subst (λ (u : Use). MarksLead u marks (use_of (resource_at new (name_of_event event)))) here (laws.one_request old new event sends marks is) in
            ap (λ (n : List ℕ). use_of (resource_at new n)) same
            ∙ holds_on e marks (use_of (resource_at new (name_of_event event))) lead (λ x ms left. left_another old event e x same here not (left_by old new event sends marks is x ms left))
        | inr differ ↦ ap use_of (laws.resource old new event sends marks e.name is named differ) ∙ holds
      ]

  pub event_lasts : (event : Event) → NodeEvent old event sends marks new → IsNotItsLeave e event → use_of (resource_at old e.name) ≡ HoldsBy e → use_of (resource_at new e.name) ≡ HoldsBy e
  event_lasts (Ask client name mode) is not holds = named_lasts (Ask client name mode) is tt not holds
  event_lasts (Leave client name) is not holds = named_lasts (Leave client name) is tt not holds
  event_lasts (Cancel client name) is not holds = named_lasts (Cancel client name) is tt not holds
  event_lasts (Receive message) is not holds = named_lasts (Receive message) is tt not holds
  event_lasts Forget is not holds =
      let f = laws.forgets old new sends marks is in
      ap use_of (f.1 e.name) ∙ holds

-- the name of a request that is granted is the resource's
pub name_of_granted : (s : State) (phase : Phase) (client : Option ℕ) (e : Entry) → use_in s phase client ≡ HoldsBy e → e.name ≡ s.name
name_of_granted s phase None e is = absurd (cc)
name_of_granted s Idle (Some client) e is = absurd (cc)
name_of_granted s (Waiting seq mode) (Some client) e is = absurd (cc)
name_of_granted s (Inside seq mode) (Some client) e is = ap (λ (x : Entry). x.name) (sym (holds_is _ e is))
