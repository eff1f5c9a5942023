-- What one turn at a name makes of a client there and of the marks that name it.
use Rattle.std.proofs.Common.{◌≡◌, ◌≢◌, ◌⊎◌, ℕ, zero, suc, Bool, true, false, cond, List, [], ◌∷◌, ◌++◌, map, Option, Some, None, refl, sym, ap, ◌∙◌, subst, arith, inl, inr}
use Rattle.std.specs.Prelude.{Contains, AllPairs, option_to_list}
use Rattle.std.proofs.lemmas.Bool.{cases_eq, eq-eqb, ne_eqb}
use Rattle.std.proofs.lemmas.List.Elements.{Contains-append_left, Contains-push}
use Rattle.ra_stamp.specs.declared.entry.Entry.{Entry}
use Rattle.ra_stamp.specs.declared.entry.Mark.{Mark}
use Rattle.ra_stamp.specs.declared.entry.Mark.TheVariants.{Requested, Entered, Left}
use Rattle.ra_stamp.specs.declared.message.Message.{Message}
use Rattle.ra_stamp.specs.declared.mode.Mode.{Mode}
use Rattle.ra_automaton.specs.declared.phase.Phase.{Phase}
use Rattle.ra_automaton.specs.declared.phase.Phase.TheVariants.{Idle, Waiting, Inside}
use Rattle.ra_automaton.specs.State.{State}
use Rattle.ra_node.specs.declared.queued_client.Queued.{Queued}
use Rattle.ra_node.specs.Resource.{Resource, Use, use_in, use_of, Holds, clients_of}
use Rattle.ra_node.specs.Resource.Use.{Nobody, WaitsBy, HoldsBy}
use Rattle.ra_node.specs.Turns.{request_marks, next_entry, AskTurn, LeaveTurn, ReceiveTurn, EntersBy}
use Rattle.ra_node.specs.Carried.{MarksLead}
use Rattle.ra_schedule.specs.Plan.{client_of_mark, marks_of_client}
use Rattle.ra_schedule.proofs.ClientTurns.{leaver_gone, held_is}

-- ---- The marks that name a client

pub names_it : (client : ℕ) (mark : Mark) (marks : List Mark) → client_of_mark mark ≡ client
    → marks_of_client client (mark ∷ marks) ≡ mark ∷ marks_of_client client marks
names_it client mark marks is =
    ap (λ (b : Bool). cond b (mark ∷ marks_of_client client marks) (marks_of_client client marks)) (eq-eqb (client_of_mark mark) client is)

pub names_another : (client : ℕ) (mark : Mark) (marks : List Mark) → client_of_mark mark ≢ client
    → marks_of_client client (mark ∷ marks) ≡ marks_of_client client marks
names_another client mark marks apart =
    ap (λ (b : Bool). cond b (mark ∷ marks_of_client client marks) (marks_of_client client marks)) (ne_eqb (client_of_mark mark) client apart)

own_request : (client : ℕ) (entered : Bool) (e : Entry) → e.client ≡ client → marks_of_client client (request_marks entered e) ≡ request_marks entered e
own_request client false e is = names_it client (Requested e) [] is
own_request client true e is =
    names_it client (Requested e) (Entered e ∷ []) is ∙ ap (λ (ms : List Mark). Requested e ∷ ms) (names_it client (Entered e) [] is)

others_request : (client : ℕ) (entered : Bool) (e : Entry) → e.client ≢ client → marks_of_client client (request_marks entered e) ≡ []
others_request client false e apart = names_another client (Requested e) [] apart
others_request client true e apart =
    names_another client (Requested e) (Entered e ∷ []) apart ∙ names_another client (Entered e) [] apart

-- ---- The use of a name

-- what a request that was made makes of it
abbrev pub use_by : Bool → Entry → Use
use_by false e = WaitsBy e
use_by true e = HoldsBy e

requested_use : (entered : Bool) (e : Entry) (u u' : Use) → MarksLead u (request_marks entered e) u' → u' ≡ use_by entered e
requested_use false e u u' leads = leads.1
requested_use true e u u' leads = leads.1.1

idle_waits : (s : State) (phase : Phase) (client : Option ℕ) (e : Entry) → phase ≡ Idle → use_in s phase client ≡ WaitsBy e → ⊥
idle_waits s phase None e idle is = cc
idle_waits s Idle (Some c) e idle is = cc
idle_waits s (Waiting seq mode) (Some c) e idle is = cc
idle_waits s (Inside seq mode) (Some c) e idle is = cc

-- ---- What a turn makes of a client that neither asks nor leaves in it

-- no mark names it, and it stays queued, or its request waits
pub record PassesBy (client : ℕ) (old : Resource) (marks : List Mark) (new : Resource) : Type 0 where
  pub none : marks_of_client client marks ≡ []
  pub queued : (q : Queued) → q.client ≡ client → Contains old.queue q → Contains new.queue q
  pub waits : (e : Entry) → e.client ≡ client → use_of old ≡ WaitsBy e → use_of new ≡ WaitsBy e

-- it was queued, and its request is made
pub record IsNextToAsk (client : ℕ) (old : Resource) (marks : List Mark) (new : Resource) : Type 0 where
  pub q : Queued
  pub client_is : q.client ≡ client
  pub queued : Contains old.queue q
  pub entered : Bool
  pub e : Entry
  pub of_client : e.client ≡ client
  pub mode_is : e.mode ≡ q.mode
  pub marks_are : marks_of_client client marks ≡ request_marks entered e
  pub use_is : use_of new ≡ use_by entered e

-- its request waited, and enters
pub record IsLetIn (client : ℕ) (old : Resource) (marks : List Mark) (new : Resource) : Type 0 where
  pub e : Entry
  pub of_client : e.client ≡ client
  pub waited : use_of old ≡ WaitsBy e
  pub marks_are : marks_of_client client marks ≡ Entered e ∷ []

abbrev pub Befalls : ℕ → Resource → List Mark → Resource → Type 0
Befalls client old marks new = PassesBy client old marks new ⊎ (IsNextToAsk client old marks new ⊎ IsLetIn client old marks new)

pub others_ask : (client asker : ℕ) (old : Resource) (mode : Mode) (sends : List Message) (marks : List Mark) (new : Resource) → asker ≢ client
    → AskTurn old asker mode sends marks new → PassesBy client old marks new
others_ask client asker old mode sends marks new apart turn = elim turn.1 [
  | inl at_once ↦ record {
    none = ap (marks_of_client client) at_once.marks_are ∙ others_request client at_once.entered (next_entry old asker mode) apart;
    queued = λ q of has. subst (λ (qs : List Queued). Contains qs q) (sym at_once.queue_is) has;
    waits = λ e of is. absurd (idle_waits old.state old.state.phase old.client e at_once.step.idle is);
  }
  | inr queues ↦ record {
    none = ap (marks_of_client client) queues.marks_are;
    queued = λ q of has. subst (λ (r : Resource). Contains r.queue q) (sym queues.new_is) (Contains-append_left old.queue (_ ∷ []) q has);
    waits = λ e of is. ap use_of queues.new_is ∙ is;
  }
]

in_rest : (x : Queued) (xs : List Queued) (q : Queued) (client : ℕ) → x.client ≢ client → q.client ≡ client → Contains (x ∷ xs) q → Contains xs q
in_rest x xs q client apart of (zero, within, is) = absurd (let same : x ≡ q = is in apart (ap (λ (y : Queued). y.client) same ∙ of))
in_rest x xs q client apart of (suc k, within, is) = (k, omega arith, is)

-- the leaver held, so that nobody waited
holder_waits_not : (old : Resource) (leaver : ℕ) (entry e : Entry) → Holds old leaver entry → use_of old ≡ WaitsBy e → ⊥
holder_waits_not old leaver entry e holds is =
    let held : use_of old ≡ HoldsBy entry = held_is (use_of old) entry holds.granted in cc

pub others_leave : (client leaver : ℕ) (old : Resource) (sends : List Message) (marks : List Mark) (new : Resource) → leaver ≢ client
    → LeaveTurn old leaver sends marks new → MarksLead (use_of old) marks (use_of new) → Befalls client old marks new
others_leave client leaver old sends marks new apart turn leads = elim turn [
  | inl nobody ↦
      let other : nobody.entry.client ≢ client = λ is. apart (sym nobody.ends.holds.client_is ∙ is) in
      inl (record {
        none = ap (marks_of_client client) nobody.marks_are ∙ names_another client (Left nobody.entry) [] other;
        queued = λ q of has. subst (λ (qs : List Queued). Contains qs q) (sym nobody.ends.queue_is) has;
        waits = λ e of is. absurd (holder_waits_not old leaver nobody.entry e nobody.ends.holds is);
      })
  | inr next ↦
      let other : next.entry.client ≢ client = λ is. apart (sym next.ends.holds.client_is ∙ is) in
      let e = next_entry (record next.between { queue = next.rest }) next.next.client next.next.mode in
      let marks_are : marks ≡ Left next.entry ∷ request_marks next.asks.entered e =
      next.marks_are ∙ ap (λ (ms : List Mark). Left next.entry ∷ ms) next.asks.marks_are in
      let own : marks_of_client client marks ≡ marks_of_client client (request_marks next.asks.entered e) =
      ap (marks_of_client client) marks_are ∙ names_another client (Left next.entry) (request_marks next.asks.entered e) other in
      elim (cases_eq next.next.client client) [
        | inl same ↦ inr (inl (record {
          q = next.next;
          client_is = same;
          queued = subst (λ (qs : List Queued). Contains qs next.next) (sym next.queue_was) (0, omega arith, refl);
          entered = next.asks.entered;
          e = e;
          of_client = same;
          mode_is = refl;
          marks_are = own ∙ own_request client next.asks.entered e same;
          use_is = requested_use next.asks.entered e Nobody (use_of new)
              (subst (λ (ms : List Mark). MarksLead (use_of old) ms (use_of new)) marks_are leads).1;
        }))
        | inr not ↦ inl (record {
          none = own ∙ others_request client next.asks.entered e not;
          queued = λ q of has. subst (λ (qs : List Queued). Contains qs q) (sym next.asks.queue_is)
              (in_rest next.next next.rest q client not of (subst (λ (qs : List Queued). Contains qs q) next.queue_was has));
          waits = λ w of is. absurd (holder_waits_not old leaver next.entry w next.ends.holds is);
        })
      ]
]

entering : (client : ℕ) (entered : Bool) (old : Resource) (marks : List Mark) (new : Resource) → EntersBy entered new marks → new.queue ≡ old.queue
    → MarksLead (use_of old) marks (use_of new) → Befalls client old marks new
entering client false old marks new none queue_is leads = inl (record {
  none = ap (marks_of_client client) none;
  queued = λ q of has. subst (λ (qs : List Queued). Contains qs q) (sym queue_is) has;
  waits = λ e of is. subst (λ (ms : List Mark). MarksLead (use_of old) ms (use_of new)) none leads ∙ is;
})
entering client true old marks new (entry, holds, marks_are) queue_is leads =
    let led = subst (λ (ms : List Mark). MarksLead (use_of old) ms (use_of new)) marks_are leads in
    elim (cases_eq entry.client client) [
      | inl same ↦ inr (inr (record {
        e = entry;
        of_client = same;
        waited = led.0;
        marks_are = ap (marks_of_client client) marks_are ∙ names_it client (Entered entry) [] same;
      }))
      | inr apart ↦ inl (record {
        none = ap (marks_of_client client) marks_are ∙ names_another client (Entered entry) [] apart;
        queued = λ q of has. subst (λ (qs : List Queued). Contains qs q) (sym queue_is) has;
        waits = λ e of is. absurd (let same : WaitsBy entry ≡ WaitsBy e = sym led.0 ∙ is in let one : entry ≡ e = cc in apart (ap (λ (x : Entry). x.client) one ∙ of));
      })
    ]

pub all_receive : (client : ℕ) (old : Resource) (message : Message) (sends : List Message) (marks : List Mark) (new : Resource)
    → ReceiveTurn old message sends marks new → MarksLead (use_of old) marks (use_of new) → Befalls client old marks new
all_receive client old message sends marks new turn leads = entering client turn.entered old marks new turn.enters turn.queue_is leads

-- ---- What its own turn makes of a client

-- it is queued, or its request is made
pub asker : (client : ℕ) (old : Resource) (mode : Mode) (sends : List Message) (marks : List Mark) (new : Resource)
    → AskTurn old client mode sends marks new → MarksLead (use_of old) marks (use_of new)
    → ((marks_of_client client marks ≡ []) × Contains new.queue (record { client = client; mode = mode }))
    ⊎ ((entered : Bool) × (e : Entry) × (e.client ≡ client) × (e.mode ≡ mode) × (marks_of_client client marks ≡ request_marks entered e) × (use_of new ≡ use_by entered e))
asker client old mode sends marks new turn leads = elim turn.1 [
  | inl at_once ↦
      let e = next_entry old client mode in
      inr (
        at_once.entered,
        e,
        refl,
        refl,
        ap (marks_of_client client) at_once.marks_are ∙ own_request client at_once.entered e refl,
        requested_use at_once.entered e (use_of old) (use_of new) (subst (λ (ms : List Mark). MarksLead (use_of old) ms (use_of new)) at_once.marks_are leads),
      )
  | inr queues ↦ inl (
    ap (marks_of_client client) queues.marks_are,
    subst (λ (r : Resource). Contains r.queue (record { client = client; mode = mode })) (sym queues.new_is) (Contains-push old.queue (record { client = client; mode = mode })),
  )
]

-- its request leaves, and the next client is another one
pub leaver : (client : ℕ) (old : Resource) (sends : List Message) (marks : List Mark) (new : Resource)
    → AllPairs (λ a b. a ≢ b) (clients_of old) → LeaveTurn old client sends marks new → MarksLead (use_of old) marks (use_of new)
    → (e : Entry) × (use_of old ≡ HoldsBy e) × (marks_of_client client marks ≡ Left e ∷ [])
leaver client old sends marks new once turn leads = elim turn [
  | inl nobody ↦ (
    nobody.entry,
    held_is (use_of old) nobody.entry nobody.ends.holds.granted,
    ap (marks_of_client client) nobody.marks_are ∙ names_it client (Left nobody.entry) [] nobody.ends.holds.client_is,
  )
  | inr next ↦
      let e = next_entry (record next.between { queue = next.rest }) next.next.client next.next.mode in
      let other : next.next.client ≢ client = λ is. leaver_gone old client sends marks new once (inr next) leads
      (subst (λ (o : Option ℕ). Contains (option_to_list o ++ map (λ q. q.client) new.queue) client)
      (sym (next.asks.client_is ∙ ap (λ (k : ℕ). Some k) is)) (0, omega arith, refl)) in (
        next.entry,
        held_is (use_of old) next.entry next.ends.holds.granted,
        ap (marks_of_client client) (next.marks_are ∙ ap (λ (ms : List Mark). Left next.entry ∷ ms) next.asks.marks_are)
            ∙ names_it client (Left next.entry) (request_marks next.asks.entered e) next.ends.holds.client_is
            ∙ ap (λ (ms : List Mark). Left next.entry ∷ ms) (others_request client next.asks.entered e other),
      )
]
