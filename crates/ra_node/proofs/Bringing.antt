-- Which messages bring nothing: those that are not answered at once and let nobody enter.
use Rattle.std.proofs.Common.{◌≡◌, Bool, true, false, ℕ, ◌≤◌, List, [], ◌∷◌, Option, None, Result, Ok, Err, OnErr, refl, sym, ap, ◌∙◌, subst, arith, inl, inr}
use Rattle.std.specs.Prelude.{IsErrOf, IsTrue, not, ◌↔◌, unwrap_or}
use Rattle.std.specs.Int.{from_bool}
use Rattle.std.specs.FinMap as finmap
use Rattle.std.proofs.lemmas.Bool.{false≢true}
use Rattle.ra_stamp.specs.declared.message.Message.{Message}
use Rattle.ra_stamp.specs.declared.message.Message.TheVariants.{Request, Reply}
use Rattle.ra_stamp.specs.Message.{name_of}
use Rattle.ra_automaton.specs.declared.phase.Phase.{Phase}
use Rattle.ra_automaton.specs.declared.phase.Phase.TheVariants.{Idle, Waiting}
use Rattle.ra_stamp.specs.declared.mode.Mode.{Mode}
use Rattle.ra_automaton.specs.State.{State}
use Rattle.ra_automaton.specs.Steps.{ReceiveStep, LetsEnter, OwnGoesFirst}
use Rattle.ra_automaton.specs.Memory.{IsRepliedAtOnce}
use Rattle.ra_node.specs.Resource.{Resource, unmet}
use Rattle.ra_node.specs.Turns.{EntersBy}
use Rattle.ra_node.specs.Node.{NodeState, resource_at}
use Rattle.ra_node.specs.Memory.{BringsNothingTo, BringsNothing}
use Rattle.ra_node.proofs.Updates.{event_by_turn}
use Rattle.ra_node.proofs.Possible.{possible_receive}

-- the message is not answered at once and lets nobody enter
pub record IsQuietAt (s : State) (message : Message) : Type 0 where
  pub not_answered : IsRepliedAtOnce s message → ⊥
  pub no_entry : LetsEnter s message → ⊥

quiet_step : (s : State) (message : Message) (sends : List Message) (entered : Bool) (new : State) → ReceiveStep s message sends entered new → IsQuietAt s message → (sends ≡ []) × (entered ≡ false)
quiet_step s (Request from to name mode seq) sends entered new step quiet = (elim step.1 [ inl defers ↦ defers.sends_are | inr replies ↦ absurd (quiet.not_answered replies.not_first) ], step.0)
quiet_step s (Reply from to name seq) sends entered new step quiet = (
  step.0,
  elim step.1 [
    | inl stray ↦ stray.entered_is
    | inr awaited ↦ elim awaited.1 [
      | inl enters ↦ absurd (quiet.no_entry (awaited.0, enters.awaits, enters.last))
      | inr waits ↦ waits.entered_is
    ]
  ],
)

pub brings_nothing : (r : Resource) (message : Message) → IsQuietAt r.state message → BringsNothingTo r message
brings_nothing r message quiet =
    let (sends, entered, new, step) = possible_receive r.state message in
    let is = quiet_step r.state message sends entered new step quiet in (
      record { state = new; client = r.client; queue = r.queue },
      record {
        entered = false;
        step = subst (λ (t : Bool). ReceiveStep r.state message [] t new) is.1 (subst (λ (ms : List Message). ReceiveStep r.state message ms entered new) is.0 step);
        enters = refl;
        client_is = refl;
        queue_is = refl;
      },
    )

not_entered : (entered : Bool) (new : Resource) → EntersBy entered new [] → entered ≡ false
not_entered false new enters = refl
not_entered true new enters = absurd (no_mark enters.2)
  where
    no_mark : {A : Type 0} {x : A} → [] ≡ x ∷ [] → ⊥
    no_mark is = cc

not_answered : (s : State) (message : Message) (entered : Bool) (new : State) → ReceiveStep s message [] entered new → IsRepliedAtOnce s message → ⊥
not_answered s (Request from to name mode seq) entered new step answered = elim step.1 [ inl defers ↦ answered defers.own_first | inr replies ↦ no_reply replies.sends_are ]
  where
    no_reply : {A : Type 0} {x : A} → [] ≡ x ∷ [] → ⊥
    no_reply is = cc
not_answered s (Reply from to name seq) entered new step answered = answered

no_entry : (s : State) (message : Message) (sends : List Message) (new : State) → ReceiveStep s message sends false new → LetsEnter s message → ⊥
no_entry s (Request from to name mode seq) sends new step lets = lets
no_entry s (Reply from to name seq) sends new step lets =
    elim step.1 [
      | inl stray ↦ stray.not_awaited lets.0 lets.1
      | inr awaited ↦ elim awaited.1 [
        | inl enters ↦ false≢true enters.entered_is
        | inr waits ↦ waits.not_last lets.2
      ]
    ]

pub is_quiet : (r : Resource) (message : Message) → BringsNothingTo r message → IsQuietAt r.state message
is_quiet r message brings =
    let new = brings.0 in
    let turn = brings.1 in
    record {
      not_answered = not_answered r.state message turn.entered new.state turn.step;
      no_entry = no_entry r.state message [] new.state (subst (λ (t : Bool). ReceiveStep r.state message [] t new.state) (not_entered turn.entered new turn.enters) turn.step);
    }

-- at a name that was not met before, exactly a REPLY brings nothing
pub unmet_is_quiet : (me nodes start from to seq : ℕ) (at name : List ℕ) → IsQuietAt (unmet me nodes at start).state (Reply from to name seq)
unmet_is_quiet me nodes start from to seq at name = record { not_answered = λ a. a; no_entry = λ lets. idle_waits lets.1.waits }
  where
    idle_waits : {seq : ℕ} {mode : Mode} → Idle ≡ Waiting seq mode → ⊥
    idle_waits is = cc

-- the same of a node, whose resource of that name it is
pub to_node : (n : NodeState) (message : Message) (r : Resource) → r ≡ resource_at n (name_of message) → BringsNothingTo r message → BringsNothing n message
to_node n message r here brings =
    let (new, turn) = subst (λ (x : Resource). BringsNothingTo x message) here brings in
    event_by_turn n message [] [] new turn

pub of_node : (n : NodeState) (message : Message) (r : Resource) → r ≡ resource_at n (name_of message) → BringsNothing n message → BringsNothingTo r message
of_node n message r here brings = subst (λ (x : Resource). BringsNothingTo x message) (sym here) (brings.1.resource, brings.1.turn)

-- if the slot refuses a message, it brings something
pub refused_to_bring : {T E : Type 0} {Q : Type 0} (result : Result T E) (e : E) → IsErrOf result e → OnErr result (Q → ⊥) → Q → ⊥
refused_to_bring (Ok v) e is err brings = cc
refused_to_bring (Err fault) e is err brings = err brings

-- what two tests of the automaton tell
pub tells : (r : Resource) (message : Message) (answered lets : Bool) → IsTrue answered ↔ IsRepliedAtOnce r.state message → IsTrue lets ↔ LetsEnter r.state message → answered ≡ false → IsTrue (not lets) ↔ BringsNothingTo r message
tells r message answered true a l none = (λ is. absurd (false≢true is), λ brings. absurd ((is_quiet r message brings).no_entry (l.0 refl)))
tells r message answered false a l none = (λ is. brings_nothing r message (record { not_answered = λ h. false≢true (sym none ∙ a.1 h); no_entry = λ h. false≢true (l.1 h) }), λ brings. refl)

-- the room for the mark of an entry is there if a message lets the node enter, and is refused only then
pub room_for_entry : (lets : Bool) (count spare : ℕ) → count ≡ from_bool lets → count ≤ spare → lets ≡ true → 1 ≤ spare
room_for_entry true count spare is room e = omega (arith, is, room)
room_for_entry false count spare is room e = absurd (false≢true e)

pub refused_for_entry : (lets : Bool) (count spare : ℕ) → count ≡ from_bool lets → (count ≤ spare → ⊥) → lets ≡ true
refused_for_entry true count spare is refused = refl
refused_for_entry false count spare is refused = absurd (refused (omega (arith, is)))

-- a message that lets the node enter brings something, and so does one that is answered at once
pub entry_is_brought : (r : Resource) (message : Message) → LetsEnter r.state message → BringsNothingTo r message → ⊥
entry_is_brought r message lets brings = (is_quiet r message brings).no_entry lets

pub reply_is_brought : (r : Resource) (message : Message) → IsRepliedAtOnce r.state message → BringsNothingTo r message → ⊥
reply_is_brought r message answered brings = (is_quiet r message brings).not_answered answered

-- a REQUEST is answered at once if the node is idle at its name
pub idle_is_brought : (n : NodeState) (message : Message) (from to : ℕ) (name : List ℕ) (mode : Mode) (seq : ℕ) → message ≡ Request from to name mode seq → (resource_at n (name_of message)).state.phase ≡ Idle → BringsNothing n message → ⊥
idle_is_brought n message from to name mode seq is idle brings =
    let r = resource_at n (name_of message) in
    let answered : IsRepliedAtOnce r.state message = subst (λ (m : Message). IsRepliedAtOnce r.state m) (sym is)
    (subst (λ (p : Phase). OwnGoesFirst p r.state.me from seq mode → ⊥) (sym idle) (λ first. first)) in
    reply_is_brought r message answered (of_node n message r refl brings)

-- and so is one about a name that the node has not met
pub first_is_brought : (n : NodeState) (message : Message) (from to : ℕ) (name : List ℕ) (mode : Mode) (seq : ℕ) → message ≡ Request from to name mode seq → finmap.get n.resources (name_of message) ≡ None → BringsNothing n message → ⊥
first_is_brought n message from to name mode seq is none brings =
    idle_is_brought n message from to name mode seq is (ap (λ (o : Option Resource). (unwrap_or o (unmet n.me n.nodes (name_of message) n.start)).state.phase) none) brings
