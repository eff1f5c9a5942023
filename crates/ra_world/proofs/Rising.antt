-- How numbers rise at a node: by one with a request, and otherwise only to the number of a REQUEST that comes.
use Rattle.std.proofs.Common.{◌≡◌, ℕ, ◌+◌, ◌≤◌, Bool, List, [], ◌∷◌, All, map, refl, sym, ap, ◌∙◌, subst, arith, inl, inr}
use Rattle.std.specs.FinMap as finmap
use Rattle.std.proofs.lemmas.List.Elements.{All-nil, All-cons, All-append}
use Rattle.ra_stamp.specs.declared.mode.Mode.{Mode}
use Rattle.ra_stamp.specs.declared.message.Message.{Message}
use Rattle.ra_stamp.specs.declared.message.Message.TheVariants.{Request, Reply}
use Rattle.ra_stamp.specs.declared.entry.Mark.{Mark}
use Rattle.ra_automaton.specs.State.{State}
use Rattle.ra_automaton.specs.Steps.{others_of, RequestStep}
use Rattle.ra_automaton.proofs.Ending.{EndStep}
use Rattle.ra_node.proofs.Endings.{AreEnded, leaves_ended, withdraws_ended}
use Rattle.ra_stamp.specs.declared.entry.Entry.{Entry}
use Rattle.ra_stamp.specs.declared.entry.Mark.TheVariants.{Left, Withdrawn}
use Rattle.ra_node.specs.Turns.{request_marks}
use Rattle.ra_node.specs.Resource.{Resource}
use Rattle.ra_node.specs.Turns.{next_entry, AskTurn, Leaves, Withdraws, EndTurn, LeaveTurn, CancelTurn, ReceiveTurn}
use Rattle.ra_node.proofs.HandOverStep.{handed_step, handed_marks}
use Rattle.ra_world.specs.Quiet.{requests_in}
use Rattle.ra_world.proofs.Balance.{marks_request}

-- the number to which a message may raise its receiver's: a REPLY raises none
abbrev pub raised_to : Message → ℕ
raised_to (Request from to name mode seq) = seq
raised_to (Reply from to name seq) = 0

abbrev pub RaisesTo : ℕ → Message → Type 0
RaisesTo most m = raised_to m ≤ most

requests_raise : (most p : ℕ) (name : List ℕ) (mode : Mode) (seq : ℕ) → seq ≤ most → (os : List ℕ) → All (RaisesTo most) (map (λ o. Request p o name mode seq) os)
requests_raise most p name mode seq low [] = All-nil (RaisesTo most)
requests_raise most p name mode seq low (o ∷ os) =
    All-cons (RaisesTo most) (Request p o name mode seq) (map (λ k. Request p k name mode seq) os) low (requests_raise most p name mode seq low os)

replies_raise : (most p : ℕ) (name : List ℕ) (es : List (ℕ × ℕ)) → All (RaisesTo most) (map (λ e. Reply p e.0 name e.1) es)
replies_raise most p name [] = All-nil (RaisesTo most)
replies_raise most p name (e ∷ es) = All-cons (RaisesTo most) (Reply p e.0 name e.1) (map (λ x. Reply p x.0 name x.1) es) (omega arith) (replies_raise most p name es)

-- the node's number is at most this one, and no message that it sent raises another's above it
pub record Rises (after : Resource) (sends : List Message) (most : ℕ) : Type 0 where
  pub highest : after.state.highest ≤ most
  pub raising : All (RaisesTo most) sends

requested : (s new : State) (mode : Mode) (sends : List Message) (entered : Bool) (most : ℕ) → s.highest ≤ most → RequestStep s mode sends entered new
    → (new.highest ≤ most + 1) × All (RaisesTo (most + 1)) sends
requested s new mode sends entered most low step = (
  elim step.begins [
    | inl asks ↦ omega (arith, low, ap (λ (x : State). x.highest) asks.new_is)
    | inr alone ↦ omega (arith, low, ap (λ (x : State). x.highest) alone.new_is)
  ],
  subst (All (RaisesTo (most + 1))) (sym step.sends_are) (requests_raise (most + 1) s.me s.name mode (s.highest + 1) (omega (arith, low)) (others_of s.me s.nodes)),
)

left : (s new : State) (sends : List Message) (most : ℕ) → EndStep s sends new → (new.highest ≡ s.highest) × All (RaisesTo most) sends
left s new sends most step = (
  step.highest_is,
  subst (All (RaisesTo most)) (sym step.sends_are) (replies_raise most s.me s.name (finmap.entries s.deferred)),
)

module _ (before after : Resource) (sends : List Message) (marks : List Mark) (most : ℕ) (low : before.state.highest ≤ most) where
  pub ask_rises : (client : ℕ) (mode : Mode) → AskTurn before client mode sends marks after → Rises after sends (most + requests_in marks)
  ask_rises client mode turn = elim turn.1 [
    | inl asks ↦
        let one : requests_in marks ≡ 1 = ap requests_in asks.marks_are ∙ marks_request asks.entered (next_entry before client mode) in
        let went = requested before.state after.state mode sends asks.entered most low asks.step in
        subst (λ (k : ℕ). Rises after sends (most + k)) (sym one) (record { highest = went.0; raising = went.1 })
    | inr queues ↦
        record {
          highest = omega (arith, low, ap (λ (x : Resource). x.state.highest) queues.new_is);
          raising = subst (All (RaisesTo (most + requests_in marks))) (sym queues.sends_are) (All-nil (RaisesTo (most + requests_in marks)));
        }
  ]

  end_rises : (Ends : Entry → List Message → Resource → Type 0) (mark : Entry → Mark) (ended : AreEnded before Ends) → ((e : Entry) (ms : List Mark) → requests_in (mark e ∷ ms) ≡ requests_in ms) → EndTurn Ends mark before sends marks after → Rises after sends (most + requests_in marks)
  end_rises Ends mark ended none turn = elim turn [
    | inl nobody ↦
        let went = left before.state after.state sends (most + requests_in marks) (ended nobody.entry sends after nobody.ends).step in
        record { highest = omega (arith, low, went.0); raising = went.1 }
    | inr hands ↦
        let step = handed_step Ends mark before ended sends marks after hands in
        let e = next_entry before hands.next.client hands.next.mode in
        let one : requests_in marks ≡ 1 = ap requests_in (handed_marks Ends mark before ended sends marks after hands) ∙ none hands.entry (request_marks hands.asks.entered e) ∙ marks_request hands.asks.entered e in
        let away = left before.state step.between step.replies (most + 1) step.ends in
        let went = requested step.between after.state hands.next.mode step.requests hands.asks.entered most (omega (arith, low, away.0)) step.asks in
        subst (λ (k : ℕ). Rises after sends (most + k)) (sym one) (record {
          highest = went.0;
          raising = subst (All (RaisesTo (most + 1))) (sym step.sends_are) (All-append (RaisesTo (most + 1)) step.replies step.requests away.1 went.1);
        })
  ]

  pub leave_rises : (client : ℕ) → LeaveTurn before client sends marks after → Rises after sends (most + requests_in marks)
  leave_rises client turn = end_rises (Leaves before client) Left (leaves_ended before client) (λ e ms. refl) turn

  pub cancel_rises : (client : ℕ) → CancelTurn before client sends marks after → Rises after sends (most + requests_in marks)
  cancel_rises client turn = elim turn [
    | inl goes ↦
        record {
          highest = omega (arith, low, ap (λ (x : Resource). x.state.highest) goes.new_is);
          raising = subst (All (RaisesTo (most + requests_in marks))) (sym goes.sends_are) (All-nil (RaisesTo (most + requests_in marks)));
        }
    | inr ends ↦ end_rises (Withdraws before client) Withdrawn (withdraws_ended before client) (λ e ms. refl) ends
  ]

  pub receive_rises : (m : Message) → RaisesTo most m → ReceiveTurn before m sends marks after → Rises after sends (most + requests_in marks)
  receive_rises (Request from to name mode seq) raises turn =
      let top = most + requests_in marks in
      elim turn.step.1 [
        | inl defers ↦
            record {
              highest = omega (arith, low, raises, ap (λ (x : State). x.highest) defers.new_is);
              raising = subst (All (RaisesTo top)) (sym defers.sends_are) (All-nil (RaisesTo top));
            }
        | inr replies ↦
            record {
              highest = omega (arith, low, raises, ap (λ (x : State). x.highest) replies.new_is);
              raising = subst (All (RaisesTo top)) (sym replies.sends_are) (replies_raise top before.state.me before.state.name ((from, seq) ∷ []));
            }
      ]
  receive_rises (Reply from to name seq) raises turn =
      let top = most + requests_in marks in
      record {
        highest = elim turn.step.1 [
          | inl stray ↦ omega (arith, low, ap (λ (x : State). x.highest) stray.new_is)
          | inr awaited ↦ elim awaited.1 [
            | inl enters ↦ omega (arith, low, ap (λ (x : State). x.highest) enters.new_is)
            | inr on ↦ omega (arith, low, ap (λ (x : State). x.highest) on.new_is)
          ]
        ];
        raising = subst (All (RaisesTo top)) (sym turn.step.0) (All-nil (RaisesTo top));
      }
