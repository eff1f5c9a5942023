use Rattle.std.proofs.Common.{◌≡◌, Bool, List, [], ◌∷◌, ◌++◌, refl, sym, ap, ◌∙◌, subst}
use Rattle.std.proofs.lemmas.Bool.{false≢true}
use Rattle.ra_stamp.specs.declared.entry.Mark.{Mark}
use Rattle.ra_stamp.specs.declared.entry.Mark.TheVariants.{Entered}
use Rattle.ra_automaton.specs.State.{IsAddressed, IsConsistent}
use Rattle.ra_automaton.specs.Steps.{LetsEnter, ReceiveStep}
use Rattle.ra_automaton.specs.Memory.{IsRepliedAtOnce}
use Rattle.ra_node.specs.Resource.{Resource, ClientFits, holder_of}
use Rattle.ra_node.specs.Turns.{EntersBy}
use Rattle.ra_node.proofs.Bringing.{room_for_entry, refused_for_entry, entry_is_brought, reply_is_brought}
use Rattle.ra_node.proofs.Receiving.{parts_received, holds_then}
use Rattle.ra_node.proofs.slot.Slot.receive.Goals as goal
use Rattle.ra_node.proofs.slot.Slot.receive.Goals.{then-reaction+in-Some, then-reaction+in_default-holder, else-reaction}

-- ---- There is no room for the mark

pub returns-in_default-clause-received : goal.returns-in_default-clause-received
returns-in_default-clause-received c = (refl, refl)

pub returns-in_default-clause-brings : goal.returns-in_default-clause-brings
returns-in_default-clause-brings c =
    let message = c.args.message.now in
    let lets = refused_for_entry c.lets_enter.result c.from-count.result _ c.from-count.ensures (λ room. false≢true (c.in_default.ensures.succeeds room)) in
    entry_is_brought c.args.self.now message (subst (λ (r : Resource). LetsEnter r.state message) c.self.view_is (c.lets_enter.ensures.0 lets))

-- ---- The automaton takes it

pub receive_addressed-requires-clause-name : goal.receive_addressed-requires-clause-name
receive_addressed-requires-clause-name c = c.requires.name ∙ sym (ap (λ (r : Resource). r.state.name) c.self.view_is)

pub receive_addressed-requires-clause-addressed : goal.receive_addressed-requires-clause-addressed
receive_addressed-requires-clause-addressed c = subst (λ (r : Resource). IsAddressed r.state c.args.message.now) (sym c.self.view_is) c.requires.addressed

pub returns-in_default-receive_addressed-clause-received : goal.returns-in_default-receive_addressed-clause-received
returns-in_default-receive_addressed-clause-received c =
    let s = c.self.inside in
    (refl, (λ i. record { state = c.in_default-receive_addressed.ensures.received.err i; client = s.client; queue = s.queue }) ∙ c.self.view_is)

pub returns-in_default-receive_addressed-clause-brings : goal.returns-in_default-receive_addressed-clause-brings
returns-in_default-receive_addressed-clause-brings c =
    let message = c.args.message.now in
    reply_is_brought c.args.self.now message (subst (λ (r : Resource). IsRepliedAtOnce r.state message) c.self.view_is c.in_default-receive_addressed.ensures.memory_only_for_reply)

pub push_reserved-requires : goal.push_reserved-requires
push_reserved-requires c =
    room_for_entry c.lets_enter.result c.from-count.result _ c.from-count.ensures c.in-Ok.ensures.ok
    (c.lets_enter.ensures.1 (c.in-Ok-receive_addressed.ensures.received.enters.0 c.if-reaction.true))

-- ---- The outcome

pub returns-clause-received : goal.returns-clause-received
returns-clause-received c =
    let s = c.self.inside in
    let old = c.args.self.now in
    let new = c.if-reaction.self in
    let message = c.args.message.now in
    let reaction = c.in-Ok-receive_addressed.reaction in
    let did = c.in-Ok-receive_addressed.ensures in
    let marks = c.if-reaction.marks.items in
    let none : c.reserve.new.self.items ≡ [] = c.reserve.ensures.same ∙ c.new-marks.ensures in
    elim c.if-reaction.branch [
      | then-reaction+in-Some w ↦
          let entry = w.in-Some.entry in
          let made : marks ≡ Entered entry ∷ [] = ap (λ (m : _). m.items) w.marks-is ∙ w.push_reserved.ensures.items ∙ ap (λ (ms : List Mark). ms ++ Entered entry ∷ []) none in
          let enters = subst (λ (b : Bool). EntersBy b new marks) (sym w.if-reaction.true) (entry, ap holder_of w.self-is ∙ sym w.holder.ensures ∙ w.in-Some.is, made) in (
            parts_received s.automaton c.receive_addressed.new.self s.client s.queue old new message reaction.sends.items reaction.entered marks c.self.view_is w.self-is did.received.ok enters,
            subst (λ (r : Resource). IsConsistent r.state) (sym w.self-is) did.consistent,
          )
      | then-reaction+in_default-holder w ↦
          let step = subst (λ (b : Bool). ReceiveStep s.automaton message reaction.sends.items b c.receive_addressed.new.self) w.if-reaction.true did.received.ok in
          let fits = subst (λ (r : Resource). ClientFits r.state.phase r.client) (sym c.self.view_is) c.requires.client in
          absurd (holds_then s.automaton c.receive_addressed.new.self s.client message reaction.sends.items step fits (sym w.in_default-holder.ensures))
      | else-reaction w ↦
          let made : marks ≡ [] = ap (λ (m : _). m.items) w.marks-is ∙ none in
          let enters = subst (λ (b : Bool). EntersBy b new marks) (sym w.if-reaction.false) made in (
            parts_received s.automaton c.receive_addressed.new.self s.client s.queue old new message reaction.sends.items reaction.entered marks c.self.view_is w.self-is did.received.ok enters,
            subst (λ (r : Resource). IsConsistent r.state) (sym w.self-is) did.consistent,
          )
    ]
