-- What a slot makes of a message.
use Rattle.std.proofs.Common.{◌≡◌, ℕ, Bool, true, List, Option, Some, None, IsSome, sym, ap, ◌∙◌, subst, inl, inr}
use Rattle.std.specs.FinSet as set
use Rattle.std.proofs.lemmas.Bool.{false≢true}
use Rattle.std.proofs.lemmas.Option.{none-some}
use Rattle.ra_stamp.specs.declared.entry.Mark.{Mark}
use Rattle.ra_stamp.specs.declared.message.Message.{Message}
use Rattle.ra_stamp.specs.declared.message.Message.TheVariants.{Request, Reply}
use Rattle.ra_stamp.specs.declared.mode.Mode.{Mode}
use Rattle.ra_automaton.specs.declared.phase.Phase.{Phase}
use Rattle.ra_automaton.specs.declared.phase.Phase.TheVariants.{Inside}
use Rattle.ra_automaton.specs.State.{State}
use Rattle.ra_automaton.specs.Steps.{ReceiveStep}
use Rattle.ra_node.specs.declared.queued_client.Queued.{Queued}
use Rattle.ra_node.specs.Resource.{Resource, use_in, held_entry, ClientFits}
use Rattle.ra_node.specs.Turns.{EntersBy, ReceiveTurn}

-- what the automaton did, at a slot with these parts
pub parts_received : (state state' : State) (client : Option ℕ) (queue : List Queued) (old new : Resource) (message : Message) (sends : List Message) (entered : Bool) (marks : List Mark) → record { state = state; client = client; queue = queue } ≡ old
    → new ≡ record { state = state'; client = client; queue = queue } → ReceiveStep state message sends entered state' → EntersBy entered new marks → ReceiveTurn old message sends marks new
parts_received state state' client queue old new message sends entered marks was is step enters =
    record {
      entered = entered;
      step = subst (λ (r : Resource). ReceiveStep old.state message sends entered r.state) (sym is) (subst (λ (r : Resource). ReceiveStep r.state message sends entered state') was step);
      enters = enters;
      client_is = ap (λ (r : Resource). r.client) is ∙ ap (λ (r : Resource). r.client) was;
      queue_is = ap (λ (r : Resource). r.queue) is ∙ ap (λ (r : Resource). r.queue) was;
    }

held : (s : State) (seq : ℕ) (mode : Mode) (client : Option ℕ) → IsSome client → held_entry (use_in s (Inside seq mode) client) ≡ None → ⊥
held s seq mode None some none = false≢true some
held s seq mode (Some c) some none = none-some _ (sym none)

-- a node that enters has a client that holds then
pub holds_then : (state state' : State) (client : Option ℕ) (message : Message) (sends : List Message) → ReceiveStep state message sends true state' → ClientFits state.phase client → held_entry (use_in state' state'.phase client) ≡ None → ⊥
holds_then state state' client (Request from to name mode seq) sends step fits none = false≢true (sym step.0)
holds_then state state' client (Reply from to name seq) sends step fits none =
    elim step.1 [
      | inl stray ↦ false≢true (sym stray.entered_is)
      | inr awaited ↦ elim awaited.1 [
        | inl enters ↦
            held (record state { phase = Inside seq awaited.0; awaited = set.empty }) seq awaited.0 client (subst (λ (p : Phase). ClientFits p client) enters.awaits.waits fits)
            (subst (λ (s : State). held_entry (use_in s s.phase client) ≡ None) enters.new_is none)
        | inr waits ↦ false≢true (sym waits.entered_is)
      ]
    ]
