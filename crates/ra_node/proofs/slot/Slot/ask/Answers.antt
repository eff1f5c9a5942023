use Rattle.std.proofs.Common.{rules, ◌≡◌, ◌<◌, ◌∙◌, ℕ, Bool, List, Result, Err, Some, MatchResult, refl, sym, ap, subst, inl}
use Rattle.ra_stamp.specs.declared.entry.Mark.{Mark}
use Rattle.ra_stamp.specs.declared.message.Message.{Message}
use Rattle.ra_stamp.specs.declared.mode.Mode.{Mode}
use Rattle.ra_automaton.specs.State.{State, IsConsistent}
use Rattle.ra_automaton.specs.Steps.{RequestStep, greatest_number}
use Rattle.ra_node.specs.declared.error.AskError.{AskError}
use Rattle.ra_node.specs.declared.outcome.Outcome.{Outcome}
use Rattle.ra_node.specs.Faults.{IsAskRefusal}
use Rattle.ra_node.specs.Resource.{Resource}
use Rattle.ra_node.specs.Turns.{AskTurn, MayAsk, request_marks, next_entry}
use Rattle.ra_node.proofs.Refusals.{ask_refusal}
use Rattle.ra_node.proofs.slot.Slot.ask.Goals as goal

pub returns-in_err-may_ask : goal.returns-in_err-may_ask
returns-in_err-may_ask c =
    let old = c.args.self.now in
    let fault = c.in_err-may_ask.field-0.0 in
    let is : c.from_residual.result ≡ Err fault = search rules in
    let refused = ask_refusal fault old c.args.client c.in_err-may_ask.ensures in
    subst (λ (result : Result Outcome AskError).
    MatchResult result (λ o. AskTurn old c.args.client c.args.mode o.sends.items o.marks.items old × IsConsistent old.state) (λ f. IsAskRefusal old c.args.client f × (old ≡ old)))
    (sym is) (refused, refl)

pub next_entry-requested-requires : goal.next_entry-requested-requires
next_entry-requested-requires c = (c.in_ok-may_ask.ensures.allowed.0 refl).number_left

pub request_when_idle-requires-clause-number_left : goal.request_when_idle-requires-clause-number_left
request_when_idle-requires-clause-number_left c = subst (λ (r : Resource). r.state.highest < greatest_number) (sym c.self.view_is) (c.in_ok-may_ask.ensures.allowed.0 refl).number_left

pub returns-in_default : goal.returns-in_default
returns-in_default c = (c.in_ok-may_ask.ensures.allowed.0 refl, refl)

pub returns-in_default-request_when_idle : goal.returns-in_default-request_when_idle
returns-in_default-request_when_idle c =
    let s = c.self.inside in (
      c.in_ok-may_ask.ensures.allowed.0 refl,
      (λ i. record { state = c.in_default-request_when_idle.ensures.requested.err i; client = s.client; queue = s.queue }) ∙ c.self.view_is,
    )

-- the automaton made the request, at a slot with these parts
asks_at_once : (inside old : Resource) → inside ≡ old → (client : ℕ) (mode : Mode) (sends : List Message) (marks : List Mark) (entered : Bool) (state : State) → MayAsk old client → RequestStep inside.state mode sends entered state
    → marks ≡ request_marks entered (next_entry old client mode) → AskTurn old client mode sends marks (record { state = state; client = Some client; queue = inside.queue })
asks_at_once inside old is client mode sends marks entered state may step marks-are = (
  may,
  inl (record {
    entered = entered;
    step = subst (λ (r : Resource). RequestStep r.state mode sends entered state) is step;
    marks_are = marks-are;
    client_is = refl;
    queue_is = ap (λ (r : Resource). r.queue) is;
  }),
)

pub returns : goal.returns
returns c =
    let s = c.self.inside in
    let reaction = c.in-Ok-request_when_idle.reaction in
    let did = c.in-Ok-request_when_idle.ensures in
    let marks : c.push_request.new.marks.items ≡ request_marks reaction.entered (next_entry c.args.self.now c.args.client c.args.mode) = search rules in (
      asks_at_once (record { state = s.automaton; client = s.client; queue = s.queue }) c.args.self.now c.self.view_is c.args.client c.args.mode reaction.sends.items c.push_request.new.marks.items reaction.entered c.request_when_idle.new.self
          (c.in_ok-may_ask.ensures.allowed.0 refl) did.requested.ok marks,
      did.consistent,
    )
