-- The parts of checking an event at a node.
use Rattle.std.proofs.Common.{◌≡◌, ◌≢◌, ℕ, ◌^◌, ◌≤◌, List, Result, Ok, Err, refl, sym, ◌∙◌, subst, inl, inr}
use Rattle.std.specs.Prelude.{IfErr, IsErrAnd, IsErrOf, MatchResult}
use Rattle.ra_stamp.specs.declared.mode.Mode.{Mode}
use Rattle.ra_frame.specs.declared.frame.Frame.{Frame}
use Rattle.ra_automaton.specs.Calls.{ChecksAddress}
use Rattle.ra_automaton.specs.declared.error.ReceiveError.{ReceiveError}
use Rattle.ra_automaton.specs.declared.error.ReceiveError.TheVariants as receive
use Rattle.ra_node.specs.declared.error.AskError.{AskError}
use Rattle.ra_node.specs.declared.error.AskError.TheVariants as ask
use Rattle.ra_node.specs.Calls.{AnswersMayAsk}
use Rattle.ra_node.specs.Node.{NodeState, resource_at}
use Rattle.ra_book.specs.declared.error.BookError.{BookError}
use Rattle.ra_book.specs.declared.error.BookError.TheVariants.{Memory}
use Rattle.ra_book.specs.declared.book.event.BookKind.{BookKind}
use Rattle.ra_book.specs.declared.book.event.BookKind.TheVariants.{Ask, Leave, Cancel, Receive, Forget}
use Rattle.ra_book.specs.Refused.{refusal_of_ask, refusal_of_receive}
use Rattle.ra_book.specs.EventChecks.{MayTake, NodeRefuses, CanHappen, IsRefusedAfter}
use Rattle.ra_book.proofs.Running.{ComesAt}

-- no node refuses an event for lack of memory
pub never_memory : (node : NodeState) (kind : BookKind) (why : BookError) → NodeRefuses node kind why → why ≢ Memory
never_memory node (Ask client name mode) why (inl busy) is = let wrong = sym busy.0 ∙ is in absurd (cc)
never_memory node (Ask client name mode) why (inr exhausted) is = let wrong = sym exhausted.0 ∙ is in absurd (cc)
never_memory node (Leave client name) why refuses is = let wrong = sym refuses.0 ∙ is in absurd (cc)
never_memory node (Cancel client name) why refuses is = let wrong = sym refuses.0 ∙ is in absurd (cc)
never_memory node Forget why refuses is = absurd refuses
never_memory node (Receive frame) why (inl wrong_node) is = let wrong = sym wrong_node.0 ∙ is in absurd (cc)
never_memory node (Receive frame) why (inr stranger) is = let wrong = sym stranger.0 ∙ is in absurd (cc)

-- a refusal of the node that is passed on
pub passed_why : (node : NodeState) (clock : ℕ) (kind : BookKind) (why : BookError) → NodeRefuses node kind why → (r : Result ℕ BookError)
    → IsErrAnd r (λ x. x ≡ why) → MatchResult r (CanHappen node clock kind) (IsRefusedAfter node clock kind) × IfErr r (λ e. e ≢ Memory)
passed_why node clock kind why refuses (Ok next) h = absurd h
passed_why node clock kind why refuses (Err x) h =
    let same : NodeRefuses node kind x = subst (NodeRefuses node kind) (sym h) refuses in
    (inl same, never_memory node kind x same)

-- the clock of an event that the node takes
module _ (node : NodeState) (clock : ℕ) (kind : BookKind) (may : MayTake node kind) where
  pub checked_clock : (r : Result ℕ BookError) → ComesAt clock kind r → MatchResult r (CanHappen node clock kind) (IsRefusedAfter node clock kind)
  checked_clock (Ok next) comes = record { may = may; next_is = comes.0; has_clock = comes.1 }
  checked_clock (Err e) comes = inr (inl (comes.0, may, comes.1))

-- which has a clock, or is refused for another cause than memory
pub clock_not_memory : (clock : ℕ) (kind : BookKind) (r : Result ℕ BookError) → ComesAt clock kind r → IfErr r (λ e. e ≢ Memory)
clock_not_memory clock kind (Ok next) comes = tt
clock_not_memory clock kind (Err e) comes = λ is. let wrong = sym comes.0 ∙ is in absurd (cc)

-- what can happen is refused if there is no memory
pub memory_lacks : (node : NodeState) (clock : ℕ) (kind : BookKind) (next : ℕ) → CanHappen node clock kind next → IsRefusedAfter node clock kind Memory
memory_lacks node clock kind next can = inr (inr (refl, can.may, subst (λ (k : ℕ). k ≤ 2 ^ 62) can.next_is can.has_clock))

-- ---- Why a node does not take an event

-- what a check answers of it
abbrev ChecksNode : NodeState → BookKind → Result (Unit {0}) BookError → Type 0
ChecksNode node kind r = MatchResult r (λ _. MayTake node kind) (NodeRefuses node kind)

asked : (node : NodeState) (client : ℕ) (name : List ℕ) (mode : Mode) (e : AskError) → AnswersMayAsk (resource_at node name) client (Err e)
    → (r : Result (Unit {0}) BookError) → IsErrAnd r (λ x. x ≡ refusal_of_ask e) → ChecksNode node (Ask client name mode) r
asked node client name mode e told (Ok done) h = absurd h
asked node client name mode ask.Busy told (Err x) h = inl (h, told.busy.0 refl)
asked node client name mode ask.Exhausted told (Err x) h = let is = told.exhausted.0 refl in inr (h, is.0, is.1)
asked node client name mode ask.Memory told (Err x) h = absurd (told.no_memory refl)

addressed : (node : NodeState) (frame : Frame) (e : ReceiveError) → ChecksAddress {T = Unit {0}} node.me node.nodes frame.message (Err e)
    → (IsErrOf {T = Unit {0}} (Err e) receive.Memory → ⊥) → (r : Result (Unit {0}) BookError) → IsErrAnd r (λ x. x ≡ refusal_of_receive e)
    → ChecksNode node (Receive frame) r
addressed node frame e address no_memory (Ok done) h = absurd h
addressed node frame receive.WrongNode address no_memory (Err x) h = inl (h, address.wrong_node.0 refl)
addressed node frame receive.Stranger address no_memory (Err x) h = let is = address.stranger.0 refl in inr (h, is.0, is.1)
addressed node frame receive.Memory address no_memory (Err x) h = absurd (no_memory refl)

-- the event is this one
module _ (node : NodeState) (kind : BookKind) where
  pub asking_refused : (client : ℕ) (name : List ℕ) (mode : Mode) → kind ≡ Ask client name mode → (e : AskError)
      → AnswersMayAsk (resource_at node name) client (Err e) → (r : Result (Unit {0}) BookError) → IsErrAnd r (λ x. x ≡ refusal_of_ask e) → ChecksNode node kind r
  asking_refused client name mode is e told r h = subst (λ (k : BookKind). ChecksNode node k r) (sym is) (asked node client name mode e told r h)

  pub address_refused : (frame : Frame) → kind ≡ Receive frame → (e : ReceiveError) → ChecksAddress {T = Unit {0}} node.me node.nodes frame.message (Err e)
      → (IsErrOf {T = Unit {0}} (Err e) receive.Memory → ⊥) → (r : Result (Unit {0}) BookError) → IsErrAnd r (λ x. x ≡ refusal_of_receive e) → ChecksNode node kind r
  address_refused frame is e address no_memory r h = subst (λ (k : BookKind). ChecksNode node k r) (sym is) (addressed node frame e address no_memory r h)
