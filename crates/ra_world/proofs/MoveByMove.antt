-- What holds of the marks of each event that a run makes holds of the marks of each of its moves.
use Rattle.std.proofs.Common.{◌≡◌, ℕ, List, [], ◌∷◌, ◌++◌, All, refl, sym, subst, append_assoc}
use Rattle.std.proofs.lemmas.List.Elements.{All-nil, All-same}
use Rattle.ra_stamp.specs.declared.entry.Mark.{Mark}
use Rattle.ra_stamp.specs.Message.{to_of}
use Rattle.ra_stamp.specs.NodeId.{IsNodeNumber}
use Rattle.ra_automaton.specs.State.{IsForNode}
use Rattle.ra_node.specs.Node.{NodeState}
use Rattle.ra_node.specs.Events.{Event, NodeEvent, IsForThisNode}
use Rattle.ra_node.specs.Events.{Event as acts}
use Rattle.ra_world.specs.declared.step.Step.{Step}
use Rattle.ra_world.specs.declared.step.Step.TheVariants.{Ask, Leave, Cancel, Deliver, Lose, Repeat, Forget}
use Rattle.ra_world.specs.Below.{LawsBelow}
use Rattle.ra_world.specs.Traffic.{Move}
use Rattle.ra_world.specs.Run.{events_at, IsFit, IsRun}
use Rattle.ra_world.proofs.Moves.{allows_all, fits_split, at_node}
use Rattle.ra_world.proofs.Protocol.{IsNode}
use Rattle.ra_world.proofs.Reached.{Reached, was_under_way, event_happened}
use Rattle.ra_world.proofs.Runs.{every_run, prefixes}

-- a run whose next move this is
module _ (laws : LawsBelow) (n start : ℕ) (count : IsNodeNumber n) (m : Move) (suffix ms : List Move) (run : IsRun n start (ms ++ m ∷ suffix)) where
  pub longer : IsRun n start ((ms ++ m ∷ []) ++ suffix)
  longer = subst (IsRun n start) (sym (append_assoc ms (m ∷ []) suffix)) run

  pub just_after : IsRun n start (ms ++ m ∷ [])
  just_after = prefixes laws.splits n start suffix (ms ++ m ∷ []) longer

  pub just_before : Reached (Unit {0}) (Unit {0}) n start ms
  just_before = every_run laws n start ms (allows_all ms) count (prefixes laws.splits n start (m ∷ []) ms just_after)

  pub fits_here : IsFit n ms m.step m.sends m.marks
  fits_here = (fits_split n [] ms (m ∷ suffix) run.each_fits).1.0

  -- the marks of one of its events
  abbrev EachEvent : (Mark → Type 0) → Type 0
  EachEvent P = (p : ℕ) (event : Event) (new : NodeState) → IsNode n p → IsForThisNode (just_before.nodes p) event → events_at p m.step ≡ event ∷ []
      → NodeEvent (just_before.nodes p) event m.sends m.marks new → All P m.marks

  by_event : (P : Mark → Type 0) → EachEvent P → (p : ℕ) (event : Event) → IsNode n p → IsForThisNode (just_before.nodes p) event → events_at p m.step ≡ event ∷ [] → All P m.marks
  by_event P each p event within for here =
      let happened = event_happened laws n start ms m just_before p within event here (just_after.ends.0 p, just_after.ends.1 p within.0 within.1) in
      each p event happened.0 within for here happened.1

  by_step : (P : Mark → Type 0) → EachEvent P → (step : Step) → m.step ≡ step → IsFit n ms step m.sends m.marks → All P m.marks
  by_step P each (Ask node client name mode) is fit =
      let event = acts.Ask client name mode in
      by_event P each node event fit tt (subst (λ (x : Step). events_at node x ≡ event ∷ []) (sym is) (at_node node event))
  by_step P each (Leave node client name) is fit =
      let event = acts.Leave client name in
      by_event P each node event fit tt (subst (λ (x : Step). events_at node x ≡ event ∷ []) (sym is) (at_node node event))
  by_step P each (Cancel node client name) is fit =
      let event = acts.Cancel client name in
      by_event P each node event fit tt (subst (λ (x : Step). events_at node x ≡ event ∷ []) (sym is) (at_node node event))
  by_step P each (Forget node) is fit =
      by_event P each node acts.Forget fit tt (subst (λ (x : Step). events_at node x ≡ acts.Forget ∷ []) (sym is) (at_node node acts.Forget))
  by_step P each (Deliver message) is fit =
      let was = was_under_way laws n start ms just_before message fit in
      let p = to_of message in
      let event = acts.Receive message in
      let there = just_before.invariant.each p was.traffic.to in
      let for' : IsForNode p n message = record { to = refl; from = was.traffic.from } in
      let for : IsForThisNode (just_before.nodes p) event =
      subst (λ (k : ℕ). IsForNode k (just_before.nodes p).nodes message) (sym there.me_is) (subst (λ (k : ℕ). IsForNode p k message) (sym there.nodes_is) for') in
      by_event P each p event was.traffic.to for (subst (λ (x : Step). events_at p x ≡ event ∷ []) (sym is) (at_node p event))
  by_step P each (Lose message) is fit = All-same P m.marks [] fit.2 (All-nil P)
  by_step P each (Repeat message) is fit = All-same P m.marks [] fit.2 (All-nil P)

  -- of the event that is the move's step
  pub by_its_event : (P : Mark → Type 0) → EachEvent P → All P m.marks
  by_its_event P each = by_step P each m.step refl fits_here

  pub by_move : (P : Mark → Type 0)
      → ((p : ℕ) (event : Event) (new : NodeState) → IsNode n p → IsForThisNode (just_before.nodes p) event → NodeEvent (just_before.nodes p) event m.sends m.marks new → All P m.marks)
      → All P m.marks
  by_move P each = by_its_event P (λ p event new within for here. each p event new within for)
