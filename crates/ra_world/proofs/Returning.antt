-- The numbers of a node's requests on a name rise in every run, so no request is made twice, and one that was withdrawn is never granted.
use Rattle.std.proofs.Common.{◌≡◌, ℕ, zero, suc, ◌<◌, ◌≤◌, List, [], ◌∷◌, ◌++◌, All, Contains, Some, length, get_or, refl, sym, ap, ◌∙◌, subst, arith, inl, inr}
use Rattle.std.proofs.lemmas.Bool.{cases_lt}
use Rattle.std.proofs.lemmas.List.Elements.{All-head, All-append, All-contains, All-weaker}
use Rattle.std.proofs.lemmas.Option.{same_Some}
use Rattle.ra_stamp.specs.declared.entry.Entry.{Entry}
use Rattle.ra_stamp.specs.declared.entry.Mark.{Mark}
use Rattle.ra_stamp.specs.declared.entry.Mark.TheVariants.{Requested, Entered, Left, Withdrawn}
use Rattle.ra_stamp.specs.NodeId.{IsNodeNumber}
use Rattle.ra_node.specs.Carried.{IsMark}
use Rattle.ra_node.specs.Node.{NodeState, opening_node, resource_at}
use Rattle.ra_node.specs.Events.{Event, NodeEvent, NodeEvents, name_of_event}
use Rattle.ra_table.specs.Table.{LockTable, empty_table, TableStep, TableSteps}
use Rattle.ra_table.specs.Laws.{IsAt}
use Rattle.ra_table.proofs.Apart.{Apart}
use Rattle.ra_world.specs.Below.{LawsBelow}
use Rattle.ra_world.specs.Traffic.{Move}
use Rattle.ra_world.specs.Run.{IsRun, events_at, happened_at, marks_of}
use Rattle.ra_world.proofs.Fairness.{TablesByMarks, HaveMet, contained, later_above}
use Rattle.ra_world.proofs.MoveByMove.{longer, just_before, by_move, by_its_event}
use Rattle.ra_world.proofs.Moves.{allows_all}
use Rattle.ra_world.proofs.Nodes.{ends_after, put_node}
use Rattle.ra_world.proofs.Numbered.{MarksOfNodes}
use Rattle.ra_world.proofs.Protocol.{IsNode}
use Rattle.ra_world.proofs.Reached.{Reached}
use Rattle.ra_world.proofs.Requesting.{Rises, IsMetIn, event_apart, event_met}
use Rattle.ra_world.proofs.Runs.{every_run}

-- ---- Places in lists of marks

apart_both : (R : Mark → Mark → Type 0) (xs ys : List Mark) → Apart R xs → All (λ x. All (R x) ys) xs → Apart R ys → Apart R (xs ++ ys)
apart_both R [] ys first across rest = rest
apart_both R (x ∷ xs) ys first across rest = (
  All-append (R x) xs ys first.0 (All-head (λ m. All (R m) ys) x xs across),
  apart_both R xs ys first.1 (λ k d lt. across (suc k) d (omega (arith, lt))) rest,
)

at_places : (R : Mark → Mark → Type 0) (marks : List Mark) → Apart R marks → (i j : ℕ) (a b : Mark) → i < j → IsAt marks i a → IsAt marks j b → R a b
at_places R [] apart i j a b lt at at' = absurd cc
at_places R (m ∷ ms) apart i zero a b lt at at' = absurd (omega (arith, lt))
at_places R (m ∷ ms) apart zero (suc j) a b lt at at' = subst (λ (x : Mark). R x b) (same_Some m a at) (All-contains (R m) ms b apart.0 (contained ms j b at'))
at_places R (m ∷ ms) apart (suc i) (suc j) a b lt at at' = at_places R ms apart.1 i j a b (omega (arith, lt)) at at'

within : (marks : List Mark) (place : ℕ) (mark : Mark) → IsAt marks place mark → place < length marks
within [] place mark at = absurd cc
within (m ∷ ms) zero mark at = omega arith
within (m ∷ ms) (suc place) mark at = omega (arith, within ms place mark at)

at_front : (prefix rest : List Mark) (place : ℕ) (mark : Mark) → IsAt prefix place mark → IsAt (prefix ++ rest) place mark
at_front [] rest place mark at = absurd cc
at_front (m ∷ ms) rest zero mark at = at
at_front (m ∷ ms) rest (suc place) mark at = at_front ms rest place mark at

front_at : (prefix rest : List Mark) (place : ℕ) (mark : Mark) → place < length prefix → IsAt (prefix ++ rest) place mark → IsAt prefix place mark
front_at [] rest place mark lt at = absurd (omega (arith, lt))
front_at (m ∷ ms) rest zero mark lt at = at
front_at (m ∷ ms) rest (suc place) mark lt at = front_at ms rest place mark (omega (arith, lt)) at

-- the table just before the mark at this place
record JustBefore (old : LockTable) (marks : List Mark) (place : ℕ) (mark : Mark) : Type 0 where
  prefix : List Mark
  rest : List Mark
  parts : marks ≡ prefix ++ rest
  long : length prefix ≡ place
  table : LockTable
  next : LockTable
  leads : TableSteps old prefix table
  step : TableStep table mark next

table_before : (marks : List Mark) (old new : LockTable) (place : ℕ) (mark : Mark) → TableSteps old marks new → IsAt marks place mark → JustBefore old marks place mark
table_before [] old new place mark steps at = absurd cc
table_before (m ∷ ms) old new zero mark steps at =
    record {
      prefix = [];
      rest = m ∷ ms;
      parts = refl;
      long = refl;
      table = old;
      next = steps.0;
      leads = refl;
      step = subst (λ (x : Mark). TableStep old x steps.0) (same_Some m mark at) steps.1;
    }
table_before (m ∷ ms) old new (suc place) mark steps at =
    let later = table_before ms steps.0 new place mark steps.2 at in
    record {
      prefix = m ∷ later.prefix;
      rest = later.rest;
      parts = ap (λ (xs : List Mark). m ∷ xs) later.parts;
      long = omega (arith, later.long);
      table = later.table;
      next = later.next;
      leads = (steps.0, steps.1, later.leads);
      step = later.step;
    }

from_marks : (marks : List Mark) → All (λ x. Apart Rises marks) marks → Apart Rises marks
from_marks [] all = tt
from_marks (m ∷ ms) all = All-head (λ x. Apart Rises (m ∷ ms)) m ms all

module _ (laws : LawsBelow) (marks_law : MarksOfNodes) (history : TablesByMarks) (n start : ℕ) (count : IsNodeNumber n) where
  -- ---- Numbers rise

  -- after these moves a request's node has met its number
  abbrev IsMetAfter : List Move → Mark → Type 0
  IsMetAfter ms (Requested e) = HaveMet laws marks_law history n start count (λ i. i ≡ e.stamp.node) e ms
  IsMetAfter ms (Entered e) = Unit {0}
  IsMetAfter ms (Left e) = Unit {0}
  IsMetAfter ms (Withdrawn e) = Unit {0}

  module _ (m : Move) (suffix ms : List Move) (run : IsRun n start (ms ++ m ∷ suffix)) where
    abbrev before : Reached (Unit {0}) (Unit {0}) n start ms
    before = just_before laws n start count m suffix ms run

    met_after : (p : ℕ) (event : Event) (new : NodeState) → IsNode n p → events_at p m.step ≡ event ∷ [] → NodeEvent (before.nodes p) event m.sends m.marks new
        → (mark : Mark) → IsMark p (name_of_event event) mark → IsMetIn (resource_at new (name_of_event event)) mark → IsMetAfter (ms ++ m ∷ []) mark
    met_after p event new at here happened (Requested e) is met = λ i node same events.
        let after = (ends_after laws.joins n start ms m before.nodes p event new before.ends here happened) p at.0 at.1 in
        let here' : i ≡ p = same ∙ is.node_is in
        let events' = subst (λ (k : ℕ). NodeEvents (opening_node k n start) (happened_at k (ms ++ m ∷ [])) node) here' events in
        let end = laws.one_end (opening_node p n start) node _ (happened_at p (ms ++ m ∷ [])) events' after ∙ (put_node before.nodes p new).here in
        let there : e.stamp.seq ≤ (resource_at new e.name).state.highest = subst (λ (r : List ℕ). e.stamp.seq ≤ (resource_at new r).state.highest) (sym is.name_is) met in
        subst (λ (x : NodeState). e.stamp.seq ≤ (resource_at x e.name).state.highest) (sym end) there
    met_after p event new at here happened (Entered e) is met = tt
    met_after p event new at here happened (Left e) is met = tt
    met_after p event new at here happened (Withdrawn e) is met = tt

    requests_met : All (IsMetAfter (ms ++ m ∷ [])) m.marks
    requests_met =
        by_its_event laws n start count m suffix ms run (IsMetAfter (ms ++ m ∷ [])) (λ p event new at for here happened k d lt.
        let there = before.invariant.each p at in
        let is = marks_law (before.nodes p) new event m.sends m.marks there.consistent for happened k d lt in
        let met = event_met (before.nodes p) new event m.sends m.marks happened k d lt in
        met_after p event new at here happened (get_or m.marks k d) (subst (λ (me : ℕ). IsMark me (name_of_event event) (get_or m.marks k d)) there.me_is is) met)

    apart_here : Apart Rises m.marks
    apart_here =
        from_marks m.marks
        (by_move laws n start count m suffix ms run (λ x. Apart Rises m.marks) (λ p event new at for happened k d lt. event_apart (before.nodes p) new event m.sends m.marks happened))

  rises_later : (mark : Mark) (suffix ms : List Move) → IsRun n start (ms ++ suffix) → IsMetAfter ms mark → All (Rises mark) (marks_of suffix)
  rises_later (Requested e) suffix ms run met = later_above laws marks_law history n start count (λ i. i ≡ e.stamp.node) e suffix ms run met
  rises_later (Entered e) suffix ms run met = λ k d lt. tt
  rises_later (Left e) suffix ms run met = λ k d lt. tt
  rises_later (Withdrawn e) suffix ms run met = λ k d lt. tt

  all_rise : (suffix ms : List Move) → IsRun n start (ms ++ suffix) → Apart Rises (marks_of suffix)
  all_rise [] ms run = tt
  all_rise (m ∷ suffix) ms run =
      let on = longer laws n start count m suffix ms run in
      let across = All-weaker (IsMetAfter (ms ++ m ∷ [])) (λ x. All (Rises x) (marks_of suffix)) (λ x. rises_later x suffix (ms ++ m ∷ []) on) m.marks (requests_met m suffix ms run) in
      apart_both Rises m.marks (marks_of suffix) (apart_here m suffix ms run) across (all_rise suffix (ms ++ m ∷ []) on)

  module _ (moves : List Move) (run : IsRun n start moves) where
    pub requests_rise : (e f : Entry) (i j : ℕ) → i < j → IsAt (marks_of moves) i (Requested e) → IsAt (marks_of moves) j (Requested f)
        → e.stamp.node ≡ f.stamp.node → e.name ≡ f.name → e.stamp.seq < f.stamp.seq
    requests_rise e f i j lt at at' node name = at_places Rises (marks_of moves) (all_rise moves [] run) i j (Requested e) (Requested f) lt at at' (sym node) (sym name)

    -- ---- No request is made twice, so none is both withdrawn and granted

    module _ (e : Entry) where
      made_once : (i j : ℕ) → IsAt (marks_of moves) i (Requested e) → IsAt (marks_of moves) j (Requested e) → i ≡ j
      made_once i j at at' = elim (cases_lt i j) [
        | inl below ↦ absurd (omega (arith, requests_rise e e i j below at at' refl refl))
        | inr not_below ↦ elim (cases_lt j i) [
          | inl beyond ↦ absurd (omega (arith, requests_rise e e j i beyond at' at refl refl))
          | inr not_beyond ↦ omega (arith, not_below, not_beyond)
        ]
      ]

      pub withdrawn_or_granted : (i j : ℕ) → IsAt (marks_of moves) i (Withdrawn e) → IsAt (marks_of moves) j (Entered e) → ⊥
      withdrawn_or_granted i j gone granted =
          let end = every_run laws n start moves (allows_all moves) count run in
          let a = table_before (marks_of moves) empty_table end.table i (Withdrawn e) end.run gone in
          let b = table_before (marks_of moves) empty_table end.table j (Entered e) end.run granted in
          let since = history.waits a.prefix a.table e a.leads a.step.0 in
          let since' = history.waits b.prefix b.table e b.leads b.step.0.waits in
          let there = λ (prefix rest : List Mark) (k : ℕ) (parts : marks_of moves ≡ prefix ++ rest) (at : IsAt prefix k (Requested e)).
          subst (λ (ms : List Mark). IsAt ms k (Requested e)) (sym parts) (at_front prefix rest k (Requested e) at)
          in
          let one = made_once since.requested since'.requested (there a.prefix a.rest since.requested a.parts since.was_requested) (there b.prefix b.rest since'.requested b.parts since'.was_requested) in
          let early = within a.prefix since.requested (Requested e) since.was_requested in
          let early' = within b.prefix since'.requested (Requested e) since'.was_requested in
          elim (cases_lt i j) [
            | inl below ↦
                since'.not_withdrawn i (omega (arith, one, early, a.long))
                (front_at b.prefix b.rest i (Withdrawn e) (omega (arith, below, b.long)) (subst (λ (ms : List Mark). IsAt ms i (Withdrawn e)) b.parts gone))
            | inr not_below ↦ elim (cases_lt j i) [
              | inl beyond ↦
                  since.not_entered j (omega (arith, one, early', b.long))
                  (front_at a.prefix a.rest j (Entered e) (omega (arith, beyond, a.long)) (subst (λ (ms : List Mark). IsAt ms j (Entered e)) a.parts granted))
              | inr not_beyond ↦
                  let same : i ≡ j = omega (arith, not_below, not_beyond) in
                  let two = same_Some (Withdrawn e) (Entered e) (sym (subst (λ (k : ℕ). IsAt (marks_of moves) k (Withdrawn e)) same gone) ∙ granted) in
                  absurd cc
            ]
          ]
