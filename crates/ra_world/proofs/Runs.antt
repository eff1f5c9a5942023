-- Every run reaches its end. Each prefix of a run is a run, and the steps of a run determine their outcomes.
use Rattle.std.proofs.Common.{◌≡◌, ℕ, List, [], ◌∷◌, ◌++◌, map, refl, sym, ap, ◌∙◌, subst, append_assoc}
use Rattle.std.specs.Prelude.{◌↔◌}
use Rattle.std.proofs.lemmas.List.{append-nil, map-append}
use Rattle.ra_stamp.specs.declared.message.Message.{Message}
use Rattle.ra_stamp.specs.declared.entry.Mark.{Mark}
use Rattle.ra_stamp.specs.Message.{to_of}
use Rattle.ra_stamp.specs.NodeId.{IsNodeNumber}
use Rattle.ra_node.specs.Node.{NodeState, opening_node}
use Rattle.ra_node.specs.Events.{Event, Happening, NodeEvents}
use Rattle.ra_node.specs.Events.{Event as acts}
use Rattle.ra_world.specs.declared.step.Step.{Step}
use Rattle.ra_world.specs.declared.step.Step.TheVariants.{Ask, Leave, Cancel, Deliver, Lose, Repeat, Forget}
use Rattle.ra_world.specs.Below.{LawsBelow}
use Rattle.ra_world.specs.Traffic.{Move}
use Rattle.ra_world.specs.Run.{events_at, happened_at, IsFit, IsRun, EndsWith, GoesOn, WorldRun}
use Rattle.ra_world.proofs.Lists.{head_of, tail_of, none_some}
use Rattle.ra_world.proofs.Moves.{AllowsAll, allows_all, happens, happened_more, fits_split, at_node}
use Rattle.ra_world.proofs.Protocol.{IsNode}
use Rattle.ra_world.proofs.Nodes.{choose, EndsAt}
use Rattle.ra_world.proofs.Reached.{Reached, opening, was_under_way, event_happened}
use Rattle.ra_world.proofs.Steps.{step_reached}

pub nothing_happened : (n start : ℕ) → IsRun n start []
nothing_happened n start = record { each_fits = tt; ends = (λ i. opening_node i n start, λ i low high. refl) }

-- the nodes at the end are determined
pub same_ends : ((old a b : NodeState) (happened : List Happening) → NodeEvents old happened a → NodeEvents old happened b → a ≡ b)
    → (n start : ℕ) (ms : List Move) (nodes nodes' : ℕ → NodeState) → EndsWith n start ms nodes → EndsWith n start ms nodes' → (i : ℕ) → IsNode n i → nodes i ≡ nodes' i
same_ends one_end n start ms nodes nodes' ends ends' i at = one_end (opening_node i n start) (nodes i) (nodes' i) (happened_at i ms) (ends i at.0 at.1) (ends' i at.0 at.1)

-- ---- Prefixes

-- an event list splits in two
abbrev Splits : Type 0
Splits = (prefix suffix : List Happening) (a c : NodeState) → NodeEvents a (prefix ++ suffix) c → (b : NodeState) × NodeEvents a prefix b × NodeEvents b suffix c

prefix_of : Splits → (n start : ℕ) (ms : List Move) (m : Move) → IsRun n start (ms ++ m ∷ []) → IsRun n start ms
prefix_of splits n start ms m run =
    record {
      each_fits = (fits_split n [] ms (m ∷ []) run.each_fits).0;
      ends =
          let nodes = choose n (λ i node. NodeEvents (opening_node i n start) (happened_at i ms) node) run.ends.0 (λ i at.
          let last = run.ends.0 i in
          let parts = splits (happened_at i ms) (happens i m) (opening_node i n start) last (subst (λ (hs : List Happening). NodeEvents (opening_node i n start) hs last) (happened_more i ms m) (run.ends.1 i at.0 at.1)) in
          (parts.0, parts.1)) in
          (nodes.0, λ i low high. nodes.1 i (low, high));
    }

pub prefixes : Splits → (n start : ℕ) (suffix ms : List Move) → IsRun n start (ms ++ suffix) → IsRun n start ms
prefixes splits n start [] ms run = subst (IsRun n start) (append-nil ms) run
prefixes splits n start (m ∷ suffix) ms run = prefix_of splits n start ms m (prefixes splits n start suffix (ms ++ m ∷ []) (subst (IsRun n start) (sym (append_assoc ms (m ∷ []) suffix)) run))

-- the nodes right after a move of a run
after_one : Splits → (n start : ℕ) (ms : List Move) (m : Move) (suffix : List Move) → IsRun n start (ms ++ m ∷ suffix) → (i : ℕ) → IsNode n i → EndsAt n start (ms ++ m ∷ []) i
after_one splits n start ms m suffix run i at =
    let shorter = prefixes splits n start suffix (ms ++ m ∷ []) (subst (IsRun n start) (sym (append_assoc ms (m ∷ []) suffix)) run) in
    (shorter.ends.0 i, shorter.ends.1 i at.0 at.1)

abbrev with_step : Step → List Message → List Mark → Move
with_step step sends marks = record { step = step; sends = sends; marks = marks }

-- ---- One move after the other

module _ (laws : LawsBelow) {Lossy Copied : Type 0} (n start : ℕ) where
  reached_by : (suffix ms : List Move) → AllowsAll Lossy Copied suffix → Reached Lossy Copied n start ms → IsRun n start (ms ++ suffix) → Reached Lossy Copied n start (ms ++ suffix)
  reached_by [] ms may before run = subst (Reached Lossy Copied n start) (sym (append-nil ms)) before
  reached_by (m ∷ suffix) ms may before run =
      let again : ms ++ m ∷ suffix ≡ (ms ++ m ∷ []) ++ suffix = sym (append_assoc ms (m ∷ []) suffix) in
      let next = step_reached laws n start ms m.step m.sends m.marks before may.0 (fits_split n [] ms (m ∷ suffix) run.each_fits).1.0 (after_one laws.splits n start ms m suffix run) in
      subst (Reached Lossy Copied n start) (sym again) (reached_by suffix (ms ++ m ∷ []) may.1 next (subst (IsRun n start) again run))

  pub every_run : (moves : List Move) → AllowsAll Lossy Copied moves → IsNodeNumber n → IsRun n start moves → Reached Lossy Copied n start moves
  every_run moves may count run = reached_by moves [] may (opening laws Lossy Copied n start count) run

  -- ---- The steps of a run determine their outcomes

  -- an event at a node
  alike_at : (ms : List Move) (step : Step) (sends sends' : List Message) (marks marks' : List Mark) (p : ℕ) (event : Event) → Reached Lossy Copied n start ms → IsNode n p → events_at p step ≡ event ∷ []
      → EndsAt n start (ms ++ with_step step sends marks ∷ []) p → EndsAt n start (ms ++ with_step step sends' marks' ∷ []) p → (sends ≡ sends') × (marks ≡ marks')
  alike_at ms step sends sends' marks marks' p event before within here end end' =
      let a = event_happened laws n start ms (with_step step sends marks) before p within event here end in
      let b = event_happened laws n start ms (with_step step sends' marks') before p within event here end' in
      let same = laws.one_event (before.nodes p) a.0 b.0 event sends sends' marks marks' a.1 b.1 in
      (same.0, same.1)

  alike_move : (ms : List Move) (step : Step) (sends sends' : List Message) (marks marks' : List Mark) → Reached Lossy Copied n start ms → IsFit n ms step sends marks → IsFit n ms step sends' marks'
      → ((i : ℕ) → IsNode n i → EndsAt n start (ms ++ with_step step sends marks ∷ []) i) → ((i : ℕ) → IsNode n i → EndsAt n start (ms ++ with_step step sends' marks' ∷ []) i) → (sends ≡ sends') × (marks ≡ marks')
  alike_move ms (Ask node client name mode) sends sends' marks marks' before fit fit' ends ends' =
      let event = acts.Ask client name mode in
      alike_at ms (Ask node client name mode) sends sends' marks marks' node event before fit (at_node node event) (ends node fit) (ends' node fit)
  alike_move ms (Leave node client name) sends sends' marks marks' before fit fit' ends ends' =
      let event = acts.Leave client name in
      alike_at ms (Leave node client name) sends sends' marks marks' node event before fit (at_node node event) (ends node fit) (ends' node fit)
  alike_move ms (Cancel node client name) sends sends' marks marks' before fit fit' ends ends' =
      let event = acts.Cancel client name in
      alike_at ms (Cancel node client name) sends sends' marks marks' node event before fit (at_node node event) (ends node fit) (ends' node fit)
  alike_move ms (Forget node) sends sends' marks marks' before fit fit' ends ends' =
      alike_at ms (Forget node) sends sends' marks marks' node acts.Forget before fit (at_node node acts.Forget) (ends node fit) (ends' node fit)
  alike_move ms (Deliver message) sends sends' marks marks' before fit fit' ends ends' =
      let p = to_of message in
      let within = (was_under_way laws n start ms before message fit).traffic.to in
      alike_at ms (Deliver message) sends sends' marks marks' p (acts.Receive message) before within (at_node p (acts.Receive message)) (ends p within) (ends' p within)
  alike_move ms (Lose message) sends sends' marks marks' before fit fit' ends ends' = (fit.1 ∙ sym fit'.1, fit.2 ∙ sym fit'.2)
  alike_move ms (Repeat message) sends sends' marks marks' before fit fit' ends ends' = (fit.1 ∙ sym fit'.1, fit.2 ∙ sym fit'.2)

  alike : (ms a b : List Move) → AllowsAll Lossy Copied a → Reached Lossy Copied n start ms → IsRun n start (ms ++ a) → IsRun n start (ms ++ b) → map (λ move. move.step) a ≡ map (λ move. move.step) b → a ≡ b
  alike ms [] [] may before run run' e = refl
  alike ms [] (m ∷ b) may before run run' e = absurd (none_some e)
  alike ms (m ∷ a) [] may before run run' e = absurd (none_some (sym e))
  alike ms (m ∷ a) (m' ∷ b) may before run run' e =
      let step : m'.step ≡ m.step = sym (head_of e) in
      let fit = (fits_split n [] ms (m ∷ a) run.each_fits).1.0 in
      let fit' : IsFit n ms m.step m'.sends m'.marks = subst (λ (x : Step). IsFit n ms x m'.sends m'.marks) step (fits_split n [] ms (m' ∷ b) run'.each_fits).1.0 in
      let ends = after_one laws.splits n start ms m a run in
      let ends' : (i : ℕ) → IsNode n i → EndsAt n start (ms ++ with_step m.step m'.sends m'.marks ∷ []) i =
      subst (λ (x : Step). (i : ℕ) → IsNode n i → EndsAt n start (ms ++ with_step x m'.sends m'.marks ∷ []) i) step (after_one laws.splits n start ms m' b run')
      in
      let same = alike_move ms m.step m.sends m'.sends m.marks m'.marks before fit fit' ends ends' in
      let one : m ≡ m' = λ i. record { step = sym step i; sends = same.0 i; marks = same.1 i } in
      let next = step_reached laws n start ms m.step m.sends m.marks before may.0 fit ends in
      let again = subst (IsRun n start) (sym (append_assoc ms (m ∷ []) a)) run in
      let again' = subst (λ (x : Move). IsRun n start ((ms ++ x ∷ []) ++ b)) (sym one) (subst (IsRun n start) (sym (append_assoc ms (m' ∷ []) b)) run') in
      λ i. one i ∷ alike (ms ++ m ∷ []) a b may.1 next again again' (tail_of e) i

pub one_run : LawsBelow → (n start : ℕ) (a b : List Move) → IsNodeNumber n → IsRun n start a → IsRun n start b → map (λ move. move.step) a ≡ map (λ move. move.step) b → a ≡ b
one_run laws n start a b count run run' e = alike laws n start [] a b (allows_all a) (opening laws (Unit {0}) (Unit {0}) n start count) run run' e

-- ---- Lists of steps

-- moves whose steps are in two parts are in two parts
parts_of : (prefix suffix : List Step) (moves : List Move) → map (λ move. move.step) moves ≡ prefix ++ suffix
    → (a : List Move) × (b : List Move) × (moves ≡ a ++ b) × (map (λ move. move.step) a ≡ prefix) × (map (λ move. move.step) b ≡ suffix)
parts_of [] suffix moves e = ([], moves, refl, refl, e)
parts_of (step ∷ prefix) suffix [] e = absurd (none_some e)
parts_of (step ∷ prefix) suffix (m ∷ moves) e =
    let rest = parts_of prefix suffix moves (tail_of e) in
    (m ∷ rest.0, rest.1, ap (λ (xs : List Move). m ∷ xs) rest.2, λ i. head_of e i ∷ rest.3 i, rest.4)

pub prefix_of_steps : Splits → (n start : ℕ) (prefix suffix : List Step) → WorldRun n start (prefix ++ suffix) → WorldRun n start prefix
prefix_of_steps splits n start prefix suffix world =
    let parts = parts_of prefix suffix world.0 world.1 in
    (parts.0, parts.3, prefixes splits n start parts.1 parts.0 (subst (IsRun n start) parts.2 world.2))

-- a list of steps that is a run goes on if the run does
pub steps_go_on : LawsBelow → (n start : ℕ) (moves : List Move) (step : Step) → IsNodeNumber n → IsRun n start moves → WorldRun n start (map (λ move. move.step) moves ++ step ∷ []) ↔ GoesOn n start moves step
steps_go_on laws n start moves step count run = (
  λ world.
      let parts = parts_of (map (λ move. move.step) moves) (step ∷ []) world.0 world.1 in
      let longer = subst (IsRun n start) parts.2 world.2 in
      let same : parts.0 ≡ moves = one_run laws n start parts.0 moves count (prefixes laws.splits n start parts.1 parts.0 longer) run parts.3 in
      let one = one_of parts.1 parts.4 in
      let now : IsRun n start (moves ++ one.0 ∷ []) = subst (λ (ms : List Move). IsRun n start (ms ++ one.0 ∷ [])) same (subst (λ (ms : List Move). IsRun n start (parts.0 ++ ms)) one.1 longer) in
      (one.0.sends, one.0.marks, subst (λ (x : Step). IsRun n start (moves ++ with_step x one.0.sends one.0.marks ∷ [])) one.2 now),
  λ on. (moves ++ record { step = step; sends = on.0; marks = on.1 } ∷ [], map-append (λ move. move.step) moves (record { step = step; sends = on.0; marks = on.1 } ∷ []), on.2),
)
  where
    one_of : (ms : List Move) → map (λ move. move.step) ms ≡ step ∷ [] → (m : Move) × (ms ≡ m ∷ []) × (m.step ≡ step)
    one_of [] e = absurd (none_some e)
    one_of (m ∷ []) e = (m, refl, head_of e)
    one_of (m ∷ x ∷ ms) e = absurd (none_some (sym (tail_of e)))
