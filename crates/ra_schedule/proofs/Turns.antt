-- What the driver keeps from turn to turn, and how its end is read off.
use Rattle.std.proofs.Common.{◌≡◌, ℕ, zero, suc, ◌+◌, ◌<◌, ◌≤◌, ◌^◌, Bool, true, false, Option, Some, None, List, [], ◌∷◌, ◌++◌, All, length, take, replicate, slice_get, slice_index_or, refl, sym, ap, ◌∙◌, subst, arith, inl, inr}
use Rattle.std.specs.Prelude.{◌↔◌, ◌⊎◌, IsTrue, IfSome, ◌==◌, if◌then◌else◌, option_map, option_and_then, Contains}
use Rattle.std.proofs.lemmas.Bool.{cases_eq, false≢true}
use Rattle.std.proofs.lemmas.List as lists
use Rattle.std.proofs.lemmas.List.Elements.{All-replicate}
use Rattle.std.proofs.lemmas.Option.{IfSome_then}
use Rattle.ra_stamp.specs.NodeId.{IsNodeNumber}
use Rattle.ra_world.specs.declared.step.Step.{Step}
use Rattle.ra_world.specs.declared.step.Step.TheVariants.{Ask, Leave, Cancel, Deliver, Lose, Repeat, Forget}
use Rattle.ra_world.specs.Traffic.{Move}
use Rattle.ra_world.specs.World.{WorldState}
use Rattle.ra_world.specs.Run.{IsRun}
use Rattle.ra_schedule.specs.declared.driver.Driver.{Driver}
use Rattle.ra_schedule.specs.declared.driver.drive_script.Driven.{Driven}
use Rattle.ra_schedule.specs.declared.driver.drive_script.DrivenCluster.{DrivenCluster}
use Rattle.ra_schedule.specs.declared.driver.client_progress.Progress.{Progress}
use Rattle.ra_schedule.specs.declared.choice.Choice.{Choice}
use Rattle.ra_schedule.specs.declared.choice.Policy.{Policy}
use Rattle.ra_schedule.specs.declared.choice.picking.Picked.{Picked}
use Rattle.ra_schedule.specs.Script.{ScriptClient, ScriptState, client_at, op_at}
use Rattle.ra_schedule.specs.Schedule.{steps_of, steps_in, steps_by, Enters, IsEnabled, StandsFor, Picks, Ends, Follows}
use Rattle.ra_schedule.specs.Listing.{AreChoicesBy}
use Rattle.ra_schedule.specs.Progress.{IsProgress, Tracks, OfEach, IsProgressAfter, AreCountable, AreDone, WaitsOrIsDone, WaitOrAreDone, NoneEnters, recorded}
use Rattle.ra_schedule.specs.PolicyState.{IsRandomState, IsRandomStateElsewhere, generator_at, generator_in, words_drawn, words_for}
use Rattle.ra_schedule.specs.Shrinking.{IsStuckRun}
use Rattle.ra_schedule.specs.Drive.{IsWholeRun}
use Rattle.ra_schedule.specs.Driving.{IsDriven, IsReady, IsAtEnd, IsMeaning, HasChosen, HasTakenStep, IsThrough, Records}
use Rattle.ra_schedule.proofs.ChoicesMade.{no_choices, choices_more}
use Rattle.ra_schedule.specs.Below.{LawsBelow}
use Rattle.ra_schedule.proofs.Waiting.{nobody_waits, goes_on}
use Rattle.ra_schedule.proofs.Elsewhere.{flags_elsewhere}
use Rattle.ra_schedule.proofs.Following.{follows_none, follows_more}
use Rattle.ra_schedule.proofs.Choosing.{same_some}
use Rattle.ra_schedule.proofs.PolicyGenerator.{none_drawn, more_drawn}

abbrev pub opening_progress : Progress
opening_progress = record { done = 0; waiting = false }

-- a client that has done nothing
opened : (client : ℕ) → IsProgress client [] opening_progress
opened client = record { done = refl; waiting = (λ h. absurd cc, λ h. absurd (nobody_waits client h)) }

-- of no moves there is nothing to record
nothing_recorded : (records : Bool) (steps : List Step) (moves : List Move) → steps ≡ [] → moves ≡ [] → steps ≡ recorded records moves
nothing_recorded true steps moves none no_moves = none ∙ sym (ap steps_of no_moves)
nothing_recorded false steps moves none no_moves = none

-- before the first turn
module _ (script : ScriptState) (world : WorldState) (is : world ≡ record { count = script.nodes; start = 0; moves = [] }) where
  none_moved : world.moves ≡ []
  none_moved = ap (λ (w : WorldState). w.moves) is

  pub tracks_none : (clients : List Progress) → clients ≡ replicate (length script.clients) opening_progress → Tracks script world clients
  tracks_none clients are = record {
    count = ap (λ (w : WorldState). w.count) is;
    start = ap (λ (w : WorldState). w.start) is;
    length_is = ap length are ∙ lists.length-replicate (length script.clients) opening_progress;
    each = λ k d within.
        subst (λ (ms : List Move). IsProgress (k + 1) ms (slice_index_or clients k d)) (sym none_moved)
        (subst (λ (ps : List Progress). k < length ps → IsProgress (k + 1) [] (slice_index_or ps k d)) (sym are)
        (All-replicate (λ p. IsProgress (k + 1) [] p) (length script.clients) opening_progress (opened (k + 1)) k d) within);
  }

  pub ready_none : (policy : Policy) (driver : Driver) → IsNodeNumber script.nodes → IsRun world.count world.start world.moves
      → Tracks script world driver.clients.items → driver.first ≡ 0 → generator_in driver.random ≡ generator_at policy 0
      → IfSome driver.random (IsRandomState script world.moves) → driver.steps.items ≡ [] → driver.choices.items ≡ []
      → IsReady script policy world driver
  ready_none policy driver nodes run tracks first drawn random steps choices =
      let run' : IsRun script.nodes 0 world.moves =
      subst (λ (s : ℕ). IsRun script.nodes s world.moves) tracks.start (subst (λ (n : ℕ). IsRun n world.start world.moves) tracks.count run) in
      record {
        driven = record {
          nodes = nodes;
          run = run';
          tracks = tracks;
          stuck = λ k d less within. absurd (omega (arith, less, first));
          random = random;
          steps = nothing_recorded driver.records driver.steps.items world.moves steps none_moved;
        };
        follows = subst (Follows script policy) (sym none_moved) (follows_none script policy (subst (IsRun script.nodes 0) none_moved run'));
        choices = λ kept. no_choices script policy driver.choices.items world.moves choices none_moved;
        drawn = drawn ∙ ap (generator_at policy) (sym (none_drawn policy)) ∙ ap (λ (ms : List Move). generator_at policy (words_drawn policy ms)) (sym none_moved);
      }

pub tracks_on : (script : ScriptState) (world next : WorldState) (clients new : List Progress) (move : Move) → Tracks script world clients
    → next ≡ record world { moves = world.moves ++ move ∷ [] } → length new ≡ length clients → OfEach (IsProgressAfter move) clients new
    → Tracks script next new
tracks_on script world next clients new move tracks is len after =
    let moves : next.moves ≡ world.moves ++ move ∷ [] = ap (λ (w : WorldState). w.moves) is in
    record {
      count = ap (λ (w : WorldState). w.count) is ∙ tracks.count;
      start = ap (λ (w : WorldState). w.start) is ∙ tracks.start;
      length_is = len ∙ tracks.length_is;
      each = λ k d within.
          let before : k < length clients = omega arith in
          subst (λ (ms : List Move). IsProgress (k + 1) ms (slice_index_or new k d)) (sym moves)
          (goes_on (k + 1) world.moves move (slice_index_or clients k d) (slice_index_or new k d) (tracks.each k d before) (after k d before));
    }

-- ---- Who waits or has nothing left to do

within_clients : {X : Type 0} (xs : List X) (k : ℕ) (x : X) → slice_get xs k ≡ Some x → k < length xs
within_clients [] k x e = absurd cc
within_clients (y ∷ xs) zero x e = omega arith
within_clients (y ∷ xs) (suc k) x e = let less = within_clients xs k x e in omega arith

at_next : (script : ScriptState) (k : ℕ) → client_at script (k + 1) ≡ slice_get script.clients k
at_next script k = let e : k + 1 ≡ suc k = omega arith in ap (client_at script) e

past_the_end : {X : Type 0} (xs : List X) (k n : ℕ) → slice_get xs k ≡ None → slice_get xs (k + n) ≡ None
past_the_end [] k n e = e
past_the_end (x ∷ xs) zero n e = absurd cc
past_the_end (x ∷ xs) (suc k) n e =
    let is : suc k + n ≡ suc (k + n) = omega arith in ap (slice_get (x ∷ xs)) is ∙ past_the_end xs k n e

-- a client that has nothing left to do has nothing left after more steps
nothing_left : (script : ScriptState) (client done n : ℕ) → op_at script client done ≡ None → op_at script client (done + n) ≡ None
nothing_left script client done n e =
    elim (client_at script client) as (λ o. option_and_then (λ c. slice_get c.ops done) o ≡ None → option_and_then (λ c. slice_get c.ops (done + n)) o ≡ None) [
      | None ↦ λ _. refl
      | Some who ↦ λ h. past_the_end who.ops done n h
    ] e

-- a client that waits or has nothing left to do still does after a move that did not let it enter
stuck_after : (script : ScriptState) (client : ℕ) (move : Move) (old new : Progress) → WaitsOrIsDone script client old
    → IsProgressAfter move client old new → All (λ mark. Enters client mark → ⊥) move.marks → WaitsOrIsDone script client new
stuck_after script client move old new (inl waits) (between, step, marks) none = inl (marks.waiting.1 (step.waiting.1 (inr waits), none))
stuck_after script client move old new (inr done) (between, step, marks) none =
    inr (subst (λ (n : ℕ). op_at script client n ≡ None) (sym (marks.done ∙ step.done)) (nothing_left script client old.done (steps_in client move.step) done))

still_stuck : (script : ScriptState) (clients new : List Progress) (first next : ℕ) (move : Move) → WaitOrAreDone script clients first
    → length new ≡ length clients → OfEach (IsProgressAfter move) clients new → next ≤ first → NoneEnters next move.marks
    → WaitOrAreDone script new next
still_stuck script clients new first next move stuck len after less none k d below within =
    let before : k < length clients = omega (arith, within, len) in
    stuck_after script (k + 1) move (slice_index_or clients k d) (slice_index_or new k d) (stuck k d (omega (arith, below, less)) before) (after k d before) (none k below)

-- none of these clients is enabled
pub nobody_below : (script : ScriptState) (world : WorldState) (clients : List Progress) (first : ℕ) → Tracks script world clients
    → WaitOrAreDone script clients first → (k : ℕ) → k < first → IsEnabled script world.moves (k + 1) → ⊥
nobody_below script world clients first tracks stuck k below (step, enables) =
    let (who, op, at, is, made) = enables.next in
    let number : client_at script (k + 1) ≡ slice_get script.clients k = at_next script k in
    let within : k < length clients = let less = within_clients script.clients k who (sym number ∙ at) in let same = tracks.length_is in omega arith in
    let stands = tracks.each k opening_progress within in
    let p = slice_index_or clients k opening_progress in
    let next : op_at script (k + 1) p.done ≡ Some op =
    ap (option_and_then (λ (c : ScriptClient). slice_get c.ops p.done)) at ∙ ap (slice_get who.ops) stands.done ∙ is in
    elim (stuck k opening_progress below within) [
      | inl waits ↦ enables.free (stands.waiting.0 waits)
      | inr done ↦ (let e : None ≡ Some op = sym done ∙ next in absurd cc)
    ]

-- ---- One more turn

-- a policy chose, by a random state that knows who is enabled, and looked for a client that is free
module _ (script : ScriptState) (policy : Policy) (world : WorldState) (driver chosen : Driver) (ready : IsReady script policy world driver)
    (items : chosen.clients.items ≡ driver.clients.items) (steps : chosen.steps.items ≡ driver.steps.items)
    (choices : chosen.choices.items ≡ driver.choices.items) (records : chosen.records ≡ driver.records) where
  steps_kept : chosen.steps.items ≡ recorded chosen.records world.moves
  steps_kept = steps ∙ ready.driven.steps ∙ ap (λ (b : Bool). recorded b world.moves) (sym records)

  pub chosen_by : WaitOrAreDone script driver.clients.items chosen.first → IfSome chosen.random (IsRandomState script world.moves) → (picked : Option Picked)
      → IfSome picked (λ p. Picks script policy world.moves p.choice) → IfSome picked (λ p. IsMeaning script world.moves p.choice p.meaning)
      → IfSome picked (λ p. generator_in chosen.random ≡ generator_at policy (words_drawn policy world.moves + words_for policy p.choice))
      → IfSome picked (HasChosen script policy world driver chosen)
  chosen_by stuck random None picks means drawn = tt
  chosen_by stuck random (Some picked) picks means drawn = record {
    driven = record {
      nodes = ready.driven.nodes;
      run = ready.driven.run;
      tracks = subst (Tracks script world) (sym items) ready.driven.tracks;
      stuck = subst (λ (ps : List Progress). WaitOrAreDone script ps chosen.first) (sym items) stuck;
      random = random;
      steps = steps_kept;
    };
    picks = picks;
    means = means;
    drawn = drawn;
    choices = choices;
  }

  pub none_left : Ends script policy world.moves → IsAtEnd script policy world chosen
  none_left ends = record {
    tracks = subst (Tracks script world) (sym items) ready.driven.tracks;
    follows = ready.follows;
    ends = ends;
    steps = steps_kept;
    choices = λ kept. subst (λ (cs : List Choice). AreChoicesBy script policy cs world.moves) (sym choices) (ready.choices (sym records ∙ kept));
  }

-- a move that goes on with the run
module _ (script : ScriptState) (world next : WorldState) (driver : Driver) (move : Move) (driven : IsDriven script world driver)
    (is : next ≡ record world { moves = world.moves ++ move ∷ [] }) (run : IsRun next.count next.start next.moves) where
  run_more : IsRun script.nodes 0 next.moves
  run_more =
      subst (λ (s : ℕ). IsRun script.nodes s next.moves) (ap (λ (w : WorldState). w.start) is ∙ driven.tracks.start)
      (subst (λ (n : ℕ). IsRun n next.start next.moves) (ap (λ (w : WorldState). w.count) is ∙ driven.tracks.count) run)

  pub random_before : LawsBelow → (choice : Choice) → StandsFor script world.moves choice move.step
      → IfSome driver.random (IsRandomStateElsewhere move.step move.marks script next.moves)
  random_before laws choice means =
      IfSome_then driver.random driven.random (λ random are. record {
        node_clients = are.node_clients;
        flags = flags_elsewhere laws script world.moves next.moves move choice random.enabled.flags.items driven.nodes
            (ap (λ (w : WorldState). w.moves) is) run_more means are.flags;
        counted = are.counted;
      })

  pub driven_more : (new : Driver) → Tracks script next new.clients.items → OfEach (IsProgressAfter move) driver.clients.items new.clients.items
      → new.first ≤ driver.first → NoneEnters new.first move.marks
      → IfSome new.random (IsRandomState script next.moves)
      → new.steps.items ≡ recorded new.records (world.moves ++ move ∷ []) → IsDriven script next new
  driven_more new tracks after less none random steps = record {
    nodes = driven.nodes;
    run = run_more;
    tracks = tracks;
    stuck = still_stuck script driver.clients.items new.clients.items driver.first new.first move driven.stuck
        (tracks.length_is ∙ sym driven.tracks.length_is) after less none;
    random = random;
    steps = steps ∙ ap (recorded new.records) (sym (ap (λ (w : WorldState). w.moves) is));
  }

pub one_longer : (moves next : List Move) (move : Move) → next ≡ moves ++ move ∷ [] → length next ≡ length moves + 1
one_longer moves next move is = ap length is ∙ lists.length-append moves (move ∷ [])

-- the policy chose, and its choice was made
pub ready_more : (script : ScriptState) (policy : Policy) (world next : WorldState) (driver chosen new : Driver) (choice : Choice)
    → IsReady script policy world driver → chosen.records ≡ driver.records → chosen.choices.items ≡ driver.choices.items
    → Picks script policy world.moves choice
    → generator_in chosen.random ≡ generator_at policy (words_drawn policy world.moves + words_for policy choice)
    → HasTakenStep script choice world chosen next new → IsReady script policy next new
ready_more script policy world next driver chosen new choice ready records choices picks drawn made =
    let (move, means, moves) = made.made in
    let count : words_drawn policy next.moves ≡ words_drawn policy world.moves + words_for policy choice =
    ap (words_drawn policy) moves ∙ more_drawn script policy world.moves move choice means in
    record {
      driven = made.driven;
      follows = subst (Follows script policy) (sym moves)
          (follows_more script policy world.moves move choice ready.follows picks means (subst (IsRun script.nodes 0) moves made.driven.run));
      choices = λ kept.
          let before : IsTrue chosen.records = sym made.records ∙ kept in
          choices_more script policy driver.choices.items new.choices.items world.moves next.moves move choice
          (ready.choices (sym records ∙ before)) picks means (made.choices before ∙ ap (λ (cs : List Choice). cs ++ choice ∷ []) choices) moves;
      drawn = made.drawn ∙ drawn ∙ ap (generator_at policy) (sym count);
    }

-- ---- A client has made no more steps than there are

one_at_most : (client : ℕ) (step : Step) → steps_in client step ≤ 1
one_at_most client (Ask node asker name mode) = at_most (asker == client)
  where
    at_most : (b : Bool) → (if b then 1 else 0) ≤ 1
    at_most true = omega arith
    at_most false = omega arith
one_at_most client (Leave node leaver name) = at_most (leaver == client)
  where
    at_most : (b : Bool) → (if b then 1 else 0) ≤ 1
    at_most true = omega arith
    at_most false = omega arith
one_at_most client (Cancel node waiter name) = omega arith
one_at_most client (Deliver message) = omega arith
one_at_most client (Lose message) = omega arith
one_at_most client (Repeat message) = omega arith
one_at_most client (Forget node) = omega arith

few_steps : (client : ℕ) (moves : List Move) → steps_by client (steps_of moves) ≤ length moves
few_steps client [] = omega arith
few_steps client (move ∷ moves) = let one = one_at_most client move.step in let rest = few_steps client moves in omega arith

pub countable : (script : ScriptState) (world : WorldState) (clients : List Progress) → Tracks script world clients
    → length world.moves + 1 < 2 ^ 64 → AreCountable clients
countable script world clients tracks fits k d within =
    let done = (tracks.each k d within).done in
    let few = few_steps (k + 1) world.moves in
    omega arith

-- ---- What a choice means can be done

contained : {X : Type 0} (xs : List X) (k : ℕ) (x : X) → slice_get xs k ≡ Some x → Contains xs x
contained [] k x e = absurd cc
contained (y ∷ xs) zero x e = (0, omega arith, cc)
contained (y ∷ xs) (suc k) x e =
    let (i, within, is) = contained xs k x e in (suc i, omega arith, is)

-- ---- The end

there_is_one : {X : Type 0} (xs : List X) (k : ℕ) → k < length xs → (x : X) × (slice_get xs k ≡ Some x)
there_is_one [] k less = absurd (omega arith)
there_is_one (x ∷ xs) zero less = (x, refl)
there_is_one (x ∷ xs) (suc k) less = there_is_one xs k (omega arith)

pub all_done : (script : ScriptState) (world : WorldState) (clients : List Progress) (steps : List Step) → Tracks script world clients
    → steps ≡ steps_of world.moves → AreDone script clients
    → (client : ℕ) (who : ScriptClient) → client_at script client ≡ Some who → steps_by client steps ≡ length who.ops
all_done script world clients steps tracks are done zero who is = absurd cc
all_done script world clients steps tracks are done (suc k) who is =
    let within : k < length clients = let less = within_clients script.clients k who is in let same = tracks.length_is in omega arith in
    let p = slice_index_or clients k opening_progress in
    let told = done k opening_progress within in
    let here : option_map (λ (w : ScriptClient). length w.ops) (client_at script (k + 1)) ≡ Some (length who.ops) =
    ap (option_map (λ (w : ScriptClient). length w.ops)) (at_next script k ∙ is) in
    let count : p.done ≡ length who.ops = same_some told here in
    let stands : p.done ≡ steps_by (k + 1) (steps_of world.moves) = (tracks.each k opening_progress within).done in
    let number : k + 1 ≡ suc k = omega arith in
    ap (steps_by (suc k)) are ∙ ap (λ (n : ℕ). steps_by n (steps_of world.moves)) (sym number) ∙ sym stands ∙ count

pub are_done : (script : ScriptState) (world : WorldState) (clients : List Progress) (steps : List Step) → Tracks script world clients
    → steps ≡ steps_of world.moves
    → ((client : ℕ) (who : ScriptClient) → client_at script client ≡ Some who → steps_by client steps ≡ length who.ops)
    → AreDone script clients
are_done script world clients steps tracks are done k d within =
    let (who, is) = there_is_one script.clients k (let same = tracks.length_is in omega arith) in
    let at = at_next script k ∙ is in
    let stands = (tracks.each k d within).done in
    let count = done (k + 1) who at in
    let same : (slice_index_or clients k d).done ≡ length who.ops = stands ∙ ap (steps_by (k + 1)) (sym are) ∙ count in
    ap (option_map (λ (w : ScriptClient). length w.ops)) at ∙ ap Some (sym same)

-- what is recorded if no choice is left
pub records_all : (script : ScriptState) (policy : Policy) (cluster : DrivenCluster) (limit : ℕ) (records : Bool)
    (driven : Driven) → IsThrough script policy limit records cluster
    → driven.steps.items ≡ cluster.driver.steps.items → driven.choices.items ≡ cluster.driver.choices.items → driven.summary.turns ≡ length cluster.world.moves
    → IsWholeRun script policy limit cluster.world.moves driven.summary.report driven.summary.finished → IsTrue driven.stuck ↔ IsStuckRun script cluster.world.moves
    → Records script policy limit records driven
records_all script policy cluster limit records driven through steps choices turns run stuck = record {
  moves = cluster.world.moves;
  run = run;
  steps = steps ∙ through.at_end.steps ∙ ap (λ (b : Bool). recorded b cluster.world.moves) through.records_as;
  choices = λ kept. subst (λ (cs : List Choice). AreChoicesBy script policy cs cluster.world.moves) (sym choices) (through.at_end.choices (through.records_as ∙ kept));
  turns = turns;
  stuck = stuck;
}

-- ---- A list that was lent whole comes back whole

pub whole : {X : Type 0} (xs ys : List X) (n : ℕ) → n ≡ length xs → take n (xs ++ ys) ≡ xs
whole xs ys n e = ap (λ (k : ℕ). take k (xs ++ ys)) e ∙ prefix_of xs ys
  where
    prefix_of : {X : Type 0} (xs ys : List X) → take (length xs) (xs ++ ys) ≡ xs
    prefix_of [] ys = refl
    prefix_of (x ∷ xs) ys = ap (λ zs. x ∷ zs) (prefix_of xs ys)

-- another client is not free
pub stuck_more : (script : ScriptState) (clients : List Progress) (place : ℕ) (e : Progress) (free : Bool) → WaitOrAreDone script clients place
    → IsTrue free ⊎ WaitsOrIsDone script (place + 1) (slice_index_or clients place e) → free ≡ false → WaitOrAreDone script clients (place + 1)
stuck_more script clients place e free so_far says not = λ k d below within.
    elim (cases_eq k place) [
      | inl same ↦
          let here : slice_index_or clients place e ≡ slice_index_or clients place d =
          lists.get_or_default clients place e d (subst (λ (i : ℕ). i < length clients) same within) in
          subst (λ (i : ℕ). WaitsOrIsDone script (i + 1) (slice_index_or clients i d)) (sym same)
          (subst (WaitsOrIsDone script (place + 1)) here (elim says [ inl is_free ↦ absurd (false≢true (sym not ∙ is_free)) | inr stuck ↦ stuck ]))
      | inr apart ↦ so_far k d (omega (arith, below, apart)) within
    ]
