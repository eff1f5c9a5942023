-- A list of steps that a world refuses at a place is no run.
use Rattle.std.proofs.Common.{◌≡◌, ◌≢◌, ◌⊎◌, ◌↔◌, ℕ, ◌+◌, ◌-◌, ◌<◌, List, [], ◌∷◌, ◌++◌, map, length, take, drop, get_or, refl, sym, ap, ◌∙◌, subst, arith, inl, inr}
use Rattle.std.specs.Prelude.{slice_get, Result, Ok, Err}
use Rattle.std.proofs.lemmas.List.{take_more, take-append-drop}
use Rattle.std.proofs.lemmas.Option.{slice_get_read}
use Rattle.ra_stamp.specs.NodeId.{IsNodeNumber}
use Rattle.ra_stamp.specs.declared.entry.Mark.{Mark}
use Rattle.ra_stamp.specs.declared.message.Message.{Message}
use Rattle.ra_world.specs.declared.step.Step.{Step}
use Rattle.ra_world.specs.declared.error.StepError.{StepError}
use Rattle.ra_world.specs.declared.error.StepError.TheVariants.{NoNode, NotUnderWay, Node, Memory}
use Rattle.ra_world.specs.declared.error.RunError.{RunError}
use Rattle.ra_world.specs.declared.error.RunError.TheVariants as run
use Rattle.ra_world.specs.Traffic.{Move}
use Rattle.ra_world.specs.Run.{IsRun, WorldRun, GoesOn}
use Rattle.ra_world.specs.World.{WorldState, with_move, HasCause, HasMade}
use Rattle.ra_world.specs.Refused.{IsRefusedAt, StopsBefore}

pub memory_or_not : (cause : StepError) → (cause ≡ Memory) ⊎ (cause ≢ Memory)
memory_or_not NoNode = inr (λ e. cc)
memory_or_not NotUnderWay = inr (λ e. cc)
memory_or_not (Node why) = inr (λ e. cc)
memory_or_not Memory = inl refl

-- what is made is no refusal
pub no_fault : {T E : Type 0} {v : T} {e : E} → ◌≡◌ {A = Result T E} (Ok v) (Err e) → ⊥
no_fault is = absurd cc

-- one end of a run, and what it says of a step that is refused
pub one_end : {T : Type 0} {a b : RunError} → ◌≡◌ {A = Result T RunError} (Err a) (Err b) → a ≡ b
one_end is = cc

pub one_refusal : {p q : ℕ} {a b : StepError} → run.Refused p a ≡ run.Refused q b → (p ≡ q) × (a ≡ b)
one_refusal is = (cc, cc)

pub no_refusal : {place : ℕ} {cause : StepError} → run.Memory ≡ run.Refused place cause → ⊥
no_refusal is = absurd cc

-- a step that is refused is no bad count of nodes
pub no_count : {place : ℕ} {cause : StepError} → run.Refused place cause ≡ run.BadCount → ⊥
no_count is = absurd cc

-- nor is it that memory ran out
pub memory_no_count : run.Memory ≡ run.BadCount → ⊥
memory_no_count is = absurd cc

of_world : (n start : ℕ) (world : WorldState) (P : ℕ → ℕ → Type 0) → world.count ≡ n → world.start ≡ start → P world.count world.start → P n start
of_world n start world P count start_is holds = subst (λ (s : ℕ). P n s) start_is (subst (λ (k : ℕ). P k world.start) count holds)

to_world : (n start : ℕ) (world : WorldState) (P : ℕ → ℕ → Type 0) → world.count ≡ n → world.start ≡ start → P n start → P world.count world.start
to_world n start world P count start_is holds =
    subst (λ (s : ℕ). P world.count s) (sym start_is) (subst (λ (k : ℕ). P k start) (sym count) holds)

pushed_step : (moves : List Move) (move : Move) → map (λ (m : Move). m.step) (moves ++ move ∷ []) ≡ map (λ (m : Move). m.step) moves ++ move.step ∷ []
pushed_step [] move = refl
pushed_step (x ∷ moves) move = ap (λ (steps : List Step). x.step ∷ steps) (pushed_step moves move)

-- the next step was made
pub made_next : (n start place : ℕ) (steps : List Step) (step : Step) (world new : WorldState) (sends : List Message) (marks : List Mark)
    → HasMade n start (take place steps) world → place < length steps → step ≡ get_or steps place step → new ≡ with_move world step sends marks
    → IsRun new.count new.start new.moves → HasMade n start (take (place + 1) steps) new
made_next n start place steps step world new sends marks made inside is moved run =
    let count = ap (λ (w : WorldState). w.count) moved ∙ made.count in
    let start_is = ap (λ (w : WorldState). w.start) moved ∙ made.start_is in
    let more : take (place + 1) steps ≡ take place steps ++ step ∷ [] =
    take_more steps place step inside ∙ ap (λ (s : Step). take place steps ++ s ∷ []) (sym is) in
    record {
      number = made.number;
      count = count;
      start_is = start_is;
      made = ap (λ (w : WorldState). map (λ (move : Move). move.step) w.moves) moved
          ∙ pushed_step world.moves (record { step = step; sends = sends; marks = marks })
          ∙ ap (λ (prefix : List Step). prefix ++ step ∷ []) made.made
          ∙ sym more;
      run = of_world n start new (λ k s. IsRun k s new.moves) count start_is run;
    }

module _
    (prefixes : (n start : ℕ) (prefix rest : List Step) → WorldRun n start (prefix ++ rest) → WorldRun n start prefix)
    (goes_on : (n start : ℕ) (moves : List Move) (step : Step) → IsNodeNumber n → IsRun n start moves
    → WorldRun n start (map (λ (move : Move). move.step) moves ++ step ∷ []) ↔ GoesOn n start moves step)
    (n start place : ℕ) (steps : List Step) (step : Step) (world : WorldState)
    (made : HasMade n start (take place steps) world)
    (inside : place < length steps)
    (is : step ≡ get_or steps place step)
    (stuck : GoesOn world.count world.start world.moves step → ⊥)
  where
    no_prefix : WorldRun n start (take (place + 1) steps) → ⊥
    no_prefix run =
        let more = take_more steps place step inside ∙ ap (λ (s : Step). take place steps ++ s ∷ []) (sym is)
        ∙ ap (λ (prefix : List Step). prefix ++ step ∷ []) (sym made.made) in
        let on = (goes_on n start world.moves step made.number made.run).0 (subst (WorldRun n start) more run) in
        stuck (to_world n start world (λ k s. GoesOn k s world.moves step) made.count made.start_is on)

    pub no_run : WorldRun n start steps → ⊥
    no_run run = no_prefix (prefixes n start (take (place + 1) steps) (drop (place + 1) steps) (subst (WorldRun n start) (sym (take-append-drop (place + 1) steps)) run))

    pub refused_there : (cause : StepError) → HasCause world.count world.start world.moves step cause → IsRefusedAt n start steps (place + 1) cause
    refused_there cause why =
        let before : place + 1 - 1 ≡ place = omega arith in
        record {
          from_one = omega arith;
          moves = world.moves;
          prefix = made.made ∙ ap (λ (k : ℕ). take k steps) (sym before);
          run = made.run;
          step = step;
          step_is = ap (slice_get steps) before ∙ slice_get_read steps (length steps) place step refl inside is;
          because = of_world n start world (λ k s. HasCause k s world.moves step cause) made.count made.start_is why;
          no_run = no_prefix;
        }

-- the next step can be made, and nothing changed when it was tried
pub stops_before : (n start place : ℕ) (steps : List Step) (step : Step) (world new : WorldState) → HasMade n start (take place steps) world
    → place < length steps → step ≡ get_or steps place step → GoesOn world.count world.start world.moves step → new ≡ world → StopsBefore n start steps new
stops_before n start place steps step world new made inside is on same =
    subst (StopsBefore n start steps) (sym same) (record {
      place = place;
      made = made;
      step = step;
      step_is = slice_get_read steps (length steps) place step refl inside is;
      goes_on = of_world n start world (λ k s. GoesOn k s world.moves step) made.count made.start_is on;
    })
