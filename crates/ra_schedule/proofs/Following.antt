-- Moves that follow one policy are one list as far as they go, and end in one way.
use Rattle.std.proofs.Common.{◌≡◌, ◌⊎◌, ℕ, zero, suc, ◌<◌, ◌≤◌, Option, Some, None, Result, Ok, Err, List, [], ◌∷◌, ◌++◌, length, take, drop, refl, sym, ap, ◌∙◌, subst, arith, inl, inr}
use Rattle.std.proofs.lemmas.List as lists
use Rattle.ra_stamp.specs.NodeId.{IsNodeNumber}
use Rattle.ra_world.specs.declared.step.Step.{Step}
use Rattle.ra_world.specs.Traffic.{Move}
use Rattle.ra_world.specs.Run.{IsRun}
use Rattle.ra_schedule.specs.declared.choice.Choice.{Choice}
use Rattle.ra_schedule.specs.declared.choice.Policy.{Policy}
use Rattle.ra_schedule.specs.declared.error.DriveError.{DriveError}
use Rattle.ra_schedule.specs.declared.error.DriveError.TheVariants.{TurnLimit, BadPlace, NotEnabled, Memory}
use Rattle.ra_schedule.specs.Script.{ScriptState}
use Rattle.ra_schedule.specs.Schedule.{steps_of, StandsFor, Picks, IsBadPlace, IsNotEnabled, Ends, Follows, Stops}
use Rattle.ra_schedule.specs.Drive.{Answers}
use Rattle.ra_schedule.specs.Driving.{IsRefused, IsStoppedAfter}
use Rattle.ra_schedule.specs.Below.{LawsBelow}
use Rattle.ra_schedule.proofs.Lists.{split_last, at_place}
use Rattle.ra_schedule.proofs.Waiting.{steps_of-append}
use Rattle.ra_schedule.proofs.Choosing.{means_one, picks_one, no_bad_place, not_refused, one_fault}

-- after no move a policy is followed
pub follows_none : (script : ScriptState) (policy : Policy) → IsRun script.nodes 0 [] → Follows script policy []
follows_none script policy run = record { run = run; each = λ before after move is. absurd (nothing before after move is) }
  where
    nothing : (before after : List Move) (move : Move) → [] ≡ before ++ move ∷ after → ⊥
    nothing [] after move is = cc
    nothing (x ∷ before) after move is = cc

pub follows_more : (script : ScriptState) (policy : Policy) (moves : List Move) (move : Move) (choice : Choice)
    → Follows script policy moves → Picks script policy moves choice → StandsFor script moves choice move.step
    → IsRun script.nodes 0 (moves ++ move ∷ []) → Follows script policy (moves ++ move ∷ [])
follows_more script policy moves move choice follows picks means run =
    record {
      run = run;
      each = λ before after this is. elim (split_last moves move before after this is) [
        | inl h ↦ (
          choice,
          subst (λ (ms : List Move). Picks script policy ms choice) (sym h.0) picks,
          subst (λ (m : Move). StandsFor script before choice m.step) (sym h.1)
              (subst (λ (ms : List Move). StandsFor script ms choice move.step) (sym h.0) means),
        )
        | inr h ↦ follows.each before h.0 this h.2
      ];
    }

-- what was chosen after the first n moves
chosen : (script : ScriptState) (policy : Policy) (moves : List Move) (n : ℕ) → Follows script policy moves → n < length moves
    → (move : Move) × (choice : Choice) × Picks script policy (take n moves) choice × StandsFor script (take n moves) choice move.step
    × (take (suc n) moves ≡ take n moves ++ move ∷ [])
chosen script policy moves n follows within =
    let (move, whole, prefix_is) = at_place n moves within in
    let (choice, picks, means) = follows.each (take n moves) (drop (suc n) moves) move whole in
    (move, choice, picks, means, prefix_is)

-- a prefix of a run is one
prefix_runs : LawsBelow → (n start k : ℕ) (moves : List Move) → IsRun n start moves → IsRun n start (take k moves)
prefix_runs laws n start k moves run =
    laws.prefixes n start (take k moves) (drop k moves) (subst (IsRun n start) (sym (lists.take-append-drop k moves)) run)

pub same_prefix : LawsBelow → (script : ScriptState) (policy : Policy) (a b : List Move) → IsNodeNumber script.nodes
    → Follows script policy a → Follows script policy b → (n : ℕ) → n ≤ length a → n ≤ length b → take n a ≡ take n b
same_prefix laws script policy a b count f g zero la lb = refl
same_prefix laws script policy a b count f g (suc n) la lb =
    let before : take n a ≡ take n b = same_prefix laws script policy a b count f g n (omega arith) (omega arith) in
    let (move, choice, picks, means, prefix_is) = chosen script policy a n f (omega arith) in
    let (move', choice', picks', means', prefix_is') = chosen script policy b n g (omega arith) in
    let picks'' = subst (λ (ms : List Move). Picks script policy ms choice') (sym before) picks' in
    let one : choice ≡ choice' = picks_one laws.one_list script policy (take n a) choice choice' picks picks'' in
    let means'' = subst (λ (x : Choice). StandsFor script (take n a) x move'.step) (sym one)
    (subst (λ (ms : List Move). StandsFor script ms choice' move'.step) (sym before) means') in
    let step : move.step ≡ move'.step = means_one laws.one_list script (take n a) choice move.step move'.step means means'' in
    let left : steps_of (take (suc n) a) ≡ steps_of (take n a) ++ move.step ∷ [] = ap steps_of prefix_is ∙ steps_of-append (take n a) (move ∷ []) in
    let right : steps_of (take (suc n) b) ≡ steps_of (take n b) ++ move'.step ∷ [] = ap steps_of prefix_is' ∙ steps_of-append (take n b) (move' ∷ []) in
    let steps : steps_of (take (suc n) a) ≡ steps_of (take (suc n) b) =
    left ∙ ap (λ (s : Step). steps_of (take n a) ++ s ∷ []) step ∙ ap (λ (ms : List Move). steps_of ms ++ move'.step ∷ []) before ∙ sym right in
    laws.determined script.nodes 0 (take (suc n) a) (take (suc n) b) count
    (prefix_runs laws script.nodes 0 (suc n) a f.run) (prefix_runs laws script.nodes 0 (suc n) b g.run) steps

pub same_moves : LawsBelow → (script : ScriptState) (policy : Policy) (a b : List Move) → IsNodeNumber script.nodes
    → Follows script policy a → Follows script policy b → length a ≡ length b → a ≡ b
same_moves laws script policy a b count f g e =
    sym (lists.take_all (length a) a (omega arith)) ∙ same_prefix laws script policy a b count f g (length a) (omega arith) (omega arith)
    ∙ lists.take_all (length a) b (omega arith)

-- after the shorter of two lists a choice was made that means a step
pub goes_further : LawsBelow → (script : ScriptState) (policy : Policy) (a b : List Move) → IsNodeNumber script.nodes
    → Follows script policy a → Follows script policy b → length a < length b
    → (choice : Choice) × (step : Step) × Picks script policy a choice × StandsFor script a choice step
goes_further laws script policy a b count f g less =
    let (move, choice, picks, means, prefix_is) = chosen script policy b (length a) g less in
    let here : take (length a) b ≡ a =
    sym (same_prefix laws script policy a b count f g (length a) (omega arith) (omega arith)) ∙ lists.take_all (length a) a (omega arith) in (
      choice,
      move.step,
      subst (λ (ms : List Move). Picks script policy ms choice) here picks,
      subst (λ (ms : List Move). StandsFor script ms choice move.step) here means,
    )

-- how the moves of a policy end: with no choice left, or with a refusal
abbrev pub EndsBy : ScriptState → Policy → ℕ → List Move → Option DriveError → Type 0
EndsBy script policy limit moves None = Ends script policy moves × (length moves ≤ limit)
EndsBy script policy limit moves (Some cause) = Stops script policy limit moves cause

-- if they end, they go no further
no_further : LawsBelow → (script : ScriptState) (policy : Policy) (limit : ℕ) (moves : List Move) (why : Option DriveError)
    → EndsBy script policy limit moves why → length moves < limit → (choice : Choice) (step : Step)
    → Picks script policy moves choice → StandsFor script moves choice step → ⊥
no_further laws script policy limit moves None ends less choice step picks means = ends.0 choice picks
no_further laws script policy limit moves (Some TurnLimit) ends less choice step picks means = absurd (omega arith)
no_further laws script policy limit moves (Some BadPlace) (short, (other, picked, bad)) less choice step picks means =
    let same = picks_one laws.one_list script policy moves choice other picks picked in
    no_bad_place script moves choice step means (subst (IsBadPlace script moves) (sym same) bad)
no_further laws script policy limit moves (Some NotEnabled) (short, (other, picked, bad)) less choice step picks means =
    let same = picks_one laws.one_list script policy moves choice other picks picked in
    not_refused script moves choice step means (subst (IsNotEnabled script moves) (sym same) bad)
no_further laws script policy limit moves (Some Memory) ends less choice step picks means = ends

within_limit : (script : ScriptState) (policy : Policy) (limit : ℕ) (moves : List Move) (why : Option DriveError)
    → EndsBy script policy limit moves why → length moves ≤ limit
within_limit script policy limit moves None ends = ends.1
within_limit script policy limit moves (Some TurnLimit) ends = omega arith
within_limit script policy limit moves (Some BadPlace) ends = omega arith
within_limit script policy limit moves (Some NotEnabled) ends = omega arith
within_limit script policy limit moves (Some Memory) ends = absurd ends

-- the same moves end in one way
one_way : LawsBelow → (script : ScriptState) (policy : Policy) (limit : ℕ) (moves : List Move) (a b : Option DriveError)
    → EndsBy script policy limit moves a → EndsBy script policy limit moves b → a ≡ b
one_way laws script policy limit moves None None h g = refl
one_way laws script policy limit moves None (Some TurnLimit) h (len, (choice, picks)) = absurd (h.0 choice picks)
one_way laws script policy limit moves None (Some BadPlace) h (len, (choice, picks, bad)) = absurd (h.0 choice picks)
one_way laws script policy limit moves None (Some NotEnabled) h (len, (choice, picks, bad)) = absurd (h.0 choice picks)
one_way laws script policy limit moves None (Some Memory) h g = absurd g
one_way laws script policy limit moves (Some TurnLimit) None (len, (choice, picks)) g = absurd (g.0 choice picks)
one_way laws script policy limit moves (Some TurnLimit) (Some TurnLimit) h g = refl
one_way laws script policy limit moves (Some TurnLimit) (Some BadPlace) (len, more) (less, rest) = absurd (omega arith)
one_way laws script policy limit moves (Some TurnLimit) (Some NotEnabled) (len, more) (less, rest) = absurd (omega arith)
one_way laws script policy limit moves (Some TurnLimit) (Some Memory) h g = absurd g
one_way laws script policy limit moves (Some BadPlace) None (len, (choice, picks, bad)) g = absurd (g.0 choice picks)
one_way laws script policy limit moves (Some BadPlace) (Some TurnLimit) (less, rest) (len, more) = absurd (omega arith)
one_way laws script policy limit moves (Some BadPlace) (Some BadPlace) h g = refl
one_way laws script policy limit moves (Some BadPlace) (Some NotEnabled) (less, (choice, picks, bad)) (less', (choice', picks', bad')) =
    let same = picks_one laws.one_list script policy moves choice choice' picks picks' in
    absurd (one_fault script moves choice bad (subst (IsNotEnabled script moves) (sym same) bad'))
one_way laws script policy limit moves (Some BadPlace) (Some Memory) h g = absurd g
one_way laws script policy limit moves (Some NotEnabled) None (len, (choice, picks, bad)) g = absurd (g.0 choice picks)
one_way laws script policy limit moves (Some NotEnabled) (Some TurnLimit) (less, rest) (len, more) = absurd (omega arith)
one_way laws script policy limit moves (Some NotEnabled) (Some BadPlace) (less, (choice, picks, bad)) (less', (choice', picks', bad')) =
    let same = picks_one laws.one_list script policy moves choice choice' picks picks' in
    absurd (one_fault script moves choice (subst (IsBadPlace script moves) (sym same) bad') bad)
one_way laws script policy limit moves (Some NotEnabled) (Some NotEnabled) h g = refl
one_way laws script policy limit moves (Some NotEnabled) (Some Memory) h g = absurd g
one_way laws script policy limit moves (Some Memory) b h g = absurd h

-- which of two numbers is less, if one is
compare : (x y : ℕ) → (x < y) ⊎ ((x ≡ y) ⊎ (y < x))
compare zero zero = inr (inl refl)
compare zero (suc y) = inl (omega arith)
compare (suc x) zero = inr (inr (omega arith))
compare (suc x) (suc y) =
    elim (compare x y) [
      | inl less ↦ inl (omega arith)
      | inr rest ↦ elim rest [
        | inl same ↦ inr (inl (ap suc same))
        | inr more ↦ inr (inr (omega arith))
      ]
    ]

-- a policy ends in one way
pub one_ending : LawsBelow → (script : ScriptState) (policy : Policy) (limit : ℕ) (a b : List Move) (why other : Option DriveError)
    → IsNodeNumber script.nodes → Follows script policy a → Follows script policy b
    → EndsBy script policy limit a why → EndsBy script policy limit b other → why ≡ other
one_ending laws script policy limit a b why other count f g h k =
    let la = within_limit script policy limit a why h in
    let lb = within_limit script policy limit b other k in
    elim (compare (length a) (length b)) [
      | inl less ↦
          let (choice, step, picks, means) = goes_further laws script policy a b count f g less in
          absurd (no_further laws script policy limit a why h (omega arith) choice step picks means)
      | inr rest ↦
          elim rest [
            | inl same ↦
                let e = same_moves laws script policy a b count f g same in
                one_way laws script policy limit a why other h (subst (λ (ms : List Move). EndsBy script policy limit ms other) (sym e) k)
            | inr more ↦
                let (choice, step, picks, means) = goes_further laws script policy b a count g f more in
                absurd (no_further laws script policy limit b other k (omega arith) choice step picks means)
          ]
    ]

-- a choice that can't be made stops the policy
pub refused_here : (script : ScriptState) (policy : Policy) (limit : ℕ) (moves : List Move) (choice : Choice) (fault : DriveError)
    → Picks script policy moves choice → length moves < limit
    → ((fault ≡ BadPlace) × IsBadPlace script moves choice) ⊎ ((fault ≡ NotEnabled) × IsNotEnabled script moves choice)
    → Stops script policy limit moves fault
refused_here script policy limit moves choice fault picks less (inl (is, bad)) =
    subst (Stops script policy limit moves) (sym is) (less, (choice, picks, bad))
refused_here script policy limit moves choice fault picks less (inr (is, not)) =
    subst (Stops script policy limit moves) (sym is) (less, (choice, picks, not))

pub stopped_here : (script : ScriptState) (policy : Policy) (limit : ℕ) (moves : List Move) (fault : DriveError)
    → Follows script policy moves → length moves < limit → IsRefused script policy moves fault → IsStoppedAfter script policy limit moves fault
stopped_here script policy limit moves fault follows less (choice, picks, inl memory) = inl memory
stopped_here script policy limit moves fault follows less (choice, picks, inr cause) =
    inr (follows, refused_here script policy limit moves choice fault picks less cause)

-- ---- What is answered

none_some : {X : Type 0} {x : X} → None ≡ Some x → ⊥
none_some e = cc

some_same : {X : Type 0} {x y : X} → Some x ≡ Some y → x ≡ y
some_same e = cc

err_same : {X : Type 0} {x y : DriveError} → ◌≡◌ {A = Result X DriveError} (Err x) (Err y) → x ≡ y
err_same e = cc

no_ok : {X : Type 0} {x : X} {y : DriveError} → Ok x ≡ Err y → ⊥
no_ok e = cc

-- an end if no choice is left
pub answers_ok : {X : Type 0} → LawsBelow → (script : ScriptState) (policy : Policy) (limit : ℕ) (moves : List Move) (value : X)
    → IsNodeNumber script.nodes → Follows script policy moves → Ends script policy moves → length moves ≤ limit
    → Answers script policy limit (Ok value)
answers_ok laws script policy limit moves value count follows ends within = record {
  refused = λ cause apart is. absurd (no_ok is);
  exact = λ cause other follows' stops.
      absurd (none_some (one_ending laws script policy limit moves other None (Some cause) count follows follows' (ends, within) stops));
  allowed = λ other follows' ends' within'. tt;
}

-- an end by a refusal
pub answers_err : {X : Type 0} → LawsBelow → (script : ScriptState) (policy : Policy) (limit : ℕ) (moves : List Move) (fault : DriveError)
    → IsNodeNumber script.nodes → IsStoppedAfter script policy limit moves fault → Answers {X = X} script policy limit (Err fault)
answers_err laws script policy limit moves fault count (inl memory) = record {
  refused = λ cause apart is. absurd (apart (sym (err_same is) ∙ memory));
  exact = λ cause other follows stops. inr (ap Err memory);
  allowed = λ other follows ends within. memory;
}
answers_err laws script policy limit moves fault count (inr (follows, stops)) = record {
  refused = λ cause apart is. (moves, follows, subst (Stops script policy limit moves) (err_same is) stops);
  exact = λ cause other follows' stops'.
      inl (ap Err (some_same (one_ending laws script policy limit moves other (Some fault) (Some cause) count follows follows' stops stops')));
  allowed = λ other follows' ends within.
      absurd (none_some (one_ending laws script policy limit other moves None (Some fault) count follows' follows (ends, within) stops));
}

-- if two lists of moves follow a policy to its end, they are one
pub one_run : LawsBelow → (script : ScriptState) (policy : Policy) (a b : List Move) → IsNodeNumber script.nodes
    → Follows script policy a → Ends script policy a → Follows script policy b → Ends script policy b → a ≡ b
one_run laws script policy a b count f ends g end =
    elim (compare (length a) (length b)) [
      | inl less ↦ let (choice, step, picks, means) = goes_further laws script policy a b count f g less in absurd (ends choice picks)
      | inr rest ↦
          elim rest [
            | inl same ↦ same_moves laws script policy a b count f g same
            | inr more ↦ let (choice, step, picks, means) = goes_further laws script policy b a count g f more in absurd (end choice picks)
          ]
    ]
