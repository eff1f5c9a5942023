use Rattle.std.proofs.Common.{◌≡◌, ◌≤◌, ℕ, List, Option, Some, length, sym, subst, inl, inr}
use Rattle.std.specs.Prelude.{IfSome, IsNone}
use Rattle.std.proofs.lemmas.Bool.{true≢false}
use Rattle.ra_world.specs.MainTheorem.{MainTheorem}
use Rattle.ra_world.specs.Traffic.{Move}
use Rattle.ra_world.specs.World.{Reports}
use Rattle.ra_schedule.specs.declared.choice.Policy.{Policy}
use Rattle.ra_schedule.specs.declared.error.DriveError.{DriveError}
use Rattle.ra_schedule.specs.declared.error.DriveError.TheVariants.{Memory}
use Rattle.ra_schedule.specs.Driving.{IsStoppedAfter}
use Rattle.ra_schedule.specs.Schedule.{Ends, Follows, Stops}
use Rattle.ra_schedule.specs.Script.{ScriptState}
use Rattle.ra_schedule.proofs.driver.until_refused.drive_until_refused.Goals as goal
use Rattle.ra_schedule.proofs.driver.until_refused.drive_until_refused.Goals.{in-Ok, in-Err+in_default}

-- what is known of moves that end in this refusal, or in none
abbrev IsKnown : ScriptState → Policy → ℕ → List Move → Option DriveError → Type 0
IsKnown script policy limit moves refusal = Follows script policy moves × (IsNone refusal → Ends script policy moves × (length moves ≤ limit))
    × IfSome refusal (Stops script policy limit moves)

refused : (script : ScriptState) (policy : Policy) (limit : ℕ) (moves : List Move) (fault : DriveError) (refusal : Option DriveError)
    → refusal ≡ Some fault → (fault ≡ Memory → ⊥) → IsStoppedAfter script policy limit moves fault → IsKnown script policy limit moves refusal
refused script policy limit moves fault refusal is not (inl memory) = absurd (not memory)
refused script policy limit moves fault refusal is not (inr (follows, stops)) = (
  follows,
  λ none. absurd (true≢false (subst IsNone is none)),
  subst (λ (o : Option DriveError). IfSome o (Stops script policy limit moves)) (sym is) stops,
)

pub returns : goal.returns
returns c =
    let script = c.args.script.now in
    let policy = c.args.policy.now in
    let limit = c.args.limit in
    let world = c.finish.new.world in
    let report = c.into_report.result in
    let (nodes, start) = c.finish.ensures.nodes in
    let known : IsKnown script policy limit world.moves c.match-finish.refusal =
    elim c.match-finish.branch [
      | in-Ok w ↦
          let (at_end, within) = w.in-Ok.ensures.ok in (
            at_end.follows,
            λ none. (at_end.ends, within),
            subst (λ (o : Option DriveError). IfSome o (Stops script policy limit world.moves)) (sym w.refusal-is) tt,
          )
      | in-Err+in_default w ↦ refused script policy limit world.moves w.in-Err.cause c.match-finish.refusal w.refusal-is w.in_default.not-Memory w.in-Err.ensures.err
    ] in
    record {
      moves = world.moves;
      follows = known.0;
      reports = subst (λ (n : ℕ). Reports n 0 world.moves report) nodes
          (subst (λ (s : ℕ). Reports world.count s world.moves report) start c.into_report.ensures.report);
      main_theorem = subst (λ (n : ℕ). MainTheorem n report) nodes c.into_report.ensures.main_theorem;
      turns = c.steps.ensures.value;
      ends = known.1;
      stops = known.2;
    }
