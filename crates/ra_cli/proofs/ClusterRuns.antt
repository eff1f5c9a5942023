-- The outcome of a script that threads run, in terms of the input.
use Rattle.std.proofs.Common.{◌≡◌, ◌↔◌, ℕ, List, Option, Some, None, Ok, Err, Result, refl}
use Rattle.std.specs.Prelude.{IfErr, IfSome, IsErrOf}
use Rattle.std.specs.Io.KnownBytes.{Consumes, Appends}
use Rattle.ra_schedule.specs.Script.{ScriptState}
use Rattle.ra_script.specs.ScriptText.{script_of}
use Rattle.ra_cluster.specs.declared.cluster_run.ClusterError.{ClusterError}
use Rattle.ra_cluster.specs.declared.cluster_run.ClusterError.TheVariants as cluster
use Rattle.ra_schedule.specs.LockOrder.{IsOutOfOrder, IsUnreleased}
use Rattle.ra_cli.specs.ClusterRun.{IsClusterRun, RunsCluster, RefusesRun, MayRun, SaysScript, of_cluster}
use Rattle.ra_arguments.specs.declared.cluster_output.ClusterOutput.{ClusterOutput}

-- a fact on the known bytes leads to another one
pub of_known : (old : Option (List ℕ)) (P Q : List ℕ → Type 0) → ((input : List ℕ) → P input → Q input) → IfSome old P → IfSome old Q
of_known None P Q f h = tt
of_known (Some input) P Q f h = f input h

-- what is printed of a run of the script of a text is printed of the input
pub runs_input : (printed : ClusterOutput) (old new : Option (List ℕ)) (script : ScriptState) (output : List ℕ)
    → IfSome old (λ input. (script_of input ≡ Ok script) × Consumes old new input) → SaysScript printed script output
    → IfSome old (λ input. IsClusterRun printed input output × Consumes old new input)
runs_input printed old new script output known says =
    of_known old (λ input. (script_of input ≡ Ok script) × Consumes old new input) (λ input. IsClusterRun printed input output × Consumes old new input)
    (λ input h. ((script, h.0, says), h.1)) known

-- why the script of a text is refused is why the input is
pub refuses_known : {X E : Type 0} (result : Result X E) (old new : Option (List ℕ)) (script : ScriptState) (Refuses : List ℕ → E → Type 0)
    → IfSome old (λ input. (script_of input ≡ Ok script) × Consumes old new input)
    → IfErr result (λ why. (input : List ℕ) → script_of input ≡ Ok script → Refuses input why)
    → IfErr result (λ why. IfSome old (λ input. Refuses input why))
refuses_known (Ok answer) old new script Refuses known h = tt
refuses_known (Err why) old new script Refuses known h =
    of_known old (λ input. (script_of input ≡ Ok script) × Consumes old new input) (λ input. Refuses input why) (λ input k. h input k.0) known

-- what is printed of the input was written
pub runs_cluster : (printed : ClusterOutput) (old new before after : Option (List ℕ)) (output : List ℕ)
    → IfSome old (λ input. IsClusterRun printed input output × Consumes old new input) → (text : List ℕ) × IsClusterRun printed text output
    → Appends before after output → RunsCluster printed old new before after
runs_cluster printed old new before after output known some appends = (
  of_known old (λ input. IsClusterRun printed input output × Consumes old new input)
      (λ input. (out : List ℕ) × IsClusterRun printed input out × Consumes old new input × Appends before after out)
      (λ input h. (output, h.0, h.1, appends)) known,
  (some.0, output, some.1, appends),
)

-- a refusal that is not one of the two first
may_run : {X : Type 0} (script : ScriptState) (result : Result X ClusterError) → (IsErrOf result cluster.OutOfOrder → ⊥) → (IsErrOf result cluster.Unreleased → ⊥)
    → IsErrOf result cluster.OutOfOrder ↔ IsOutOfOrder script
    → IsErrOf result cluster.Unreleased ↔ ((IsOutOfOrder script → ⊥) × IsUnreleased script) → MayRun script
may_run script result first second o u = (λ h. first (o.1 h), λ h. second (u.1 (λ k. first (o.1 k), h)))

-- if threads do not run the script of a text, or not to its end
pub refuses_cluster : {X : Type 0} (text : List ℕ) (script : ScriptState) (why : ClusterError) → script_of text ≡ Ok script
    → IsErrOf {T = X} (Err why) cluster.OutOfOrder ↔ IsOutOfOrder script
    → IsErrOf {T = X} (Err why) cluster.Unreleased ↔ ((IsOutOfOrder script → ⊥) × IsUnreleased script) → RefusesRun text (of_cluster why)
refuses_cluster text script cluster.OutOfOrder is o u = (script, is, o.0 refl)
refuses_cluster text script cluster.Unreleased is o u = (script, is, u.0 refl)
refuses_cluster text script (cluster.Fault stop) is o u = (script, is, may_run script (Err (cluster.Fault stop)) (λ e. absurd cc) (λ e. absurd cc) o u)
refuses_cluster text script cluster.Settle is o u = (script, is, may_run script (Err cluster.Settle) (λ e. absurd cc) (λ e. absurd cc) o u)
refuses_cluster text script cluster.PlanUnmet is o u = (script, is, may_run script (Err cluster.PlanUnmet) (λ e. absurd cc) (λ e. absurd cc) o u)
refuses_cluster text script cluster.Lost is o u = (script, is, may_run script (Err cluster.Lost) (λ e. absurd cc) (λ e. absurd cc) o u)
refuses_cluster text script cluster.UnderWay is o u = (script, is, may_run script (Err cluster.UnderWay) (λ e. absurd cc) (λ e. absurd cc) o u)
refuses_cluster text script cluster.Memory is o u = tt
