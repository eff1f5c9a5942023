-- What a refusal is that `?` passes on.
use Rattle.std.proofs.Common.{◌≡◌, ◌≢◌, ℕ, List, Result, Ok, Err, sym, subst}
use Rattle.std.specs.Prelude.{IfErr, IsErrAnd}
use Rattle.ra_text.specs.declared.error.ReadFault.{ReadFault}
use Rattle.ra_text.specs.declared.error.ReadFault.TheVariants as read
use Rattle.ra_schedule.specs.declared.error.ChoicesError.{ChoicesError}
use Rattle.ra_schedule.specs.declared.error.ChoicesError.TheVariants as choices
use Rattle.ra_script.specs.declared.error.ScriptError.{ScriptError}
use Rattle.ra_script.specs.declared.error.ScriptError.TheVariants as script
use Rattle.ra_cluster.specs.declared.cluster_run.ClusterError.{ClusterError}
use Rattle.ra_cluster.specs.declared.cluster_run.ClusterError.TheVariants as cluster
use Rattle.ra_cli.specs.declared.error.RunScriptError.TheVariants as fault
use Rattle.ra_cli.specs.ClusterRun.{RefusesRun, of_read, of_script, of_choices, of_cluster}

-- what holds of the refusal holds of the result
pub passed : {V E : Type 0} (r : Result V E) (x : E) (P : E → Type 0) → IsErrAnd r (λ e. e ≡ x) → P x → IfErr r P
passed (Ok v) x P is h = absurd is
passed (Err e) x P is h = subst P (sym is) h

-- ---- That of a reader

pub read_no_cluster : (why : ReadFault) (other : ClusterError) → of_read why ≢ fault.Cluster other
read_no_cluster read.Read other e = absurd cc
read_no_cluster read.Memory other e = absurd cc

pub read_failed : (why : ReadFault) → of_read why ≡ fault.Read → why ≡ read.Read
read_failed read.Read e = cc
read_failed read.Memory e = absurd cc

pub unread_is_refused : (why : ReadFault) (input : List ℕ) → RefusesRun input (of_read why)
unread_is_refused read.Read input = tt
unread_is_refused read.Memory input = tt

-- ---- That of a text that is no script

pub script_no_read : {A : Type 0} (why : ScriptError) → of_script why ≡ fault.Read → A
script_no_read script.Toml e = absurd cc
script_no_read script.Shape e = absurd cc
script_no_read script.Nodes e = absurd cc
script_no_read script.Clients e = absurd cc
script_no_read script.Op e = absurd cc
script_no_read script.NotHeld e = absurd cc
script_no_read script.AlreadyHeld e = absurd cc
script_no_read script.Limit e = absurd cc
script_no_read script.Memory e = absurd cc

pub script_no_cluster : (why : ScriptError) (other : ClusterError) → of_script why ≢ fault.Cluster other
script_no_cluster script.Toml other e = absurd cc
script_no_cluster script.Shape other e = absurd cc
script_no_cluster script.Nodes other e = absurd cc
script_no_cluster script.Clients other e = absurd cc
script_no_cluster script.Op other e = absurd cc
script_no_cluster script.NotHeld other e = absurd cc
script_no_cluster script.AlreadyHeld other e = absurd cc
script_no_cluster script.Limit other e = absurd cc
script_no_cluster script.Memory other e = absurd cc

-- ---- That of threads

pub cluster_no_read : {A : Type 0} (why : ClusterError) → of_cluster why ≡ fault.Read → A
cluster_no_read cluster.OutOfOrder e = absurd cc
cluster_no_read cluster.Unreleased e = absurd cc
cluster_no_read (cluster.Fault stop) e = absurd cc
cluster_no_read cluster.Settle e = absurd cc
cluster_no_read cluster.PlanUnmet e = absurd cc
cluster_no_read cluster.Lost e = absurd cc
cluster_no_read cluster.UnderWay e = absurd cc
cluster_no_read cluster.Memory e = absurd cc

-- ---- That of choices without words

pub choices_no_read : {A : Type 0} (why : ChoicesError) → of_choices why ≡ fault.Read → A
choices_no_read choices.Choice e = absurd cc
choices_no_read choices.Memory e = absurd cc
