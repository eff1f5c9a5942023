-- A cluster whose sites, post and gate are kept together, as contracts see it.
use Rattle.std.specs.Prelude.{◌≡◌, ◌↔◌, ℕ, Bool, Result, IfOk, IsErrOf, IsOkUnless}
use Rattle.ra_stamp.specs.NodeId.{IsNodeNumber}
use Rattle.ra_site.specs.declared.post.NewPostError.{NewPostError}
use Rattle.ra_site.specs.declared.post.NewPostError.TheVariants.{BadCount, Memory}

-- how many nodes the cluster has, the highest number with which each resource begins, and whether it is audited while
-- it runs, so that its books need not be whole
pub record ClusterState : Type 0 where
  pub nodes : ℕ
  pub start : ℕ
  pub audited : Bool

-- `BadCount` is answered exactly if there can't be this many nodes, and `Memory` is the only other error
pub record ChecksCount {T : Type 0} (nodes : ℕ) (answer : Result T NewPostError) : Type 0 where
  pub bad_count : IsErrOf answer BadCount ↔ (IsNodeNumber nodes → ⊥)
  pub allowed : IsOkUnless answer Memory ↔ IsNodeNumber nodes

-- what is answered when a cluster of this many nodes is to be made, with this start, audited or not
pub record MakesCluster (nodes start : ℕ) (audited : Bool) (answer : Result ClusterState NewPostError) : Type 0 where
  pub made : IfOk answer (λ cluster. cluster ≡ record { nodes = nodes; start = start; audited = audited })
  pub count : ChecksCount nodes answer
