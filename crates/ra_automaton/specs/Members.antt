-- What is answered when something is made for a node of a cluster.
use Rattle.std.specs.Prelude.{◌↔◌, ◌<◌, ℕ, Result, IsErrOf}
use Rattle.ra_stamp.specs.NodeId.{IsNodeNumber}
use Rattle.ra_stamp.specs.declared.member.MemberError.{MemberError}
use Rattle.ra_stamp.specs.declared.member.MemberError.TheVariants.{BadCount, BadNode}
use Rattle.ra_automaton.specs.declared.error.NewError.{NewError}
use Rattle.ra_automaton.specs.declared.error.NewError.TheVariants as refusal

-- the refusal of the same name
abbrev pub new_error_of : MemberError → NewError
new_error_of BadCount = refusal.BadCount
new_error_of BadNode = refusal.BadNode

-- `BadCount` is answered exactly if there can't be this many nodes, otherwise `BadNode` exactly if the node is above
-- their number, and no other refusal
pub record ChecksMember {T : Type 0} (me nodes : ℕ) (answer : Result T NewError) : Type 0 where
  pub bad_count : IsErrOf answer refusal.BadCount ↔ (IsNodeNumber nodes → ⊥)
  pub bad_node : IsErrOf answer refusal.BadNode ↔ (IsNodeNumber nodes × (nodes < me))
  pub no_memory : IsErrOf answer refusal.Memory → ⊥
