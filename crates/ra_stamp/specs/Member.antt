-- A node among the nodes of a cluster.
use Rattle.std.specs.Prelude.{ℕ, ◌≤◌, refl}
use Rattle.std.specs.Coded.{Coded, code_by, coded×, coded_ℕ}
use Rattle.ra_stamp.specs.NodeId.{IsNodeNumber}

-- there are 1 to 64 nodes, and the node is one of them
pub record IsMember (node nodes : ℕ) : Type 0 where
  pub count : IsNodeNumber nodes
  pub first : 1 ≤ node
  pub last : node ≤ nodes

-- a node's number, and how many nodes there are
pub record Membership : Type 0 where
  pub node : ℕ
  pub nodes : ℕ

-- it is stored as its fields
abbrev pub member_code : Coded Membership
member_code = code_by (ℕ × ℕ) (coded× coded_ℕ coded_ℕ) (λ m. (m.node, m.nodes))
    (λ p. record { node = p.0; nodes = p.1 }) (λ _. refl)
