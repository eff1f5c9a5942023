-- Lemmas on names, and on the resources that a node has by them, for the proofs of this crate and of those above.
use Rattle.std.proofs.Common.{◌≡◌, ◌≢◌, ◌⊎◌, ℕ, Bool, true, false, ◌&&◌, T, cond, List, Option, Some, refl, sym, ap, ◌∙◌, subst, inl, inr}
use Rattle.std.specs.Prelude.{unwrap_or}
use Rattle.std.specs.Bool.{Decides}
use Rattle.std.specs.Ordering.{nat_cmp, eq_by_cmp}
use Rattle.std.specs.Cmp.Lexicographic.{slice_cmp, nat_list_cmp_total}
use Rattle.std.specs.FinMap as finmap
use Rattle.std.proofs.lemmas.Bool.{false≢true}
use Rattle.std.proofs.lemmas.Map.Text.{is_eq-slice_cmp}
use Rattle.std.proofs.lemmas.Slice.Eq.{bytes_eq-Decides}
use Rattle.ra_node.specs.Resource.{Resource, unmet}
use Rattle.ra_node.specs.Node.{NodeState, opening_node, resource_at, with_resource}

-- a list is in order by a test of its first key and one of the rest
pub true_of : (a b : Bool) → T (a && b) → T a × T b
true_of true true t = (tt, tt)
true_of true false t = absurd t
true_of false b t = absurd t

-- names compare as equal exactly if they are the same
pub names-Decides : (a b : List ℕ) → Decides (eq_by_cmp (slice_cmp nat_cmp) a b) (a ≡ b)
names-Decides a b = subst (λ (t : Bool). Decides t (a ≡ b)) (sym (is_eq-slice_cmp a b)) (bytes_eq-Decides a b)

pub same_name : (a b : List ℕ) → a ≡ b → eq_by_cmp (slice_cmp nat_cmp) a b ≡ true
same_name a b same = (names-Decides a b).1 same

pub other_name : (a b : List ℕ) → a ≢ b → eq_by_cmp (slice_cmp nat_cmp) a b ≡ false
other_name a b apart =
    elim (eq_by_cmp (slice_cmp nat_cmp) a b) as (λ t. eq_by_cmp (slice_cmp nat_cmp) a b ≡ t → t ≡ false) [
      | true ↦ λ e. absurd (apart ((names-Decides a b).0 e))
      | false ↦ λ _. refl
    ] refl

pub same_or_apart : (a b : List ℕ) → (a ≡ b) ⊎ (a ≢ b)
same_or_apart a b =
    elim (eq_by_cmp (slice_cmp nat_cmp) a b) as (λ t. eq_by_cmp (slice_cmp nat_cmp) a b ≡ t → (a ≡ b) ⊎ (a ≢ b)) [
      | true ↦ λ e. inl ((names-Decides a b).0 e)
      | false ↦ λ e. inr (λ same. false≢true (sym e ∙ same_name a b same))
    ] refl

-- ---- The resources of a node by their names

pub nothing_met : (me nodes start : ℕ) (name : List ℕ) → resource_at (opening_node me nodes start) name ≡ unmet me nodes name start
nothing_met me nodes start name = ap (λ (o : Option Resource). unwrap_or o (unmet me nodes name start)) (finmap.get-empty (slice_cmp nat_cmp) name)

pub resource_changed : (n : NodeState) (name : List ℕ) (r : Resource) → resource_at (with_resource n name r) name ≡ r
resource_changed n name r =
    ap (λ (o : Option Resource). unwrap_or o (unmet n.me n.nodes name n.start))
    (finmap.get-insert nat_list_cmp_total n.resources name r name ∙ ap (λ b. cond b (Some r) (finmap.get n.resources name)) (same_name name name refl))

pub entry_stays : (n : NodeState) (name other : List ℕ) (r : Resource) → other ≢ name → finmap.get (with_resource n name r).resources other ≡ finmap.get n.resources other
entry_stays n name other r apart =
    finmap.get-insert nat_list_cmp_total n.resources name r other ∙ ap (λ b. cond b (Some r) (finmap.get n.resources other)) (other_name other name apart)
