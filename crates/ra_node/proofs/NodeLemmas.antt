-- A node by its slots, and how it changes if a slot changes or is added.
use Rattle.std.proofs.Common.{◌≡◌, ℕ, ◌≤◌, List, cond, Option, Some, None, IsNone, IfSome, Bor, sym, ap, ◌∙◌, subst, inl, inr}
use Rattle.std.specs.Prelude.{unwrap_or}
use Rattle.std.specs.Option.{option_copied}
use Rattle.std.specs.Str.{bytes_eq}
use Rattle.std.specs.Map.{lookup}
use Rattle.std.specs.Ordering.{nat_cmp}
use Rattle.std.specs.Cmp.Lexicographic.{slice_cmp}
use Rattle.std.specs.FinMap as finmap
use Rattle.std.proofs.lemmas.Bool.{true≢false}
use Rattle.std.specs.HashMap.{HashMap}
use Rattle.ra_stamp.specs.NodeId.{IsNodeNumber}
use Rattle.ra_node.specs.Resource.{Resource, unmet, IsConsistentResource}
use Rattle.ra_node.specs.Node.{NodeState, opening_node, resource_at, with_resource, IsConsistentNode}
use Rattle.ra_node.specs.View.{node_with}
use Rattle.ra_node.proofs.Lookups.{same_or_apart, nothing_met, resource_changed, entry_stays}
use Rattle.ra_node.proofs.Named.{get_slot, updated}
use Rattle.ra_node.proofs.Opening.{unmet_is_consistent}

pub opening_is_consistent : (me nodes start : ℕ) → IsNodeNumber nodes → (1 ≤ me) × (me ≤ nodes) → IsConsistentNode (opening_node me nodes start)
opening_is_consistent me nodes start count member = record { count = count; member = member; each = λ name. subst (λ (r : Resource). IsConsistentResource me nodes name start r) (sym (nothing_met me nodes start name)) (unmet_is_consistent me nodes name start count member) }

pub with_kept : (n : NodeState) (name : List ℕ) (r : Resource) → IsConsistentNode n → IsConsistentResource n.me n.nodes name n.start r → IsConsistentNode (with_resource n name r)
with_kept n name r h new =
    record {
      count = h.count;
      member = h.member;
      each = λ other. elim (same_or_apart other name) [
        | inl same ↦
            subst (λ (x : List ℕ). IsConsistentResource n.me n.nodes x n.start (resource_at (with_resource n name r) x)) (sym same)
            (subst (λ (y : Resource). IsConsistentResource n.me n.nodes name n.start y) (sym (resource_changed n name r)) new)
        | inr apart ↦
            subst (λ (y : Resource). IsConsistentResource n.me n.nodes other n.start y)
            (sym (ap (λ (o : Option Resource). unwrap_or o (unmet n.me n.nodes other n.start)) (entry_stays n name other r apart))) (h.each other)
      ];
    }

-- a map without a slot of this name, which is as another that has none
pub absent_in : {S : Type 0} (slots slots' : HashMap (List ℕ) Resource S) (name : List ℕ) → slots' ≡ slots → None ≡ lookup (bytes_eq name) slots.entries → finmap.get (finmap.from_entries {R = slice_cmp nat_cmp} slots'.entries) name ≡ None
absent_in {S} slots slots' name same none = get_slot slots'.entries name ∙ ap (λ (m : HashMap (List ℕ) Resource S). lookup (bytes_eq name) m.entries) same ∙ sym none

module _ (me nodes start : ℕ) (slots : List (List ℕ × Resource)) (now : NodeState) (is : node_with me nodes start slots ≡ now) (name : List ℕ) where
  -- the slot that a look-up finds is the resource of this name
  pub found : (slot : Resource) → Some slot ≡ lookup (bytes_eq name) slots → slot ≡ resource_at now name
  found slot at = ap (λ (o : Option Resource). unwrap_or o (unmet me nodes name start)) (at ∙ sym (get_slot slots name)) ∙ ap (λ (m : NodeState). resource_at m name) is

  -- no slot is of this name
  pub missing : None ≡ lookup (bytes_eq name) slots → (resource_at now name ≡ unmet me nodes name start) × (finmap.get now.resources name ≡ None)
  missing none =
      let nowhere : finmap.get (finmap.from_entries slots) name ≡ None = get_slot slots name ∙ sym none in (
        sym (ap (λ (m : NodeState). resource_at m name) is) ∙ ap (λ (o : Option Resource). unwrap_or o (unmet me nodes name start)) nowhere,
        sym (ap (λ (m : NodeState). finmap.get m.resources name) is) ∙ nowhere,
      )

  pub slot_is_consistent : (slot : Resource) → IsConsistentNode (node_with me nodes start slots) → Some slot ≡ lookup (bytes_eq name) slots → IsConsistentResource now.me now.nodes name now.start slot
  slot_is_consistent slot kept at = subst (λ (r : Resource). IsConsistentResource now.me now.nodes name now.start r) (sym (found slot at)) ((subst IsConsistentNode is kept).each name)

  pub found_shown : (shown : Option (Bor Resource)) → option_copied shown ≡ lookup (bytes_eq name) slots → IfSome shown (λ slot. slot.now ≡ resource_at now name)
  found_shown None at = tt
  found_shown (Some slot) at = found slot.now at

  pub missing_shown : (shown : Option (Bor Resource)) → option_copied shown ≡ lookup (bytes_eq name) slots → IsNone shown → resource_at now name ≡ unmet now.me now.nodes name now.start
  missing_shown None at none = (missing at).0 ∙ ap (λ (m : NodeState). unmet m.me m.nodes name m.start) is
  missing_shown (Some slot) at none = absurd (true≢false none)

  -- the slots after an event about this name, which led to this resource
  pub record AreAfter (new : Resource) (slots' : List (List ℕ × Resource)) : Type 0 where
    pub kept : IsConsistentNode (node_with me nodes start slots')
    pub view : node_with me nodes start slots' ≡ with_resource now name new

  pub after_update : (new : Resource) (slots' : List (List ℕ × Resource)) → IsConsistentNode now → ((q : List ℕ) → lookup (bytes_eq q) slots' ≡ cond (bytes_eq name q) (Some new) (lookup (bytes_eq q) slots))
      → IsConsistentResource now.me now.nodes name now.start new → AreAfter new slots'
  after_update new slots' kept finds h =
      let view : node_with me nodes start slots' ≡ with_resource now name new = (λ i. record (node_with me nodes start slots) { resources = updated slots slots' name new finds i }) ∙ ap (λ (m : NodeState). with_resource m name new) is in
      record {
        kept = subst IsConsistentNode (sym view) (with_kept now name new kept h);
        view = view;
      }
