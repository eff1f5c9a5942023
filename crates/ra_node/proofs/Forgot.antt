-- What a call that forgets names makes of a node: which slots it keeps, and what the node is then.
use Rattle.std.proofs.Common.{◌≡◌, ℕ, ◌+◌, ◌/◌, ◌^◌, max, Bool, not, true, false, cond, List, [], ◌∷◌, length, refl, sym, ap, ◌∙◌, subst, arith}
use Rattle.std.specs.Prelude.{sum_by}
use Rattle.std.specs.Str.{bytes_eq}
use Rattle.std.specs.HashMap.{HashMap, values}
use Rattle.std.specs.List.{IsDistinct}
use Rattle.std.specs.Map.{keys_of}
use Rattle.std.specs.Map.Calls.{RetainsPairs}
use Rattle.std.specs.FinMap as finmap
use Rattle.ra_node.specs.Resource.{Resource, waiting_at}
use Rattle.ra_node.specs.Node.{NodeState, waiting_count, queued_count, IsConsistentNode}
use Rattle.ra_node.specs.Forgetting.{raised}
use Rattle.ra_node.specs.Events.{ForgetEvent}
use Rattle.ra_node.specs.declared.node.Node.TheInside.{Inside}
use Rattle.ra_node.specs.View.{node_with, node_of, if_counted, greatest_of, is_forgettable, forgotten, excess_of, IsKept}
use Rattle.ra_node.proofs.Forgetting.{Unmoved, NothingElse, any_ones, same_sum, waiting_unmoved, queue_unmoved, excess_unmoved, forgets, forget_kept}

-- each slot is raised, and kept unless it is forgettable
module _ {F : Type 0} (T : F → List ℕ → Resource → Bool → Resource → F → Type 0) (number : ℕ) (f : F) where
  pub retained : ((name : List ℕ) (old : Resource) (b : Bool) (new : Resource) (f' : F) → T f name old b new f' → (b ≡ not (is_forgettable old)) × (new ≡ raised number old) × (f' ≡ f))
      → (slots kept : List (List ℕ × Resource)) → RetainsPairs T f slots kept → kept ≡ forgotten number slots
  retained told [] kept r = r
  retained told (e ∷ es) kept r =
      let a = told e.0 e.1 r.0 r.1 r.2 r.4 in
      let rest = retained told es r.3 (subst (λ u. RetainsPairs T u es r.3) a.2 r.5) in
      r.6 ∙ (λ i. cond (a.0 i) ((e.0, a.1 i) ∷ rest i) (rest i)) ∙ unless (is_forgettable e.1) ((e.0, raised number e.1) ∷ forgotten number es) (forgotten number es)
    where
      unless : (b : Bool) (x y : List (List ℕ × Resource)) → cond (not b) x y ≡ cond b y x
      unless true x y = refl
      unless false x y = refl

-- the node that forgot keeps what holds of its fields, and this is what happened at it
pub record Forgot (after : Inside) (now : NodeState) : Type 0 where
  pub kept : IsKept after
  pub event : ForgetEvent now [] [] (node_of after)

module _ (n : Inside) (was : IsKept n) (distinct : IsDistinct bytes_eq (keys_of n.slots.entries)) where
  abbrev slots : List (List ℕ × Resource)
  slots = n.slots.entries

  abbrev common : ℕ
  common = greatest_of (if_counted n.start) (values n.slots)

  abbrev after : NodeState
  after = node_with n.member.node n.member.nodes (max n.start common) (forgotten common slots)

  event : ForgetEvent (node_of n) [] [] after
  event = forgets n.member.node n.member.nodes n.start slots distinct was.consistent

  totals : (f : Resource → ℕ) → Unmoved NothingElse f → sum_by (λ e. f e.1) (finmap.entries after.resources) ≡ sum_by (λ e. f e.1) (finmap.entries (node_of n).resources)
  totals f unmoved = same_sum NothingElse f unmoved common slots (any_ones slots) distinct

  pub forgot : (m : Inside) (now : NodeState) → node_of n ≡ now → m ≡ record n { start = max n.start common; slots = m.slots } → m.slots.entries ≡ forgotten common slots → Forgot m now
  forgot m now is m_is slots_are =
      let over = λ (P : List (List ℕ × Resource) → Type 0) (p : P (forgotten common slots)). subst P (sym slots_are) p in
      let with_slots = λ (es : List (List ℕ × Resource)). node_with n.member.node n.member.nodes (max n.start common) es in
      subst (λ (x : Inside). Forgot x now) (sym m_is)
      (record {
        kept = record {
          consistent = over (λ es. IsConsistentNode (with_slots es)) (forget_kept (node_of n) after [] [] was.consistent event);
          waiting = over (λ es. n.waiting ≡ waiting_count (with_slots es)) (was.waiting ∙ sym (totals waiting_at waiting_unmoved));
          queued = over (λ es. n.queued ≡ queued_count (with_slots es)) (was.queued ∙ sym (totals (λ r. length r.queue) queue_unmoved));
          counted = over (λ es. excess_of (with_slots es) ≡ 0) (totals (λ r. length r.queue / 2 ^ 64) excess_unmoved ∙ was.counted);
        };
        event = over (λ es. ForgetEvent now [] [] (with_slots es)) (subst (λ (x : NodeState). ForgetEvent x [] [] after) is event);
      })
