use Rattle.std.proofs.Common.{◌≡◌, ◌+◌, ◌-◌, ◌<◌, ◌++◌, ◌∷◌, [], ℕ, Some, List, length, slice_index_or, sym, ap, ◌∙◌, subst, arith, inl, inr}
use Rattle.std.specs.Prelude.{Contains}
use Rattle.std.proofs.lemmas.Bool.{cases_eq}
use Rattle.std.proofs.lemmas.List.{get_or_append_left, length-append}
use Rattle.std.proofs.Math.Seq.{get_or-append_seam}
use Rattle.ra_schedule.proofs.NodesOfClients.{node_fits}
use Rattle.ra_schedule.proofs.script.node_clients.node_clients_of.Goals as goal

pub loop-place-preserved : goal.loop-place-preserved
loop-place-preserved c =
    let script = c.args.script.now in
    let node_clients = c.loop-place.node_clients.items in
    let place = c.loop-place.place in
    let clients = c.in_ok-clients.clients in
    let so_far = c.loop-place.invariant in
    let items : c.push.new.self.items ≡ node_clients ++ clients ∷ [] = c.in_ok-push.ensures.items in
    record {
      length_is = ap length items ∙ length-append node_clients (clients ∷ []) ∙ ap (λ (n : ℕ). n + 1) so_far.length_is;
      each = λ client k d less is.
          subst (λ (rs : List (List ℕ)). Contains (slice_index_or rs k d) client) (sym items)
          (elim (cases_eq k place) [
            | inl last ↦
                let this : slice_index_or (node_clients ++ clients ∷ []) k d ≡ clients =
                ap (λ (i : ℕ). slice_index_or (node_clients ++ clients ∷ []) i d) (last ∙ sym so_far.length_is) ∙ get_or-append_seam node_clients clients [] d in
                subst (λ (r : List ℕ). Contains r client) (sym this)
                (c.in_ok-clients.ensures client (is ∙ ap (λ (n : ℕ). Some (n + 1)) last))
            | inr before ↦
                let within : k < length node_clients = omega (arith, less, before, so_far.length_is) in
                subst (λ (r : List ℕ). Contains r client) (sym (get_or_append_left node_clients (clients ∷ []) d k within))
                (so_far.each client k d (omega (arith, less, before)) is)
          ]);
    }

pub returns : goal.returns
returns c client node d is =
    let (first, last) = node_fits c.args.script.now client node c.nodes.ensures.script is in
    let number : node ≡ node - 1 + 1 = omega arith in
    c.loop-place.invariant.each client (node - 1) d
    (let end = c.nodes-place-end.ensures.value in let past = c.loop-place-test.false in omega arith)
    (is ∙ ap (λ (n : ℕ). Some n) number)

pub loop-place-init : goal.loop-place-init
loop-place-init c = record {
  length_is = ap length c.in_ok-node_clients.ensures.items;
  each = λ client k d less is. absurd (omega (arith, less));
}
