use Rattle.std.proofs.Common.{◌≡◌, ◌+◌, ◌++◌, ◌∷◌, [], ℕ, List, Option, Some, None, sym, ap, ◌∙◌, subst, arith, inl, inr}
use Rattle.std.specs.Prelude.{Contains}
use Rattle.std.proofs.lemmas.Bool.{cases_eq}
use Rattle.std.proofs.lemmas.List.Elements.{Contains-append_left, Contains-push}
use Rattle.ra_schedule.specs.Enabled.{node_of}
use Rattle.ra_schedule.proofs.NodesOfClients.{is_client, has_node}
use Rattle.ra_schedule.proofs.script.node_clients.clients_of_node.Goals as goal
use Rattle.ra_schedule.proofs.script.node_clients.clients_of_node.Goals.{then-get-node+in_ok-push, else-get-node}

pub returns : goal.returns
returns c client is =
    let (k, same, less) = is_client c.args.script.now client c.args.node is in
    subst (λ (who : ℕ). Contains c.loop-place.members.items who) (sym same)
    (c.loop-place.invariant k (let len = c.clients-place-end.ensures.value in let past = c.loop-place-test.false in omega arith)
    (subst (λ (who : ℕ). node_of c.args.script.now who ≡ Some c.args.node) same is))

-- a client that has a node is not without one
no_node : (found : Option ℕ) (node : ℕ) → None ≡ found → found ≡ Some node → ⊥
no_node found node none is = absurd cc

-- the nodes of a client are one
one_node : (found : Option ℕ) (own node : ℕ) → Some own ≡ found → found ≡ Some node → own ≡ node
one_node found own node has is = cc

pub unreachable-requires : goal.unreachable-requires
unreachable-requires c =
    let (node, is) = has_node c.args.script.now c.loop-place.place (let len = c.clients-place-end.ensures.value in let low = c.loop-place-test.true in omega arith) in
    no_node _ node c.in_default.ensures.value is

pub loop-place-preserved : goal.loop-place-preserved
loop-place-preserved c k below is =
    elim c.if-get-node.branch [
      | then-get-node+in_ok-push w ↦
          subst (λ (list : List ℕ). Contains list (k + 1)) (sym (ap (λ s. s.items) w.members-is ∙ w.in_ok-push.ensures.items))
          (elim (cases_eq k c.loop-place.place) [
            | inl last ↦
                subst (λ (i : ℕ). Contains (c.loop-place.members.items ++ (c.loop-place.place + 1) ∷ []) (i + 1)) (sym last)
                (Contains-push c.loop-place.members.items (c.loop-place.place + 1))
            | inr before ↦
                Contains-append_left c.loop-place.members.items ((c.loop-place.place + 1) ∷ []) (k + 1) (c.loop-place.invariant k (omega (arith, below, before)) is)
          ])
      | else-get-node w ↦
          subst (λ (list : List ℕ). Contains list (k + 1)) (sym (ap (λ s. s.items) w.members-is))
          (elim (cases_eq k c.loop-place.place) [
            | inl last ↦
                absurd (w.if-get-node.false (c.get.ensures.value ∙ one_node _ _ _ c.in-Some.ensures.value (ap (λ (i : ℕ). node_of c.args.script.now (i + 1)) (sym last) ∙ is)))
            | inr before ↦ c.loop-place.invariant k (omega (arith, below, before)) is
          ])
    ]
