use Rattle.std.proofs.Common.{◌≡◌, ◌-◌, ℕ, [], List, Option, Some, None, length, get_or, sym, ap, subst, ◌∙◌, inl, inr}
use Rattle.std.specs.Prelude.{Contains}
use Rattle.std.proofs.lemmas.Bool.{ltb-true, ltb-false}
use Rattle.std.proofs.lemmas.List.{get_or_default, get_or_past}
use Rattle.ra_schedule.specs.Enabled.{node_at}
use Rattle.ra_schedule.proofs.script.node_clients.members_at.Goals as goal
use Rattle.ra_schedule.proofs.script.node_clients.members_at.Goals.{After-place, in-Deliver, in-Ask2}

no_node : (found : Option ℕ) (number : ℕ) → found ≡ None → found ≡ Some number → ⊥
no_node found number none is = absurd cc

one_node : (found : Option ℕ) (node number : ℕ) → found ≡ Some node → found ≡ Some number → number ≡ node
one_node found node number has is = cc

-- the node of the step
node : (c : After-place) → node_at c.args.step.now ≡ Some c.match-step.node
node c = elim c.match-step.branch [
  | in-Deliver w ↦ ap node_at w.in-Deliver.is ∙ ap (λ (n : ℕ). Some n) (sym (w.node-is ∙ w.to-node.ensures))
  | in-Ask2 w ↦ elim w.in-Ask.is [
    | inl (client, name, mode, is) ↦ ap node_at is ∙ ap (λ (n : ℕ). Some n) (sym w.node-is)
    | inr (inl (client, name, is)) ↦ ap node_at is ∙ ap (λ (n : ℕ). Some n) (sym w.node-is)
    | inr (inr (inl (client, name, is))) ↦ ap node_at is ∙ ap (λ (n : ℕ). Some n) (sym w.node-is)
    | inr (inr (inr is)) ↦ ap node_at is ∙ ap (λ (n : ℕ). Some n) (sym w.node-is)
  ]
]

pub returns-in-Lose : goal.returns-in-Lose
returns-in-Lose c client number at has = absurd (elim c.in-Lose.is [
  | inl lost ↦ no_node _ number (ap node_at lost.1) at
  | inr repeated ↦ no_node _ number (ap node_at repeated.1) at
])

pub returns-in-Some : goal.returns-in-Some
returns-in-Some c client number at has =
    let all = c.args.node_clients.now in
    let place : number - 1 ≡ c.place.result =
    ap (λ (n : ℕ). n - 1) (one_node _ _ number (node (goal.at.returns-in-Some c).After-place) at) ∙ sym c.place.ensures.value in
    let less = ltb-true c.place.result (length all) (sym c.in-Some.ensures.lookup.0) in
    let here : get_or all (number - 1) [] ≡ c.in-Some.clients.now =
    ap (λ (i : ℕ). get_or all i []) place ∙ get_or_default all c.place.result [] c.in-Some.clients.now less ∙ sym c.in-Some.ensures.lookup.1 in
    subst (λ (clients : List ℕ). Contains clients client) (here ∙ sym (c.deref.ensures.value ∙ c.clients.view_is)) has

pub returns-in-None : goal.returns-in-None
returns-in-None c client number at has =
    let all = c.args.node_clients.now in
    let place : number - 1 ≡ c.place.result =
    ap (λ (n : ℕ). n - 1) (one_node _ _ number (node (goal.at.returns-in-None c).After-place) at) ∙ sym c.place.ensures.value in
    let past = ltb-false c.place.result (length all) (sym c.in-None.ensures.lookup.0) in
    subst (λ (clients : List ℕ). Contains clients client) (ap (λ (i : ℕ). get_or all i []) place ∙ get_or_past all c.place.result [] past) has
