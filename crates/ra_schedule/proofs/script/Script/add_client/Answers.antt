use Rattle.std.proofs.Common.{◌≡◌, ◌<◌, ◌≤◌, ◌⊎◌, ℕ, Result, Ok, Err, length, refl, sym, ap, subst, ◌∙◌, inl, inr, arith}
use Rattle.std.proofs.lemmas.Result.{err_from_is_err_and}
use Rattle.std.proofs.lemmas.Bool.{false≢true}
use Rattle.ra_schedule.specs.declared.error.AddClientError.{AddClientError}
use Rattle.ra_schedule.specs.declared.error.AddClientError.TheVariants.{Clients, Memory}
use Rattle.ra_schedule.specs.Script.{ScriptState}
use Rattle.ra_schedule.proofs.Plans.{script_pushed}
use Rattle.ra_schedule.proofs.script.Script.add_client.Goals as goal
use Rattle.ra_schedule.proofs.script.Script.add_client.Goals.{After-len, In-Some}

-- if all three hold, there are room and such a node
some_room : (count node nodes : ℕ) → (count < 64) × (1 ≤ node) × (node ≤ nodes) → (64 ≤ count) ⊎ ((1 ≤ node) × (node ≤ nodes) → ⊥) → ⊥
some_room count node nodes room (inl full) = let less = room.0 in omega (arith, less, full)
some_room count node nodes room (inr none) = none (room.1, room.2)

not_clients : {X : Type 0} → ◌≡◌ {A = Result X AddClientError} (Err Memory) (Err Clients) → ⊥
not_clients e = absurd cc

no_fault : {X : Type 0} {x : X} → ◌≡◌ {A = Result X AddClientError} (Ok x) (Err Clients) → ⊥
no_fault e = absurd cc

not_memory : Clients ≡ Memory → ⊥
not_memory e = absurd cc

-- how many clients there are
count : (c : After-len) → c.len.result ≡ length c.args.self.now.clients
count c = c.len.ensures ∙ c.self.inside.clients.ok.0 ∙ ap (λ (s : ScriptState). length s.clients) c.self.view_is

-- there is room, and such a node
room : (c : In-Some) → (length c.args.self.now.clients < 64) × (1 ≤ c.args.node) × (c.args.node ≤ c.args.self.now.nodes)
room c =
    let same : c.len.result ≡ length c.args.self.now.clients =
    c.len.ensures ∙ c.self.inside.clients.ok.0 ∙ ap (λ (s : ScriptState). length s.clients) c.self.view_is in
    let (first, last) = c.in-Some.ensures.there.0 refl in (
      subst (λ (n : ℕ). n < 64) same c.if-len-ge-MAX_CLIENTS.false,
      first,
      subst (λ (n : ℕ). c.args.node ≤ n) (ap (λ (s : ScriptState). s.nodes) c.self.view_is) last,
    )

pub returns-then-len-ge-MAX_CLIENTS-clause-clients : goal.returns-then-len-ge-MAX_CLIENTS-clause-clients
returns-then-len-ge-MAX_CLIENTS-clause-clients c = (
  λ _. inl (subst (λ (n : ℕ). 64 ≤ n) (count (goal.at.returns-then-len-ge-MAX_CLIENTS-clause-clients c).After-len) c.if-len-ge-MAX_CLIENTS.true),
  λ _. refl,
)

pub returns-then-len-ge-MAX_CLIENTS-clause-allowed : goal.returns-then-len-ge-MAX_CLIENTS-clause-allowed
returns-then-len-ge-MAX_CLIENTS-clause-allowed c = (
  λ e. absurd (not_memory e),
  λ w. absurd (some_room _ _ _ w (inl (subst (λ (n : ℕ). 64 ≤ n) (count (goal.at.returns-then-len-ge-MAX_CLIENTS-clause-allowed c).After-len) c.if-len-ge-MAX_CLIENTS.true))),
)

pub returns-in_default-clause-clients : goal.returns-in_default-clause-clients
returns-in_default-clause-clients c = (
  λ _. inr (λ placed. false≢true (c.in_default.ensures.there.1
      (placed.0, subst (λ (n : ℕ). c.args.node ≤ n) (sym (ap (λ (s : ScriptState). s.nodes) c.self.view_is)) placed.1))),
  λ _. refl,
)

pub returns-in_default-clause-allowed : goal.returns-in_default-clause-allowed
returns-in_default-clause-allowed c = (
  λ e. absurd (not_memory e),
  λ w. absurd (false≢true (c.in_default.ensures.there.1
      (w.1, subst (λ (n : ℕ). c.args.node ≤ n) (sym (ap (λ (s : ScriptState). s.nodes) c.self.view_is)) w.2))),
)

pub returns-in_err-push-clause-clients : goal.returns-in_err-push-clause-clients
returns-in_err-push-clause-clients c =
    let room = room (goal.at.returns-in_err-push-clause-clients c).In-Some in
    let p = err_from_is_err_and c.from_residual.result c.from_residual.ensures.1 in
    rw (p.1, p.2) (λ e. absurd (not_clients e), λ w. absurd (some_room _ _ _ room w))

pub returns-in_err-push-clause-allowed : goal.returns-in_err-push-clause-allowed
returns-in_err-push-clause-allowed c =
    let room = room (goal.at.returns-in_err-push-clause-allowed c).In-Some in
    let p = err_from_is_err_and c.from_residual.result c.from_residual.ensures.1 in
    rw (p.1, p.2) (λ e. room, λ w. refl)

pub returns-clause-clients : goal.returns-clause-clients
returns-clause-clients c = (λ e. absurd (no_fault e), λ w. absurd (some_room _ _ _ (room (goal.at.returns-clause-clients c).In-Some) w))

pub returns-clause-allowed : goal.returns-clause-allowed
returns-clause-allowed c = (λ e. room (goal.at.returns-clause-allowed c).In-Some, λ w. tt)

pub invariant_of-self-2 : goal.invariant_of-self-2
invariant_of-self-2 c =
    script_pushed (record { nodes = c.self.inside.nodes; clients = c.self.inside.clients.items }) c.args.self.now _ c.args.node c.in-Some.node _ c.self.view_is
    c.self.invariant (room (goal.at.invariant_of-self-2 c).In-Some) c.in-Some.ensures.value c.new.ensures.items c.in_ok-push.ensures.items

pub returns-clause-script : goal.returns-clause-script
returns-clause-script c = invariant_of-self-2 c
