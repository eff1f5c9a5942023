use Rattle.std.proofs.Common.{◌≡◌, ◌-◌, ◌<◌, ◌≤◌, ◌++◌, ◌∷◌, ℕ, [], List, length, take, refl, sym, ap, ◌∙◌, subst}
use Rattle.std.specs.Prelude.{vec_len}
use Rattle.std.proofs.lemmas.Result.{on_ok_weaker, on_err_weaker}
use Rattle.ra_stamp.specs.declared.mode.Mode.{Mode}
use Rattle.ra_schedule.specs.declared.script.Op.{Op}
use Rattle.ra_schedule.specs.declared.script.Op.TheVariants.{Lock, Unlock}
use Rattle.ra_schedule.specs.Script.{ScriptState, IsHeldAfter, Fits}
use Rattle.ra_schedule.proofs.OpFaults.{other, other_fault}
use Rattle.ra_schedule.proofs.OpAnswers.{ok_told, err_told, client_told, clients_told, limit_told, not_held_told, already_held_told, allowed_told}
use Rattle.ra_schedule.proofs.Last.{ends_with, with_last, same_ops, no_last, none_there, no_last_has, adds_op, last_kept}
use Rattle.ra_schedule.proofs.script.Script.add_op.Goals as goal

pub invariant_of-self-2 : goal.invariant_of-self-2
invariant_of-self-2 c =
    with_last c.self.inside.nodes c.self.inside.clients.items (vec_len c.self.inside.clients) c.in-Some.last.now c.add_op.new.self
    c.self.inside.clients.ok.0 (c.in-Some.ensures.variant.0 refl) c.in-Some.ensures.value
    (client_told _ _ _ _ c.add_op.ensures c.self.inside.nodes) c.self.invariant

pub returns-clause-script : goal.returns-clause-script
returns-clause-script c = invariant_of-self-2 c

pub returns-clause-ok : goal.returns-clause-ok
returns-clause-ok c =
    on_ok_weaker c.add_op.result
    (adds_op c.args.self.now c.self.inside.nodes c.self.inside.clients.items (vec_len c.self.inside.clients) c.in-Some.last.now c.add_op.new.self c.args.op
    c.self.inside.clients.ok.0 (c.in-Some.ensures.variant.0 refl) c.in-Some.ensures.value c.self.view_is)
    (ok_told _ _ _ _ c.add_op.ensures)

pub returns-clause-err : goal.returns-clause-err
returns-clause-err c =
    on_err_weaker c.add_op.result
    (last_kept c.self.inside.nodes c.self.inside.clients.items (vec_len c.self.inside.clients) c.in-Some.last.now c.add_op.new.self c.args.self.now
    c.in-Some.ensures.value c.self.view_is)
    (err_told _ _ _ _ c.add_op.ensures)

pub returns-clause-not_held : goal.returns-clause-not_held
returns-clause-not_held c =
    let before = take (vec_len c.self.inside.clients - 1) c.self.inside.clients.items in
    let last = c.in-Some.last.now in
    let is : c.args.self.now.clients ≡ before ++ last ∷ [] = ap (λ (s : ScriptState). s.clients) (sym c.self.view_is)
    ∙ ends_with _ _ last c.self.inside.clients.ok.0 (c.in-Some.ensures.variant.0 refl) c.in-Some.ensures.value in (
      λ e. let h = (not_held_told _ _ _ _ c.add_op.ensures).0 e in (last.ops, (before, last, is, refl), h.0, h.1, h.2, h.3),
      λ w. (not_held_told _ _ _ _ c.add_op.ensures).1 (
          subst (λ (ops : List Op). (length ops < 1024) × (name : List ℕ) × (c.args.op ≡ Unlock name) × (IsHeldAfter ops name → ⊥))
          (same_ops c.args.self.now before last w.0 is w.1) (w.2, w.3, w.4, w.5)
          ),
    )

pub returns-clause-already_held : goal.returns-clause-already_held
returns-clause-already_held c =
    let before = take (vec_len c.self.inside.clients - 1) c.self.inside.clients.items in
    let last = c.in-Some.last.now in
    let is : c.args.self.now.clients ≡ before ++ last ∷ [] = ap (λ (s : ScriptState). s.clients) (sym c.self.view_is)
    ∙ ends_with _ _ last c.self.inside.clients.ok.0 (c.in-Some.ensures.variant.0 refl) c.in-Some.ensures.value in (
      λ e. let h = (already_held_told _ _ _ _ c.add_op.ensures).0 e in (last.ops, (before, last, is, refl), h.0, h.1, h.2, h.3, h.4),
      λ w. (already_held_told _ _ _ _ c.add_op.ensures).1 (
          subst (λ (ops : List Op). (length ops < 1024) × (name : List ℕ) × (mode : Mode) × (c.args.op ≡ Lock name mode) × IsHeldAfter ops name)
          (same_ops c.args.self.now before last w.0 is w.1) (w.2, w.3, w.4, w.5, w.6)
          ),
    )

pub returns-clause-clients : goal.returns-clause-clients
returns-clause-clients c =
    let before = take (vec_len c.self.inside.clients - 1) c.self.inside.clients.items in
    let last = c.in-Some.last.now in
    let is : c.args.self.now.clients ≡ before ++ last ∷ [] = ap (λ (s : ScriptState). s.clients) (sym c.self.view_is)
    ∙ ends_with _ _ last c.self.inside.clients.ok.0 (c.in-Some.ensures.variant.0 refl) c.in-Some.ensures.value in (
      λ e. absurd (clients_told _ _ _ _ c.add_op.ensures e),
      λ none. absurd (no_last c.args.self.now before last is none),
    )

pub returns-clause-limit : goal.returns-clause-limit
returns-clause-limit c =
    let before = take (vec_len c.self.inside.clients - 1) c.self.inside.clients.items in
    let last = c.in-Some.last.now in
    let is : c.args.self.now.clients ≡ before ++ last ∷ [] = ap (λ (s : ScriptState). s.clients) (sym c.self.view_is)
    ∙ ends_with _ _ last c.self.inside.clients.ok.0 (c.in-Some.ensures.variant.0 refl) c.in-Some.ensures.value in (
      λ e. (last.ops, (before, last, is, refl), (limit_told _ _ _ _ c.add_op.ensures).0 e),
      λ w. (limit_told _ _ _ _ c.add_op.ensures).1 (subst (λ (ops : List Op). 1024 ≤ length ops) (same_ops c.args.self.now before last w.0 is w.1) w.2),
    )

pub returns-clause-allowed : goal.returns-clause-allowed
returns-clause-allowed c =
    let before = take (vec_len c.self.inside.clients - 1) c.self.inside.clients.items in
    let last = c.in-Some.last.now in
    let is : c.args.self.now.clients ≡ before ++ last ∷ [] = ap (λ (s : ScriptState). s.clients) (sym c.self.view_is)
    ∙ ends_with _ _ last c.self.inside.clients.ok.0 (c.in-Some.ensures.variant.0 refl) c.in-Some.ensures.value in (
      λ e. let h = (allowed_told _ _ _ _ c.add_op.ensures).0 e in (last.ops, (before, last, is, refl), h.0, h.1),
      λ w. (allowed_told _ _ _ _ c.add_op.ensures).1 (
          subst (λ (ops : List Op). (length ops < 1024) × Fits ops c.args.op) (same_ops c.args.self.now before last w.0 is w.1) (w.2, w.3)
          ),
    )

pub invariant_of-self : goal.invariant_of-self
invariant_of-self c = c.self.invariant

pub returns-in_default-clause-ok : goal.returns-in_default-clause-ok
returns-in_default-clause-ok c = tt

pub returns-in_default-clause-err : goal.returns-in_default-clause-err
returns-in_default-clause-err c = c.self.view_is

pub returns-in_default-clause-script : goal.returns-in_default-clause-script
returns-in_default-clause-script c = c.self.invariant

pub returns-in_default-clause-limit : goal.returns-in_default-clause-limit
returns-in_default-clause-limit c =
    let none : c.args.self.now.clients ≡ [] = ap (λ (s : ScriptState). s.clients) (sym c.self.view_is)
    ∙ none_there c.self.inside.clients.items (vec_len c.self.inside.clients) c.self.inside.clients.ok.0 c.in_default.ensures.variant.1 in
    (λ e. absurd (other _ _ refl refl e), λ w. absurd (no_last_has c.args.self.now w.0 none w.1))

pub returns-in_default-clause-not_held : goal.returns-in_default-clause-not_held
returns-in_default-clause-not_held c =
    let none : c.args.self.now.clients ≡ [] = ap (λ (s : ScriptState). s.clients) (sym c.self.view_is)
    ∙ none_there c.self.inside.clients.items (vec_len c.self.inside.clients) c.self.inside.clients.ok.0 c.in_default.ensures.variant.1 in
    (λ e. absurd (other _ _ refl refl e), λ w. absurd (no_last_has c.args.self.now w.0 none w.1))

pub returns-in_default-clause-already_held : goal.returns-in_default-clause-already_held
returns-in_default-clause-already_held c =
    let none : c.args.self.now.clients ≡ [] = ap (λ (s : ScriptState). s.clients) (sym c.self.view_is)
    ∙ none_there c.self.inside.clients.items (vec_len c.self.inside.clients) c.self.inside.clients.ok.0 c.in_default.ensures.variant.1 in
    (λ e. absurd (other _ _ refl refl e), λ w. absurd (no_last_has c.args.self.now w.0 none w.1))

pub returns-in_default-clause-allowed : goal.returns-in_default-clause-allowed
returns-in_default-clause-allowed c =
    let none : c.args.self.now.clients ≡ [] = ap (λ (s : ScriptState). s.clients) (sym c.self.view_is)
    ∙ none_there c.self.inside.clients.items (vec_len c.self.inside.clients) c.self.inside.clients.ok.0 c.in_default.ensures.variant.1 in
    (λ e. absurd (other_fault _ _ refl refl e), λ w. absurd (no_last_has c.args.self.now w.0 none w.1))

pub returns-in_default-clause-clients : goal.returns-in_default-clause-clients
returns-in_default-clause-clients c =
    let none : c.args.self.now.clients ≡ [] = ap (λ (s : ScriptState). s.clients) (sym c.self.view_is)
    ∙ none_there c.self.inside.clients.items (vec_len c.self.inside.clients) c.self.inside.clients.ok.0 c.in_default.ensures.variant.1 in
    (λ e. none, λ e. refl)
