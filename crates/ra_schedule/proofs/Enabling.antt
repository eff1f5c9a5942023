-- A client that has something left to do and does not wait is enabled.
use Rattle.std.proofs.Common.{◌≡◌, ◌≢◌, ◌⊎◌, ℕ, ◌<◌, Option, Some, None, List, [], ◌∷◌, ◌++◌, length, take, slice_get, refl, sym, ap, ◌∙◌, subst, append_assoc, arith, inl, inr}
use Rattle.std.proofs.lemmas.Option.{slice_get_past}
use Rattle.std.proofs.lemmas.List.{append-nil, take_at, same_from_push}
use Rattle.std.proofs.lemmas.List.Elements.{All-nil}
use Rattle.ra_automaton.specs.Steps.{greatest_number}
use Rattle.ra_node.specs.Resource.{Resource}
use Rattle.ra_node.specs.Node.{resource_at}
use Rattle.ra_world.specs.Traffic.{Move}
use Rattle.ra_world.specs.Run.{IsRun, GoesOn}
use Rattle.ra_schedule.specs.declared.script.Op.{Op}
use Rattle.ra_schedule.specs.declared.script.Op.TheVariants.{Lock, Unlock}
use Rattle.ra_schedule.specs.Script.{ScriptClient, ScriptState, client_at, IsScript, IsHeldAfter, Fits}
use Rattle.ra_schedule.specs.Schedule.{steps_of, steps_by, step_of, IsWaiting, IsEnabled}
use Rattle.ra_schedule.specs.BelowFinishing.{LawsOfRuns}
use Rattle.ra_schedule.proofs.Held.{ends}
use Rattle.ra_schedule.proofs.ClientTurns.{HasIt, has_or_not}
use Rattle.ra_schedule.proofs.MovedNodes.{IsNode}
use Rattle.ra_schedule.proofs.Standing.{LastLocks, last_is_one, ClientStands}
use Rattle.ra_schedule.proofs.StandingRuns.{AllStand, is_client}

-- ---- The last operation

no_last : (ops : List Op) (name : List ℕ) → LastLocks ops name → ops ≡ [] → ⊥
no_last ops name ([], mode, is) none = cc
no_last ops name (x ∷ before, mode, is) none = cc

unlock_last : (ops before : List Op) (name other : List ℕ) → LastLocks ops other → ops ≡ before ++ Unlock name ∷ [] → ⊥
unlock_last ops before name other (before', mode, is) is' =
    let same : Lock other mode ≡ Unlock name = (same_from_push before' before (Lock other mode) (Unlock name) (sym is ∙ is')).1 in cc

pub held_last : (ops : List Op) (name : List ℕ) → LastLocks ops name → IsHeldAfter ops name
held_last ops name (before, mode, is) = (before, [], mode, is, All-nil (λ op. op ≢ Unlock name))

-- the operations that a client did, if this is the last one of them
pub place_of_last : (ops before left : List Op) (op : Op) → ops ≡ (before ++ op ∷ []) ++ left → (slice_get ops (length before) ≡ Some op) × (take (length before) ops ≡ before)
place_of_last ops before left op is =
    let flat : ops ≡ before ++ op ∷ left = is ∙ append_assoc before (op ∷ []) left in (
      ap (λ (xs : List Op). slice_get xs (length before)) flat ∙ at_seam before,
      ap (take (length before)) flat ∙ take_at before (op ∷ left) (length before) refl,
    )
  where
    at_seam : (xs : List Op) → slice_get (xs ++ op ∷ left) (length xs) ≡ Some op
    at_seam [] = refl
    at_seam (x ∷ xs) = at_seam xs

pub next_is : (ops did rest : List Op) (op : Op) → ops ≡ did ++ op ∷ rest → slice_get ops (length did) ≡ Some op
next_is ops did rest op is = (place_of_last ops did rest op (is ∙ sym (append_assoc did (op ∷ []) rest))).0

module _ (laws : LawsOfRuns) (script : ScriptState) (fit : IsScript script) (moves : List Move) (run : IsRun script.nodes 0 moves) (all : AllStand script moves)
    (few : (i : ℕ) (name : List ℕ) → IsNode script.nodes i → (resource_at (all.nodes i) name).state.highest < greatest_number) where
  abbrev n : ℕ
  n = script.nodes

  abbrev at : ℕ → List ℕ → Resource
  at i name = resource_at (all.nodes i) name

  waits_there : (client : ℕ) (who : ScriptClient) (stands : ClientStands n moves all.nodes client who) → IsNode n who.node → (name : List ℕ)
      → IsHeldAfter stands.did name → (HasIt (at who.node name) client → ⊥) → IsWaiting client moves
  waits_there client who stands within name held out =
      (stands.kept_out who.node name within ((stands.stands who.node name within).1 (refl, held)) out).0

  waits_or_not : (client : ℕ) (who : ScriptClient) → ClientStands n moves all.nodes client who → IsNode n who.node → IsWaiting client moves ⊎ (IsWaiting client moves → ⊥)
  waits_or_not client who stands within = elim (ends stands.did) [
    | inl none ↦ inr (λ w. let o = stands.waits w in no_last stands.did o.0 o.1 none)
    | inr last ↦ by_last last.0 last.1 last.2
  ]
    where
      by_last : (before : List Op) (op : Op) → stands.did ≡ before ++ op ∷ [] → IsWaiting client moves ⊎ (IsWaiting client moves → ⊥)
      by_last before (Unlock name) is = inr (λ w. let o = stands.waits w in unlock_last stands.did before name o.0 o.1 is)
      by_last before (Lock name mode) is = elim (has_or_not (at who.node name) client) [
        | inl has ↦ inr (λ w. let o = stands.waits w in
            let same : name ≡ o.0 = last_is_one stands.did name o.0 (before, mode, is) o.1 in
            o.2 (subst (λ (x : List ℕ). HasIt (at who.node x) client) same has))
        | inr out ↦ inl (waits_there client who stands within name (held_last stands.did name (before, mode, is)) out)
      ]

  -- the step of the next operation can be made by a client that does not wait
  may_go_on : (client : ℕ) (who : ScriptClient) (stands : ClientStands n moves all.nodes client who) → IsNode n who.node → (op : Op)
      → Fits stands.did op → (IsWaiting client moves → ⊥) → GoesOn n 0 moves (step_of who.node client op)
  may_go_on client who stands within (Lock name mode) fits free =
      (laws.may_ask n 0 moves all.nodes fit.count run all.ends who.node client name mode).1 (
        within,
        record {
          not_busy = λ busy. fits ((stands.stands who.node name within).0 busy).1;
          number_left = few who.node name within;
        },
      )
  may_go_on client who stands within (Unlock name) fits free =
      (laws.may_leave n 0 moves all.nodes fit.count run all.ends who.node client name).1 (
        within,
        elim (has_or_not (at who.node name) client) [
          | inl has ↦ has
          | inr out ↦ absurd (free (waits_there client who stands within name fits out))
        ],
      )

  module _ (client : ℕ) (who : ScriptClient) (at_it : client_at script client ≡ Some who) (stands : ClientStands n moves all.nodes client who) where
    within : IsNode n who.node
    within = let c = is_client script client who fit at_it in (c.first, c.last)

    free_is_enabled : (op : Op) (rest : List Op) → stands.left ≡ op ∷ rest → (IsWaiting client moves → ⊥) → IsEnabled script moves client
    free_is_enabled op rest left_is free =
        let split : who.ops ≡ stands.did ++ op ∷ rest = stands.ops_are ∙ ap (λ (xs : List Op). stands.did ++ xs) left_is in (
          step_of who.node client op,
          record {
            next = (who, op, at_it, ap (slice_get who.ops) (sym stands.done) ∙ next_is who.ops stands.did rest op split, refl);
            free = free;
            goes_on = may_go_on client who stands within op ((is_client script client who fit at_it).plan stands.did rest op split) free;
          },
        )

    pub must_wait : (op : Op) (rest : List Op) → stands.left ≡ op ∷ rest → (IsEnabled script moves client → ⊥) → IsWaiting client moves
    must_wait op rest left_is not = elim (waits_or_not client who stands within) [
      | inl waits ↦ waits
      | inr free ↦ absurd (not (free_is_enabled op rest left_is free))
    ]

    -- a client that has done all has no next step
    done_is_not : stands.left ≡ [] → IsEnabled script moves client → ⊥
    done_is_not none (step, on) =
        let (him, op, at_him, is, made) = on.next in
        let same : him ≡ who = let e = at_it in cc in
        let whole : who.ops ≡ stands.did = stands.ops_are ∙ ap (λ (xs : List Op). stands.did ++ xs) none ∙ append-nil stands.did in
        let past : slice_get who.ops (steps_by client (steps_of moves)) ≡ None = slice_get_past who.ops (steps_by client (steps_of moves)) (omega (arith, ap length whole, stands.done)) in
        let there : slice_get who.ops (steps_by client (steps_of moves)) ≡ Some op = ap (λ (w : ScriptClient). slice_get w.ops (steps_by client (steps_of moves))) (sym same) ∙ is in
        cc

    by_left : (left : List Op) → stands.left ≡ left → IsEnabled script moves client ⊎ (IsEnabled script moves client → ⊥)
    by_left [] left_is = inr (done_is_not left_is)
    by_left (op ∷ rest) left_is = elim (waits_or_not client who stands within) [
      | inl waits ↦ inr (λ on. on.1.free waits)
      | inr free ↦ inl (free_is_enabled op rest left_is free)
    ]

  by_client : (client : ℕ) (o : Option ScriptClient) → client_at script client ≡ o → IsEnabled script moves client ⊎ (IsEnabled script moves client → ⊥)
  by_client client None at_it = inr (λ on. let is = on.1.next.2 in cc)
  by_client client (Some who) at_it = let stands = all.clients client who at_it in by_left client who at_it stands stands.left refl

  pub enabled_or_not : (client : ℕ) → IsEnabled script moves client ⊎ (IsEnabled script moves client → ⊥)
  enabled_or_not client = by_client client (client_at script client) refl
