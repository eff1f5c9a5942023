-- What a client answers for an operation, clause by clause.
use Rattle.std.proofs.Common.{◌≡◌, ◌<◌, ◌≤◌, ◌↔◌, ◌∷◌, ◌++◌, [], ℕ, List, length, Result, Ok, Err, OnOk, OnErr, IsOkUnless, refl, sym, ap, subst}
use Rattle.ra_stamp.specs.declared.mode.Mode.{Mode}
use Rattle.ra_schedule.specs.declared.error.AddOpError.{AddOpError}
use Rattle.ra_schedule.specs.declared.error.AddOpError.TheVariants.{Clients, Limit, NotHeld, AlreadyHeld, Memory}
use Rattle.ra_schedule.specs.declared.script.Op.{Op}
use Rattle.ra_schedule.specs.declared.script.Op.TheVariants.{Lock, Unlock}
use Rattle.ra_schedule.specs.Script.{ScriptClient, IsHeldAfter, Fits, IsScriptClient}
use Rattle.ra_schedule.specs.AddedOps.{IsFault, IsFaultOrMemory, AnswersOp}
use Rattle.ra_schedule.proofs.OpFaults.{other, other_fault, no_fault, no_room, one_kind}
use Rattle.ra_schedule.proofs.Plans.{client_pushed}

pub fault_told : (ops : List Op) (op : Op) (fault : AddOpError) → IsFault ops op fault → IsFaultOrMemory ops op fault
fault_told ops op Clients why = why
fault_told ops op Limit why = why
fault_told ops op NotHeld why = why
fault_told ops op AlreadyHeld why = why
fault_told ops op Memory why = absurd why

pub ok_told : {T : Type 0} (old new : ScriptClient) (op : Op) (r : Result T AddOpError) → AnswersOp old op r new
    → OnOk r (new ≡ record old { ops = old.ops ++ op ∷ [] })
ok_told old new op (Ok x) told = told.1
ok_told old new op (Err fault) told = tt

pub err_told : {T : Type 0} (old new : ScriptClient) (op : Op) (r : Result T AddOpError) → AnswersOp old op r new → OnErr r (new ≡ old)
err_told old new op (Ok x) told = tt
err_told old new op (Err fault) told = told.1

pub client_told : {T : Type 0} (old new : ScriptClient) (op : Op) (r : Result T AddOpError) → AnswersOp old op r new
    → (nodes : ℕ) → IsScriptClient nodes old → IsScriptClient nodes new
client_told old new op (Ok x) told nodes client =
    client_pushed nodes old new op told.0.room told.0.fits (ap (λ (c : ScriptClient). c.node) told.1) (ap (λ (c : ScriptClient). c.ops) told.1) client
client_told old new op (Err fault) told nodes client = subst (IsScriptClient nodes) (sym told.1) client

pub clients_told : {T : Type 0} (old new : ScriptClient) (op : Op) (r : Result T AddOpError) → AnswersOp old op r new → r ≡ Err Clients → ⊥
clients_told old new op (Ok x) told e = no_fault e
clients_told old new op (Err Clients) told e = told.0
clients_told old new op (Err Limit) told e = other _ _ refl refl e
clients_told old new op (Err NotHeld) told e = other _ _ refl refl e
clients_told old new op (Err AlreadyHeld) told e = other _ _ refl refl e
clients_told old new op (Err Memory) told e = other _ _ refl refl e

pub limit_told : {T : Type 0} (old new : ScriptClient) (op : Op) (r : Result T AddOpError) → AnswersOp old op r new
    → (r ≡ Err Limit) ↔ (1024 ≤ length old.ops)
limit_told old new op (Ok x) told = (λ e. absurd (no_fault e), λ full. absurd (no_room _ full told.0.room))
limit_told old new op (Err Clients) told = absurd told.0
limit_told old new op (Err Limit) told = (λ e. told.0, λ full. refl)
limit_told old new op (Err NotHeld) told = (λ e. absurd (other _ _ refl refl e), λ full. absurd (no_room _ full told.0.0))
limit_told old new op (Err AlreadyHeld) told = (λ e. absurd (other _ _ refl refl e), λ full. absurd (no_room _ full told.0.0))
limit_told old new op (Err Memory) told = (λ e. absurd (other _ _ refl refl e), λ full. absurd (no_room _ full told.0.room))

pub not_held_told : {T : Type 0} (old new : ScriptClient) (op : Op) (r : Result T AddOpError) → AnswersOp old op r new
    → (r ≡ Err NotHeld) ↔ ((length old.ops < 1024) × (name : List ℕ) × (op ≡ Unlock name) × (IsHeldAfter old.ops name → ⊥))
not_held_told old new op (Ok x) told = (λ e. absurd (no_fault e), λ w. absurd (w.3 (subst (Fits old.ops) w.2 told.0.fits)))
not_held_told old new op (Err Clients) told = absurd told.0
not_held_told old new op (Err Limit) told = (λ e. absurd (other _ _ refl refl e), λ w. absurd (no_room _ told.0 w.0))
not_held_told old new op (Err NotHeld) told = (λ e. told.0, λ w. refl)
not_held_told old new op (Err AlreadyHeld) told = (λ e. absurd (other _ _ refl refl e), λ w. absurd (one_kind _ _ _ _ told.0.3 w.2))
not_held_told old new op (Err Memory) told = (λ e. absurd (other _ _ refl refl e), λ w. absurd (w.3 (subst (Fits old.ops) w.2 told.0.fits)))

pub already_held_told : {T : Type 0} (old new : ScriptClient) (op : Op) (r : Result T AddOpError) → AnswersOp old op r new
    → (r ≡ Err AlreadyHeld) ↔ ((length old.ops < 1024) × (name : List ℕ) × (mode : Mode) × (op ≡ Lock name mode) × IsHeldAfter old.ops name)
already_held_told old new op (Ok x) told = (λ e. absurd (no_fault e), λ w. absurd (subst (Fits old.ops) w.3 told.0.fits w.4))
already_held_told old new op (Err Clients) told = absurd told.0
already_held_told old new op (Err Limit) told = (λ e. absurd (other _ _ refl refl e), λ w. absurd (no_room _ told.0 w.0))
already_held_told old new op (Err NotHeld) told = (λ e. absurd (other _ _ refl refl e), λ w. absurd (one_kind _ _ _ _ w.3 told.0.2))
already_held_told old new op (Err AlreadyHeld) told = (λ e. told.0, λ w. refl)
already_held_told old new op (Err Memory) told = (λ e. absurd (other _ _ refl refl e), λ w. absurd (subst (Fits old.ops) w.3 told.0.fits w.4))

pub allowed_told : {T : Type 0} (old new : ScriptClient) (op : Op) (r : Result T AddOpError) → AnswersOp old op r new
    → IsOkUnless r Memory ↔ ((length old.ops < 1024) × Fits old.ops op)
allowed_told old new op (Ok x) told = (λ e. (told.0.room, told.0.fits), λ w. tt)
allowed_told old new op (Err Clients) told = absurd told.0
allowed_told old new op (Err Limit) told = (λ e. absurd (other_fault _ _ refl refl e), λ w. absurd (no_room _ told.0 w.0))
allowed_told old new op (Err NotHeld) told = (λ e. absurd (other_fault _ _ refl refl e), λ w. absurd (told.0.3 (subst (Fits old.ops) told.0.2 w.1)))
allowed_told old new op (Err AlreadyHeld) told = (λ e. absurd (other_fault _ _ refl refl e), λ w. absurd (subst (Fits old.ops) told.0.3 w.1 told.0.4))
allowed_told old new op (Err Memory) told = (λ e. (told.0.room, told.0.fits), λ w. refl)
