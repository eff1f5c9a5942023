-- What the end of a request and of a grant tells.
use Rattle.std.proofs.Common.{◌≡◌, ◌↔◌, Contains, Result, Ok, Err, IfErr, IsOk, IsErrOf, refl, sym, ap, ◌∙◌, arith}
use Rattle.std.specs.Result.{IsErrAnd}
use Rattle.std.proofs.lemmas.Bool.{false≢true}
use Rattle.ra_stamp.specs.declared.entry.Entry.{Entry}
use Rattle.ra_table.specs.declared.error.EnterError.{EnterError}
use Rattle.ra_table.specs.declared.error.EnterError.TheVariants as entering
use Rattle.ra_table.specs.declared.error.LeaveError.{LeaveError}
use Rattle.ra_table.specs.declared.error.LeaveError.TheVariants.{NotHeld}
use Rattle.ra_table.specs.declared.error.RequestError.{RequestError}
use Rattle.ra_table.specs.declared.error.RequestError.TheVariants as requesting
use Rattle.ra_table.specs.declared.error.WithdrawError.{WithdrawError}
use Rattle.ra_table.specs.declared.error.WithdrawError.TheVariants as withdrawing
use Rattle.ra_table.specs.Table.{LockTable, empty_table, MayRequest, MayEnter}
use Rattle.ra_table.specs.Refusals.{IsNodeBusy, IsNotAbove, IsHeld, HasEarlier}
use Rattle.ra_table.specs.Answers.{RequestTells, CheckTells, EnterTells, IsAnswered}
use Rattle.ra_table.proofs.Allowed.{MayRequest-not_refused, MayRequest-not_busy, MayRequest-not_overtaken, MayEnter-not_held, MayEnter-no_earlier}
use Rattle.ra_table.proofs.Checked.{answers_not_waiting}

same_error : {X E : Type 0} (e f : E) → IsErrOf {T = X} (Err e) f → e ≡ f
same_error e f h = cc

ok_apart : {X E : Type 0} (x : X) (e : E) → Ok x ≡ Err e → ⊥
ok_apart x e h = cc

-- the error that a callee gave, passed on
pub same_fault : {E : Type 0} (fault : E) (result : Result (Unit {0}) E) → IsErrAnd result (λ e. e ≡ fault) → result ≡ Err fault
same_fault fault (Ok x) is = absurd is
same_fault fault (Err e) is = ap Err is

pub fault_is : {E : Type 0} (P : E → Type 0) (result : Result (Unit {0}) E) → IsErrAnd result P → IfErr result P
fault_is P (Ok x) is = absurd is
fault_is P (Err e) is = is

-- ---- A request

busy_apart : requesting.NodeBusy ≡ requesting.Memory → ⊥
busy_apart e = cc

not_above_apart : requesting.NotAbove ≡ requesting.Memory → ⊥
not_above_apart e = cc

busy_and_not_above : requesting.NodeBusy ≡ requesting.NotAbove → ⊥
busy_and_not_above e = cc

pub busy_told : (table : LockTable) (e : Entry) → IsNodeBusy table e → CheckTells (Err requesting.NodeBusy) table e
busy_told table e busy = record {
  allowed = (λ h. absurd (false≢true h), λ may. absurd (MayRequest-not_busy table e may busy));
  node_busy = (λ _. busy, λ _. refl);
  not_above = (λ h. absurd (busy_and_not_above (same_error requesting.NodeBusy requesting.NotAbove h)), λ h. absurd (h.0 busy));
  no_memory = λ h. busy_apart (same_error requesting.NodeBusy requesting.Memory h);
}

pub not_above_told : (table : LockTable) (e : Entry) → (IsNodeBusy table e → ⊥) → IsNotAbove table e → CheckTells (Err requesting.NotAbove) table e
not_above_told table e free reached = record {
  allowed = (λ h. absurd (false≢true h), λ may. absurd (MayRequest-not_overtaken table e may reached));
  node_busy = (λ h. absurd (busy_and_not_above (sym (same_error requesting.NotAbove requesting.NodeBusy h))), λ busy. absurd (free busy));
  not_above = (λ _. (free, reached), λ _. refl);
  no_memory = λ h. not_above_apart (same_error requesting.NotAbove requesting.Memory h);
}

pub none_told : (table : LockTable) (e : Entry) → (IsNodeBusy table e → ⊥) → (IsNotAbove table e → ⊥) → CheckTells (Ok tt) table e
none_told table e free above = record {
  allowed = (λ _. MayRequest-not_refused table e free above, λ _. refl);
  node_busy = (λ h. absurd (ok_apart tt requesting.NodeBusy h), λ busy. absurd (free busy));
  not_above = (λ h. absurd (ok_apart tt requesting.NotAbove h), λ h. absurd (above h.1));
  no_memory = ok_apart tt requesting.Memory;
}

-- a request that may not be made is refused for that
pub request_refused : (fault : RequestError) (table : LockTable) (e : Entry) → CheckTells (Err fault) table e → RequestTells (Err fault) table e
request_refused fault table e told =
    record {
      node_busy = told.node_busy;
      not_above = told.not_above;
      allowed = (λ h. absurd (told.no_memory (ap Err h)), λ may. absurd (false≢true (told.allowed.1 may)));
    }

-- one that may be made is refused only because memory ran out
pub request_made : (result : Result (Unit {0}) RequestError) (table : LockTable) (e : Entry) → MayRequest table e → IfErr result (λ fault. fault ≡ requesting.Memory) → RequestTells result table e
request_made (Ok x) table e may memory =
    record {
      node_busy = (λ h. absurd (ok_apart x requesting.NodeBusy h), λ busy. absurd (MayRequest-not_busy table e may busy));
      not_above = (λ h. absurd (ok_apart x requesting.NotAbove h), λ h. absurd (MayRequest-not_overtaken table e may h.1));
      allowed = (λ _. may, λ _. tt);
    }
request_made (Err fault) table e may memory =
    record {
      node_busy = (λ h. absurd (busy_apart (sym (same_error fault requesting.NodeBusy h) ∙ memory)), λ busy. absurd (MayRequest-not_busy table e may busy));
      not_above = (λ h. absurd (not_above_apart (sym (same_error fault requesting.NotAbove h) ∙ memory)), λ h. absurd (MayRequest-not_overtaken table e may h.1));
      allowed = (λ _. may, λ _. memory);
    }

-- ---- An entry

not_waiting_apart : entering.NotWaiting ≡ entering.Memory → ⊥
not_waiting_apart e = cc

held_apart : entering.Held ≡ entering.Memory → ⊥
held_apart e = cc

earlier_apart : entering.Earlier ≡ entering.Memory → ⊥
earlier_apart e = cc

-- an error says the same about any value, as it has none
passed_on : {X Y : Type 0} (fault f : EnterError) (P : Type 0) → IsErrOf {T = X} (Err fault) f ↔ P → IsErrOf {T = Y} (Err fault) f ↔ P
passed_on fault f P tells = (λ h. tells.0 (ap Err (same_error fault f h)), λ p. ap Err (same_error fault f (tells.1 p)))

pub enter_refused : (fault : EnterError) (table : LockTable) (e : Entry) → IsAnswered table e (Err fault) → EnterTells (Err fault) table e
enter_refused fault table e told =
    record {
      not_waiting = passed_on fault entering.NotWaiting (Contains table.waiting e → ⊥) told.not_waiting;
      held = passed_on fault entering.Held (Contains table.waiting e × IsHeld table e) told.held;
      earlier = passed_on fault entering.Earlier (Contains table.waiting e × (IsHeld table e → ⊥) × HasEarlier table e) told.earlier;
      allowed = (λ h. absurd (told.no_memory (ap Err h)), λ may. absurd (false≢true (told.allowed.1 may)));
    }

pub enter_made : (result : Result (Unit {0}) EnterError) (table : LockTable) (e : Entry) → MayEnter table e → IfErr result (λ fault. fault ≡ entering.Memory) → EnterTells result table e
enter_made (Ok x) table e may memory =
    record {
      not_waiting = (λ h. absurd (ok_apart x entering.NotWaiting h), λ absent. absurd (absent may.waits));
      held = (λ h. absurd (ok_apart x entering.Held h), λ h. absurd (MayEnter-not_held table e may h.1));
      earlier = (λ h. absurd (ok_apart x entering.Earlier h), λ h. absurd (MayEnter-no_earlier table e may h.2));
      allowed = (λ _. may, λ _. tt);
    }
enter_made (Err fault) table e may memory =
    record {
      not_waiting = (λ h. absurd (not_waiting_apart (sym (same_error fault entering.NotWaiting h) ∙ memory)), λ absent. absurd (absent may.waits));
      held = (λ h. absurd (held_apart (sym (same_error fault entering.Held h) ∙ memory)), λ h. absurd (MayEnter-not_held table e may h.1));
      earlier = (λ h. absurd (earlier_apart (sym (same_error fault entering.Earlier h) ∙ memory)), λ h. absurd (MayEnter-no_earlier table e may h.2));
      allowed = (λ _. may, λ _. memory);
    }

-- no entry waits in the empty table
pub nobody_enters : (e : Entry) → EnterTells (Err entering.NotWaiting) empty_table e
nobody_enters e = enter_refused entering.NotWaiting empty_table e (answers_not_waiting empty_table e (λ at. absurd (omega (arith, at.1))))

-- ---- An entry that leaves

-- it is not given back exactly if it does not hold
pub not_waiting_told : (result : Result (Unit {0}) WithdrawError) (Here There : Type 0) → IsOk result ↔ Here → Here ↔ There → IsErrOf result withdrawing.NotWaiting ↔ (There → ⊥)
not_waiting_told (Ok u) Here There ok same = (λ err. absurd (ok_apart u withdrawing.NotWaiting err), λ none. absurd (none (same.0 (ok.0 refl))))
not_waiting_told (Err withdrawing.NotWaiting) Here There ok same = (λ _ there. false≢true (ok.1 (same.1 there)), λ _. refl)

pub not_held_told : (result : Result (Unit {0}) LeaveError) (Here There : Type 0) → IsOk result ↔ Here → Here ↔ There → IsErrOf result NotHeld ↔ (There → ⊥)
not_held_told (Ok u) Here There ok same = (λ err. absurd (ok_apart u NotHeld err), λ none. absurd (none (same.0 (ok.0 refl))))
not_held_told (Err NotHeld) Here There ok same = (λ _ there. false≢true (ok.1 (same.1 there)), λ _. refl)
