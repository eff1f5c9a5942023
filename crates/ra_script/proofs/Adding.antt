-- Another operation of a client, and another client.
use Rattle.std.proofs.Common.{◌≡◌, ◌<◌, ◌≤◌, ◌+◌, ℕ, false, List, [], ◌∷◌, ◌++◌, length, get_or, drop, nat_lt, Some, None, Ok, Err, refl, sym, ap, ◌∙◌, inl, inr, arith, length-append}
use Rattle.std.proofs.lemmas.Bool.{cases_Bool}
use Rattle.std.proofs.lemmas.Bool.Decides.{nat_tests}
use Rattle.std.proofs.lemmas.List.{same_from_push, at_drop_more, length_push, length-map, get_or-map}
use Rattle.std.specs.Borrow.{Bor}
use Rattle.ra_stamp.specs.declared.mode.Mode.{Mode}
use Rattle.ra_schedule.specs.declared.error.AddOpError.{AddOpError}
use Rattle.ra_schedule.specs.declared.error.AddOpError.TheVariants as add
use Rattle.ra_schedule.specs.declared.script.Op.{Op}
use Rattle.ra_schedule.specs.declared.script.Op.TheVariants.{Lock, Unlock}
use Rattle.ra_schedule.specs.Script.{ScriptClient, ScriptState, IsScript, IsHeldAfter, Fits, LastHas, AddsOp}
use Rattle.ra_script.specs.declared.error.ScriptError.{ScriptError}
use Rattle.ra_script.specs.declared.error.ScriptError.TheVariants as fault
use Rattle.ra_script.specs.Document.{texts}
use Rattle.ra_script.specs.Faults.{IsRefusal, of_op}
use Rattle.ra_script.specs.Operation.{op_of}
use Rattle.ra_script.specs.ScriptText.{with_last, is_held_after, fitting, next_op, ops_after, script_ops}
use Rattle.ra_script.proofs.Held.{held_after, is_held_after-false}

-- an operation that fits is taken as it is
pub fitting-fits : (done : List Op) (op : Op) → Fits done op → fitting done op ≡ Ok op
fitting-fits done (Lock name mode) fits =
    elim (cases_Bool (is_held_after done name)) [
      | inl held ↦ absurd (fits (held_after done name held))
      | inr free ↦ rw free
    ]
fitting-fits done (Unlock name) fits =
    elim (cases_Bool (is_held_after done name)) [
      | inl held ↦ rw held
      | inr free ↦ absurd (is_held_after-false done name free fits)
    ]

fitting-not_held : (done : List Op) (op : Op) (name : List ℕ) → op ≡ Unlock name → (IsHeldAfter done name → ⊥) → fitting done op ≡ Err fault.NotHeld
fitting-not_held done op name is free =
    elim (cases_Bool (is_held_after done name)) [
      | inl held ↦ absurd (free (held_after done name held))
      | inr not_held ↦ rw (is, not_held)
    ]

fitting-already_held : (done : List Op) (op : Op) (name : List ℕ) (mode : Mode) → op ≡ Lock name mode → IsHeldAfter done name → fitting done op ≡ Err fault.AlreadyHeld
fitting-already_held done op name mode is held =
    elim (cases_Bool (is_held_after done name)) [
      | inl has ↦ rw (is, has)
      | inr free ↦ absurd (is_held_after-false done name free held)
    ]

-- what the last client did
last_did : (base old : ScriptState) (node : ℕ) (done ops : List Op) → old ≡ with_last base (record { node = node; ops = done }) → LastHas old ops → ops ≡ done
last_did base old node done ops is has =
    let clients = ap (λ (s : ScriptState). s.clients) is in
    sym has.3 ∙ ap (λ (c : ScriptClient). c.ops) (same_from_push has.0 base.clients has.1 (record { node = node; ops = done }) (sym has.2 ∙ clients)).1

-- an operation that was added is the next one
pub added : (base old new : ScriptState) (node : ℕ) (done : List Op) (string : List ℕ) (op : Op) → op_of string ≡ Some op → AddsOp old op new
    → (ops : List Op) × LastHas old ops × (length ops < 1024) × Fits ops op → old ≡ with_last base (record { node = node; ops = done })
    → (next_op done string ≡ Ok op) × (new ≡ with_last base (record { node = node; ops = done ++ op ∷ [] }))
added base old new node done string op read adds allowed is =
    let clients = ap (λ (s : ScriptState). s.clients) is in
    let same = last_did base old node done allowed.0 is allowed.1 in
    let fits : Fits done op = rw same at allowed.3 in
    let client : ScriptClient = record { node = node; ops = done } in
    let ends = same_from_push adds.0 base.clients adds.1 client (sym adds.2 ∙ clients) in
    (rw (read, fitting-fits done op fits), adds.3 ∙ rw (ends.0, ends.1, is))

-- a refusal of an operation is one of the next one
pub refused : (base old : ScriptState) (node : ℕ) (done : List Op) (string : List ℕ) (op : Op) (why : AddOpError) → op_of string ≡ Some op
    → (why ≡ add.Clients → old.clients ≡ []) → (why ≡ add.Limit → (ops : List Op) × LastHas old ops × (1024 ≤ length ops))
    → (why ≡ add.NotHeld → (ops : List Op) × LastHas old ops × (length ops < 1024) × (name : List ℕ) × (op ≡ Unlock name) × (IsHeldAfter ops name → ⊥))
    → (why ≡ add.AlreadyHeld → (ops : List Op) × LastHas old ops × (length ops < 1024) × (name : List ℕ) × (mode : Mode) × (op ≡ Lock name mode) × IsHeldAfter ops name)
    → old ≡ with_last base (record { node = node; ops = done }) → length done < 1024 → IsRefusal (next_op done string) (of_op why)
refused base old node done string op add.Clients read clients limit not_held already is few =
    let nothing = sym (ap (λ (s : ScriptState). s.clients) is) ∙ clients refl in
    absurd (omega (arith, ap length nothing, length-append base.clients (record { node = node; ops = done } ∷ [])))
refused base old node done string op add.Limit read clients limit not_held already is few =
    let full = limit refl in
    absurd (omega (arith, ap length (last_did base old node done full.0 is full.1), full.2))
refused base old node done string op add.NotHeld read clients limit not_held already is few =
    let w = not_held refl in
    let same = last_did base old node done w.0 is w.1 in
    let free : IsHeldAfter done w.3 → ⊥ = rw same at w.5 in
    inl (rw (read, fitting-not_held done op w.3 w.4 free))
refused base old node done string op add.AlreadyHeld read clients limit not_held already is few =
    let w = already refl in
    let same = last_did base old node done w.0 is w.1 in
    let held : IsHeldAfter done w.3 = rw same at w.6 in
    inl (rw (read, fitting-already_held done op w.3 w.4 w.5 held))
refused base old node done string op add.Memory read clients limit not_held already is few = inr refl

-- a string that is no operation
pub next_op-none : (done : List Op) (string : List ℕ) → op_of string ≡ None → next_op done string ≡ Err fault.Op
next_op-none done string none = rw none

-- the strings up to a place were added as the operations of a last client
pub record IsAddedTo (base : ScriptState) (node : ℕ) (strings : List (List ℕ)) (place : ℕ) (script : ScriptState) : Type 0 where
  pub done : List Op
  pub is : script ≡ with_last base (record { node = node; ops = done })
  pub count : length done ≡ place
  pub same : ops_after [] strings ≡ ops_after done (drop place strings)
  pub valid : IsScript script

pub IsAddedTo-more : (base : ScriptState) (node : ℕ) (strings : List (List ℕ)) (place : ℕ) (script new : ScriptState) (string : List ℕ) → place < length strings → string ≡ get_or strings place string → length strings ≤ 1024
    → ((origin : ScriptState) (n : ℕ) (done : List Op) → script ≡ with_last origin (record { node = n; ops = done }) → length done < 1024
    → (op : Op) × (next_op done string ≡ Ok op) × (new ≡ with_last origin (record { node = n; ops = done ++ op ∷ [] })))
    → IsScript new → IsAddedTo base node strings place script → IsAddedTo base node strings (place + 1) new
IsAddedTo-more base node strings place script new string lt at few step valid h =
    let w = step base node h.done h.is (omega (arith, h.count)) in
    let drop_is = at_drop_more (ops_after h.done) strings place string lt in
    record {
      done = h.done ++ w.0 ∷ [];
      is = w.2;
      count = length_push h.done w.0 ∙ ap (λ n. n + 1) h.count;
      same = h.same ∙ (drop_is ∙ rw (sym at, w.1));
      valid = valid;
    }

pub IsAddedTo-refused : (base : ScriptState) (node : ℕ) (strings : List (List ℕ)) (place : ℕ) (script : ScriptState) (string : List ℕ) (why : ScriptError) → place < length strings → string ≡ get_or strings place string → length strings ≤ 1024
    → ((origin : ScriptState) (n : ℕ) (done : List Op) → script ≡ with_last origin (record { node = n; ops = done }) → length done < 1024 → IsRefusal (next_op done string) why)
    → IsAddedTo base node strings place script → IsRefusal (ops_after [] strings) why
IsAddedTo-refused base node strings place script string why lt at few step h =
    let drop_is = at_drop_more (ops_after h.done) strings place string lt in
    elim (step base node h.done h.is (omega (arith, h.count))) [
      | inl because ↦ inl (h.same ∙ (drop_is ∙ rw (sym at, because)))
      | inr memory ↦ inr memory
    ]

-- within the limit, the operations are the ones of the strings
pub script_ops-few : (strings : List (List ℕ)) → length strings ≤ 1024 → script_ops strings ≡ ops_after [] strings
script_ops-few strings few = rw (within (length strings) few)
  where
    within : (n : ℕ) → n ≤ 1024 → nat_lt 1024 n ≡ false
    within n h = grind (arith, nat_tests)

pub length-texts : (strings : List (Bor (List ℕ))) → length (texts strings) ≡ length strings
length-texts strings = length-map strings _

-- a string at a place
pub text_at : (strings : List (Bor (List ℕ))) (place : ℕ) (d : Bor (List ℕ)) → place < length strings → (get_or strings place d).now ≡ get_or (texts strings) place (get_or strings place d).now
text_at strings place d lt = sym (get_or-map (λ (s : Bor (List ℕ)). s.now) strings place d (get_or strings place d).now lt)
