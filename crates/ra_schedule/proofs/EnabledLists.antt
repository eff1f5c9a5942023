-- Lists of the enabled clients.
use Rattle.std.proofs.Common.{◌≡◌, ◌↔◌, ℕ, zero, suc, ◌+◌, ◌<◌, ◌≤◌, List, [], ◌∷◌, ◌++◌, length, get_or, sym, subst, arith, inl, inr}
use Rattle.std.specs.Prelude.{Contains}
use Rattle.std.specs.List.Sorted.{IsStrictlyIncreasing}
use Rattle.std.proofs.lemmas.Bool.{cases_eq}
use Rattle.std.proofs.lemmas.Option.{slice_get_within}
use Rattle.std.proofs.lemmas.List.Elements.{Contains-push, Contains-push_cases, Contains-append_left, Contains-get_or}
use Rattle.ra_world.specs.Traffic.{Move}
use Rattle.ra_schedule.specs.Script.{ScriptState}
use Rattle.ra_schedule.specs.Schedule.{IsEnabled, AreEnabled}
use Rattle.ra_schedule.proofs.Rising.{rises_more, same_items}

-- nobody has the number 0
pub nobody_is_zero : (script : ScriptState) (moves : List Move) → IsEnabled script moves 0 → ⊥
nobody_is_zero script moves (step, h) = let at = h.next.2 in absurd cc

-- these are the enabled clients up to a number, each of them once, in order
pub record AreEnabledUpTo (script : ScriptState) (moves : List Move) (last : ℕ) (clients : List ℕ) : Type 0 where
  pub each : (client : ℕ) → Contains clients client ↔ ((client ≤ last) × IsEnabled script moves client)
  pub in_order : IsStrictlyIncreasing clients

pub none_so_far : (script : ScriptState) (moves : List Move) → AreEnabledUpTo script moves 0 []
none_so_far script moves =
    record {
      each = λ client. (
        λ has. absurd (nothing has),
        λ h. absurd (nobody_is_zero script moves (subst (IsEnabled script moves) (omega (arith, h.0)) h.1)),
      );
      in_order = λ k within. absurd (omega arith);
    }
  where
    nothing : {n : ℕ} → Contains [] n → ⊥
    nothing (k, within, is) = omega arith

at_most : (script : ScriptState) (moves : List Move) (last : ℕ) (clients : List ℕ) → AreEnabledUpTo script moves last clients
    → (k : ℕ) → k < length clients → get_or clients k 0 < last + 1
at_most script moves last clients are k within =
    let told = (are.each (get_or clients k 0)).0 (Contains-get_or clients k 0 within) in
    omega (arith, told.0)

pub one_more : (script : ScriptState) (moves : List Move) (last : ℕ) (clients : List ℕ) → AreEnabledUpTo script moves last clients
    → IsEnabled script moves (last + 1) → AreEnabledUpTo script moves (last + 1) (clients ++ (last + 1) ∷ [])
one_more script moves last clients are on =
    record {
      each = λ client. (
        λ has. elim (Contains-push_cases clients (last + 1) client has) [
          | inl before ↦ let told = (are.each client).0 before in (omega (arith, told.0), told.1)
          | inr same ↦ (omega (arith, same), subst (IsEnabled script moves) same on)
        ],
        λ h. elim (cases_eq client (last + 1)) [
          | inl same ↦ subst (λ (c : ℕ). Contains (clients ++ (last + 1) ∷ []) c) (sym same) (Contains-push clients (last + 1))
          | inr apart ↦ Contains-append_left clients ((last + 1) ∷ []) client ((are.each client).1 (omega (arith, h.0, apart), h.1))
        ],
      );
      in_order = rises_more clients (last + 1) are.in_order (at_most script moves last clients are);
    }

pub no_more : (script : ScriptState) (moves : List Move) (last : ℕ) (clients : List ℕ) → AreEnabledUpTo script moves last clients
    → (IsEnabled script moves (last + 1) → ⊥) → AreEnabledUpTo script moves (last + 1) clients
no_more script moves last clients are off =
    record {
      each = λ client. (
        λ has. let told = (are.each client).0 has in (omega (arith, told.0), told.1),
        λ h. elim (cases_eq client (last + 1)) [
          | inl same ↦ absurd (off (subst (IsEnabled script moves) same h.1))
          | inr apart ↦ (are.each client).1 (omega (arith, h.0, apart), h.1)
        ],
      );
      in_order = are.in_order;
    }

-- an enabled client is one of the script
pub is_a_client : (script : ScriptState) (moves : List Move) (client : ℕ) → IsEnabled script moves client → client ≤ length script.clients
is_a_client script moves zero on = omega arith
is_a_client script moves (suc k) (step, h) = let within = slice_get_within script.clients k _ h.next.2 in omega arith

pub these_are_all : (script : ScriptState) (moves : List Move) (last : ℕ) (clients : List ℕ) → length script.clients ≤ last
    → AreEnabledUpTo script moves last clients → AreEnabled script moves clients
these_are_all script moves last clients all are =
    record {
      each = λ client. (
        λ has. ((are.each client).0 has).1,
        λ on. (are.each client).1 (let within = is_a_client script moves client on in omega arith, on),
      );
      in_order = are.in_order;
    }

pub enabled_are_one : (script : ScriptState) (moves : List Move) (a b : List ℕ) → AreEnabled script moves a → AreEnabled script moves b → a ≡ b
enabled_are_one script moves a b h g =
    same_items a b h.in_order g.in_order
    (λ n has. (g.each n).1 ((h.each n).0 has)) (λ n has. (h.each n).1 ((g.each n).0 has))
