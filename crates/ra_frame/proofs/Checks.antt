-- What the checks of the fields say if none fails.
use Rattle.std.proofs.Common.{◌≡◌, ℕ, ◌+◌, ◌^◌, ◌≤◌, Bool, true, false, cond, not, List, [], ◌∷◌, ◌++◌, length, drop, Option, Some, None, refl, sym, subst, ◌∙◌, arith}
use Rattle.std.specs.Prelude.{◌||◌, ◌⊎◌, ◌==◌, nat_lt, nat_le, slice_index, Result, Ok, Err}
use Rattle.std.specs.List.{list_all}
use Rattle.std.proofs.lemmas.Bool.{ltb-false, le-ltb}
use Rattle.std.proofs.lemmas.Bool.Decides.{nat_tests}
use Rattle.std.proofs.lemmas.List.Sums.{AllPass-from_list_all, list_all-from_AllPass}
use Rattle.ra_stamp.specs.Name.{IsName, is_name_byte}
use Rattle.ra_frame.specs.declared.error.FrameError.{FrameError}
use Rattle.ra_frame.specs.declared.error.FrameError.TheVariants.{Short, Version}
use Rattle.ra_frame.specs.declared.format.Format.{Format}
use Rattle.ra_frame.specs.declared.format.Format.TheVariants.{V1, V2}
use Rattle.ra_frame.specs.Format.{version_byte, mode_place, greatest_node, greatest_mode}
use Rattle.ra_frame.specs.Faults.{Check, first_failing, checks_of, first_fault_of, format_of, is_within, greatest_mode_of}
use Rattle.ra_frame.specs.Checked.{IsChecked, head_checks, numbers_checks, name_checks}

-- each check passes
abbrev pub AllPassed : ℕ → List Check → Type 0
AllPassed len [] = Unit {0}
AllPassed len (check ∷ checks) = (check.end ≤ len) × (check.is_right ≡ true) × AllPassed len checks

passed_by : (short right : Bool) (len : ℕ) (check : Check) (checks : List Check) → (first_failing len checks ≡ None → AllPassed len checks) → nat_lt len check.end ≡ short → check.is_right ≡ right
    → cond short (Some Short) (cond right (first_failing len checks) (Some check.fault)) ≡ None → AllPassed len (check ∷ checks)
passed_by true right len check checks behind s r e = absurd cc
passed_by false true len check checks behind s r e = (ltb-false _ _ s, r, behind e)
passed_by false false len check checks behind s r e = absurd cc

pub all_passed : (len : ℕ) (checks : List Check) → first_failing len checks ≡ None → AllPassed len checks
all_passed len [] e = tt
all_passed len (check ∷ checks) e = passed_by _ _ len check checks (all_passed len checks) refl refl e

pub none_failing : (len : ℕ) (checks : List Check) → AllPassed len checks → first_failing len checks ≡ None
none_failing len [] h = refl
none_failing len (check ∷ checks) h =
    let long : nat_lt len check.end ≡ false = le-ltb _ _ h.0 in
    rw (long, h.1) (none_failing len checks h.2)

within_low : (low high n : ℕ) → is_within low high n ≡ true → low ≤ n
within_low low high n h = grind (arith, nat_tests)

within_high : (low high n : ℕ) → is_within low high n ≡ true → n ≤ high
within_high low high n h = grind (arith, nat_tests)

pub within : (low high n : ℕ) → low ≤ n → n ≤ high → is_within low high n ≡ true
within low high n l h = grind (arith, nat_tests)

not_equal : (a b : ℕ) → not (a == b) ≡ true → a ≡ b → ⊥
not_equal a b h e = grind (arith, nat_tests)

at_most : (a b : ℕ) → nat_le a b ≡ true → a ≤ b
at_most a b h = grind (arith, nat_tests)

equal : (a b : ℕ) → (a == b) ≡ true → a ≡ b
equal a b h = grind (arith, nat_tests)

either_kind : (kind : ℕ) → (kind == 1 || kind == 2) ≡ true → (kind ≡ 1) ⊎ (kind ≡ 2)
either_kind kind h = grind (arith, nat_tests)

pub a_kind : (kind : ℕ) → (kind ≡ 1) ⊎ (kind ≡ 2) → (kind == 1 || kind == 2) ≡ true
a_kind kind h = grind (arith, nat_tests)

pub of_request : (format : Format) (kind : ℕ) → kind ≡ 1 → greatest_mode_of format kind ≡ greatest_mode format
of_request format kind e = rw e refl

pub of_reply : (format : Format) (kind : ℕ) → kind ≡ 2 → greatest_mode_of format kind ≡ 0
of_reply format kind e = rw e refl

-- the version that the first byte names
version_by : (one two : Bool) (byte : ℕ) (format : Format) → (byte == 1) ≡ one → (byte == 2) ≡ two
    → (let r : Result Format FrameError = cond one (Ok V1) (cond two (Ok V2) (Err Version)) in r ≡ Ok format) → byte ≡ version_byte format
version_by true two byte V1 o t e = equal byte 1 o
version_by true two byte V2 o t e = absurd cc
version_by false true byte V1 o t e = absurd cc
version_by false true byte V2 o t e = equal byte 2 t
version_by false false byte format o t e = absurd cc

version_is : (bytes : List ℕ) (format : Format) → format_of bytes ≡ Ok format → slice_index bytes 0 ≡ version_byte format
version_is [] format e = absurd cc
version_is (byte ∷ bytes) format e = version_by (byte == 1) (byte == 2) byte format refl refl e

pub checked : (format : Format) (bytes : List ℕ) → format_of bytes ≡ Ok format → first_fault_of format bytes ≡ None → IsChecked format bytes
checked format bytes v e =
    let kind = all_passed (length bytes) (checks_of format bytes) e in
    let from = kind.2 in
    let to = from.2 in
    let apart = to.2 in
    let mode = apart.2 in
    let seq = mode.2 in
    let clock = seq.2 in
    let len = clock.2 in
    let name = len.2 in
    let end = name.2 in
    record {
      long = equal _ _ end.1;
      version = version_is bytes format v;
      kind = either_kind _ kind.1;
      from_low = within_low 1 (greatest_node format) _ from.1;
      from_high = within_high 1 (greatest_node format) _ from.1;
      to_low = within_low 1 (greatest_node format) _ to.1;
      to_high = within_high 1 (greatest_node format) _ to.1;
      apart = not_equal _ _ apart.1;
      mode = at_most _ _ mode.1;
      seq = at_most _ _ seq.1;
      clock_low = within_low 1 (2 ^ 62) _ clock.1;
      clock_high = within_high 1 (2 ^ 62) _ clock.1;
      name_low = within_low 1 32 _ len.1;
      name_high = within_high 1 32 _ len.1;
      name = name.1;
    }

ends_before : (mode len rest : ℕ) → len ≡ mode + 18 + rest → mode + 9 + 8 ≤ len
ends_before mode len rest e = grind (arith)

-- the bytes of the clock are present
pub clock_is_there : (format : Format) (bytes : List ℕ) (mode : ℕ) → mode ≡ mode_place format → IsChecked format bytes → mode + 9 + 8 ≤ length bytes
clock_is_there format bytes mode e all = ends_before mode (length bytes) (slice_index bytes (mode_place format + 17)) (subst (λ m. length bytes ≡ m + 18 + slice_index bytes (mode_place format + 17)) (sym e) all.long)

-- a name that is determined by its bytes alone
pub name_passes : (name : List ℕ) (r : Bool) → 1 ≤ length name → length name ≤ 32 → (r ≡ true → IsName name) → (IsName name → r ≡ true) → r ≡ list_all is_name_byte name
name_passes name true low high to from = sym (list_all-from_AllPass is_name_byte name (to refl).each)
name_passes name false low high to from =
    elim (list_all is_name_byte name) as (λ b. list_all is_name_byte name ≡ b → false ≡ b) [
      | true ↦ λ e. from (record { not_empty = low; not_long = high; each = AllPass-from_list_all is_name_byte name e })
      | false ↦ λ e. refl
    ] refl

pub same : {a b : ℕ} → a ≡ b → (a == b) ≡ true
same {a} {b} e = grind (arith, nat_tests)

pub different : {a b : ℕ} → (a ≡ b → ⊥) → not (a == b) ≡ true
different {a} {b} h = grind (arith, nat_tests)

pub not_above : {a b : ℕ} → a ≤ b → nat_le a b ≡ true
not_above {a} {b} h = grind (arith, nat_tests)

-- ---- The checks in groups

-- the first fault of some checks is the first fault of all
ahead_by : (short right : Bool) (some all : Option FrameError) (check : Check) (fault : FrameError) → (some ≡ Some fault → all ≡ Some fault) → cond short (Some Short) (cond right some (Some check.fault)) ≡ Some fault
    → cond short (Some Short) (cond right all (Some check.fault)) ≡ Some fault
ahead_by true right some all check fault behind e = e
ahead_by false true some all check fault behind e = behind e
ahead_by false false some all check fault behind e = e

fault_ahead : (len : ℕ) (checks behind : List Check) (fault : FrameError) → first_failing len checks ≡ Some fault → first_failing len (checks ++ behind) ≡ Some fault
fault_ahead len [] behind fault e = absurd cc
fault_ahead len (check ∷ checks) behind fault e =
    ahead_by (nat_lt len check.end) check.is_right (first_failing len checks) (first_failing len (checks ++ behind)) check fault (fault_ahead len checks behind fault) e

-- if some checks pass, the first fault is the first one of the others
behind_by : (short right : Bool) (some all others : Option FrameError) (check : Check) → (some ≡ None → all ≡ others) → cond short (Some Short) (cond right some (Some check.fault)) ≡ None
    → cond short (Some Short) (cond right all (Some check.fault)) ≡ others
behind_by true right some all others check behind e = absurd cc
behind_by false true some all others check behind e = behind e
behind_by false false some all others check behind e = absurd cc

fault_behind : (len : ℕ) (checks behind : List Check) → first_failing len checks ≡ None → first_failing len (checks ++ behind) ≡ first_failing len behind
fault_behind len [] behind e = refl
fault_behind len (check ∷ checks) behind e =
    behind_by (nat_lt len check.end) check.is_right (first_failing len checks) (first_failing len (checks ++ behind)) (first_failing len behind) check (fault_behind len checks behind) e

module _ (format : Format) (bytes : List ℕ) where
  abbrev Fault : (Format → List ℕ → List Check) → Option FrameError → Type 0
  Fault checks fault = first_failing (length bytes) (checks format bytes) ≡ fault

  pub by_head : (fault : FrameError) → Fault head_checks (Some fault) → first_fault_of format bytes ≡ Some fault
  by_head fault e = fault_ahead (length bytes) (head_checks format bytes) (drop 4 (checks_of format bytes)) fault e

  past_head : Fault head_checks None → first_fault_of format bytes ≡ first_failing (length bytes) (drop 4 (checks_of format bytes))
  past_head none = fault_behind (length bytes) (head_checks format bytes) (drop 4 (checks_of format bytes)) none

  pub by_numbers : (fault : FrameError) → Fault head_checks None → Fault numbers_checks (Some fault) → first_fault_of format bytes ≡ Some fault
  by_numbers fault none e = past_head none ∙ fault_ahead (length bytes) (numbers_checks format bytes) (drop 7 (checks_of format bytes)) fault e

  pub by_name : Fault head_checks None → Fault numbers_checks None → first_fault_of format bytes ≡ first_failing (length bytes) (name_checks format bytes)
  by_name none numbers = past_head none ∙ fault_behind (length bytes) (numbers_checks format bytes) (drop 7 (checks_of format bytes)) numbers
