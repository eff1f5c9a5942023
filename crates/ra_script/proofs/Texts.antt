-- The tree of a text.
use Rattle.std.proofs.Common.{◌≡◌, ◌<◌, ◌≤◌, ℕ, true, false, List, length, nat_lt, Ok, Err, ok_or, arith, inl, inr}
use Rattle.std.proofs.lemmas.Bool.{cases_Bool}
use Rattle.std.proofs.lemmas.Bool.Decides.{nat_tests}
use Rattle.std.proofs.lemmas.Str.{IsUtf8-from_is_utf8, is_utf8-from_IsUtf8}
use Rattle.std.specs.Str.{IsUtf8, is_utf8}
use Rattle.toml.specs.Parse.{parse_document}
use Rattle.std.specs.Prelude.{IsErrOf}
use Rattle.ra_script.specs.declared.error.ScriptError.{ScriptError}
use Rattle.ra_script.specs.declared.error.ScriptError.TheVariants as fault
use Rattle.ra_script.specs.ScriptText.{IsText, tree_of}

long_or_not : (n : ℕ) → 65536 < n → nat_lt 65536 n ≡ true
long_or_not n h = grind (arith, nat_tests)

not_long : (n : ℕ) → n ≤ 65536 → nat_lt 65536 n ≡ false
not_long n h = grind (arith, nat_tests)

pub tree_of-long : (text : List ℕ) → 65536 < length text → tree_of text ≡ Err fault.Limit
tree_of-long text long = rw (long_or_not (length text) long)

pub tree_of-bytes : (text : List ℕ) → length text ≤ 65536 → (IsUtf8 text → ⊥) → tree_of text ≡ Err fault.Toml
tree_of-bytes text short other =
    elim (cases_Bool (is_utf8 text)) [
      | inl good ↦ absurd (other (IsUtf8-from_is_utf8 text good))
      | inr bad ↦ rw (not_long (length text) short, bad)
    ]

pub tree_of-text : (text : List ℕ) → length text ≤ 65536 → IsUtf8 text → tree_of text ≡ ok_or (parse_document text) fault.Toml
tree_of-text text short utf8 = rw (not_long (length text) short, is_utf8-from_IsUtf8 text utf8)

pub is_text : (text : List ℕ) → length text ≤ 65536 → IsUtf8 text → IsText text
is_text text short utf8 = (short, is_utf8-from_IsUtf8 text utf8)

pub not_both : {P : Type 0} (n : ℕ) → n ≤ 65536 → 65536 < n → P
not_both n short long = absurd (omega (arith, short, long))

-- ---- No memory is asked for before a text is parsed, nor after it was read

pub limit_is_not_memory : {T P : Type 0} → IsErrOf {T = T} (Err fault.Limit) fault.Memory → P
limit_is_not_memory of = absurd cc

pub toml_is_not_memory : {T P : Type 0} → IsErrOf {T = T} (Err fault.Toml) fault.Memory → P
toml_is_not_memory of = absurd cc

pub not_refused : {T P : Type 0} (value : T) (why : ScriptError) → IsErrOf (Ok value) why → P
not_refused value why of = absurd cc
