-- What holds of the bytes that were read holds of the whole input: if 258 bytes were read, the input has no line.
use Rattle.std.proofs.Common.{◌≡◌, ◌≢◌, ℕ, ◌≤◌, List, [], ◌∷◌, ◌++◌, length, Option, Some, None, refl, sym, ap, subst, ◌∙◌, arith, inl, inr}
use Rattle.std.specs.Prelude.{IfSome}
use Rattle.std.specs.Io.KnownBytes.{Consumes}
use Rattle.std.proofs.lemmas.List.{length-append}
use Rattle.ra_cli.specs.declared.error.AnswerError.{AnswerError}
use Rattle.ra_cli.specs.declared.error.AnswerError.TheVariants as fault
use Rattle.ra_cli.specs.Line.{IsLine}
use Rattle.ra_text.specs.Input.{Reads}
use Rattle.ra_cli.specs.Answer.{IsAnswered, Refuses}
use Rattle.ra_cli.proofs.Inputs.{is_read}

no_long_line : (input line : List ℕ) → 258 ≤ length input → IsLine input line → ⊥
no_long_line input line long h =
    elim h.whole [
      | inl same ↦ let short : length line ≤ 256 = h.short in absurd (omega (arith, ap length same))
      | inr feed ↦ let short : length line ≤ 256 = h.short in absurd (omega (arith, ap length feed, length-append line (10 ∷ [])))
    ]

-- a refusal that needs a line is not one of an input that is too long
too_long : (node nodes : ℕ) (taken input : List ℕ) (why : AnswerError) → why ≢ fault.Write → 258 ≤ length taken → 258 ≤ length input → Refuses node nodes taken why → Refuses node nodes input why
too_long node nodes taken input fault.BadCount early t i h = h
too_long node nodes taken input fault.BadNode early t i h = h
too_long node nodes taken input fault.Read early t i h = h
too_long node nodes taken input fault.Line early t i h = (h.0, λ line k. no_long_line input line i k)
too_long node nodes taken input fault.Hex early t i h = absurd (no_long_line taken h.1 t h.2)
too_long node nodes taken input (fault.Frame wrong) early t i h = absurd (no_long_line taken h.2.0 t h.2.1)
too_long node nodes taken input fault.WrongNode early t i h = absurd (no_long_line taken h.2.1.0 t h.2.1.1)
too_long node nodes taken input fault.Stranger early t i h = absurd (no_long_line taken h.2.1.0 t h.2.1.1)
too_long node nodes taken input fault.ClockFull early t i h = absurd (no_long_line taken h.2.1.0 t h.2.1.1)
too_long node nodes taken input fault.Memory early t i h = h
too_long node nodes taken input fault.Write early t i h = absurd (early refl)

-- a refusal of what was read is one of the input
pub refuses_input : (old new : Option (List ℕ)) (node nodes : ℕ) (taken : List ℕ) (why : AnswerError) → why ≢ fault.Write → Reads old new 258 taken → Refuses node nodes taken why → IfSome old (λ input. Refuses node nodes input why)
refuses_input None new node nodes taken why early h r = tt
refuses_input (Some input) None node nodes taken why early h r = absurd h.taken
refuses_input (Some input) (Some rest) node nodes taken why early h r =
    elim (is_read 258 input rest taken h).how [
      | inl whole ↦ subst (λ (xs : List ℕ). Refuses node nodes xs why) (sym whole.0) r
      | inr long ↦ too_long node nodes taken input why early long.0 long.1 r
    ]

answered_short : (node nodes : ℕ) (input output : List ℕ) → 258 ≤ length input → IsAnswered node nodes input output → ⊥
answered_short node nodes input output long h = no_long_line input h.carries.1.0 long h.carries.1.1

-- an answer to what was read is one to the input, and nothing of it is left
pub answers_input : (old new : Option (List ℕ)) (node nodes : ℕ) (taken output : List ℕ) → Reads old new 258 taken → IsAnswered node nodes taken output → IfSome old (λ input. IsAnswered node nodes input output × Consumes old new input)
answers_input None new node nodes taken output h r = tt
answers_input (Some input) None node nodes taken output h r = absurd h.taken
answers_input (Some input) (Some rest) node nodes taken output h r =
    elim (is_read 258 input rest taken h).how [
      | inl whole ↦ (subst (λ (xs : List ℕ). IsAnswered node nodes xs output) (sym whole.0) r, subst (λ (xs : List ℕ). Consumes (Some input) (Some rest) xs) (sym whole.0) h.taken)
      | inr long ↦ absurd (answered_short node nodes taken output long.0 r)
    ]

-- a refusal for each input
pub for_each : (old : Option (List ℕ)) (node nodes : ℕ) (why : AnswerError) → ((input : List ℕ) → Refuses node nodes input why) → IfSome old (λ input. Refuses node nodes input why)
for_each None node nodes why h = tt
for_each (Some input) node nodes why h = h input

-- a list with an end that is left
pub not_nil : (bytes prefix suffix : List ℕ) → bytes ≡ prefix ++ suffix → suffix ≢ [] → bytes ≢ []
not_nil bytes [] suffix e left nothing = left (sym e ∙ nothing)
not_nil bytes (x ∷ xs) suffix e left nothing = absurd cc
