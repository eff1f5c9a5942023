use Rattle.std.proofs.Common.{◌≡◌, ℕ, nat_le, List, [], ◌∷◌, length, Some, None, refl, sym, ◌∙◌, inl, inr}
use Rattle.std.proofs.lemmas.Bool.{cases_Bool}
use Rattle.ra_trace.specs.Forms as forms
use Rattle.ra_script.specs.Operation.{name_of, op_of, cut}
use Rattle.ra_script.proofs.script_reading.operation.operation_of.Goals as goal

-- ---- Traces are cut and name in the same way

same_cut : (text : List ℕ) → forms.cut 32 text ≡ cut text
same_cut [] = refl
same_cut (b ∷ bs) = rw (same_cut bs)

same_name : (bytes : List ℕ) → forms.name_of bytes ≡ name_of bytes
same_name bytes =
    elim (cases_Bool (nat_le 1 (length bytes))) [
      | inl some ↦ rw some
      | inr none ↦ rw none
    ]

-- ---- What a text is read as, by its parts

no_parts : (text : List ℕ) → forms.cut 32 text ≡ None → None ≡ op_of text
no_parts text none = rw (sym (same_cut text) ∙ none)

no_name : (text : List ℕ) (parts : List ℕ × List ℕ) → forms.cut 32 text ≡ Some parts → forms.name_of parts.1 ≡ None → None ≡ op_of text
no_name text parts is none = rw (sym (same_cut text) ∙ is, sym (same_name parts.1) ∙ none)

pub returns-in_err-word : goal.returns-in_err-word
returns-in_err-word c = c.from_residual.ensures ∙ no_parts c.args.text.now (rw c.in_err-word.was at c.split_once.ensures)

pub returns-in_err-name : goal.returns-in_err-name
returns-in_err-name c =
    c.from_residual-in_err-name.ensures
    ∙ no_name c.args.text.now (c.in_ok-word.word.now, c.in_ok-word.name.now) (rw c.in_ok-word.was at c.split_once.ensures) (sym c.name_of.ensures ∙ c.in_err-name.was)
