-- How the line of a delivery is read: first its word, and then which message it is.
use Rattle.std.proofs.Common.{◌≡◌, ℕ, ◌==◌, List, [], ◌∷◌, ◌++◌, drop, get_or, Option, Some, None, refl, sym, ap, ◌∙◌, inl, inr}
use Rattle.std.specs.Prelude.{codes}
use Rattle.std.proofs.lemmas.Bool.{cases_Bool}
use Rattle.ra_trace.specs.Forms.{Form, rest_after, forms, line_at, line_by}
use Rattle.ra_trace.proofs.Cuts.{rest_after-only, if_true, if_false}

-- a text that doesn't begin with some words doesn't begin with more
after_more : (words more text : List ℕ) → rest_after words text ≡ None → rest_after (words ++ more) text ≡ None
after_more [] more text none = absurd cc
after_more (w ∷ words) more [] none = refl
after_more (w ∷ words) more (b ∷ text) none =
    elim (cases_Bool (w == b)) [
      | inl same ↦ if_true (w == b) (rest_after (words ++ more) text) None same ∙ after_more words more text (sym (if_true (w == b) (rest_after words text) None same) ∙ none)
      | inr other ↦ if_false (w == b) (rest_after (words ++ more) text) None other
    ]

pub delivered : (text rest : List ℕ) → rest_after (codes "deliver ") text ≡ Some rest → line_by (drop 3 forms) text ≡ line_by (drop 5 forms) (codes "deliver " ++ rest)
delivered text rest is = ap (line_by (drop 3 forms)) (rest_after-only (codes "deliver ") text rest is)

pub not_delivered : (text : List ℕ) → rest_after (codes "deliver ") text ≡ None → (rest_after (codes "deliver request ") text ≡ None) × (rest_after (codes "deliver reply ") text ≡ None)
not_delivered text none = (after_more (codes "deliver ") (codes "request ") text none, after_more (codes "deliver ") (codes "reply ") text none)

-- ---- One form after the other

-- the form at a place, counted from 0
abbrev pub form : ℕ → Form
form n = get_or forms n (record { words = []; read = λ rest. None })

-- the text begins with the words of a form
pub by_form : (form : Form) (others : List Form) (text rest : List ℕ) → rest_after form.words text ≡ Some rest → line_by (form ∷ others) text ≡ form.read rest
by_form form others text rest is = ap (λ (o : Option (List ℕ)). line_at o form.read (line_by others text)) is

-- it does not
pub by_others : (form : Form) (others : List Form) (text : List ℕ) → rest_after form.words text ≡ None → line_by (form ∷ others) text ≡ line_by others text
by_others form others text none = ap (λ (o : Option (List ℕ)). line_at o form.read (line_by others text)) none
