-- Bytes with a prefix that was written.
use Rattle.std.proofs.Common.{◌≡◌, ℕ, ◌-◌, List, ◌++◌, length, take, drop, sym, ap, ◌∙◌, append_assoc}
use Rattle.std.proofs.lemmas.List.{take-append-drop, take_rest}

-- a list whose end is cut again
pub cut_again : (bytes prefix rest : List ℕ) (n : ℕ) → bytes ≡ prefix ++ rest → bytes ≡ (prefix ++ take n rest) ++ take (length rest - n) (drop n rest)
cut_again bytes prefix rest n e =
    e ∙ (ap (λ (xs : List ℕ). prefix ++ xs) (sym (take-append-drop n rest)) ∙ (sym (append_assoc prefix (take n rest) (drop n rest))
    ∙ ap (λ (xs : List ℕ). (prefix ++ take n rest) ++ xs) (sym (take_rest rest n))))
