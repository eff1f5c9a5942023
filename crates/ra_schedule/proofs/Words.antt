-- Choices that are written one after the other.
use Rattle.std.proofs.Common.{◌≡◌, ℕ, ◌+◌, ◌<◌, ◌≤◌, List, [], ◌∷◌, ◌++◌, length, get_or, take, length-take-le, refl, sym, ap, ◌∙◌, subst, append_assoc, arith}
use Rattle.std.specs.Prelude.{All}
use Rattle.std.proofs.lemmas.List.{get_or_default}
use borrow.Author.Count.{below_more}
use Rattle.ra_schedule.specs.declared.choice.Choice.{Choice}
use Rattle.ra_schedule.specs.ChoicesText.{HasText, spelled, spelled_all}

-- one more word, after a space
pub spelled_more : (before : List Choice) (choice : Choice) → 0 < length before
    → spelled_all (before ++ choice ∷ []) ≡ spelled_all before ++ 32 ∷ spelled choice
spelled_more [] choice some = absurd (omega arith)
spelled_more (x ∷ []) choice some = refl
spelled_more (x ∷ y ∷ before) choice some =
    ap (λ (text : List ℕ). spelled x ++ 32 ∷ text) (spelled_more (y ∷ before) choice (omega arith))
    ∙ sym (append_assoc (spelled x) (32 ∷ spelled_all (y ∷ before)) (32 ∷ spelled choice))

-- the first word has no space before it
pub spelled_first : (before : List Choice) (choice : Choice) (old new : List ℕ) → length before ≡ 0 → old ≡ spelled_all before
    → new ≡ old ++ spelled choice → new ≡ spelled_all (before ++ choice ∷ [])
spelled_first [] choice old new none is more = more ∙ ap (λ (text : List ℕ). text ++ spelled choice) is
spelled_first (x ∷ before) choice old new none is more = absurd (omega arith)

pub spelled_next : (before : List Choice) (choice : Choice) (old between new : List ℕ) → 0 < length before → old ≡ spelled_all before
    → between ≡ old ++ 32 ∷ [] → new ≡ between ++ spelled choice → new ≡ spelled_all (before ++ choice ∷ [])
spelled_next before choice old between new some is space more =
    more ∙ ap (λ (text : List ℕ). text ++ spelled choice) (space ∙ ap (λ (text : List ℕ). text ++ 32 ∷ []) is)
    ∙ append_assoc (spelled_all before) (32 ∷ []) (spelled choice) ∙ sym (spelled_more before choice some)

-- ---- Place by place

pub taken_len : (choices : List Choice) (place : ℕ) → place < length choices → length (take place choices) ≡ place
taken_len choices place lt = length-take-le place choices (omega (arith, lt))

below_zero : {P : Type 0} (k : ℕ) → k < 0 → P
below_zero k lt = absurd (omega (arith, lt))

-- each choice before this place has a word
abbrev pub HaveWords : List Choice → ℕ → Type 0
HaveWords choices place = (k : ℕ) (d : Choice) → k < place → HasText (get_or choices k d)

pub have_none : (choices : List Choice) → HaveWords choices 0
have_none choices k d lt = below_zero k lt

pub have_more : (choices : List Choice) (place : ℕ) (x : Choice) → place < length choices → HaveWords choices place → HasText (get_or choices place x)
    → HaveWords choices (place + 1)
have_more choices place x within before here k d lt =
    below_more (λ j. (e : Choice) → HasText (get_or choices j e)) place (λ j less e. before j e less)
    (λ e. subst HasText (get_or_default choices place x e within) here) k lt d

pub have_all : (choices : List Choice) (place : ℕ) → length choices ≤ place → HaveWords choices place → All HasText choices
have_all choices place past before k d lt = before k d (omega (arith, lt, past))
