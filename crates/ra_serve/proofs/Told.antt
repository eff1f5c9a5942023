-- What is told of a count.
use Rattle.std.proofs.Common.{◌≡◌, ℕ, Bool, true, false, if◌then◌else◌, List, Option, Some, None, refl, sym, subst, ◌∙◌}
use Rattle.std.proofs.lemmas.Option.{none-some, same_Some}
use Rattle.ra_serve.specs.declared.base.Base.{Base}
use Rattle.ra_serve.specs.Notes.{Notes, Counts, WritesIf, count_of, is_told, note_text}
use Rattle.ra_serve.specs.Saying.{Writes}

some_told : (b : Bool) (n k : ℕ) → (if b then Some n else None) ≡ Some k → (b ≡ true) × (n ≡ k)
some_told true n k is = (refl, same_Some n k is)
some_told false n k is = absurd (none-some k is)

none_told : (b : Bool) (n : ℕ) → (if b then Some n else None) ≡ None → b ≡ false
none_told true n is = absurd (none-some n (sym is))
none_told false n is = refl

-- a fault that was counted is told
pub told : (old mid new : Base) (host place : ℕ) (words : List ℕ) (found : Option ℕ) (count : ℕ) → Counts old host place mid
    → found ≡ (if is_told (count_of old host place) then Some (count_of old host place) else None) → found ≡ Some count
    → Writes mid (note_text host words count) new → Notes old host place words new
told old mid new host place words found count counts result is writes =
    let t = some_told (is_told (count_of old host place)) (count_of old host place) count (sym result ∙ is) in
    let text : Writes mid (note_text host words (count_of old host place)) new = subst (λ n. Writes mid (note_text host words n) new) (sym t.1) writes in
    (mid, counts, subst (λ (b : Bool). WritesIf b mid (note_text host words (count_of old host place)) new) (sym t.0) text)

-- a fault that was counted is not told
pub untold : (old mid : Base) (host place : ℕ) (words : List ℕ) (found : Option ℕ) → Counts old host place mid
    → found ≡ (if is_told (count_of old host place) then Some (count_of old host place) else None) → found ≡ None
    → Notes old host place words mid
untold old mid host place words found counts result is =
    let none = none_told (is_told (count_of old host place)) (count_of old host place) (sym result ∙ is) in
    (mid, counts, subst (λ (b : Bool). WritesIf b mid (note_text host words (count_of old host place)) mid) (sym none) refl)
