-- What is left of a list after a place.
use Rattle.std.proofs.Common.{◌≡◌, ℕ, zero, suc, ◌+◌, ◌<◌, Bool, true, false, cond, ltb, List, [], ◌∷◌, ◌++◌, map, length, drop, get_or, slice_get, Option, Some, None, refl, sym, ap, subst, ◌∙◌, arith}
use Rattle.std.proofs.lemmas.Bool.{ltb-true, ltb-false}
use Rattle.std.proofs.lemmas.Option.{slice_get_within, slice_get-get_or}
use Rattle.ra_stamp.specs.declared.entry.Mark.{Mark}
use Rattle.ra_stamp.specs.declared.message.Message.{Message}
use Rattle.ra_trace.specs.declared.line.Line.{Line}
use Rattle.ra_trace.specs.declared.line.Line.TheVariants.{Sent, Marked}

pub some_left : {X : Type 0} (xs : List X) (k : ℕ) → k < length xs → drop k xs ≡ [] → ⊥
some_left [] k less e = absurd (omega arith)
some_left (x ∷ xs) zero less e = cc
some_left (x ∷ xs) (suc k) less e = some_left xs k (omega arith) e

pub next_left : {X : Type 0} (xs : List X) (k : ℕ) (x : X) → slice_get xs k ≡ Some x → drop k xs ≡ x ∷ drop (k + 1) xs
next_left [] k x e = absurd cc
next_left (y ∷ xs) zero x e = let same : y ≡ x = cc in ap (λ z. z ∷ xs) same
next_left (y ∷ xs) (suc k) x e =
    let number : suc k + 1 ≡ suc (k + 1) = omega arith in
    next_left xs k x e ∙ ap (λ n. x ∷ drop n (y ∷ xs)) (sym number)

pub first_left : {X : Type 0} (xs : List X) (k : ℕ) (x : X) (others : List X) → drop k xs ≡ x ∷ others → slice_get xs k ≡ Some x
first_left [] zero x others e = absurd cc
first_left [] (suc k) x others e = absurd cc
first_left (y ∷ xs) zero x others e = let same : y ≡ x = cc in ap Some same
first_left (y ∷ xs) (suc k) x others e = first_left xs k x others e

-- what a look-up in these items found, or the fact that nothing is found
pub found_at : {X : Type 0} (shown xs : List X) (k : ℕ) (x : X) → shown ≡ xs → true ≡ ltb k (length shown) → x ≡ get_or shown k x → slice_get xs k ≡ Some x
found_at {X} shown xs k x same inside is =
    subst (λ (items : List X). slice_get items k ≡ Some x) same (slice_get-get_or shown k x (ltb-true k (length shown) (sym inside)) ∙ ap Some (sym is))

pub none_at : {X : Type 0} (shown xs : List X) (k : ℕ) (x : X) → shown ≡ xs → false ≡ ltb k (length shown) → slice_get xs k ≡ Some x → ⊥
none_at {X} shown xs k x same outside at =
    absurd (omega (arith, ap length same, ltb-false k (length shown) (sym outside), slice_get_within xs k x at))

pub none_left : {X : Type 0} (xs : List X) (k : ℕ) → slice_get xs k ≡ None → drop k xs ≡ []
none_left [] zero e = refl
none_left [] (suc k) e = refl
none_left (x ∷ xs) zero e = absurd cc
none_left (x ∷ xs) (suc k) e = none_left xs k e

-- the line of a message is due if one is still to be told
all_told : (tells : Bool) (sends : List Message) → (cond tells sends [] ≡ [] → ⊥) → cond tells sends [] ≡ sends
all_told true sends some = refl
all_told false sends some = absurd (some refl)

pub sent_is_due : (tells : Bool) (sends : List Message) (told : ℕ) (marks : List Mark) (message : Message) → slice_get sends told ≡ Some message
    → (cond tells (drop told sends) [] ≡ [] → ⊥) → ◌≡◌ {A = Option Line} (Some (Sent message)) (slice_get (map Sent (cond tells (drop told sends) []) ++ map Marked marks) 0)
sent_is_due tells sends told marks message at some =
    sym (ap (λ (ms : List Message). slice_get (map Sent ms ++ map Marked marks) 0) (all_told tells (drop told sends) some ∙ next_left sends told message at))

pub some_is_due : (tells : Bool) (sends : List Message) (told : ℕ) → slice_get sends told ≡ None → (cond tells (drop told sends) [] ≡ [] → ⊥) → ⊥
some_is_due tells sends told at some = some (all_told tells (drop told sends) some ∙ none_left sends told at)

-- otherwise the line of a mark
pub mark_is_due : (sends : List Message) (marks : List Mark) (come : ℕ) (mark : Mark) → slice_get marks come ≡ Some mark → sends ≡ []
    → ◌≡◌ {A = Option Line} (Some (Marked mark)) (slice_get (map Sent sends ++ map Marked (drop come marks)) 0)
mark_is_due sends marks come mark at none =
    sym (λ i. slice_get (map Sent (none i) ++ map Marked (next_left marks come mark at i)) 0)

pub none_is_due : (sends : List Message) (marks : List Mark) (come : ℕ) → slice_get marks come ≡ None → sends ≡ []
    → ◌≡◌ {A = Option Line} None (slice_get (map Sent sends ++ map Marked (drop come marks)) 0)
none_is_due sends marks come at none =
    sym (λ i. slice_get (map Sent (none i) ++ map Marked (none_left marks come at i)) 0)
