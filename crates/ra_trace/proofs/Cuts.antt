-- What comes before and after a byte, and after words.
use Rattle.std.proofs.Common.{◌≡◌, ◌≢◌, ℕ, zero, suc, ◌+◌, ◌-◌, ◌<◌, length-drop, add-one, ◌∙◌, ◌==◌, Bool, true, false, if◌then◌else◌, List, [], ◌∷◌, ◌++◌, length, get_or, take, drop, All, Option, Some, None, MatchOption, Bor, option_map, refl, sym, ap, arith, inl, inr, ◌⊎◌, eq-eqb}
use Rattle.std.proofs.lemmas.Bool.{ne_eqb, cases_Bool, eqb-true, false≢true}
use Rattle.std.proofs.lemmas.List.{take_all}
use Rattle.std.proofs.lemmas.List.Elements.{All-head, All-tail}
use Rattle.std.proofs.lemmas.Option.{same_Some, none-some}
use Rattle.ra_trace.specs.Forms.{cut, rest_after}

-- an option that was mapped
pub mapped : {A B : Type 0} (f : A → B) (o : Option A) (y : B) → option_map f o ≡ Some y → (x : A) × (o ≡ Some x) × (f x ≡ y)
mapped f None y e = absurd cc
mapped f (Some x) y e = (x, refl, same_Some _ _ e)

pub cases_Option : {A : Type 0} (o : Option A) → (o ≡ None) ⊎ ((x : A) × (o ≡ Some x))
cases_Option None = inl refl
cases_Option (Some x) = inr (x, refl)

pub if_true : {A : Type 0} (b : Bool) (x y : A) → b ≡ true → (if b then x else y) ≡ x
if_true true x y is = refl
if_true false x y is = absurd (false≢true is)

pub if_false : {A : Type 0} (b : Bool) (x y : A) → b ≡ false → (if b then x else y) ≡ y
if_false true x y is = absurd (false≢true (sym is))
if_false false x y is = refl

-- what is cut after another byte
abbrev longer : ℕ → List ℕ × List ℕ → List ℕ × List ℕ
longer b parts = (b ∷ parts.0, parts.1)

-- none of these bytes is that one
abbrev pub IsFree : ℕ → List ℕ → Type 0
IsFree byte bytes = All (λ b. (b == byte) ≡ false) bytes

pub cut-append : (byte : ℕ) (xs ys : List ℕ) → IsFree byte xs → cut byte (xs ++ byte ∷ ys) ≡ Some (xs, ys)
cut-append byte [] ys free = if_true (byte == byte) (Some ([], ys)) (option_map (longer byte) (cut byte ys)) (eq-eqb byte byte refl)
cut-append byte (x ∷ xs) ys free =
    if_false (x == byte) (Some ([], xs ++ byte ∷ ys)) (option_map (longer x) (cut byte (xs ++ byte ∷ ys))) (All-head (λ b. (b == byte) ≡ false) x xs free)
    ∙ ap (option_map (longer x)) (cut-append byte xs ys (All-tail (λ b. (b == byte) ≡ false) x xs free))

-- a text without the byte is not cut
pub cut-free : (byte : ℕ) (text : List ℕ) → IsFree byte text → cut byte text ≡ None
cut-free byte [] free = refl
cut-free byte (x ∷ xs) free =
    if_false (x == byte) (Some ([], xs)) (option_map (longer x) (cut byte xs)) (All-head (λ b. (b == byte) ≡ false) x xs free)
    ∙ ap (option_map (longer x)) (cut-free byte xs (All-tail (λ b. (b == byte) ≡ false) x xs free))

pub cut-at : (byte : ℕ) (text : List ℕ) (end : ℕ) → end < length text → get_or text end 0 ≡ byte → ((k : ℕ) → k < end → get_or text k 0 ≢ byte)
    → cut byte text ≡ Some (take end text, drop (suc end) text)
cut-at byte [] end within here before = absurd (omega arith)
cut-at byte (x ∷ xs) zero within here before = if_true (x == byte) (Some ([], xs)) (option_map (longer x) (cut byte xs)) (eq-eqb x byte here)
cut-at byte (x ∷ xs) (suc end) within here before =
    if_false (x == byte) (Some ([], xs)) (option_map (longer x) (cut byte xs)) (ne_eqb x byte (before 0 (omega arith)))
    ∙ ap (option_map (longer x)) (cut-at byte xs end (omega arith) here (λ k h. before (suc k) (omega arith)))

pub cut-only : (byte : ℕ) (text : List ℕ) (parts : List ℕ × List ℕ) → cut byte text ≡ Some parts → text ≡ parts.0 ++ byte ∷ parts.1
cut-only byte [] parts e = absurd cc
cut-only byte (b ∷ text) parts e =
    elim (cases_Bool (b == byte)) [
      | inl same ↦ let is : ([], text) ≡ parts = same_Some _ _ (sym (if_true (b == byte) (Some ([], text)) (option_map (longer b) (cut byte text)) same) ∙ e) in rw (sym is, eqb-true b byte same)
      | inr other ↦
          let (others, found, is) = mapped (longer b) (cut byte text) parts
          (sym (if_false (b == byte) (Some ([], text)) (option_map (longer b) (cut byte text)) other) ∙ e) in
          rw (sym is) (ap (λ (bytes : List ℕ). b ∷ bytes) (cut-only byte text others found))
    ]

-- a range to the end
pub to_end : (text : List ℕ) (end : ℕ) → take (length text - (end + 1)) (drop (end + 1) text) ≡ drop (suc end) text
to_end text end = take_all (length text - (end + 1)) (drop (end + 1) text) (omega (arith, length-drop (end + 1) text)) ∙ rw add-one

pub cut-none : (byte : ℕ) (text : List ℕ) → ((k : ℕ) → k < length text → get_or text k 0 ≢ byte) → cut byte text ≡ None
cut-none byte [] before = refl
cut-none byte (x ∷ xs) before =
    if_false (x == byte) (Some ([], xs)) (option_map (longer x) (cut byte xs)) (ne_eqb x byte (before 0 (omega arith)))
    ∙ ap (option_map (longer x)) (cut-none byte xs (λ k h. before (suc k) (omega arith)))

pub rest_after-append : (words rest : List ℕ) → rest_after words (words ++ rest) ≡ Some rest
rest_after-append [] rest = refl
rest_after-append (w ∷ words) rest = if_true (w == w) (rest_after words (words ++ rest)) None (eq-eqb w w refl) ∙ rest_after-append words rest

pub rest_after-only : (words text rest : List ℕ) → rest_after words text ≡ Some rest → text ≡ words ++ rest
rest_after-only [] text rest e = same_Some _ _ e
rest_after-only (w ∷ words) [] rest e = absurd cc
rest_after-only (w ∷ words) (b ∷ text) rest e =
    elim (cases_Bool (w == b)) [
      | inl same ↦ let is = rest_after-only words text rest (sym (if_true (w == b) (rest_after words text) None same) ∙ e) in rw (eqb-true w b same, is)
      | inr other ↦ absurd (none-some rest (sym (if_false (w == b) (rest_after words text) None other) ∙ e))
    ]

pub rest_after-none : (words text : List ℕ) → ((rest : List ℕ) → text ≢ words ++ rest) → rest_after words text ≡ None
rest_after-none [] text other = absurd (other text refl)
rest_after-none (w ∷ words) [] other = refl
rest_after-none (w ∷ words) (b ∷ text) other =
    elim (cases_Bool (w == b)) [
      | inl same ↦ if_true (w == b) (rest_after words text) None same ∙ rest_after-none words text (λ rest e. other rest (cc (eqb-true w b same)))
      | inr not ↦ if_false (w == b) (rest_after words text) None not
    ]

-- by the first byte
pub differs_at_once : (words text : List ℕ) → length words ≢ 0 → length text ≢ 0 → get_or words 0 0 ≢ get_or text 0 0 → rest_after words text ≡ None
differs_at_once [] text some_words some other = absurd (some_words refl)
differs_at_once (w ∷ words) [] some_words some other = absurd (some refl)
differs_at_once (w ∷ words) (b ∷ text) some_words some other = if_false (w == b) (rest_after words text) None (ne_eqb w b other)

-- by `strip_prefix`
pub strips : (words text : List ℕ) (r : Option (Bor (List ℕ))) → MatchOption r ((rest : List ℕ) → text ≢ words ++ rest) (λ rest. text ≡ words ++ rest.now)
    → MatchOption r (rest_after words text ≡ None) (λ rest. rest_after words text ≡ Some rest.now)
strips words text None other = rest_after-none words text other
strips words text (Some rest) is = rw is (rest_after-append words rest.now)
