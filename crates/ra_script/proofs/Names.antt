-- Names and operations as they are spelled.
use Rattle.std.proofs.Common.{◌≡◌, ◌≢◌, ◌⊎◌, ℕ, ◌≤◌, List, [], ◌∷◌, ◌++◌, length, true, ◌&&◌, nat_le, if◌then◌else◌, Option, Some, None, IsSome, All, inl, inr, refl, sym, ap, subst, ◌∙◌, codes, arith}
use Rattle.std.specs.Prelude.{IfSome, is_some, option_and_then}
use Rattle.std.specs.Str.{bytes_eq}
use Rattle.std.specs.List.{list_all}
use Rattle.std.proofs.lemmas.Option.{same_Some, option_and_then_some}
use Rattle.std.proofs.lemmas.Bool.{cases_Bool, and_parts, le-leb, leb-true}
use Rattle.std.proofs.lemmas.List.Elements.{All-nil, All-cons}
use Rattle.std.proofs.lemmas.List.Sums.{AllPass-from_list_all, list_all-from_AllPass}
use Rattle.std.proofs.lemmas.Slice.Eq.{bytes_eq-Decides}
use Rattle.ra_stamp.specs.Name.{IsName, is_name_byte}
use Rattle.ra_stamp.specs.declared.mode.Mode.{Mode}
use Rattle.ra_stamp.specs.declared.mode.Mode.TheVariants.{Shared, Exclusive, IntentShared, IntentExclusive, SharedIntentExclusive}
use Rattle.ra_schedule.specs.declared.script.Op.{Op}
use Rattle.ra_schedule.specs.declared.script.Op.TheVariants.{Lock, Unlock}
use Rattle.ra_stamp.specs.Mode.{mode_word}
use Rattle.ra_script.specs.Operation.{is_name, name_of, op_with, cut, op_of, spelling, name_in}
use Rattle.ra_script.proofs.Cuts.{cut-append, cut-only}

is_name-true : (bytes : List ℕ) → IsName bytes → is_name bytes ≡ true
is_name-true bytes h =
    rw (le-leb 1 (length bytes) h.not_empty, le-leb (length bytes) 32 h.not_long, list_all-from_AllPass is_name_byte bytes h.each)

IsName-from : (bytes : List ℕ) → is_name bytes ≡ true → IsName bytes
IsName-from bytes h =
    let (lengths, each) = and_parts (nat_le 1 (length bytes) && nat_le (length bytes) 32) (list_all is_name_byte bytes) h in
    let (some, few) = and_parts (nat_le 1 (length bytes)) (nat_le (length bytes) 32) lengths in
    record { not_empty = leb-true 1 (length bytes) some; not_long = leb-true (length bytes) 32 few; each = AllPass-from_list_all is_name_byte bytes each }

-- ---- What is read is how it is written

name_only : (bytes name : List ℕ) → name_of bytes ≡ Some name → IsName name × (bytes ≡ name)
name_only bytes name e =
    elim (cases_Bool (is_name bytes)) [
      | inl good ↦ let same : bytes ≡ name = same_Some _ _ (rw good at e) in (subst IsName same (IsName-from bytes good), same)
      | inr bad ↦ absurd (let clash : None ≡ Some name = rw bad at e in cc)
    ]

-- a word, a space and a name spell the operation, which is of that name
abbrev Spells : List ℕ → List ℕ → Op → Type 0
Spells word name op = (word ++ 32 ∷ name ≡ spelling op) × (name ≡ name_in op)

-- the word of one operation more
word_or_other : (word one name : List ℕ) (op said : Op) (other : Option Op) → Spells one name said
    → (if bytes_eq word one then Some said else other) ≡ Some op → Spells word name op ⊎ (other ≡ Some op)
word_or_other word one name op said other spells e =
    elim (cases_Bool (bytes_eq word one)) [
      | inl is_so ↦
          let same : said ≡ op = same_Some _ _ (rw is_so at e) in
          let is : word ≡ one = (bytes_eq-Decides word one).0 is_so in
          inl (subst (Spells word name) same (ap (λ (bytes : List ℕ). bytes ++ 32 ∷ name) is ∙ spells.0, spells.1))
      | inr not_so ↦ inr (rw not_so at e)
    ]

with_word : (word name : List ℕ) (op : Op) → op_with word name ≡ Some op → Spells word name op
with_word word name op e =
    elim (word_or_other word (codes "X") name op (Lock name Exclusive) _ (refl, refl) e) [
      | inl is ↦ is
      | inr e1 ↦ elim (word_or_other word (codes "S") name op (Lock name Shared) _ (refl, refl) e1) [
        | inl is ↦ is
        | inr e2 ↦ elim (word_or_other word (codes "IS") name op (Lock name IntentShared) _ (refl, refl) e2) [
          | inl is ↦ is
          | inr e3 ↦ elim (word_or_other word (codes "IX") name op (Lock name IntentExclusive) _ (refl, refl) e3) [
            | inl is ↦ is
            | inr e4 ↦ elim (word_or_other word (codes "SIX") name op (Lock name SharedIntentExclusive) _ (refl, refl) e4) [
              | inl is ↦ is
              | inr e5 ↦ elim (word_or_other word (codes "U") name op (Unlock name) _ (refl, refl) e5) [
                | inl is ↦ is
                | inr none ↦ absurd (let clash : None ≡ Some op = none in cc)
              ]
            ]
          ]
        ]
      ]
    ]

-- a string that is read as an operation spells it
pub spelled_from : (string : List ℕ) (op : Op) → op_of string ≡ Some op → (string ≡ spelling op) × IsName (name_in op)
spelled_from string op e =
    option_and_then_some (λ parts. option_and_then (op_with parts.0) (name_of parts.1)) (cut string) op e (λ parts cut-is e1.
    option_and_then_some (op_with parts.0) (name_of parts.1) op e1 (λ name name-is e2.
    let named = name_only parts.1 name name-is in
    let spells = with_word parts.0 name op e2 in (
      cut-only string parts cut-is ∙ (ap (λ (bytes : List ℕ). parts.0 ++ 32 ∷ bytes) named.1 ∙ spells.0),
      subst IsName spells.1 named.0,
    )))

-- ---- What is written is read

-- no space is in a mode's word
one_more : (b : ℕ) (bytes : List ℕ) → 73 ≤ b → All (λ b. b ≢ 32) bytes → All (λ b. b ≢ 32) (b ∷ bytes)
one_more b bytes high free = All-cons (λ b. b ≢ 32) b bytes (omega arith) free

none : All (λ (b : ℕ). b ≢ 32) []
none = All-nil (λ (b : ℕ). b ≢ 32)

no_space : (mode : Mode) → All (λ b. b ≢ 32) (mode_word mode)
no_space Shared = one_more 83 [] (omega arith) none
no_space Exclusive = one_more 88 [] (omega arith) none
no_space IntentShared = one_more 73 (83 ∷ []) (omega arith) (one_more 83 [] (omega arith) none)
no_space IntentExclusive = one_more 73 (88 ∷ []) (omega arith) (one_more 88 [] (omega arith) none)
no_space SharedIntentExclusive =
    one_more 83 (73 ∷ 88 ∷ []) (omega arith) (one_more 73 (88 ∷ []) (omega arith) (one_more 88 [] (omega arith) none))

word_is : (mode : Mode) (name : List ℕ) → op_with (mode_word mode) name ≡ Some (Lock name mode)
word_is Shared name = refl
word_is Exclusive name = refl
word_is IntentShared name = refl
word_is IntentExclusive name = refl
word_is SharedIntentExclusive name = refl

-- a word that has no space, a space and a name
read_with : (word name : List ℕ) (op : Op) → All (λ b. b ≢ 32) word → IsName name → op_with word name ≡ Some op
    → op_of (word ++ 32 ∷ name) ≡ Some op
read_with word name op free named e = rw (cut-append word name free, is_name-true name named, e)

-- an operation that is spelled is read
pub op_of-spelling : (string : List ℕ) (op : Op) → string ≡ spelling op → IsName (name_in op) → op_of string ≡ Some op
op_of-spelling string (Lock name mode) is named =
    ap op_of is ∙ read_with (mode_word mode) name (Lock name mode) (no_space mode) named (word_is mode name)
op_of-spelling string (Unlock name) is named =
    ap op_of is ∙ read_with (codes "U") name (Unlock name) (one_more 85 [] (omega arith) none) named refl

-- a string that spells no operation
pub op_of-none : (string : List ℕ) → ((op : Op) → string ≡ spelling op → IsName (name_in op) → ⊥) → op_of string ≡ None
op_of-none string other = go (op_of string) refl
  where
    go : (o : Option Op) → op_of string ≡ o → o ≡ None
    go None e = refl
    go (Some op) e = let spelled = spelled_from string op e in absurd (other op spelled.0 spelled.1)

-- what a string spells is what it is read as
pub spelled_by : (string : List ℕ) (read : Option Op) → op_of string ≡ read → IfSome read (λ op. (string ≡ spelling op) × IsName (name_in op))
spelled_by string None e = tt
spelled_by string (Some op) e = spelled_from string op e

pub all_by : (string : List ℕ) (read : Option Op) → op_of string ≡ read → (op : Op) → string ≡ spelling op → IsName (name_in op) → IsSome read
all_by string read e op is named = ap is_some (sym e ∙ op_of-spelling string op is named)
