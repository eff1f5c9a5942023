-- What is kept of the wrong lines of a mark log.
use Rattle.std.proofs.Common.{◌≡◌, ◌≢◌, ℕ, ◌+◌, ◌<◌, ◌==◌, ◌||◌, Bool, true, false, not, cond, List, [], ◌∷◌, ◌++◌, length, filter, Option, Some, None, is_some, refl, sym, ap, subst, ◌∙◌, arith}
use Rattle.std.specs.Prelude.{IfSome, option_to_list, slice_index}
use Rattle.std.specs.Map.{keys_of, lookup}
use Rattle.indexmap.specs.IndexMap.{IndexMap, get, insert_entry}
use Rattle.indexmap.proofs.CallerLemmas.{insert_entry-new}
use Rattle.std.specs.List.{list_any, slice_set}
use Rattle.std.specs.Str.{bytes_eq}
use Rattle.std.proofs.lemmas.Bool.{false≢true, eqb-true, eqb-false}
use Rattle.std.proofs.lemmas.List.{append-nil, length-set, get_or-set_same, get_or-set_other}
use Rattle.std.proofs.lemmas.List.Elements.{filter-append}
use Rattle.std.proofs.lemmas.List.Folds.{list_any-append}
use Rattle.std.proofs.lemmas.List.Sums.{sum_by-append}
use Rattle.std.proofs.lemmas.Slice.Eq.{bytes_eq-Decides}
use Rattle.ra_trace.specs.declared.mark_log.wrong_lines.WrongLine.{WrongLine}
use Rattle.ra_trace.specs.LeftOut.{cause_place, count_at, first_of_each, is_met, same_name}
use Rattle.ra_trace.specs.LeftOutAlong.{AreKept}

or_false : (b : Bool) → (b || false) ≡ b
or_false true = refl
or_false false = refl

or_absorbs : (a b : Bool) → (b ≡ true → a ≡ true) → (a || b) ≡ a
or_absorbs true b implied = refl
or_absorbs false true implied = absurd (false≢true (implied refl))
or_absorbs false false implied = refl

same_name_is : (a b : Option (List ℕ)) → same_name a b ≡ true → a ≡ b
same_name_is None None same = refl
same_name_is None (Some b) same = absurd (false≢true same)
same_name_is (Some a) None same = absurd (false≢true same)
same_name_is (Some a) (Some b) same = ap Some ((bytes_eq-Decides a b).0 same)

-- ---- One line more

pub met_more : (name : Option (List ℕ)) (lines : List WrongLine) (wrong : WrongLine)
    → is_met name (lines ++ wrong ∷ []) ≡ (is_met name lines || same_name name wrong.name)
met_more name lines wrong =
    list_any-append (λ (other : WrongLine). same_name name other.name) lines (wrong ∷ [])
    ∙ ap (λ (b : Bool). is_met name lines || b) (or_false (same_name name wrong.name))

-- a name that was met before is not met again
met_again : (name : Option (List ℕ)) (lines : List WrongLine) (wrong : WrongLine) → is_met wrong.name lines ≡ true
    → is_met name (lines ++ wrong ∷ []) ≡ is_met name lines
met_again name lines wrong met =
    met_more name lines wrong
    ∙ or_absorbs (is_met name lines) (same_name name wrong.name)
    (λ same. subst (λ (o : Option (List ℕ)). is_met o lines ≡ true) (sym (same_name_is name wrong.name same)) met)

picks : {X : Type 0} (test : X → Bool) (x : X) (left met : Bool) → test x ≡ not left
    → filter test (cond met [] (x ∷ [])) ≡ cond (left || met) [] (x ∷ [])
picks test x true true is = refl
picks test x false true is = refl
picks test x true false is = ap (λ (b : Bool). cond b (x ∷ []) []) is
picks test x false false is = ap (λ (b : Bool). cond b (x ∷ []) []) is

firsts_more : (lines : List WrongLine) (wrong : WrongLine)
    → first_of_each (lines ++ wrong ∷ []) ≡ first_of_each lines ++ cond (is_met wrong.name lines) [] (wrong ∷ [])
firsts_more [] wrong = refl
firsts_more (first ∷ lines) wrong =
    let test : WrongLine → Bool = λ other. not (same_name other.name first.name) in
    let more : List WrongLine = cond (is_met wrong.name lines) [] (wrong ∷ []) in
    ap (λ (ls : List WrongLine). first ∷ filter test ls) (firsts_more lines wrong)
    ∙ ap (λ (ls : List WrongLine). first ∷ ls) (filter-append test (first_of_each lines) more)
    ∙ ap (λ (ls : List WrongLine). first ∷ (filter test (first_of_each lines) ++ ls))
    (picks test wrong (same_name wrong.name first.name) (is_met wrong.name lines) refl)

named : (name : List ℕ) (other : Option (List ℕ)) → list_any (bytes_eq name) (option_to_list other) ≡ same_name (Some name) other
named name None = refl
named name (Some other) = or_false (bytes_eq name other)

nameless : (other : Option (List ℕ)) → not (is_some other) ≡ same_name None other
nameless None = refl
nameless (Some other) = refl

-- ---- The names in the map

some_by : {X : Type 0} (b r : Bool) (x : X) (o : Option X) → is_some o ≡ r → is_some (cond b (Some x) o) ≡ (b || r)
some_by true r x o is = refl
some_by false r x o is = is

pub met_by_map : (name : List ℕ) (entries : List (List ℕ × ℕ))
    → is_some (lookup (bytes_eq name) entries) ≡ list_any (bytes_eq name) (keys_of entries)
met_by_map name [] = refl
met_by_map name (entry ∷ entries) =
    some_by (bytes_eq name entry.0) (list_any (bytes_eq name) (keys_of entries)) entry.1 (lookup (bytes_eq name) entries) (met_by_map name entries)

none_from : {X : Type 0} (o : Option X) → is_some o ≡ false → o ≡ None
none_from None is = refl
none_from (Some x) is = absurd (false≢true (sym is))

-- a name that was not met is not in the map
pub unmet_in_map : (other : Option (List ℕ)) (entries : List (List ℕ × ℕ)) (lines : List WrongLine)
    → ((name : List ℕ) → list_any (bytes_eq name) (keys_of entries) ≡ is_met (Some name) lines)
    → is_met other lines ≡ false → IfSome other (λ name. lookup (bytes_eq name) entries ≡ None)
unmet_in_map None entries lines are unmet = tt
unmet_in_map (Some name) entries lines are unmet =
    none_from (lookup (bytes_eq name) entries) (met_by_map name entries ∙ are name ∙ unmet)

keys_more : (entries : List (List ℕ × ℕ)) (name : List ℕ) (number : ℕ) → keys_of (entries ++ (name, number) ∷ []) ≡ keys_of entries ++ name ∷ []
keys_more [] name number = refl
keys_more (entry ∷ entries) name number = ap (λ (ks : List (List ℕ)). entry.0 ∷ ks) (keys_more entries name number)

-- its key is added after the others
pub key_added : {S : Type 0} (names : IndexMap (List ℕ) ℕ S) (name : List ℕ) (number : ℕ) (other : Option (List ℕ)) → get bytes_eq names name ≡ None
    → other ≡ Some name → keys_of (insert_entry bytes_eq names.entries name number) ≡ keys_of names.entries ++ option_to_list other
key_added {S} names name number other none is =
    ap keys_of (insert_entry-new bytes_eq names name number none)
    ∙ keys_more names.entries name number
    ∙ ap (λ (o : Option (List ℕ)). keys_of names.entries ++ option_to_list o) (sym is)

pub no_key_added : (keys : List (List ℕ)) (other : Option (List ℕ)) → other ≡ None → keys ≡ keys ++ option_to_list other
no_key_added keys other is = sym (append-nil keys) ∙ ap (λ (o : Option (List ℕ)). keys ++ option_to_list o) (sym is)

-- ---- Counts

count_more : (place : ℕ) (lines : List WrongLine) (wrong : WrongLine)
    → count_at place (lines ++ wrong ∷ []) ≡ count_at place lines + cond (cause_place wrong.cause == place) 1 0
count_more place lines wrong =
    let one : ℕ = cond (cause_place wrong.cause == place) 1 0 in
    let alone : 0 + one ≡ one = omega arith in
    sum_by-append (λ (other : WrongLine). cond (cause_place other.cause == place) 1 0) lines (wrong ∷ [])
    ∙ ap (λ (n : ℕ). count_at place lines + n) alone

counts_more : (counts : List ℕ) (lines : List WrongLine) (wrong : WrongLine) → length counts ≡ 7 → cause_place wrong.cause < 7
    → ((place : ℕ) → place < 7 → slice_index counts place ≡ count_at place lines) → (place : ℕ) → place < 7
    → slice_index (slice_set counts (cause_place wrong.cause) (slice_index counts (cause_place wrong.cause) + 1)) place
    ≡ count_at place (lines ++ wrong ∷ [])
counts_more counts lines wrong seven within are place few =
    let at = cause_place wrong.cause in
    let pick : Bool → ℕ = λ b. cond b 1 0 in
    let more : count_at place (lines ++ wrong ∷ []) ≡ count_at place lines + pick (at == place) = count_more place lines wrong in
    elim (at == place) as (λ b. (at == place) ≡ b → slice_index (slice_set counts at (slice_index counts at + 1)) place ≡ count_at place (lines ++ wrong ∷ [])) [
      | true ↦ λ same.
          let here : at ≡ place = eqb-true at place same in
          let one : pick (at == place) ≡ 1 = ap pick same in
          let there : count_at at lines ≡ count_at place lines = ap (λ (p : ℕ). count_at p lines) here in
          let sum : slice_index counts at + 1 ≡ count_at place (lines ++ wrong ∷ []) = omega (arith, are at within, there, more, one) in
          subst (λ (p : ℕ). slice_index (slice_set counts at (slice_index counts at + 1)) p ≡ count_at place (lines ++ wrong ∷ [])) here
          (get_or-set_same counts at (slice_index counts at + 1) 0 (omega (arith, within, seven)) ∙ sum)
      | false ↦ λ other.
          let one : pick (at == place) ≡ 0 = ap pick other in
          let kept : slice_index (slice_set counts at (slice_index counts at + 1)) place ≡ slice_index counts place =
          get_or-set_other counts at place (slice_index counts at + 1) 0 (λ is. eqb-false at place other (sym is)) in
          let sum : slice_index counts place ≡ count_at place (lines ++ wrong ∷ []) = omega (arith, are place few, more, one) in
          kept ∙ sum
    ] refl

-- ---- All that is kept

pub as_kept : {firsts others : List WrongLine} {names keys : List (List ℕ)} {counts sums : List ℕ} {has had : Bool} {lines all : List WrongLine}
    → others ≡ firsts → keys ≡ names → sums ≡ counts → had ≡ has → all ≡ lines → AreKept firsts names counts has lines
    → AreKept others keys sums had all
as_kept {firsts} {others} {names} {keys} {counts} {sums} {has} {had} {lines} {all} f n c b l kept =
    subst (λ (x : List WrongLine). AreKept x keys sums had all) (sym f)
    (subst (λ (x : List (List ℕ)). AreKept firsts x sums had all) (sym n)
    (subst (λ (x : List ℕ). AreKept firsts names x had all) (sym c)
    (subst (λ (x : Bool). AreKept firsts names counts x all) (sym b)
    (subst (λ (x : List WrongLine). AreKept firsts names counts has x) (sym l) kept))))

module _ (firsts : List WrongLine) (names : List (List ℕ)) (counts : List ℕ) (has_nameless : Bool) (lines : List WrongLine)
    (kept : AreKept firsts names counts has_nameless lines) (wrong : WrongLine) (within : cause_place wrong.cause < 7) where
  counted : List ℕ
  counted = slice_set counts (cause_place wrong.cause) (slice_index counts (cause_place wrong.cause) + 1)

  pub first_kept : is_met wrong.name lines ≡ false
      → AreKept (firsts ++ wrong ∷ []) (names ++ option_to_list wrong.name)
      (slice_set counts (cause_place wrong.cause) (slice_index counts (cause_place wrong.cause) + 1))
      (has_nameless || not (is_some wrong.name)) (lines ++ wrong ∷ [])
  first_kept unmet = record {
    firsts_are =
        ap (λ (ls : List WrongLine). ls ++ wrong ∷ []) kept.firsts_are
        ∙ ap (λ (b : Bool). first_of_each lines ++ cond b [] (wrong ∷ [])) (sym unmet)
        ∙ sym (firsts_more lines wrong);
    names_are = λ name.
        list_any-append (bytes_eq name) names (option_to_list wrong.name)
        ∙ ap (λ (b : Bool). b || list_any (bytes_eq name) (option_to_list wrong.name)) (kept.names_are name)
        ∙ ap (λ (b : Bool). is_met (Some name) lines || b) (named name wrong.name)
        ∙ sym (met_more (Some name) lines wrong);
    seven = length-set counts (cause_place wrong.cause) (slice_index counts (cause_place wrong.cause) + 1) ∙ kept.seven;
    counts_are = counts_more counts lines wrong kept.seven within kept.counts_are;
    nameless_is =
        ap (λ (b : Bool). b || not (is_some wrong.name)) kept.nameless_is
        ∙ ap (λ (b : Bool). is_met None lines || b) (nameless wrong.name)
        ∙ sym (met_more None lines wrong);
  }

  pub other_kept : is_met wrong.name lines ≡ true
      → AreKept firsts names (slice_set counts (cause_place wrong.cause) (slice_index counts (cause_place wrong.cause) + 1))
      has_nameless (lines ++ wrong ∷ [])
  other_kept met = record {
    firsts_are =
        kept.firsts_are
        ∙ sym (append-nil (first_of_each lines))
        ∙ ap (λ (b : Bool). first_of_each lines ++ cond b [] (wrong ∷ [])) (sym met)
        ∙ sym (firsts_more lines wrong);
    names_are = λ name. kept.names_are name ∙ sym (met_again (Some name) lines wrong met);
    seven = length-set counts (cause_place wrong.cause) (slice_index counts (cause_place wrong.cause) + 1) ∙ kept.seven;
    counts_are = counts_more counts lines wrong kept.seven within kept.counts_are;
    nameless_is = kept.nameless_is ∙ sym (met_again None lines wrong met);
  }
