-- Tables one after the other, and how they change if one table changes or is added.
use Rattle.std.proofs.Common.{◌≡◌, ℕ, true, false, cond, List, [], ◌∷◌, ◌++◌, All, Any, Contains, ◌↔◌, Some, None, refl, sym, ap, ◌∙◌, subst, arith, inl, inr}
use Rattle.std.specs.Str.{bytes_eq}
use Rattle.std.specs.List.{AllByRecursion, IsDistinct}
use Rattle.std.specs.Map.{lookup, set_value, keys_of}
use Rattle.std.proofs.lemmas.Bool.{false≢true}
use Rattle.std.proofs.lemmas.List.{append-nil, append_assoc}
use Rattle.std.proofs.lemmas.List.Elements.{All-head, All-tail, filter-append}
use Rattle.std.proofs.lemmas.Map.Keys.{IsDistinct-head, IsDistinct-tail}
use Rattle.std.proofs.lemmas.Option.{same_Some, none-some}
use Rattle.std.proofs.lemmas.Slice.Eq.{bytes_eq-Decides}
use Rattle.ra_stamp.specs.declared.entry.Entry.{Entry}
use Rattle.ra_table.specs.Table.{Gains, Loses}
use Rattle.ra_table.specs.NameTables.{AreOn, on_name, joined, AreOnTheirNames}
use Rattle.ra_table.proofs.Apart.{All-put, All-taken, Contains-tail, Contains-cons_cases}
use Rattle.ra_table.proofs.Numbers.{Any-tail, Any-cases}

-- ---- The entries on one name

same_name : (a b : List ℕ) → a ≡ b → bytes_eq a b ≡ true
same_name a b same = (bytes_eq-Decides a b).1 same

all_on : (name : List ℕ) (es : List Entry) → AreOn name es → on_name name es ≡ es
all_on name [] on = refl
all_on name (e ∷ es) on =
    let here = All-head (λ (x : Entry). x.name ≡ name) e es on in
    ap (λ b. cond b (e ∷ on_name name es) (on_name name es)) (same_name name e.name (sym here))
    ∙ ap (λ (l : List Entry). e ∷ l) (all_on name es (All-tail (λ (x : Entry). x.name ≡ name) e es on))

none_on : (name other : List ℕ) (es : List Entry) → bytes_eq name other ≡ false → AreOn other es → on_name name es ≡ []
none_on name other [] apart on = refl
none_on name other (e ∷ es) apart on =
    let here = All-head (λ (x : Entry). x.name ≡ other) e es on in
    ap (λ b. cond b (e ∷ on_name name es) (on_name name es)) (ap (bytes_eq name) here ∙ apart)
    ∙ none_on name other es apart (All-tail (λ (x : Entry). x.name ≡ other) e es on)

-- to find one on its name is to find it among all
pub Any-on : (P : Entry → Type 0) (name : List ℕ) (es : List Entry) → ((x : Entry) → P x → x.name ≡ name) → Any P (on_name name es) ↔ Any P es
Any-on P name es named = (among es, here es)
  where
    among : (es : List Entry) → Any P (on_name name es) → Any P es
    among [] some = some
    among (e ∷ es) some =
        elim (bytes_eq name e.name) as (λ b. Any P (cond b (e ∷ on_name name es) (on_name name es)) → Any P (e ∷ es)) [
          | true ↦ λ s. elim (Any-cases P e (on_name name es) s) [
            | inl is ↦ (0, e, omega arith, refl, is)
            | inr rest ↦ Any-tail P e es (among es rest)
          ]
          | false ↦ λ s. Any-tail P e es (among es s)
        ] some

    here : (es : List Entry) → Any P es → Any P (on_name name es)
    here [] some = some
    here (e ∷ es) some =
        elim (bytes_eq name e.name) as (λ b. bytes_eq name e.name ≡ b → Any P (cond b (e ∷ on_name name es) (on_name name es))) [
          | true ↦ λ _. elim (Any-cases P e es some) [
            | inl is ↦ (0, e, omega arith, refl, is)
            | inr rest ↦ Any-tail P e (on_name name es) (here es rest)
          ]
          | false ↦ λ apart. elim (Any-cases P e es some) [
            | inl is ↦ absurd (false≢true (sym apart ∙ same_name name e.name (sym (named e is))))
            | inr rest ↦ here es rest
          ]
        ] refl

pub Contains-on : (es : List Entry) (e : Entry) → Contains (on_name e.name es) e ↔ Contains es e
Contains-on es e = (among es, here es)
  where
    among : (es : List Entry) → Contains (on_name e.name es) e → Contains es e
    among [] at = at
    among (x ∷ xs) at =
        elim (bytes_eq e.name x.name) as (λ b. Contains (cond b (x ∷ on_name e.name xs) (on_name e.name xs)) e → Contains (x ∷ xs) e) [
          | true ↦ λ s. elim (Contains-cons_cases x (on_name e.name xs) e s) [
            | inl is ↦ (0, omega arith, is)
            | inr rest ↦ Contains-tail x xs e (among xs rest)
          ]
          | false ↦ λ s. Contains-tail x xs e (among xs s)
        ] at

    here : (es : List Entry) → Contains es e → Contains (on_name e.name es) e
    here [] at = at
    here (x ∷ xs) at =
        elim (bytes_eq e.name x.name) as (λ b. bytes_eq e.name x.name ≡ b → Contains (cond b (x ∷ on_name e.name xs) (on_name e.name xs)) e) [
          | true ↦ λ _. elim (Contains-cons_cases x xs e at) [
            | inl is ↦ (0, omega arith, is)
            | inr rest ↦ Contains-tail x (on_name e.name xs) e (here xs rest)
          ]
          | false ↦ λ apart. elim (Contains-cons_cases x xs e at) [
            | inl is ↦ absurd (false≢true (sym apart ∙ same_name e.name x.name (ap (λ (y : Entry). y.name) (sym is))))
            | inr rest ↦ here xs rest
          ]
        ] refl

-- ---- Lists that gain or lose an entry

pub All-gains : (P : Entry → Type 0) (old new : List Entry) (e : Entry) → Gains old e new → All P old → P e → All P new
All-gains P old new e gains all p = rw gains.3 (All-put P gains.0 gains.1 e (subst (All P) gains.2 all) p)

pub All-loses : (P : Entry → Type 0) (old new : List Entry) (e : Entry) → Loses old e new → All P old → All P new
All-loses P old new e loses all = rw loses.2 (All-taken P loses.0 loses.1 e (subst (All P) loses.3 all))

Gains-before : (zs xs ys : List Entry) (e : Entry) → Gains xs e ys → Gains (zs ++ xs) e (zs ++ ys)
Gains-before zs xs ys e gains = (
  zs ++ gains.0,
  gains.1,
  ap (λ (l : List Entry). zs ++ l) gains.2 ∙ sym (append_assoc zs gains.0 gains.1),
  ap (λ (l : List Entry). zs ++ l) gains.3 ∙ sym (append_assoc zs gains.0 (e ∷ gains.1)),
)

Gains-behind : (zs xs ys : List Entry) (e : Entry) → Gains xs e ys → Gains (xs ++ zs) e (ys ++ zs)
Gains-behind zs xs ys e gains = (
  gains.0,
  gains.1 ++ zs,
  ap (λ (l : List Entry). l ++ zs) gains.2 ∙ append_assoc gains.0 gains.1 zs,
  ap (λ (l : List Entry). l ++ zs) gains.3 ∙ append_assoc gains.0 (e ∷ gains.1) zs,
)

-- ---- Tables

module _ {X : Type 0} (part : X → List Entry) where
  absent : (name : List ℕ) (name_tables : List (List ℕ × X)) → AreOnTheirNames part name_tables → AllByRecursion (λ q. bytes_eq name q ≡ false) (keys_of name_tables) → on_name name (joined part name_tables) ≡ []
  absent name [] on apart = refl
  absent name (name_table ∷ name_tables) on apart =
      filter-append (λ (x : Entry). bytes_eq name x.name) (part name_table.1) (joined part name_tables)
      ∙ (ap (λ (l : List Entry). l ++ on_name name (joined part name_tables)) (none_on name name_table.0 (part name_table.1) apart.0 on.0)
      ∙ absent name name_tables on.1 apart.1)

  -- the table that a look-up finds has all entries on the name
  pub found : (name : List ℕ) (name_tables : List (List ℕ × X)) (name_table : X) → IsDistinct bytes_eq (keys_of name_tables) → AreOnTheirNames part name_tables → Some name_table ≡ lookup (bytes_eq name) name_tables
      → part name_table ≡ on_name name (joined part name_tables)
  found name [] name_table distinct on at = absurd (none-some name_table (sym at))
  found name (first ∷ name_tables) name_table distinct on at =
      let rest = joined part name_tables in
      elim (bytes_eq name first.0) as (λ b. bytes_eq name first.0 ≡ b → Some name_table ≡ cond b (Some first.1) (lookup (bytes_eq name) name_tables) → part name_table ≡ on_name name (part first.1 ++ rest)) [
        | true ↦ λ same here.
            let name_is : first.0 ≡ name = sym ((bytes_eq-Decides name first.0).0 same) in
            let on_first : on_name name (part first.1) ≡ part first.1 = all_on name (part first.1) (subst (λ (q : List ℕ). AreOn q (part first.1)) name_is on.0) in
            let apart : AllByRecursion (λ q. bytes_eq name q ≡ false) (keys_of name_tables) = subst (λ (n : List ℕ). AllByRecursion (λ q. bytes_eq n q ≡ false) (keys_of name_tables)) name_is (IsDistinct-head bytes_eq first.0 (keys_of name_tables) distinct) in
            ap part (same_Some name_table first.1 here)
            ∙ sym (filter-append (λ (x : Entry). bytes_eq name x.name) (part first.1) rest
            ∙ (ap (λ (l : List Entry). on_name name (part first.1) ++ l) (absent name name_tables on.1 apart)
            ∙ (append-nil (on_name name (part first.1)) ∙ on_first)))
        | false ↦ λ apart there.
            found name name_tables name_table (IsDistinct-tail bytes_eq first.0 (keys_of name_tables) distinct) on.1 there
            ∙ sym (filter-append (λ (x : Entry). bytes_eq name x.name) (part first.1) rest
            ∙ ap (λ (l : List Entry). l ++ on_name name rest) (none_on name first.0 (part first.1) apart on.0))
      ] refl at

  -- and if it finds none, no entry is on the name
  pub missing : (name : List ℕ) (name_tables : List (List ℕ × X)) → AreOnTheirNames part name_tables → None ≡ lookup (bytes_eq name) name_tables → [] ≡ on_name name (joined part name_tables)
  missing name [] on none = refl
  missing name (first ∷ name_tables) on none =
      let rest = joined part name_tables in
      elim (bytes_eq name first.0) as (λ b. bytes_eq name first.0 ≡ b → None ≡ cond b (Some first.1) (lookup (bytes_eq name) name_tables) → [] ≡ on_name name (part first.1 ++ rest)) [
        | true ↦ λ same here. absurd (none-some first.1 here)
        | false ↦ λ apart there.
            missing name name_tables on.1 there
            ∙ sym (filter-append (λ (x : Entry). bytes_eq name x.name) (part first.1) rest
            ∙ ap (λ (l : List Entry). l ++ on_name name rest) (none_on name first.0 (part first.1) apart on.0))
      ] refl none

  -- the entries of a table that is found are on its name
  pub name_table_is_on : (name : List ℕ) (name_tables : List (List ℕ × X)) (name_table : X) → AreOnTheirNames part name_tables → Some name_table ≡ lookup (bytes_eq name) name_tables → AreOn name (part name_table)
  name_table_is_on name [] name_table on at = absurd (none-some name_table (sym at))
  name_table_is_on name (first ∷ name_tables) name_table on at =
      elim (bytes_eq name first.0) as (λ b. bytes_eq name first.0 ≡ b → Some name_table ≡ cond b (Some first.1) (lookup (bytes_eq name) name_tables) → AreOn name (part name_table)) [
        | true ↦ λ same here.
            subst (λ (q : List ℕ). AreOn q (part name_table)) (sym ((bytes_eq-Decides name first.0).0 same))
            (subst (λ (x : X). AreOn first.0 (part x)) (sym (same_Some name_table first.1 here)) on.0)
        | false ↦ λ apart there. name_table_is_on name name_tables name_table on.1 there
      ] refl at

  -- what is true of one table before and after is true of all of them, one after the other
  carried : (R : List Entry → List Entry → Type 0) → ((zs xs ys : List Entry) → R xs ys → R (zs ++ xs) (zs ++ ys)) → ((zs xs ys : List Entry) → R xs ys → R (xs ++ zs) (ys ++ zs))
      → (name : List ℕ) (name_tables : List (List ℕ × X)) (old new : X) → Some old ≡ lookup (bytes_eq name) name_tables → R (part old) (part new) → R (joined part name_tables) (joined part (set_value (bytes_eq name) name_tables new))
  carried R before behind name [] old new at r = absurd (none-some old (sym at))
  carried R before behind name (first ∷ name_tables) old new at r =
      elim (bytes_eq name first.0) as (λ b. Some old ≡ cond b (Some first.1) (lookup (bytes_eq name) name_tables)
      → R (part first.1 ++ joined part name_tables) (joined part (cond b ((first.0, new) ∷ name_tables) (first ∷ set_value (bytes_eq name) name_tables new)))) [
        | true ↦ λ here. behind (joined part name_tables) (part first.1) (part new) (subst (λ (x : X). R (part x) (part new)) (same_Some old first.1 here) r)
        | false ↦ λ there. before (part first.1) (joined part name_tables) (joined part (set_value (bytes_eq name) name_tables new)) (carried R before behind name name_tables old new there r)
      ] at

  pub name_table_gains : (name : List ℕ) (name_tables : List (List ℕ × X)) (old new : X) (e : Entry) → Some old ≡ lookup (bytes_eq name) name_tables → Gains (part old) e (part new)
      → Gains (joined part name_tables) e (joined part (set_value (bytes_eq name) name_tables new))
  name_table_gains name name_tables old new e at gains =
      carried (λ xs ys. Gains xs e ys) (λ zs xs ys g. Gains-before zs xs ys e g) (λ zs xs ys g. Gains-behind zs xs ys e g) name name_tables old new at gains

  pub name_table_loses : (name : List ℕ) (name_tables : List (List ℕ × X)) (old new : X) (e : Entry) → Some old ≡ lookup (bytes_eq name) name_tables → Loses (part old) e (part new)
      → Loses (joined part name_tables) e (joined part (set_value (bytes_eq name) name_tables new))
  name_table_loses name name_tables old new e at loses =
      carried (λ xs ys. Gains ys e xs) (λ zs xs ys g. Gains-before zs ys xs e g) (λ zs xs ys g. Gains-behind zs ys xs e g) name name_tables old new at loses

  pub name_table_stays : (name : List ℕ) (name_tables : List (List ℕ × X)) (old new : X) → Some old ≡ lookup (bytes_eq name) name_tables → part new ≡ part old
      → joined part (set_value (bytes_eq name) name_tables new) ≡ joined part name_tables
  name_table_stays name name_tables old new at same =
      carried (λ xs ys. ys ≡ xs) (λ zs xs ys s. ap (λ (l : List Entry). zs ++ l) s) (λ zs xs ys s. ap (λ (l : List Entry). l ++ zs) s) name name_tables old new at same

  -- the table that is changed still has entries on its name alone
  pub stay_on : (name : List ℕ) (name_tables : List (List ℕ × X)) (new : X) → AreOnTheirNames part name_tables → AreOn name (part new) → AreOnTheirNames part (set_value (bytes_eq name) name_tables new)
  stay_on name [] new on here = tt
  stay_on name (first ∷ name_tables) new on here =
      elim (bytes_eq name first.0) as (λ b. bytes_eq name first.0 ≡ b → AreOnTheirNames part (cond b ((first.0, new) ∷ name_tables) (first ∷ set_value (bytes_eq name) name_tables new))) [
        | true ↦ λ same. (subst (λ (q : List ℕ). AreOn q (part new)) ((bytes_eq-Decides name first.0).0 same) here, on.1)
        | false ↦ λ _. (on.0, stay_on name name_tables new on.1 here)
      ] refl

  -- ---- One more table

  pub joined_more : (name_tables : List (List ℕ × X)) (name : List ℕ) (new : X) → joined part (name_tables ++ (name, new) ∷ []) ≡ joined part name_tables ++ part new
  joined_more [] name new = append-nil (part new)
  joined_more (first ∷ name_tables) name new = ap (λ (l : List Entry). part first.1 ++ l) (joined_more name_tables name new) ∙ sym (append_assoc (part first.1) (joined part name_tables) (part new))

  pub more_on : (name_tables : List (List ℕ × X)) (name : List ℕ) (new : X) → AreOnTheirNames part name_tables → AreOn name (part new) → AreOnTheirNames part (name_tables ++ (name, new) ∷ [])
  more_on [] name new on here = (here, tt)
  more_on (first ∷ name_tables) name new on here = (on.0, more_on name_tables name new on.1 here)
