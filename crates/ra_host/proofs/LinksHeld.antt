-- Of which host the links are, after one of them changes, and after all do.
use Rattle.std.proofs.Common.{◌≡◌, inl, inr, ℕ, zero, suc, ◌-◌, ◌<◌, ◌≤◌, ◌==◌, ◌↔◌, Bool, true, false, ◌&&◌, cond, Some, List, [], ◌∷◌, ◌++◌, map, length, set, take, drop, get_or, ◌+◌, refl, sym, ap, ◌∙◌, subst, arith}
use Rattle.std.specs.Prelude.{nat_le, nat_lt, slice_get}
use Rattle.std.specs.Option.{option_map}
use Rattle.std.proofs.lemmas.Bool.{cases_eq, eq-eqb, ne_eqb}
use Rattle.std.proofs.lemmas.List.{get_or_default, length-map, length-set}
use Rattle.std.proofs.lemmas.List.Edits.{map_over_more}
use Rattle.std.proofs.lemmas.Option.{get_or_from_slice_get, none-some, same_Some, slice_get-map}
use Rattle.ra_automaton.specs.State.{IsOtherNode}
use Rattle.ra_stamp.specs.Message.{from_of, to_of}
use Rattle.ra_frame.specs.declared.frame.Frame.{Frame}
use Rattle.ra_link.specs.declared.link.Heard.{Heard}
use Rattle.ra_link.specs.declared.link.Heard.TheVariants.{Next, Again, Passed}
use Rattle.ra_link.specs.declared.link.Link.{Link}
use Rattle.ra_link.specs.Link as rule
use Rattle.ra_host.specs.declared.links.Links.{Links}
use Rattle.ra_host.specs.Host.{Host, IsOther, begins, ends, is_taken, linked, syncs_book}
use Rattle.ra_host.specs.Running.{AreLinksOf, HasTaken}

-- ---- A list with another link

there : (xs : List Link) (i : ℕ) (x y : Link) → slice_get xs i ≡ Some x → slice_get (set xs i y) i ≡ Some y
there [] i x y is = absurd (none-some x is)
there (z ∷ xs) zero x y is = refl
there (z ∷ xs) (suc i) x y is = there xs i x y is

beside : (xs : List Link) (i k : ℕ) (y : Link) → (k ≡ i → ⊥) → slice_get (set xs i y) k ≡ slice_get xs k
beside [] i k y differs = refl
beside (z ∷ xs) zero zero y differs = absurd (differs refl)
beside (z ∷ xs) zero (suc k) y differs = refl
beside (z ∷ xs) (suc i) zero y differs = refl
beside (z ∷ xs) (suc i) (suc k) y differs = beside xs i k y (λ same. differs (ap suc same))

-- ---- Other hosts

-- another host of the links is one of the host
pub other_of : (links : Links) (h : Host) (j : ℕ) → AreLinksOf links h → IsOtherNode links.me (length links.links.items) j → IsOther h j
other_of links h j are other =
    let n = are.nodes in
    record { first = other.first; last = omega (arith, n, other.last); other = λ same. other.other (same ∙ are.me) }

pub other_to : (links : Links) (h : Host) (j : ℕ) → AreLinksOf links h → IsOther h j → IsOtherNode links.me (length links.links.items) j
other_to links h j are other =
    let n = are.nodes in
    record { first = other.first; last = omega (arith, n, other.last); other = λ same. other.other (same ∙ sym are.me) }

-- the link that was found is the host's
pub found_is : (links : Links) (h : Host) (j : ℕ) (l : Link) → AreLinksOf links h → IsOtherNode links.me (length links.links.items) j → slice_get links.links.items (j - 1) ≡ Some l → h.links j ≡ l
found_is links h j l are other is = same_Some (h.links j) l (sym (are.each j (other_of links h j are other)) ∙ is)

-- ---- One link changes

pub put_is : (links new : Links) (h : Host) (j : ℕ) (l : Link) → AreLinksOf links h → IsOther h j → new.me ≡ links.me → new.links.items ≡ set links.links.items (j - 1) l → AreLinksOf new (linked h j l)
put_is links new h j l are other me items =
    record {
      up = are.up;
      me = are.me ∙ sym me;
      nodes = are.nodes ∙ sym (length-set links.links.items (j - 1) l) ∙ sym (ap (λ (xs : List Link). length xs) items);
      each = λ k is. ap (λ (xs : List Link). slice_get xs (k - 1)) items ∙ at k is;
    }
  where
    at : (k : ℕ) → IsOther h k → slice_get (set links.links.items (j - 1) l) (k - 1) ≡ Some ((linked h j l).links k)
    at k is = elim (cases_eq k j) [
      | inl same ↦
          ap (λ (i : ℕ). slice_get (set links.links.items (j - 1) l) (i - 1)) same
          ∙ there links.links.items (j - 1) (h.links j) l (are.each j other)
          ∙ ap (λ (x : Link). Some x) (sym (ap (λ (b : Bool). cond b l (h.links k)) (eq-eqb k j same)))
      | inr differs ↦
          beside links.links.items (j - 1) (k - 1) l (λ same. differs (omega (arith, same, is.first, other.first)))
          ∙ are.each k is
          ∙ ap (λ (x : Link). Some x) (sym (ap (λ (b : Bool). cond b l (h.links k)) (ne_eqb k j differs)))
    ]

-- ---- All links

pub synced_is : (links new : Links) (h : Host) → AreLinksOf links h → new.me ≡ links.me → new.links.items ≡ map rule.syncs links.links.items → AreLinksOf new (syncs_book h)
synced_is links new h are me items =
    record {
      up = are.up;
      me = are.me ∙ sym me;
      nodes = are.nodes ∙ sym (length-map links.links.items rule.syncs) ∙ sym (ap (λ (xs : List Link). length xs) items);
      each = λ j is. ap (λ (xs : List Link). slice_get xs (j - 1)) items ∙ slice_get-map rule.syncs links.links.items (j - 1) ∙ ap (option_map rule.syncs) (are.each j is);
    }

pub begun_is : (links : Links) (h : Host) (nonce : ℕ) (taken : List ℕ) → h.book.me ≡ links.me → h.book.nodes ≡ length taken → HasTaken h.book taken → links.links.items ≡ map (rule.started nonce) taken → AreLinksOf links (begins h nonce)
begun_is links h nonce taken me nodes has items =
    record {
      up = refl;
      me = me;
      nodes = nodes ∙ sym (length-map taken (rule.started nonce)) ∙ sym (ap (λ (xs : List Link). length xs) items);
      each = λ j is. ap (λ (xs : List Link). slice_get xs (j - 1)) items ∙ slice_get-map (rule.started nonce) taken (j - 1) ∙ ap (option_map (rule.started nonce)) (has j is);
    }

-- the first links are synced, and one more
pub synced_more : (xs ys : List Link) (i : ℕ) (d y : Link) → i < length xs → length ys ≡ length xs → ys ≡ map rule.syncs (take i xs) ++ drop i xs → y ≡ rule.syncs (get_or ys i d)
    → set ys i y ≡ map rule.syncs (take (i + 1) xs) ++ drop (i + 1) xs
synced_more xs ys i d y within long so_far is =
    ap (set ys i) is ∙ map_over_more rule.syncs xs ys i (get_or ys i d) within so_far (get_or_default ys i d (get_or ys i d) (omega (arith, within, long)))

-- ---- What is heard may show that the book is old

pub never : (b : Bool) → (b ≡ true → false ≡ true) → b ≡ false
never true shown = sym (shown refl)
never false shown = refl

pub heard_is : (links new : Links) (h : Host) (j : ℕ) (l l' : Link) (accuses : Link → Bool) (hears : Link → Link) → AreLinksOf links h
    → IsOtherNode links.me (length links.links.items) j → slice_get links.links.items (j - 1) ≡ Some l → accuses l ≡ false → l' ≡ hears l
    → new.me ≡ links.me → new.links.items ≡ set links.links.items (j - 1) l' → AreLinksOf new (cond (accuses (h.links j)) (ends h j) (linked h j (hears (h.links j))))
heard_is links new h j l l' accuses hears are other is passes heard me items =
    let at = found_is links h j l are other is in
    let goes : cond (accuses (h.links j)) (ends h j) (linked h j (hears (h.links j))) ≡ linked h j l' =
    ap (λ (x : Link). cond (accuses x) (ends h j) (linked h j (hears x))) at
    ∙ ap (λ (b : Bool). cond b (ends h j) (linked h j (hears l))) passes
    ∙ ap (linked h j) (sym heard) in
    subst (AreLinksOf new) (sym goes) (put_is links new h j l' are (other_of links h j are other) me items)

-- ---- Whether the book may be replayed

abbrev IsNo : Bool → Type 0
IsNo true = ⊥
IsNo false = Unit {0}

pub never_both : true ≡ false → ⊥
never_both is = subst IsNo (sym is) tt

-- the link of each other host but this one passes the test
abbrev pub EachOther : Links → (Link → Bool) → ℕ → Type 0
EachOther links test n = (k : ℕ) (d : Link) → k < n → (k + 1 ≡ links.me → ⊥) → test (get_or links.links.items k d) ≡ true

pub each_passes : (links : Links) (h : Host) (test : Link → Bool) (n : ℕ) → AreLinksOf links h → length links.links.items ≤ n → EachOther links test n → (j : ℕ) → IsOther h j → test (h.links j) ≡ true
each_passes links h test n are all passes j other =
    let it = other_to links h j are other in
    let at : get_or links.links.items (j - 1) (h.links j) ≡ h.links j = get_or_from_slice_get links.links.items (j - 1) (h.links j) (h.links j) (are.each j other) in
    ap test (sym at) ∙ passes (j - 1) (h.links j) (omega (arith, it.first, it.last, all)) (λ same. it.other (omega (arith, same, it.first)))

pub one_fails : (links : Links) (h : Host) (test : Link → Bool) (k : ℕ) (l : Link) → AreLinksOf links h → k < length links.links.items → (k + 1 ≡ links.me → ⊥) → l ≡ get_or links.links.items k l → test l ≡ false
    → ((j : ℕ) → IsOther h j → test (h.links j) ≡ true) → ⊥
one_fails links h test k l are within other at fails all =
    let is : IsOther h (k + 1) = other_of links h (k + 1) are (record { first = omega arith; last = omega (arith, within); other = other }) in
    let place : k + 1 - 1 ≡ k = omega arith in
    let found : get_or links.links.items k l ≡ h.links (k + 1) =
    get_or_from_slice_get links.links.items k (h.links (k + 1)) l (ap (slice_get links.links.items) (sym place) ∙ are.each (k + 1) is) in
    never_both (sym (all (k + 1) is) ∙ ap test (sym (at ∙ found)) ∙ fails)

-- ---- What is to be done with a frame

abbrev IsNext : Heard → Type 0
IsNext Next = Unit {0}
IsNext Again = ⊥
IsNext Passed = ⊥

next_or : (later : Bool) (next : Bool) → (cond next Next (cond later Again Passed) ≡ Next) ↔ (next ≡ true)
next_or later true = (λ is. refl, λ is. refl)
next_or true false = (λ is. absurd (subst IsNext (sym is) tt), λ is. absurd (never_both (sym is)))
next_or false false = (λ is. absurd (subst IsNext (sym is) tt), λ is. absurd (never_both (sym is)))

and_true : (a : Bool) → (a && true) ≡ a
and_true true = refl
and_true false = refl

and_false : (a : Bool) → (a && false) ≡ false
and_false true = refl
and_false false = refl

module _ (links : Links) (h : Host) (j start number : ℕ) (frame : Frame) (l : Link) (are : AreLinksOf links h)
    (other : IsOtherNode links.me (length links.links.items) j) (is : slice_get links.links.items (j - 1) ≡ Some l) where
  abbrev names : Bool
  names = from_of frame.message == j && to_of frame.message == links.me

  taken : (named : Bool) → names ≡ named → is_taken h j start number frame ≡ (rule.is_next l start number && named)
  taken named is_named =
      ap (λ (me : ℕ). rule.is_next (h.links j) start number && (from_of frame.message == j && to_of frame.message == me)) are.me
      ∙ ap (λ (x : Link). rule.is_next x start number && names) (found_is links h j l are other is)
      ∙ ap (λ (b : Bool). rule.is_next l start number && b) is_named

  pub next_is : (heard : Heard) → names ≡ true → heard ≡ rule.heard_frame l start number → (heard ≡ Next) ↔ (is_taken h j start number frame ≡ true)
  next_is heard named is_heard =
      let all = taken true named ∙ and_true (rule.is_next l start number) in
      let iff = next_or (rule.is_due l start && nat_lt 0 number && nat_le number l.taken) (rule.is_next l start number) in (
        λ next. all ∙ iff.0 (sym is_heard ∙ next),
        λ yes. is_heard ∙ iff.1 (sym all ∙ yes),
      )

  pub passed_is : names ≡ false → (Passed ≡ Next) ↔ (is_taken h j start number frame ≡ true)
  passed_is unnamed = (
    λ next. absurd (subst IsNext (sym next) tt),
    λ yes. absurd (never_both (sym yes ∙ taken false unnamed ∙ and_false (rule.is_next l start number))),
  )
