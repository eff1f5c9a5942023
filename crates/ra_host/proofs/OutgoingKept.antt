-- What is kept of the frames for other hosts, as more are made and the first are dropped.
use Rattle.std.proofs.Common.{◌≡◌, ◌⊎◌, inl, inr, ℕ, zero, suc, ◌+◌, ◌-◌, ◌<◌, ◌≤◌, Bool, true, false, cond, Some, List, [], ◌∷◌, ◌++◌, drop, max, refl, sym, ap, ◌∙◌, subst, append_assoc, arith}
use Rattle.std.specs.Prelude.{All, nat_lt, slice_get}
use Rattle.std.proofs.lemmas.Bool.{cases_eq, cases_lt, eq-eqb, ne_eqb, lt-ltb, ltb-true}
use Rattle.std.proofs.lemmas.List.{append-nil, drop_all, drop-append-le, drop-drop, length_push}
use Rattle.std.proofs.lemmas.List.Elements.{All-head, All-tail}
use Rattle.std.proofs.lemmas.Option.{none-some, same_Some}
use Rattle.ra_stamp.specs.Message.{to_of}
use Rattle.ra_frame.specs.declared.frame.Frame.{Frame}
use Rattle.ra_host.specs.Host.{frames_to}
use Rattle.ra_host.specs.Outgoing.{Outgoing, KeepsOf, adds, adds_at, drops, posts}

-- ---- Those for one host

pub not_below : (a b : ℕ) → b ≤ a → nat_lt a b ≡ false
not_below a b le = elim (nat_lt a b) as (λ (v : Bool). nat_lt a b ≡ v → nat_lt a b ≡ false) [
  | true ↦ λ is. absurd (omega (arith, ltb-true a b is, le))
  | false ↦ λ is. is
] refl

pub keeps_added : (o : Outgoing) (all : List Frame) (f : Frame) → KeepsOf o all → KeepsOf (adds o f) (all ++ f ∷ [])
keeps_added o all f keeps =
    record {
      made = ap (λ (n : ℕ). n + 1) keeps.made ∙ sym (length_push all f);
      frames = frames (cases_lt o.made o.dropped);
    }
  where
    frames : (o.made < o.dropped) ⊎ (o.dropped ≤ o.made) → cond (nat_lt o.made o.dropped) o.frames (o.frames ++ f ∷ []) ≡ drop o.dropped (all ++ f ∷ [])
    frames (inl low) =
        let long = length_push all f in
        let n = keeps.made in
        ap (λ (b : Bool). cond b o.frames (o.frames ++ f ∷ [])) (lt-ltb o.made o.dropped low)
        ∙ keeps.frames
        ∙ drop_all o.dropped all (omega (arith, n, low))
        ∙ sym (drop_all o.dropped (all ++ f ∷ []) (omega (arith, n, long, low)))
    frames (inr high) =
        let n = keeps.made in
        ap (λ (b : Bool). cond b o.frames (o.frames ++ f ∷ [])) (not_below o.made o.dropped high)
        ∙ ap (λ (fs : List Frame). fs ++ f ∷ []) keeps.frames
        ∙ sym (drop-append-le o.dropped all (f ∷ []) (omega (arith, n, high)))

pub keeps_dropped : (o : Outgoing) (all : List Frame) (count : ℕ) → KeepsOf o all → KeepsOf (drops o count) all
keeps_dropped o all count keeps =
    record {
      made = keeps.made;
      frames = ap (drop (count - o.dropped)) keeps.frames ∙ drop-drop (count - o.dropped) o.dropped all ∙ ap (λ (n : ℕ). drop n all) (omega arith);
    }

-- the first one that is kept is dropped
pub drops_more : (o : Outgoing) (count : ℕ) (f : Frame) (rest : List Frame) → o.frames ≡ f ∷ rest → o.dropped < count
    → drops (record { made = o.made; dropped = o.dropped + 1; frames = rest }) count ≡ drops o count
drops_more o count f rest is low =
    let most : max (o.dropped + 1) count ≡ max o.dropped count = omega (arith, low) in
    let one : count - o.dropped ≡ suc (count - (o.dropped + 1)) = omega (arith, low) in
    let left : drop (count - (o.dropped + 1)) rest ≡ drop (count - o.dropped) o.frames = sym (ap (drop (count - o.dropped)) is ∙ ap (λ (n : ℕ). drop n (f ∷ rest)) one) in
    λ at. record { made = o.made; dropped = most at; frames = left at }

-- none is left to be dropped
pub drops_empty : (o : Outgoing) (count : ℕ) → o.frames ≡ [] → o.dropped < count → drops o count ≡ record { made = o.made; dropped = count; frames = [] }
drops_empty o count is low =
    let most : max o.dropped count ≡ count = omega (arith, low) in
    let left : drop (count - o.dropped) o.frames ≡ [] = ap (drop (count - o.dropped)) is ∙ drop_all (count - o.dropped) [] (omega arith) in
    λ at. record { made = o.made; dropped = most at; frames = left at }

-- all of these are dropped
pub drops_over : (o : Outgoing) (count : ℕ) → count ≤ o.dropped → drops o count ≡ o
drops_over o count high =
    let most : max o.dropped count ≡ o.dropped = omega (arith, high) in
    let none : count - o.dropped ≡ 0 = omega (arith, high) in
    let left : drop (count - o.dropped) o.frames ≡ o.frames = ap (λ (n : ℕ). drop n o.frames) none in
    λ at. record { made = o.made; dropped = most at; frames = left at }

-- ---- Those for all hosts

there : (os : List Outgoing) (place : ℕ) (f : Frame) (o : Outgoing) → slice_get os place ≡ Some o → slice_get (adds_at os place f) place ≡ Some (adds o f)
there [] place f o is = absurd (none-some o is)
there (p ∷ os) zero f o is = ap (λ (x : Outgoing). Some (adds x f)) (same_Some p o is)
there (p ∷ os) (suc place) f o is = there os place f o is

beside : (os : List Outgoing) (place k : ℕ) (f : Frame) → (k ≡ place → ⊥) → slice_get (adds_at os place f) k ≡ slice_get os k
beside [] place k f differs = refl
beside (p ∷ os) zero zero f differs = absurd (differs refl)
beside (p ∷ os) zero (suc k) f differs = refl
beside (p ∷ os) (suc place) zero f differs = refl
beside (p ∷ os) (suc place) (suc k) f differs = beside os place k f (λ same. differs (ap suc same))

-- what is kept for a host after these frames
abbrev pub KeepsAt : List Outgoing → ℕ → List Frame → Type 0
KeepsAt os j all = (o : Outgoing) × (slice_get os (j - 1) ≡ Some o) × KeepsOf o all

pub posted : (j : ℕ) (os : List Outgoing) (fs : List Frame) (all : List Frame) → 1 ≤ j → All (λ f. 1 ≤ to_of f.message) fs → KeepsAt os j all
    → KeepsAt (posts os fs) j (all ++ frames_to j fs)
posted j os [] all some to (o, is, keeps) = (o, is, subst (KeepsOf o) (sym (append-nil all)) keeps)
posted j os (f ∷ fs) all some to (o, is, keeps) = elim (cases_eq (to_of f.message) j) [
  | inl same ↦
      let at : slice_get (adds_at os (to_of f.message - 1) f) (j - 1) ≡ Some (adds o f) =
      ap (λ (n : ℕ). slice_get (adds_at os (n - 1) f) (j - 1)) same ∙ there os (j - 1) f o is in
      let rest = posted j (adds_at os (to_of f.message - 1) f) fs (all ++ f ∷ []) some (All-tail (λ f. 1 ≤ to_of f.message) f fs to) (adds o f, at, keeps_added o all f keeps) in
      let to_it : f ∷ frames_to j fs ≡ frames_to j (f ∷ fs) = sym (ap (λ (b : Bool). cond b (f ∷ frames_to j fs) (frames_to j fs)) (eq-eqb (to_of f.message) j same)) in
      (rest.0, rest.1, subst (KeepsOf rest.0) (append_assoc all (f ∷ []) (frames_to j fs) ∙ ap (λ (gs : List Frame). all ++ gs) to_it) rest.2)
  | inr differs ↦
      let first : 1 ≤ to_of f.message = All-head (λ f. 1 ≤ to_of f.message) f fs to in
      let at : slice_get (adds_at os (to_of f.message - 1) f) (j - 1) ≡ Some o =
      beside os (to_of f.message - 1) (j - 1) f (λ same. differs (omega (arith, same, first, some))) ∙ is in
      let rest = posted j (adds_at os (to_of f.message - 1) f) fs all some (All-tail (λ f. 1 ≤ to_of f.message) f fs to) (o, at, keeps) in
      let not_to_it : frames_to j fs ≡ frames_to j (f ∷ fs) = sym (ap (λ (b : Bool). cond b (f ∷ frames_to j fs) (frames_to j fs)) (ne_eqb (to_of f.message) j differs)) in
      (rest.0, rest.1, subst (KeepsOf rest.0) (ap (λ (gs : List Frame). all ++ gs) not_to_it) rest.2)
]
