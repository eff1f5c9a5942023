-- Lists of slots, some of which are empty.
use Rattle.std.proofs.Common.{◌≡◌, ◌≢◌, ◌<◌, ◌+◌, ◌-◌, ◌≤◌, ℕ, zero, suc, true, false, List, ◌∷◌, [], ◌++◌, length, get_or, set, take, drop, map, Contains, ◌↔◌, Option, Some, None, inl, inr, refl, sym, ap, ◌∙◌, subst, arith}
use Rattle.std.specs.Prelude.{slice_get, IsNone, IsSome, IfSome}
use Rattle.std.specs.Option.{is_some}
use Rattle.std.specs.List.{filter, remove}
use Rattle.ra_stamp.proofs.Places.{split_at}
use Rattle.ra_stamp.specs.declared.message.Message.{Message}
use Rattle.ra_bag.specs.declared.found.Found.TheVariants.{At, In}
use Rattle.ra_bag.specs.Bag.{TakesFirst, TakesOne, TakesAt, StandsIn, IsSlotAt, messages_in, HasEmpty, FewEmpty}
use Rattle.std.proofs.lemmas.List.{length-append, set_split, length-take-le, length-drop, get_or_append_left, get_or-append-add, get_or-take, get_or_default, append-nil, drop_all, length-map, get_or_past}
use Rattle.std.proofs.lemmas.List.Elements.{filter_map-append}
use Rattle.std.proofs.lemmas.Bool.Decides.{leb_tells}
use Rattle.std.proofs.Math.Seq.{take-append_seam, get_or-append_right}

pub in_both : (xs ys : List (Option Message)) → messages_in (xs ++ ys) ≡ messages_in xs ++ messages_in ys
in_both xs ys = filter_map-append (λ slot. slot) xs ys

-- the messages before a slot
abbrev pub before : List (Option Message) → ℕ → List Message
before slots i = messages_in (take i slots)

-- the messages after a slot
abbrev pub behind : List (Option Message) → ℕ → List Message
behind slots i = messages_in (drop (suc i) slots)

-- the message in a slot is between the messages before it and the messages after it
pub split : (slots : List (Option Message)) (i : ℕ) (m : Message) → i < length slots → get_or slots i (Some m) ≡ Some m
    → messages_in slots ≡ before slots i ++ m ∷ behind slots i
split slots i m lt is = ap messages_in (split_at slots i (Some m) lt is) ∙ in_both (take i slots) (Some m ∷ drop (suc i) slots)

pub emptied : (slots : List (Option Message)) (i : ℕ) → i < length slots → messages_in (set slots i None) ≡ before slots i ++ behind slots i
emptied slots i lt = ap messages_in (set_split slots i None lt) ∙ in_both (take i slots) (None ∷ drop (suc i) slots)

pub removed : (slots : List (Option Message)) (i : ℕ) → messages_in (remove slots i) ≡ before slots i ++ behind slots i
removed slots i = in_both (take i slots) (drop (suc i) slots)

pub last_removed : (slots : List (Option Message)) (i : ℕ) → i + 1 ≡ length slots → messages_in (take i slots) ≡ before slots i ++ behind slots i
last_removed slots i last =
    sym (append-nil (before slots i)) ∙ ap (λ (ms : List Message). before slots i ++ ms) (sym (ap messages_in (drop_all (suc i) slots (omega (arith, last)))))

pub in_filled : (ms : List Message) → messages_in (map Some ms) ≡ ms
in_filled [] = refl
in_filled (m ∷ ms) = ap (λ l. m ∷ l) (in_filled ms)

-- ---- Which messages are in the slots

pub there_in : (slots : List (Option Message)) (m : Message) → Contains (messages_in slots) m → Contains slots (Some m)
there_in [] m (k, lt, is) = absurd (omega (arith, lt))
there_in (None ∷ slots) m there = let (j, less, same) = there_in slots m there in (suc j, omega (arith, less), same)
there_in (Some x ∷ slots) m (zero, lt, is) = (0, omega arith, ap Some is)
there_in (Some x ∷ slots) m (suc k, lt, is) = let (j, less, same) = there_in slots m (k, omega (arith, lt), is) in (suc j, omega (arith, less), same)

pub at_seam : (prefix suffix : List Message) (m d : Message) → get_or (prefix ++ m ∷ suffix) (length prefix) d ≡ m
at_seam [] suffix m d = refl
at_seam (x ∷ prefix) suffix m d = at_seam prefix suffix m d

pub out_there : (slots : List (Option Message)) (m : Message) (i : ℕ) → i < length slots → get_or slots i (Some m) ≡ Some m → Contains (messages_in slots) m
out_there slots m i lt is =
    let prefix = before slots i in
    let suffix = behind slots i in
    subst (λ (ms : List Message). Contains ms m) (sym (split slots i m lt is))
    (length prefix, omega (arith, length-append prefix (m ∷ suffix)), at_seam prefix suffix m m)

-- ---- What is taken

pub takes_first : (slots : List (Option Message)) (i : ℕ) (m : Message) (new : List Message) → i < length slots → get_or slots i (Some m) ≡ Some m
    → ((k : ℕ) → k < i → get_or slots k (Some m) ≢ Some m) → new ≡ before slots i ++ behind slots i → TakesFirst (messages_in slots) m new
takes_first slots i m new lt is first new_is =
    record {
      prefix = before slots i;
      suffix = behind slots i;
      old_is = split slots i m lt is;
      first = λ k d below e.
          let (j, less, same) = there_in (take i slots) m (k, below, get_or_default (before slots i) k m d below ∙ e) in
          let near : j < i = omega (arith, less, length-take-le i slots (omega (arith, lt))) in
          first j near (sym (get_or-take i slots j (Some m) near) ∙ same);
      new_is = new_is;
    }

drop_seam : (prefix suffix : List Message) (m : Message) → drop (suc (length prefix)) (prefix ++ m ∷ suffix) ≡ suffix
drop_seam [] suffix m = refl
drop_seam (x ∷ prefix) suffix m = drop_seam prefix suffix m

without : (prefix suffix : List Message) (m : Message) → prefix ++ suffix ≡ remove (prefix ++ m ∷ suffix) (length prefix)
without prefix suffix m =
    sym (ap (λ (ms : List Message). ms ++ drop (suc (length prefix)) (prefix ++ m ∷ suffix)) (take-append_seam prefix (m ∷ suffix))
    ∙ ap (λ (ms : List Message). prefix ++ ms) (drop_seam prefix suffix m))

one_of : (prefix suffix : List Message) (m : Message) → TakesOne (prefix ++ m ∷ suffix) m (prefix ++ suffix)
one_of prefix suffix m = (length prefix, omega (arith, length-append prefix (m ∷ suffix)), at_seam prefix suffix m m, without prefix suffix m)

pub takes_at : (slots : List (Option Message)) (i : ℕ) (m : Message) (new : List Message) (place : ℕ) → i < length slots → get_or slots i (Some m) ≡ Some m
    → new ≡ before slots i ++ behind slots i → length (before slots i) ≡ place → TakesAt (messages_in slots) place new
takes_at slots i m new place lt is new_is len =
    new_is ∙ without (before slots i) (behind slots i) m
    ∙ ap (λ (ms : List Message). remove ms (length (before slots i))) (sym (split slots i m lt is)) ∙ ap (remove (messages_in slots)) len

pub takes_one : (slots : List (Option Message)) (i : ℕ) (m : Message) (new : List Message) → i < length slots → get_or slots i (Some m) ≡ Some m
    → new ≡ before slots i ++ behind slots i → TakesOne (messages_in slots) m new
takes_one slots i m new lt is new_is =
    subst (λ (old : List Message). TakesOne old m new) (sym (split slots i m lt is))
    (subst (λ (ms : List Message). TakesOne (before slots i ++ m ∷ behind slots i) m ms) (sym new_is) (one_of (before slots i) (behind slots i) m))

-- ---- How many slots are empty

-- one message is gone, and its slot too
pub one_less : (slots new : List (Option Message)) (i : ℕ) (m : Message) (empty : ℕ) → i < length slots → get_or slots i (Some m) ≡ Some m
    → HasEmpty slots empty → messages_in new ≡ before slots i ++ behind slots i → length new + 1 ≡ length slots → HasEmpty new empty
one_less slots new i m empty lt is count new_is len =
    omega (
      arith,
      count,
      len,
      ap length new_is,
      ap length (split slots i m lt is),
      length-append (before slots i) (behind slots i),
      length-append (before slots i) (m ∷ behind slots i),
    )

-- one message is gone, and its slot is empty
pub one_emptied : (slots new : List (Option Message)) (i : ℕ) (m : Message) (empty : ℕ) → i < length slots → get_or slots i (Some m) ≡ Some m
    → HasEmpty slots empty → messages_in new ≡ before slots i ++ behind slots i → length new ≡ length slots → HasEmpty new (empty + 1)
one_emptied slots new i m empty lt is count new_is len =
    omega (
      arith,
      count,
      len,
      ap length new_is,
      ap length (split slots i m lt is),
      length-append (before slots i) (behind slots i),
      length-append (before slots i) (m ∷ behind slots i),
    )

-- ---- Without the empty slots

pub closed_up : (slots : List (Option Message)) → messages_in (filter is_some slots) ≡ messages_in slots
closed_up [] = refl
closed_up (None ∷ slots) = closed_up slots
closed_up (Some m ∷ slots) = ap (λ l. m ∷ l) (closed_up slots)

pub none_empty : (slots : List (Option Message)) → length (messages_in (filter is_some slots)) ≡ length (filter is_some slots)
none_empty [] = refl
none_empty (None ∷ slots) = none_empty slots
none_empty (Some m ∷ slots) = ap suc (none_empty slots)

-- ---- By places

pub at_most : (slots : List (Option Message)) → length (messages_in slots) ≤ length slots
at_most [] = omega arith
at_most (None ∷ slots) = omega (arith, at_most slots)
at_most (Some m ∷ slots) = omega (arith, at_most slots)

-- if no slot is empty, each has the message at its place
pub at_full : (slots : List (Option Message)) (place : ℕ) → length (messages_in slots) ≡ length slots → IsSlotAt slots place place
at_full [] place full = (refl, λ lt. absurd (omega (arith, lt)))
at_full (None ∷ slots) place full = absurd (omega (arith, full, at_most slots))
at_full (Some m ∷ slots) zero full = (refl, λ _. refl)
at_full (Some m ∷ slots) (suc place) full =
    let rest = at_full slots place (omega (arith, full)) in
    (rest.0, λ lt. ap suc (rest.1 (omega (arith, lt))))

pub past_all : (ms : List Message) (place : ℕ) → length ms ≤ place → None ≡ slice_get ms place
past_all [] place le = refl
past_all (m ∷ ms) zero le = absurd (omega (arith, le))
past_all (m ∷ ms) (suc place) le = past_all ms place (omega (arith, le))

-- past the end there is neither a message nor a slot
pub at_end : (slots : List (Option Message)) (place i : ℕ) → length slots ≤ i → length (messages_in slots) ≤ place → IsSlotAt slots place i
at_end slots place i end past = (get_or_past slots i None end ∙ past_all (messages_in slots) place past, λ lt. absurd (omega (arith, lt, end)))

-- the place of the message in a slot is the number of messages before it
pub at_slot : (slots : List (Option Message)) (i place : ℕ) → i < length slots → is_some (get_or slots i None) ≡ true → length (before slots i) ≡ place → IsSlotAt slots place i
at_slot slots i place lt some len = (by slots i place lt some len, λ _. len)
  where
    by : (slots : List (Option Message)) (i place : ℕ) → i < length slots → is_some (get_or slots i None) ≡ true → length (before slots i) ≡ place
        → get_or slots i None ≡ slice_get (messages_in slots) place
    by [] i place lt some len = absurd (omega (arith, lt))
    by (None ∷ slots) zero place lt some len = absurd cc
    by (None ∷ slots) (suc i) place lt some len = by slots i place (omega (arith, lt)) some len
    by (Some x ∷ slots) zero zero lt some len = refl
    by (Some x ∷ slots) zero (suc place) lt some len = absurd (omega (arith, len))
    by (Some x ∷ slots) (suc i) zero lt some len = absurd (omega (arith, len))
    by (Some x ∷ slots) (suc i) (suc place) lt some len = by slots i place (omega (arith, lt)) some (omega (arith, len))

-- before the next slot there is one message more
pub one_more_before : (slots : List (Option Message)) (i : ℕ) → i < length slots → is_some (get_or slots i None) ≡ true
    → length (before slots (i + 1)) ≡ length (before slots i) + 1
one_more_before slots i lt some =
    let next : i + 1 ≡ suc i = omega arith in
    ap (λ n. length (before slots n)) next ∙ omega (arith, by slots i lt some)
  where
    by : (slots : List (Option Message)) (i : ℕ) → i < length slots → is_some (get_or slots i None) ≡ true → length (before slots (suc i)) ≡ suc (length (before slots i))
    by [] i lt some = absurd (omega (arith, lt))
    by (None ∷ slots) zero lt some = absurd cc
    by (None ∷ slots) (suc i) lt some = by slots i (omega (arith, lt)) some
    by (Some x ∷ slots) zero lt some = refl
    by (Some x ∷ slots) (suc i) lt some = ap suc (by slots i (omega (arith, lt)) some)

pub none_more_before : (slots : List (Option Message)) (i : ℕ) → i < length slots → is_some (get_or slots i None) ≡ false
    → length (before slots (i + 1)) ≡ length (before slots i)
none_more_before slots i lt none =
    let next : i + 1 ≡ suc i = omega arith in
    ap (λ n. length (before slots n)) next ∙ by slots i lt none
  where
    by : (slots : List (Option Message)) (i : ℕ) → i < length slots → is_some (get_or slots i None) ≡ false → length (before slots (suc i)) ≡ length (before slots i)
    by [] i lt none = absurd (omega (arith, lt))
    by (None ∷ slots) zero lt none = refl
    by (None ∷ slots) (suc i) lt none = by slots i (omega (arith, lt)) none
    by (Some x ∷ slots) zero lt none = absurd cc
    by (Some x ∷ slots) (suc i) lt none = ap suc (by slots i (omega (arith, lt)) none)

-- ---- In a list of two parts

pub in_front : (front back : List (Option Message)) (m : Message) → Contains front (Some m) → Contains (messages_in (front ++ back)) m
in_front front back m (k, lt, is) =
    out_there (front ++ back) m k (omega (arith, lt, length-append front back)) (get_or_append_left front back (Some m) k lt ∙ is)

pub in_back : (front back : List (Option Message)) (m : Message) → Contains back (Some m) → Contains (messages_in (front ++ back)) m
in_back front back m (k, lt, is) =
    out_there (front ++ back) m (length front + k) (omega (arith, lt, length-append front back)) (get_or-append-add front back k (Some m) ∙ is)

pub in_neither : (front back : List (Option Message)) (m : Message) → (Contains front (Some m) → ⊥) → (Contains back (Some m) → ⊥)
    → Contains (messages_in (front ++ back)) m → ⊥
in_neither front back m no_front no_back there =
    let (k, lt, is) = there_in (front ++ back) m there in
    elim (leb_tells (length front) k) [
      | inl past ↦ no_back (k - length front, omega (arith, past.1, lt, length-append front back), sym (get_or-append_right front back k (Some m) past.1) ∙ is)
      | inr near ↦ no_front (k, near.1, sym (get_or_append_left front back (Some m) k near.1) ∙ is)
    ]

pub stands_in_front : (front back slots : List (Option Message)) (m : Message) (i : ℕ) → front ++ back ≡ slots → StandsIn front m i → StandsIn slots m i
stands_in_front front back slots m i all there =
    subst (λ (l : List (Option Message)). StandsIn l m i) all
    (omega (arith, there.0, length-append front back), get_or_append_left front back (Some m) i there.0 ∙ there.1)

pub stands_in_back : (front back slots : List (Option Message)) (m : Message) (i : ℕ) → front ++ back ≡ slots → StandsIn back m i → StandsIn slots m (length front + i)
stands_in_back front back slots m i all there =
    subst (λ (l : List (Option Message)). StandsIn l m (length front + i)) all
    (omega (arith, there.0, length-append front back), get_or-append-add front back i (Some m) ∙ there.1)

-- no slot before this one has the message
abbrev pub NoneBefore : List (Option Message) → Message → ℕ → Type 0
NoneBefore slots m i = (k : ℕ) → k < i → get_or slots k (Some m) ≢ Some m

pub first_in_front : (front back slots : List (Option Message)) (m : Message) (i : ℕ) → front ++ back ≡ slots → i < length front → NoneBefore front m i → NoneBefore slots m i
first_in_front front back slots m i all within first = subst (λ (l : List (Option Message)). NoneBefore l m i) all (λ k lt is.
    let near : k < length front = omega (arith, lt, within) in
    first k lt (sym (get_or_append_left front back (Some m) k near) ∙ is))

pub first_in_back : (front back slots : List (Option Message)) (m : Message) (i : ℕ) → front ++ back ≡ slots → (Contains front (Some m) → ⊥) → NoneBefore back m i
    → NoneBefore slots m (length front + i)
first_in_back front back slots m i all no_front first = subst (λ (l : List (Option Message)). NoneBefore l m (length front + i)) all (λ k lt is.
    elim (leb_tells (length front) k) [
      | inl past ↦ first (k - length front) (omega (arith, past.1, lt)) (sym (get_or-append_right front back k (Some m) past.1) ∙ is)
      | inr near ↦ no_front (k, near.1, sym (get_or_append_left front back (Some m) k near.1) ∙ is)
    ])

-- ---- What is appended

pub put_behind : (slots : List (Option Message)) (ms : List Message) → messages_in (slots ++ map Some ms) ≡ messages_in slots ++ ms
put_behind slots ms = in_both slots (map Some ms) ∙ ap (λ (l : List Message). messages_in slots ++ l) (in_filled ms)

pub count_behind : (slots : List (Option Message)) (ms : List Message) (empty : ℕ) → HasEmpty slots empty → HasEmpty (slots ++ map Some ms) empty
count_behind slots ms empty count =
    omega (arith, count, ap length (put_behind slots ms), length-append (messages_in slots) ms, length-append slots (map Some ms), length-map ms Some)

pub few_behind : (slots : List (Option Message)) (ms : List Message) (empty : ℕ) → FewEmpty slots empty → FewEmpty (slots ++ map Some ms) empty
few_behind slots ms empty few = omega (arith, few, ap length (put_behind slots ms), length-append (messages_in slots) ms)

pub first_is_one : (old : List Message) (m : Message) (new : List Message) → TakesFirst old m new → TakesOne old m new
first_is_one old m new takes =
    subst (λ (ms : List Message). TakesOne ms m new) (sym takes.old_is)
    (subst (λ (ms : List Message). TakesOne (takes.prefix ++ m ∷ takes.suffix) m ms) (sym takes.new_is) (one_of takes.prefix takes.suffix m))

pub one_is_taken : (taken : Option Message) (old new : List Message) (m : Message) → Contains old m → IfSome taken (λ t. (t ≡ m) × TakesFirst old m new)
    → (IsNone taken → Contains old m → ⊥) → TakesOne old m new
one_is_taken None old new m there some none = absurd (none refl there)
one_is_taken (Some t) old new m there some none = first_is_one old m new some.1

pub first_is_taken : (taken : Option Message) (old new : List Message) (m : Message) → Contains old m → IfSome taken (λ t. (t ≡ m) × TakesFirst old m new)
    → (IsNone taken → Contains old m → ⊥) → TakesFirst old m new
first_is_taken None old new m there some none = absurd (none refl there)
first_is_taken (Some t) old new m there some none = some.1

-- a message that is in the slot of a place is at that place
pub is_at_place : (slots : List (Option Message)) (slot : ℕ) (m : Message) (place : ℕ) → slot < length slots → get_or slots slot (Some m) ≡ Some m
    → get_or slots slot None ≡ slice_get (messages_in slots) place → slice_get (messages_in slots) place ≡ Some m
is_at_place slots slot m place lt is at = sym at ∙ get_or_default slots slot None (Some m) lt ∙ is

-- the slot of the place of a message contains it
pub stands_at : (slots : List (Option Message)) (slot : ℕ) (m : Message) (place : ℕ) → get_or slots slot None ≡ slice_get (messages_in slots) place
    → slice_get (messages_in slots) place ≡ Some m → StandsIn slots m slot
stands_at slots slot m place at is = elim (leb_tells (length slots) slot) [
  | inl past ↦ absurd (let clash : None ≡ Some m = sym (get_or_past slots slot None past.1) ∙ at ∙ is in cc)
  | inr near ↦ (near.1, get_or_default slots slot (Some m) None near.1 ∙ at ∙ is)
]

pub length_without : (slots : List (Option Message)) (i : ℕ) → i < length slots → length (remove slots i) + 1 ≡ length slots
length_without slots i lt =
    omega (arith, lt, length-append (take i slots) (drop (suc i) slots), length-take-le i slots (omega (arith, lt)), length-drop (suc i) slots)

pub length_dropped : (slots : List (Option Message)) → 0 < length slots → length (drop 1 slots) + 1 ≡ length slots
length_dropped [] lt = absurd (omega (arith, lt))
length_dropped (slot ∷ slots) lt = omega arith

pub first_removed : (slots : List (Option Message)) (i : ℕ) → i ≡ 0 → messages_in (drop 1 slots) ≡ before slots i ++ behind slots i
first_removed slots zero is = refl
first_removed slots (suc i) is = absurd (omega (arith, is))

pub not_empty : (slots : List (Option Message)) (i : ℕ) → i < length slots → 0 < length slots
not_empty slots i lt = omega (arith, lt)

pub no_more : (a b c : ℕ) → a ≤ b → b ≤ c → a ≤ c
no_more a b c first second = omega (arith, first, second)

not_below_zero : (k : ℕ) → k < 0 → ⊥
not_below_zero k lt = omega (arith, lt)

-- no slot is before the first
pub first_of_all : (slots : List (Option Message)) (m : Message) → NoneBefore slots m 0
first_of_all slots m k lt is = not_below_zero k lt

-- the spare does not shrink
pub same_spare : (spare capacity len : ℕ) → capacity - len ≡ spare → spare ≤ capacity - len
same_spare spare capacity len is = omega (arith, is)

pub more_spare : (spare capacity len new_capacity new_len : ℕ) → capacity - len ≡ spare → new_capacity ≡ capacity → new_len ≤ len → spare ≤ new_capacity - new_len
more_spare spare capacity len new_capacity new_len is same less = omega (arith, is, same, less)

-- ---- A message was found

pub same_place : (near place : ℕ) → At near ≡ At place → near ≡ place
same_place near place is = cc

pub in_no_place : (slot place : ℕ) → In slot ≡ At place → ⊥
in_no_place slot place is = cc

-- ---- Nothing was found

-- what holds of each value that was found
pub of_none : {A : Type 0} (P : A → Type 0) (found : Option A) → found ≡ None → IfSome found P
of_none P None is = tt
of_none P (Some x) is = absurd cc

pub none_is_some : {A P : Type 0} (found : Option A) → found ≡ None → (P → ⊥) → IsSome found ↔ P
none_is_some None is none = (λ some. absurd cc, λ there. absurd (none there))
none_is_some (Some x) is none = absurd cc

pub none_is_none : {A P : Type 0} (found : Option A) → found ≡ None → (P → ⊥) → IsNone found ↔ (P → ⊥)
none_is_none None is none = (λ _. none, λ _. refl)
none_is_none (Some x) is none = absurd cc

pub both_hold : {A : Type 0} (P Q : A → Type 0) (found : Option A) → IfSome found P → IfSome found Q → IfSome found (λ x. P x × Q x)
both_hold P Q None p q = tt
both_hold P Q (Some x) p q = (p, q)
