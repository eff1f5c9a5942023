-- Places keep telling the slots of each message as messages are appended and taken and slots are dropped.
use Rattle.std.proofs.Common.{◌≡◌, ◌<◌, ◌+◌, ◌↔◌, ℕ, suc, Bool, false, List, ◌∷◌, [], ◌++◌, length, get_or, set, take, drop, map, Contains, Option, Some, None, refl, sym, ap, ◌∙◌, subst, arith, inl, inr, append_assoc, true≢false}
use Rattle.std.specs.Prelude.{IsTrue}
use Rattle.std.specs.Map.{lookup}
use Rattle.std.proofs.lemmas.List.{set_split, drop_all, take_more, length-take-le, length-append, length-map, map-append}
use Rattle.ra_stamp.specs.declared.message.Message.{Message}
use Rattle.ra_bag.specs.declared.places.Places.{Places}
use Rattle.ra_bag.specs.Bag.{StandsIn, messages_in}
use Rattle.ra_bag.specs.Places.{IsFirstSlot, numbers_of, later_numbers, AreKept, Has, Tells, IsTold, Learns, Unlearns}
use Rattle.ra_bag.proofs.Numbers.{both_cases, put_one, put_other, last_gone, first_taken, other_taken, none_there, first_number}

-- ---- One message

pub kept_first : {Q : Type 0} (items : Q → List ℕ) (number : ℕ) (queue : Option Q) (numbers : List ℕ) → AreKept items None queue numbers → AreKept items (Some number) queue (numbers ++ number ∷ [])
kept_first items number None numbers kept = ap (λ (l : List ℕ). l ++ number ∷ []) kept
kept_first items number (Some queue) numbers kept = absurd kept

pub kept_more : {Q : Type 0} (items : Q → List ℕ) (first number : ℕ) (old new : Option Q) (numbers : List ℕ) → later_numbers items new ≡ later_numbers items old ++ number ∷ []
    → AreKept items (Some first) old numbers → AreKept items (Some first) new (numbers ++ number ∷ [])
kept_more items first number old new numbers more kept = ap (λ (l : List ℕ). l ++ number ∷ []) kept ∙ ap (λ (l : List ℕ). first ∷ l) (sym more)

pub kept_next : {Q : Type 0} (items : Q → List ℕ) (first next : ℕ) (old new : Option Q) (numbers : List ℕ) → later_numbers items old ≡ next ∷ later_numbers items new
    → AreKept items (Some first) old numbers → (rest : List ℕ) × (numbers ≡ first ∷ rest) × AreKept items (Some next) new rest
kept_next items first next old new numbers less kept = (later_numbers items old, kept, less)

pub no_number : {Q : Type 0} (items : Q → List ℕ) (queue : Option Q) (numbers : List ℕ) → AreKept items None queue numbers → numbers ≡ []
no_number items None numbers kept = kept
no_number items (Some queue) numbers kept = absurd kept

-- ---- One message, by what the places have for it before and after

module _ {Q : Type 0} (items : Q → List ℕ) (old_number new_number : Option ℕ) (old new : Option Q) (numbers : List ℕ) where
  pub kept_same : new_number ≡ old_number → new ≡ old → AreKept items old_number old numbers → AreKept items new_number new numbers
  kept_same same same_queue kept = subst (λ q. AreKept items new_number q numbers) (sym same_queue) (subst (λ n. AreKept items n old numbers) (sym same) kept)

  -- its first number
  pub learns_first : (number : ℕ) → old_number ≡ None → new_number ≡ Some number → new ≡ old → AreKept items old_number old numbers → AreKept items new_number new (numbers ++ number ∷ [])
  learns_first number none some same_queue kept =
      subst (λ n. AreKept items n new (numbers ++ number ∷ [])) (sym some)
      (subst (λ q. AreKept items (Some number) q (numbers ++ number ∷ [])) (sym same_queue) (kept_first items number old numbers (subst (λ n. AreKept items n old numbers) none kept)))

  -- a later one
  pub learns_later : (first number : ℕ) → old_number ≡ Some first → new_number ≡ Some first → later_numbers items new ≡ later_numbers items old ++ number ∷ []
      → AreKept items old_number old numbers → AreKept items new_number new (numbers ++ number ∷ [])
  learns_later first number is stays more kept =
      subst (λ n. AreKept items n new (numbers ++ number ∷ [])) (sym stays) (kept_more items first number old new numbers more (subst (λ n. AreKept items n old numbers) is kept))

  -- it loses its first number, and the next one comes first
  pub loses_first : (first next : ℕ) → old_number ≡ Some first → new_number ≡ Some next → later_numbers items old ≡ next ∷ later_numbers items new
      → AreKept items old_number old numbers → (rest : List ℕ) × (numbers ≡ first ∷ rest) × AreKept items new_number new rest
  loses_first first next is after less kept =
      subst (λ n. (rest : List ℕ) × (numbers ≡ first ∷ rest) × AreKept items n new rest) (sym after) (kept_next items first next old new numbers less (subst (λ n. AreKept items n old numbers) is kept))

-- ---- All messages

module _ (eq : Message → Message → Bool) (exact : (a b : Message) → IsTrue (eq a b) ↔ (a ≡ b)) where
  apart : (m q : Message) → eq m q ≡ false → eq q m ≡ false
  apart m q differ = elim (both_cases (eq q m)) [
    | inl same ↦ absurd (true≢false (sym ((exact m q).1 (sym ((exact q m).0 same))) ∙ differ))
    | inr other ↦ other
  ]

  -- what holds of this message and of all others holds of each
  each : (P : Message → Type 0) (m : Message) → P m → ((q : Message) → eq m q ≡ false → P q) → (q : Message) → P q
  each P m here others q = elim (both_cases (eq m q)) [
    | inl same ↦ subst P ((exact m q).0 same) here
    | inr differ ↦ others q differ
  ]

  pub tells_more : (old new : Places) (slots : List (Option Message)) (m : Message) (number : ℕ) → Learns eq old m number new → number ≡ old.first + length slots
      → Tells eq old slots → Tells eq new (slots ++ Some m ∷ [])
  tells_more old new slots m number learns is tells =
      each (λ (q : Message). Has eq new q (numbers_of (eq q) new.first (slots ++ Some m ∷ []))) m
      (subst (λ (l : List ℕ). Has eq new m l)
      (ap (λ n. numbers_of (eq m) old.first slots ++ n ∷ []) is ∙ sym (put_one (eq m) old.first slots m ((exact m m).1 refl))
      ∙ ap (λ f. numbers_of (eq m) f (slots ++ Some m ∷ [])) (sym learns.0))
      (learns.2 (numbers_of (eq m) old.first slots) (tells m)))
      (λ q differ. subst (λ (l : List ℕ). Has eq new q l)
      (sym (put_other (eq q) old.first slots m (apart m q differ)) ∙ ap (λ f. numbers_of (eq q) f (slots ++ Some m ∷ [])) (sym learns.0))
      (learns.1 q (numbers_of (eq q) old.first slots) differ (tells q)))

  pub tells_less : (old new : Places) (slots : List (Option Message)) (m : Message) (i : ℕ) → Unlearns eq old m (old.first + i) new → StandsIn slots m i
      → Tells eq old slots → Tells eq new (set slots i None)
  tells_less old new slots m i unlearns there tells =
      each (λ (q : Message). Has eq new q (numbers_of (eq q) new.first (set slots i None))) m
      (let (rest, is, has) = unlearns.2 (numbers_of (eq m) old.first slots) (tells m) in
      subst (λ (l : List ℕ). Has eq new m l)
      (sym (first_taken (eq m) old.first i slots m rest ((exact m m).1 refl) there.0 there.1 is) ∙ ap (λ f. numbers_of (eq m) f (set slots i None)) (sym unlearns.0))
      has)
      (λ q differ. subst (λ (l : List ℕ). Has eq new q l)
      (sym (other_taken (eq q) old.first i slots m (apart m q differ) there.0 there.1) ∙ ap (λ f. numbers_of (eq q) f (set slots i None)) (sym unlearns.0))
      (unlearns.1 q (numbers_of (eq q) old.first slots) differ (tells q)))

  -- the number that is kept for a message is the number of the first slot that has it
  pub first_told : (places : Places) (slots : List (Option Message)) (m : Message) (number i : ℕ) → lookup (eq m) places.numbers.entries ≡ Some number → number ≡ places.first + i
      → Tells eq places slots → IsFirstSlot slots m i
  first_told places slots m number i found is tells =
      let numbers = numbers_of (eq m) places.first slots in
      let kept = subst (λ (o : Option ℕ). AreKept (λ q. q.items) o (lookup (eq m) places.later.entries) numbers) found (tells m) in
      let (j, at_j, lt, x, at, passes, before) = first_number (eq m) places.first slots number (later_numbers (λ q. q.items) (lookup (eq m) places.later.entries)) m kept in
      let same : j ≡ i = omega (arith, at_j, is) in
      subst (IsFirstSlot slots m) same (
        (lt, at ∙ ap Some (sym ((exact m x).0 passes))),
        λ k less has. true≢false (sym ((exact m m).1 refl) ∙ before k m less has),
      )

  -- a message for which no number is kept is in no slot
  pub none_told : (places : Places) (slots : List (Option Message)) (m : Message) → lookup (eq m) places.numbers.entries ≡ None → Tells eq places slots → Contains (messages_in slots) m → ⊥
  none_told places slots m none tells there =
      none_there (eq m) places.first slots m ((exact m m).1 refl)
      (no_number (λ q. q.items) (lookup (eq m) places.later.entries) (numbers_of (eq m) places.first slots)
      (subst (λ (o : Option ℕ). AreKept (λ q. q.items) o (lookup (eq m) places.later.entries) (numbers_of (eq m) places.first slots)) none (tells m)))
      there

  -- no number that is kept is below the first slot's
  pub number_told : (places : Places) (slots : List (Option Message)) (m : Message) (number : ℕ) → lookup (eq m) places.numbers.entries ≡ Some number → number < places.first
      → Tells eq places slots → ⊥
  number_told places slots m number found less tells =
      let numbers = numbers_of (eq m) places.first slots in
      let kept = subst (λ (o : Option ℕ). AreKept (λ q. q.items) o (lookup (eq m) places.later.entries) numbers) found (tells m) in
      let here = first_number (eq m) places.first slots number (later_numbers (λ q. q.items) (lookup (eq m) places.later.entries)) m kept in
      omega (arith, here.1, less)

-- ---- Slots at the ends are dropped

module _ (eq : Message → Message → Bool) where
  -- a slot at the end that has no message
  pub told_without_last : (places : Places) (slots : List (Option Message)) (i : ℕ) → i + 1 ≡ length slots → IsTold eq places (set slots i None) → IsTold eq places (take i slots)
  told_without_last places slots i last told some q =
      let split = set_split slots i None (omega (arith, last)) ∙ ap (λ (l : List (Option Message)). take i slots ++ None ∷ l) (drop_all (suc i) slots (omega (arith, last))) in
      subst (λ (l : List ℕ). Has eq places q l) (ap (numbers_of (eq q) places.first) split ∙ last_gone (eq q) places.first (take i slots)) (told some q)

pub first_emptied : (slots : List (Option Message)) → 0 < length slots → set slots 0 None ≡ None ∷ drop 1 slots
first_emptied [] lt = absurd (omega (arith, lt))
first_emptied (slot ∷ slots) lt = refl

-- ---- One slot after the other

pub one_more : (slots : List (Option Message)) (ms : List Message) (i : ℕ) (m : Message) → i < length ms → get_or ms i m ≡ m
    → (slots ++ map Some (take i ms)) ++ Some m ∷ [] ≡ slots ++ map Some (take (i + 1) ms)
one_more slots ms i m lt is =
    append_assoc slots (map Some (take i ms)) (Some m ∷ [])
    ∙ ap (λ (l : List (Option Message)). slots ++ l) (sym (ap (map Some) (take_more ms i m lt ∙ ap (λ (x : Message). take i ms ++ x ∷ []) is) ∙ map-append Some (take i ms) (m ∷ [])))

module _ (eq : Message → Message → Bool) (exact : (a b : Message) → IsTrue (eq a b) ↔ (a ≡ b)) (old new : Places) (i : ℕ) (m : Message) (number : ℕ) (learns : Learns eq old m number new) where
  -- a slot that has a message
  pub next_slot : (slots : List (Option Message)) → old.first ≡ 0 → number ≡ i → i < length slots → get_or slots i (Some m) ≡ Some m → Tells eq old (take i slots) → Tells eq new (take (i + 1) slots)
  next_slot slots first is lt at tells =
      subst (Tells eq new) (sym (take_more slots i (Some m) lt ∙ ap (λ (x : Option Message). take i slots ++ x ∷ []) at))
      (tells_more eq exact old new (take i slots) m number learns (omega (arith, first, is, length-take-le i slots (omega (arith, lt)))) tells)

  -- a message that is appended
  pub next_message : (ms : List Message) (slots : List (Option Message)) → number ≡ old.first + (length slots + i) → i < length ms → get_or ms i m ≡ m
      → Tells eq old (slots ++ map Some (take i ms)) → Tells eq new (slots ++ map Some (take (i + 1) ms))
  next_message ms slots is lt at tells =
      subst (Tells eq new) (one_more slots ms i m lt at)
      (tells_more eq exact old new (slots ++ map Some (take i ms)) m number learns
      (omega (arith, is, length-append slots (map Some (take i ms)), length-map (take i ms) Some, length-take-le i ms (omega (arith, lt)))) tells)

-- a slot that has no message
pub next_none : (eq : Message → Message → Bool) (places : Places) (slots : List (Option Message)) (i : ℕ) → i < length slots → get_or slots i None ≡ None → Tells eq places (take i slots) → Tells eq places (take (i + 1) slots)
next_none eq places slots i lt at tells =
    subst (Tells eq places) (sym (take_more slots i None lt ∙ ap (λ (x : Option Message). take i slots ++ x ∷ []) at))
    (λ q. subst (λ (l : List ℕ). Has eq places q l) (sym (last_gone (eq q) places.first (take i slots))) (tells q))
