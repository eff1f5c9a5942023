-- The numbers of the slots that have a message, as messages are appended and taken and slots are dropped.
use Rattle.std.proofs.Common.{◌≡◌, ◌<◌, ◌+◌, ◌⊎◌, ℕ, zero, suc, Bool, true, false, cond, List, ◌∷◌, [], ◌++◌, length, get_or, set, Contains, Option, Some, None, refl, sym, ap, ◌∙◌, arith, inl, inr, true≢false}
use Rattle.std.proofs.lemmas.List.{append-nil}
use Rattle.ra_stamp.specs.declared.message.Message.{Message}
use Rattle.ra_bag.specs.Bag.{messages_in}
use Rattle.ra_bag.specs.Places.{numbers_of}

-- ---- For any test

pub both_cases : (b : Bool) → (b ≡ true) ⊎ (b ≡ false)
both_cases true = inl refl
both_cases false = inr refl

some_is : (x m : Message) → Some x ≡ Some m → x ≡ m
some_is x m e = cc

heads : (a b : ℕ) (xs ys : List ℕ) → a ∷ xs ≡ b ∷ ys → a ≡ b
heads a b xs ys e = cc

tails : (a b : ℕ) (xs ys : List ℕ) → a ∷ xs ≡ b ∷ ys → xs ≡ ys
tails a b xs ys e = cc

module _ (test : Message → Bool) where
  pub put_behind : (first : ℕ) (xs ys : List (Option Message)) → numbers_of test first (xs ++ ys) ≡ numbers_of test first xs ++ numbers_of test (first + length xs) ys
  put_behind first [] ys = ap (λ n. numbers_of test n ys) (omega arith)
  put_behind first (None ∷ xs) ys =
      put_behind (first + 1) xs ys ∙ ap (λ n. numbers_of test (first + 1) xs ++ numbers_of test n ys) (omega arith)
  put_behind first (Some m ∷ xs) ys =
      let rest : numbers_of test (first + 1) (xs ++ ys) ≡ numbers_of test (first + 1) xs ++ numbers_of test (first + suc (length xs)) ys =
      put_behind (first + 1) xs ys ∙ ap (λ n. numbers_of test (first + 1) xs ++ numbers_of test n ys) (omega arith) in
      by (test m) rest
    where
      by : (b : Bool) → numbers_of test (first + 1) (xs ++ ys) ≡ numbers_of test (first + 1) xs ++ numbers_of test (first + suc (length xs)) ys
          → cond b (first ∷ numbers_of test (first + 1) (xs ++ ys)) (numbers_of test (first + 1) (xs ++ ys))
          ≡ cond b (first ∷ numbers_of test (first + 1) xs) (numbers_of test (first + 1) xs) ++ numbers_of test (first + suc (length xs)) ys
      by true rest = ap (λ l. first ∷ l) rest
      by false rest = rest

  pub put_one : (first : ℕ) (xs : List (Option Message)) (m : Message) → test m ≡ true → numbers_of test first (xs ++ Some m ∷ []) ≡ numbers_of test first xs ++ (first + length xs) ∷ []
  put_one first xs m passes = put_behind first xs (Some m ∷ []) ∙ ap (λ b. numbers_of test first xs ++ cond b ((first + length xs) ∷ []) []) passes

  pub put_other : (first : ℕ) (xs : List (Option Message)) (m : Message) → test m ≡ false → numbers_of test first (xs ++ Some m ∷ []) ≡ numbers_of test first xs
  put_other first xs m fails =
      put_behind first xs (Some m ∷ []) ∙ ap (λ b. numbers_of test first xs ++ cond b ((first + length xs) ∷ []) []) fails ∙ append-nil (numbers_of test first xs)

  pub last_gone : (first : ℕ) (xs : List (Option Message)) → numbers_of test first (xs ++ None ∷ []) ≡ numbers_of test first xs
  last_gone first xs = put_behind first xs (None ∷ []) ∙ append-nil (numbers_of test first xs)

  -- the first slot that passes is emptied
  pub first_taken : (first i : ℕ) (slots : List (Option Message)) (m : Message) (rest : List ℕ) → test m ≡ true → i < length slots → get_or slots i (Some m) ≡ Some m
      → numbers_of test first slots ≡ (first + i) ∷ rest → numbers_of test first (set slots i None) ≡ rest
  first_taken first i [] m rest passes lt is numbers = absurd (omega (arith, lt))
  first_taken first zero (None ∷ slots) m rest passes lt is numbers = absurd cc
  first_taken first (suc i) (None ∷ slots) m rest passes lt is numbers =
      first_taken (first + 1) i slots m rest passes (omega (arith, lt)) is (numbers ∙ ap (λ n. n ∷ rest) (omega arith))
  first_taken first zero (Some x ∷ slots) m rest passes lt is numbers =
      let here : test x ≡ true = ap test (some_is x m is) ∙ passes in
      tails first (first + zero) (numbers_of test (first + 1) slots) rest
      (sym (ap (λ b. cond b (first ∷ numbers_of test (first + 1) slots) (numbers_of test (first + 1) slots)) here) ∙ numbers)
  first_taken first (suc i) (Some x ∷ slots) m rest passes lt is numbers =
      by (test x) refl (λ later. first_taken (first + 1) i slots m rest passes (omega (arith, lt)) is later)
    where
      by : (b : Bool) → test x ≡ b → (numbers_of test (first + 1) slots ≡ ((first + 1) + i) ∷ rest → numbers_of test (first + 1) (set slots i None) ≡ rest)
          → cond (test x) (first ∷ numbers_of test (first + 1) (set slots i None)) (numbers_of test (first + 1) (set slots i None)) ≡ rest
      by true e again = absurd (omega (
        arith,
        heads first (first + suc i) (numbers_of test (first + 1) slots) rest
            (sym (ap (λ b. cond b (first ∷ numbers_of test (first + 1) slots) (numbers_of test (first + 1) slots)) e) ∙ numbers),
      ))
      by false e again =
          ap (λ b. cond b (first ∷ numbers_of test (first + 1) (set slots i None)) (numbers_of test (first + 1) (set slots i None))) e
          ∙ again (sym (ap (λ b. cond b (first ∷ numbers_of test (first + 1) slots) (numbers_of test (first + 1) slots)) e) ∙ numbers ∙ ap (λ n. n ∷ rest) (omega arith))

  -- a slot that does not pass is emptied
  pub other_taken : (first i : ℕ) (slots : List (Option Message)) (m : Message) → test m ≡ false → i < length slots → get_or slots i (Some m) ≡ Some m
      → numbers_of test first (set slots i None) ≡ numbers_of test first slots
  other_taken first i [] m fails lt is = absurd (omega (arith, lt))
  other_taken first zero (None ∷ slots) m fails lt is = absurd cc
  other_taken first (suc i) (None ∷ slots) m fails lt is = other_taken (first + 1) i slots m fails (omega (arith, lt)) is
  other_taken first zero (Some x ∷ slots) m fails lt is =
      sym (ap (λ b. cond b (first ∷ numbers_of test (first + 1) slots) (numbers_of test (first + 1) slots)) (ap test (some_is x m is) ∙ fails))
  other_taken first (suc i) (Some x ∷ slots) m fails lt is =
      ap (λ l. cond (test x) (first ∷ l) l) (other_taken (first + 1) i slots m fails (omega (arith, lt)) is)

  -- if there is no number, no message passes
  pub none_there : (first : ℕ) (slots : List (Option Message)) (m : Message) → test m ≡ true → numbers_of test first slots ≡ [] → Contains (messages_in slots) m → ⊥
  none_there first [] m passes e (k, lt, is) = omega (arith, lt)
  none_there first (None ∷ slots) m passes e there = none_there (first + 1) slots m passes e there
  none_there first (Some x ∷ slots) m passes e (k, lt, is) = by (test x) refl (λ none j less same. none_there (first + 1) slots m passes none (j, less, same)) k lt is
    where
      by : (b : Bool) → test x ≡ b → (numbers_of test (first + 1) slots ≡ [] → (j : ℕ) → j < length (messages_in slots) → get_or (messages_in slots) j m ≡ m → ⊥)
          → (k : ℕ) → k < suc (length (messages_in slots)) → get_or (x ∷ messages_in slots) k m ≡ m → ⊥
      by true passes_too again k lt is =
          let none = sym (ap (λ b. cond b (first ∷ numbers_of test (first + 1) slots) (numbers_of test (first + 1) slots)) passes_too) ∙ e in cc
      by false fails again zero lt is = true≢false (sym passes ∙ ap test (sym is) ∙ fails)
      by false fails again (suc k) lt is =
          again (sym (ap (λ b. cond b (first ∷ numbers_of test (first + 1) slots) (numbers_of test (first + 1) slots)) fails) ∙ e) k (omega (arith, lt)) is

  -- the first number belongs to a slot that passes, and no slot before it passes
  pub first_number : (first : ℕ) (slots : List (Option Message)) (number : ℕ) (rest : List ℕ) (d : Message) → numbers_of test first slots ≡ number ∷ rest
      → (i : ℕ) × (number ≡ first + i) × (i < length slots) × (x : Message) × (get_or slots i (Some d) ≡ Some x) × (test x ≡ true)
      × ((k : ℕ) (y : Message) → k < i → get_or slots k (Some d) ≡ Some y → test y ≡ false)
  first_number first [] number rest d e = absurd cc
  first_number first (None ∷ slots) number rest d e =
      let (i, is, lt, x, at, passes, before) = first_number (first + 1) slots number rest d e in
      (suc i, omega (arith, is), omega (arith, lt), x, at, passes, later i before)
    where
      later : (i : ℕ) → ((k : ℕ) (y : Message) → k < i → get_or slots k (Some d) ≡ Some y → test y ≡ false)
          → (k : ℕ) (y : Message) → k < suc i → get_or (None ∷ slots) k (Some d) ≡ Some y → test y ≡ false
      later i before zero y lt at = absurd cc
      later i before (suc k) y lt at = before k y (omega (arith, lt)) at
  first_number first (Some m ∷ slots) number rest d e = by (test m) refl (λ later. first_number (first + 1) slots number rest d later)
    where
      later : (i : ℕ) → test m ≡ false → ((k : ℕ) (y : Message) → k < i → get_or slots k (Some d) ≡ Some y → test y ≡ false)
          → (k : ℕ) (y : Message) → k < suc i → get_or (Some m ∷ slots) k (Some d) ≡ Some y → test y ≡ false
      later i fails before zero y lt at = ap test (sym (some_is m y at)) ∙ fails
      later i fails before (suc k) y lt at = before k y (omega (arith, lt)) at

      by : (b : Bool) → test m ≡ b → (numbers_of test (first + 1) slots ≡ number ∷ rest → (i : ℕ) × (number ≡ (first + 1) + i) × (i < length slots) × (x : Message) × (get_or slots i (Some d) ≡ Some x) × (test x ≡ true)
          × ((k : ℕ) (y : Message) → k < i → get_or slots k (Some d) ≡ Some y → test y ≡ false))
          → (i : ℕ) × (number ≡ first + i) × (i < suc (length slots)) × (x : Message) × (get_or (Some m ∷ slots) i (Some d) ≡ Some x) × (test x ≡ true)
          × ((k : ℕ) (y : Message) → k < i → get_or (Some m ∷ slots) k (Some d) ≡ Some y → test y ≡ false)
      by true passes again =
          let same = heads first number (numbers_of test (first + 1) slots) rest
          (sym (ap (λ b. cond b (first ∷ numbers_of test (first + 1) slots) (numbers_of test (first + 1) slots)) passes) ∙ e) in
          (0, omega (arith, same), omega arith, m, refl, passes, λ k y lt at. absurd (omega (arith, lt)))
      by false fails again =
          let (i, is, lt, x, at, passes, before) = again
          (sym (ap (λ b. cond b (first ∷ numbers_of test (first + 1) slots) (numbers_of test (first + 1) slots)) fails) ∙ e) in
          (suc i, omega (arith, is), omega (arith, lt), x, at, passes, later i fails before)
