-- What a call answers, and the numbers and lists that it leaves.
use Rattle.std.proofs.Common.{◌≡◌, ◌≢◌, ◌<◌, ◌+◌, ◌-◌, ◌≤◌, max, ℕ, false, List, ◌∷◌, [], ◌++◌, length, get_or, Option, Some, None, option_to_list, Contains, map, take, length-append, length-take-le, refl, sym, ap, ◌∙◌, subst, arith, MatchOption}
use Rattle.std.specs.Prelude.{IfSome}
use Rattle.std.specs.Option.{is_some}
use Rattle.std.proofs.lemmas.List.{length-map}
use Rattle.ra_stamp.specs.declared.message.Message.{Message}
use Rattle.ra_stamp.specs.Sequence.{Listed}
use Rattle.ra_bag.specs.Places.{later_numbers}

-- ---- Room

pub within : (len capacity length room : ℕ) → length ≡ len → room ≡ capacity → len ≤ capacity → length ≤ room
within len capacity length room length_is room_is fits = omega (arith, length_is, room_is, fits)

pub no_room : {P : Type 0} (len capacity length room more : ℕ) → length ≡ len → room ≡ capacity → room - length < more → len + more ≤ capacity → P
no_room len capacity length room more length_is room_is lacks fits = absurd (omega (arith, length_is, room_is, lacks, fits))

pub has_room : (len capacity length room more : ℕ) → length ≡ len → room ≡ capacity → len ≤ capacity → more ≤ room - length → len + more ≤ capacity
has_room len capacity length room more length_is room_is fits enough = omega (arith, length_is, room_is, fits, enough)

-- room for more than that is enough
pub enough : (len new_len capacity more other added : ℕ) → new_len ≡ len → added ≡ max more other → len + added ≤ capacity → new_len + more ≤ capacity
enough len new_len capacity more other added len_is added_is room = omega (arith, len_is, added_is, room)

pub fits_in : (len capacity spare more : ℕ) → len ≤ capacity → capacity - len ≡ spare → more ≤ spare → len + more ≤ capacity
fits_in len capacity spare more fits spare_is few = omega (arith, fits, spare_is, few)

pub same_room : (len capacity new_len new_capacity count new_count : ℕ) → len ≡ count → new_len ≡ new_count → new_count ≡ count → new_capacity ≡ capacity
    → new_capacity - new_len ≡ capacity - len
same_room len capacity new_len new_capacity count new_count len_is new_len_is same same_capacity = omega (arith, len_is, new_len_is, same, same_capacity)

pub less_room : (len capacity spare more made new_len new_capacity : ℕ) → len ≤ capacity → capacity - len ≡ spare → more ≤ spare → (len + more ≤ capacity → made ≡ capacity)
    → new_capacity ≡ made → new_len ≡ len + more → (new_capacity - new_len) + more ≡ spare
less_room len capacity spare more made new_len new_capacity fits spare_is few enough same longer =
    omega (arith, fits, spare_is, few, enough (fits_in len capacity spare more fits spare_is few), same, longer)

-- messages were put into slots
pub grown : (old new : List (Option Message)) (ms : List Message) (len new_len : ℕ) → new ≡ old ++ map Some ms → len ≡ length old → new_len ≡ length new → new_len ≡ len + length ms
grown old new ms len new_len new_is len_is new_len_is = omega (arith, len_is, new_len_is, ap length new_is, length-append old (map Some ms), length-map ms Some)

pub same_listed : (items others : List Message) (spare other : ℕ) → items ≡ others → spare ≡ other
    → ◌≡◌ {A = Listed Message} (record { items = items; spare = spare }) (record { items = others; spare = other })
same_listed items others spare other same same_spare = rw (same, same_spare)

-- ---- What was found

pub is_in : {A : Type 0} (list : List A) (place : ℕ) (x y : A) → x ≡ get_or list place x → x ≡ y → get_or list place y ≡ y
is_in list place x y at same = subst (λ z. get_or list place z ≡ z) same (sym at)

pub at_none : {A P : Type 0} (Q : A → Type 0) (found : Option A) → is_some found ≡ false → MatchOption found P Q → P
at_none Q None none says = says
at_none Q (Some x) none says = absurd cc

pub is_empty : {A : Type 0} (list : List A) (len : ℕ) → len ≡ length list → len ≡ 0 → list ≡ []
is_empty [] len same none = refl
is_empty (x ∷ list) len same none = absurd (omega (arith, same, none))

-- ---- The later numbers of a message, when the first of them is taken

module _ {Q : Type 0} (items : Q → List ℕ) (old new : Option Q) (next : Option ℕ) where
  pub none_taken : next ≡ None → new ≡ old → later_numbers items old ≡ option_to_list next ++ later_numbers items new
  none_taken none same = ap (later_numbers items) (sym same) ∙ ap (λ (o : Option ℕ). option_to_list o ++ later_numbers items new) (sym none)

  -- the queue stays
  pub next_taken : (queue rest : Q) → Some queue ≡ old → new ≡ Some rest → items queue ≡ option_to_list next ++ items rest
      → later_numbers items old ≡ option_to_list next ++ later_numbers items new
  next_taken queue rest old_is new_is taken =
      ap (later_numbers items) (sym old_is) ∙ (taken ∙ ap (λ (o : Option Q). option_to_list next ++ later_numbers items o) (sym new_is))

  -- it is empty, and goes
  pub last_taken : (queue : Q) (rest : List ℕ) → Some queue ≡ old → new ≡ None → items queue ≡ option_to_list next ++ rest → rest ≡ []
      → later_numbers items old ≡ option_to_list next ++ later_numbers items new
  last_taken queue rest old_is new_is taken empty =
      ap (later_numbers items) (sym old_is)
      ∙ (taken ∙ (ap (λ (l : List ℕ). option_to_list next ++ l) empty ∙ ap (λ (o : Option Q). option_to_list next ++ later_numbers items o) (sym new_is)))

pub not_none : {A : Type 0} (found : Option A) (x : A) → found ≡ Some x → found ≢ None
not_none found x is none = cc

-- the queue that exists has the number after the others
pub later_added : {Q : Type 0} (items : Q → List ℕ) (new : Option Q) (all : List ℕ) → new ≢ None → IfSome new (λ queue. items queue ≡ all) → later_numbers items new ≡ all
later_added items None all some is = absurd (some refl)
later_added items (Some queue) all some is = is

-- ---- Which of a list it is

pub nowhere : {A : Type 0} (list : List A) (place : ℕ) (x : A) → length list ≤ place → ((k : ℕ) → k < place → get_or list k x ≢ x) → Contains list x → ⊥
nowhere list place x past before (k, lt, is) = before k (omega (arith, lt, past)) is

module _ {A : Type 0} (place end len : ℕ) (list : List A) where
  pub inside : place < end → end ≡ len → len ≡ length list → place < length list
  inside before end_is len_is = omega (arith, before, end_is, len_is)

  pub all_in : end ≤ place → end ≡ len → len ≡ length list → length list ≤ place
  all_in past end_is len_is = omega (arith, past, end_is, len_is)

pub taken_len : {A : Type 0} (place : ℕ) (list : List A) → place < length list → length (take place list) ≡ place
taken_len place list lt = length-take-le place list (omega (arith, lt))
