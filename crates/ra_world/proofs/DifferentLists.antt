-- Lists whose messages are all different.
use Rattle.std.proofs.Common.{◌≡◌, ◌≢◌, ◌<◌, ℕ, suc, length, get_or, Bool, true, false, cond, List, [], ◌∷◌, ◌++◌, All, filter, refl, sym, ap, ◌∙◌, subst, arith}
use Rattle.std.specs.Prelude.{AllPairs}
use Rattle.std.proofs.lemmas.Bool.{false≢true}
use Rattle.std.proofs.lemmas.List.Elements.{All-nil, All-cons, All-head, All-tail, All-weaker}
use Rattle.std.proofs.lemmas.List.Kept.{AllPairs-cons}
use Rattle.std.proofs.lemmas.List.Quantifiers.{all_pairs_push}
use Rattle.ra_stamp.specs.declared.message.Message.{Message}
use Rattle.std.specs.List.{remove}
use Rattle.ra_bag.specs.Bag.{TakesFirst}
use Rattle.ra_bag.proofs.Taken.{takes_at}
use Rattle.ra_world.specs.Traffic.{TakesEach}
use Rattle.ra_world.proofs.Lists.{filter_hit, filter_miss}

-- all are different
abbrev pub AreDifferent : List Message → Type 0
AreDifferent ms = AllPairs (λ a b. a ≢ b) ms

pub none_different : AreDifferent []
none_different i j d below within = absurd (omega (arith, within))

pub one_more_different : (ms : List Message) (m : Message) → AreDifferent ms → All (λ x. x ≢ m) ms → AreDifferent (ms ++ m ∷ [])
one_more_different ms m different other = all_pairs_push (λ a b. a ≢ b) ms m different other

-- the first one is not there again, and the others are different
first_once : (m : Message) (ms : List Message) → AreDifferent (m ∷ ms) → All (λ x. m ≢ x) ms
first_once m ms different k d within = different 0 (suc k) d (omega arith) (omega (arith, within))

rest_different : (m : Message) (ms : List Message) → AreDifferent (m ∷ ms) → AreDifferent ms
rest_different m ms different i j d below within = different (suc i) (suc j) d (omega (arith, below)) (omega (arith, within))

-- a test for each message, which it passes itself: if those that pass the test of each are different, all are
module _ (p : Message → Message → Bool) (itself : (m : Message) → p m m ≡ true) where
  abbrev EachApart : List Message → List Message → Type 0
  EachApart of ms = All (λ m. AreDifferent (filter (p m) ms)) of

  later : (m x : Message) (ms : List Message) → AreDifferent (filter (p m) (x ∷ ms)) → AreDifferent (filter (p m) ms)
  later m x ms =
      elim (p m x) as (λ b. AreDifferent (cond b (x ∷ filter (p m) ms) (filter (p m) ms)) → AreDifferent (filter (p m) ms)) [
        | true ↦ λ different. rest_different x (filter (p m) ms) different
        | false ↦ λ different. different
      ]

  -- what is not among those that pass the test of a message is not that message
  passed_over : (m : Message) (ms : List Message) → All (λ x. m ≢ x) (filter (p m) ms) → All (λ x. m ≢ x) ms
  passed_over m [] all = All-nil (λ x. m ≢ x)
  passed_over m (x ∷ ms) all =
      elim (p m x) as (λ b. p m x ≡ b → All (λ y. m ≢ y) (x ∷ ms)) [
        | true ↦ λ e.
            let here = subst (All (λ y. m ≢ y)) (filter_hit (p m) x ms e) all in
            All-cons (λ y. m ≢ y) x ms (All-head (λ y. m ≢ y) x (filter (p m) ms) here) (passed_over m ms (All-tail (λ y. m ≢ y) x (filter (p m) ms) here))
        | false ↦ λ e.
            All-cons (λ y. m ≢ y) x ms (λ same. false≢true (sym e ∙ (ap (p m) (sym same) ∙ itself m))) (passed_over m ms (subst (All (λ y. m ≢ y)) (filter_miss (p m) x ms e) all))
      ] refl

  pub different_by : (ms : List Message) → EachApart ms ms → AreDifferent ms
  different_by [] each = none_different
  different_by (m ∷ ms) each =
      let here = subst AreDifferent (filter_hit (p m) m ms (itself m)) (All-head (λ x. AreDifferent (filter (p x) (m ∷ ms))) m ms each) in
      AllPairs-cons (λ a b. a ≢ b) m ms (passed_over m ms (first_once m (filter (p m) ms) here))
      (different_by ms
      (All-weaker (λ x. AreDifferent (filter (p x) (m ∷ ms))) (λ x. AreDifferent (filter (p x) ms)) (λ x different. later x m ms different) ms
      (All-tail (λ x. AreDifferent (filter (p x) (m ∷ ms))) m ms each)))

-- ---- Lists of one message

-- the last one of a list of one is that one
pub last_is : (ms : List Message) (x y : Message) → ms ++ x ∷ [] ≡ y ∷ [] → x ≡ y
last_is [] x y e = cc
last_is (m ∷ []) x y e = absurd cc
last_is (m ∷ k ∷ ms) x y e = absurd cc

-- what is taken without anything left was the only one
pub took_all : (ms : List Message) (m : Message) (rest : List Message) → TakesFirst ms m rest → rest ≡ [] → ms ≡ m ∷ []
took_all ms m rest takes none = go takes.prefix takes.suffix takes.old_is (sym takes.new_is ∙ none)
  where
    go : (prefix suffix : List Message) → ms ≡ prefix ++ m ∷ suffix → prefix ++ suffix ≡ [] → ms ≡ m ∷ []
    go [] suffix e nothing = e ∙ ap (λ (ys : List Message). m ∷ ys) nothing
    go (x ∷ prefix) suffix e nothing = absurd cc

-- what is taken from one leaves nothing
pub nothing_left : (ms : List Message) (m : Message) (rest : List Message) (x : Message) → TakesFirst ms m rest → ms ≡ x ∷ [] → rest ≡ []
nothing_left ms m rest x takes one = go takes.prefix takes.suffix (sym takes.old_is ∙ one) takes.new_is
  where
    go : (prefix suffix : List Message) → prefix ++ m ∷ suffix ≡ x ∷ [] → rest ≡ prefix ++ suffix → rest ≡ []
    go [] suffix e is = cc
    go (y ∷ []) suffix e is = absurd cc
    go (y ∷ z ∷ prefix) suffix e is = absurd cc

-- ---- Lists from which some messages are taken

all_but_one : (P : Message → Type 0) (prefix suffix : List Message) (m : Message) → All P (prefix ++ m ∷ suffix) → All P (prefix ++ suffix)
all_but_one P [] suffix m all = All-tail P m suffix all
all_but_one P (x ∷ prefix) suffix m all =
    All-cons P x (prefix ++ suffix) (All-head P x (prefix ++ m ∷ suffix) all) (all_but_one P prefix suffix m (All-tail P x (prefix ++ m ∷ suffix) all))

different_but_one : (prefix suffix : List Message) (m : Message) → AreDifferent (prefix ++ m ∷ suffix) → AreDifferent (prefix ++ suffix)
different_but_one [] suffix m different = rest_different m suffix different
different_but_one (x ∷ prefix) suffix m different =
    AllPairs-cons (λ a b. a ≢ b) x (prefix ++ suffix)
    (all_but_one (λ y. x ≢ y) prefix suffix m (first_once x (prefix ++ m ∷ suffix) different))
    (different_but_one prefix suffix m (rest_different x (prefix ++ m ∷ suffix) different))

-- what is left of different messages are different ones
pub left_different : (old taken new : List Message) → TakesEach old taken new → AreDifferent old → AreDifferent new
left_different old [] new same different = subst AreDifferent (sym same) different
left_different old (m ∷ taken) new (next, takes, rest) different =
    let whole : AreDifferent (takes.prefix ++ m ∷ takes.suffix) = subst AreDifferent takes.old_is different in
    left_different next taken new rest (subst AreDifferent (sym takes.new_is) (different_but_one takes.prefix takes.suffix m whole))

-- of different messages the one at a place is the first of its kind
pub first_at : (ms : List Message) (place : ℕ) (m : Message) → AreDifferent ms → place < length ms → get_or ms place m ≡ m
    → TakesFirst ms m (remove ms place)
first_at ms place m different within is = takes_at ms place m within is (λ k less same. different k place m less within (same ∙ sym is))
