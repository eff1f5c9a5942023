-- If all messages that moves sent are different, so are those that one node sent.
use Rattle.std.proofs.Common.{◌≡◌, ◌≢◌, ◌⊎◌, ℕ, zero, suc, ◌<◌, Bool, true, false, cond, eqb, List, [], ◌∷◌, ◌++◌, map, length, get_or, refl, sym, subst, arith, inl, inr}
use Rattle.std.specs.Prelude.{All, Contains}
use Rattle.std.proofs.lemmas.List.Elements.{All-contains, Contains-get_or, Contains-append_left, Contains-append_right, Contains-append_cases}
use Rattle.ra_stamp.specs.declared.message.Message.{Message}
use Rattle.ra_stamp.specs.Message.{to_of}
use Rattle.ra_node.specs.Events.{Event, Happening}
use Rattle.ra_node.specs.Events.{Event as acts}
use Rattle.ra_world.specs.declared.step.Step.{Step}
use Rattle.ra_world.specs.declared.step.Step.TheVariants.{Ask, Leave, Cancel, Deliver, Lose, Repeat, Forget}
use Rattle.ra_world.specs.Traffic.{Move, sent_by}
use Rattle.ra_world.specs.Run.{events_at, happened_at}
use Rattle.ra_world.specs.Fitting.{sent_in}
use Rattle.ra_book.proofs.Distinct.{AreDifferent, all_right, pairs_left, pairs_right, pairs_first, pairs_rest, pairs_joined}

-- a step is one event at a node, or none
one_at_most : (i : ℕ) (step : Step) → (events_at i step ≡ []) ⊎ ((event : Event) × (events_at i step ≡ event ∷ []))
one_at_most i step = at step
  where
    by_test : (b : Bool) (e : Event) → (cond b (e ∷ []) [] ≡ []) ⊎ ((event : Event) × (cond b (e ∷ []) [] ≡ event ∷ []))
    by_test true e = inr (e, refl)
    by_test false e = inl refl

    at : (s : Step) → (events_at i s ≡ []) ⊎ ((event : Event) × (events_at i s ≡ event ∷ []))
    at (Ask node client name mode) = by_test (eqb node i) (acts.Ask client name mode)
    at (Leave node client name) = by_test (eqb node i) (acts.Leave client name)
    at (Cancel node client name) = by_test (eqb node i) (acts.Cancel client name)
    at (Forget node) = by_test (eqb node i) acts.Forget
    at (Deliver message) = by_test (eqb (to_of message) i) (acts.Receive message)
    at (Lose message) = inl refl
    at (Repeat message) = inl refl

-- of different elements in two parts one of the first is not one of the second
across : {X : Type 0} (xs ys : List X) → AreDifferent (xs ++ ys) → (k : ℕ) (d : X) → k < length xs → All (λ y. get_or xs k d ≢ y) ys
across [] ys different k d low = absurd (omega (arith, low))
across (x ∷ xs) ys different zero d low = all_right (λ y. x ≢ y) xs ys (pairs_first (λ a b. a ≢ b) x (xs ++ ys) different)
across (x ∷ xs) ys different (suc k) d low = across xs ys (pairs_rest (λ a b. a ≢ b) x (xs ++ ys) different) k d (omega (arith, low))

-- the second part may be exchanged for different ones out of it
fewer_after : {X : Type 0} (xs ys zs : List X) → AreDifferent (xs ++ ys) → AreDifferent zs → ((z : X) → Contains zs z → Contains ys z) → AreDifferent (xs ++ zs)
fewer_after xs ys zs different fewer among =
    pairs_joined (λ a b. a ≢ b) xs zs (pairs_left (λ a b. a ≢ b) xs ys different) fewer
    (λ k d low j e within.
    All-contains (λ y. get_or xs k d ≢ y) ys (get_or zs j e) (across xs ys different k d low) (among (get_or zs j e) (Contains-get_or zs j e within)))

-- what happened at a node sent different messages out of these
abbrev AreOut : List Message → List Happening → Type 0
AreOut sent happened = AreDifferent (sent_in happened) × ((x : Message) → Contains (sent_in happened) x → Contains sent x)

abbrev happening : Move → Event → Happening
happening move event = record { event = event; sends = move.sends; marks = move.marks }

out_at : (i : ℕ) (moves : List Move) → AreDifferent (sent_by moves) → AreOut (sent_by moves) (happened_at i moves)
out_at i [] different = (different, λ x is. is)
out_at i (m ∷ moves) different =
    let rest = out_at i moves (pairs_right (λ a b. a ≢ b) m.sends (sent_by moves) different) in
    elim (one_at_most i m.step) [
      | inl none ↦
          subst (λ (es : List Event). AreOut (m.sends ++ sent_by moves) (map (happening m) es ++ happened_at i moves)) (sym none)
          (rest.0, λ x is. Contains-append_right m.sends (sent_by moves) x (rest.1 x is))
      | inr one ↦
          subst (λ (es : List Event). AreOut (m.sends ++ sent_by moves) (map (happening m) es ++ happened_at i moves)) (sym one.1) (
            fewer_after m.sends (sent_by moves) (sent_in (happened_at i moves)) different rest.0 rest.1,
            λ x is. elim (Contains-append_cases m.sends (sent_in (happened_at i moves)) x is) [
              | inl here ↦ Contains-append_left m.sends (sent_by moves) x here
              | inr after ↦ Contains-append_right m.sends (sent_by moves) x (rest.1 x after)
            ],
          )
    ]

pub different_at : (i : ℕ) (moves : List Move) → AreDifferent (sent_by moves) → AreDifferent (sent_in (happened_at i moves))
different_at i moves different = (out_at i moves different).0
