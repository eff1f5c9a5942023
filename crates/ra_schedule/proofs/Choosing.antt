-- A policy makes one choice, a choice means one step, and has one fault at most.
use Rattle.std.proofs.Common.{◌≡◌, ◌⊎◌, ℕ, zero, suc, ◌+◌, ◌-◌, ◌%◌, ◌<◌, ◌≤◌, Option, Some, None, List, [], ◌∷◌, length, slice_get, refl, sym, ap, ◌∙◌, subst, arith, inl, inr}
use Rattle.std.proofs.lemmas.Bool.{cases_eq}
use Rattle.ra_stamp.specs.Sequence.{Listed as Listing}
use Rattle.ra_stamp.specs.declared.message.Message.{Message as Sent}
use Rattle.ra_world.specs.declared.step.Step.{Step}
use Rattle.ra_world.specs.Traffic.{Move, LeavesUnderWay}
use Rattle.ra_schedule.specs.declared.script.Op.{Op}
use Rattle.ra_schedule.specs.declared.choice.Choice.{Choice}
use Rattle.ra_schedule.specs.declared.choice.Choice.TheVariants.{Client, Message, Lost, Repeated}
use Rattle.ra_schedule.specs.declared.choice.Policy.{Policy}
use Rattle.ra_schedule.specs.declared.choice.Policy.TheVariants.{Oldest, Newest, Seeded, Faulty, Listed}
use Rattle.ra_schedule.specs.Script.{ScriptClient, ScriptState}
use Rattle.ra_schedule.specs.Seeds.{word_of}
use Rattle.ra_schedule.specs.Schedule.{steps_of, steps_by, IsNext, IsEnabled, IsAtPlace, StandsFor, IsBadPlace, IsNotEnabled, IsFirstEnabled, LeavesMessages, IsNamedBy, with_fault, words_by, Picks, Ends}
use Rattle.ra_schedule.specs.PolicyState.{generator_at}
use Rattle.ra_schedule.proofs.EnabledLists.{nobody_is_zero}
use Rattle.ra_schedule.proofs.Naming.{choices_are_one}

-- the messages under way are one list
abbrev pub OneList : Type 0
OneList = (moves : List Move) (a b : List Sent) → LeavesUnderWay moves a → LeavesUnderWay moves b → a ≡ b

pub same_some : {X : Type 0} {a b : X} {o : Option X} → o ≡ Some a → o ≡ Some b → a ≡ b
same_some e f = cc

next_is_one : (script : ScriptState) (moves : List Move) (client : ℕ) (a b : Step) → IsNext script moves client a → IsNext script moves client b → a ≡ b
next_is_one script moves client a b (who, op, at, is, step) (who', op', at', is', step') =
    let same : who ≡ who' = same_some at at' in
    let place = steps_by client (steps_of moves) in
    let ops : who.ops ≡ who'.ops = ap (λ (w : ScriptClient). w.ops) same in
    let op_same : op ≡ op' = same_some is (ap (λ (xs : List Op). slice_get xs place) ops ∙ is') in
    let node : who.node ≡ who'.node = ap (λ (w : ScriptClient). w.node) same in
    cc

pub place_is_one : OneList → (moves : List Move) (place : ℕ) (a b : Sent) → IsAtPlace moves place a → IsAtPlace moves place b → a ≡ b
place_is_one one moves place a b (left, leaves, is) (left', leaves', is') =
    let same = one moves left left' leaves leaves' in
    same_some is (ap (λ (xs : List Sent). slice_get xs place) same ∙ is')

pub means_one : OneList → (script : ScriptState) (moves : List Move) (choice : Choice) (a b : Step)
    → StandsFor script moves choice a → StandsFor script moves choice b → a ≡ b
means_one one script moves (Client client) a b h g = next_is_one script moves client a b h.next g.next
means_one one script moves (Message place) a b (m, at, is) (m', at', is') = let same = place_is_one one moves place m m' at at' in cc
means_one one script moves (Lost place) a b (m, at, is) (m', at', is') = let same = place_is_one one moves place m m' at at' in cc
means_one one script moves (Repeated place) a b (m, at, is) (m', at', is') = let same = place_is_one one moves place m m' at at' in cc

-- a choice that means a step has no fault
pub no_bad_place : (script : ScriptState) (moves : List Move) (choice : Choice) (step : Step)
    → StandsFor script moves choice step → IsBadPlace script moves choice → ⊥
no_bad_place script moves (Client client) step h bad = let at = h.next.2 in absurd cc
no_bad_place script moves (Message place) step (m, at, is) bad = bad m at
no_bad_place script moves (Lost place) step (m, at, is) bad = bad m at
no_bad_place script moves (Repeated place) step (m, at, is) bad = bad m at

pub not_refused : (script : ScriptState) (moves : List Move) (choice : Choice) (step : Step)
    → StandsFor script moves choice step → IsNotEnabled script moves choice → ⊥
not_refused script moves (Client client) step h bad = bad.1 (step, h)
not_refused script moves (Message place) step h bad = bad
not_refused script moves (Lost place) step h bad = bad
not_refused script moves (Repeated place) step h bad = bad

pub one_fault : (script : ScriptState) (moves : List Move) (choice : Choice)
    → IsBadPlace script moves choice → IsNotEnabled script moves choice → ⊥
one_fault script moves (Client client) bad not = not.0 bad
one_fault script moves (Message place) bad not = not
one_fault script moves (Lost place) bad not = not
one_fault script moves (Repeated place) bad not = not

first_is_one : (script : ScriptState) (moves : List Move) (a b : ℕ) → IsFirstEnabled script moves a → IsFirstEnabled script moves b → a ≡ b
first_is_one script moves a b (on, first) (on', first') =
    elim (cases_eq a b) [
      | inl same ↦ same
      | inr apart ↦
          elim (below a b apart) [
            | inl less ↦ absurd (first' a less on)
            | inr less ↦ absurd (first b less on')
          ]
    ]
  where
    below : (x y : ℕ) → (x ≡ y → ⊥) → (x < y) ⊎ (y < x)
    below zero zero not = absurd (not refl)
    below zero (suc y) not = inl (omega arith)
    below (suc x) zero not = inr (omega arith)
    below (suc x) (suc y) not =
        elim (below x y (λ e. not (ap suc e))) [
          | inl less ↦ inl (omega arith)
          | inr less ↦ inr (omega arith)
        ]

counts_are_one : OneList → (script : ScriptState) (moves : List Move) (a b : ℕ) → LeavesMessages script moves a → LeavesMessages script moves b → a ≡ b
counts_are_one one script moves a b (none, (left, leaves, is)) (none', (left', leaves', is')) =
    let same = ap length (one moves left left' leaves leaves') in omega arith

-- a word names one choice
named_is_one : OneList → (script : ScriptState) (moves : List Move) (word : ℕ) (a b : Choice)
    → IsNamedBy word script moves a → IsNamedBy word script moves b → a ≡ b
named_is_one one script moves word a b (all, are, is) (all', are', is') =
    let same : all ≡ all' = choices_are_one script moves (one moves) all all' are are' in
    same_some is (ap (λ (xs : List Choice). slice_get xs (word % length xs)) same ∙ is')

pub picks_one : OneList → (script : ScriptState) (policy : Policy) (moves : List Move) (a b : Choice)
    → Picks script policy moves a → Picks script policy moves b → a ≡ b
picks_one one script Oldest moves (Client a) (Client b) h g = ap Client (first_is_one script moves a b h g)
picks_one one script Oldest moves (Client a) (Message b) h g = absurd (g.1.1.0 a h.0)
picks_one one script Oldest moves (Client a) (Lost b) h g = absurd g
picks_one one script Oldest moves (Client a) (Repeated b) h g = absurd g
picks_one one script Oldest moves (Message a) (Client b) h g = absurd (h.1.1.0 b g.0)
picks_one one script Oldest moves (Message a) (Message b) h g = ap Message (h.0 ∙ sym g.0)
picks_one one script Oldest moves (Message a) (Lost b) h g = absurd g
picks_one one script Oldest moves (Message a) (Repeated b) h g = absurd g
picks_one one script Oldest moves (Lost a) b h g = absurd h
picks_one one script Oldest moves (Repeated a) b h g = absurd h
picks_one one script Newest moves (Client a) (Client b) h g = ap Client (first_is_one script moves a b h g)
picks_one one script Newest moves (Client a) (Message b) h g = absurd (g.0 a h.0)
picks_one one script Newest moves (Client a) (Lost b) h g = absurd g
picks_one one script Newest moves (Client a) (Repeated b) h g = absurd g
picks_one one script Newest moves (Message a) (Client b) h g = absurd (h.0 b g.0)
picks_one one script Newest moves (Message a) (Message b) h g =
    let same = counts_are_one one script moves (a + 1) (b + 1) h g in
    let e : a ≡ b = omega arith in ap Message e
picks_one one script Newest moves (Message a) (Lost b) h g = absurd g
picks_one one script Newest moves (Message a) (Repeated b) h g = absurd g
picks_one one script Newest moves (Lost a) b h g = absurd h
picks_one one script Newest moves (Repeated a) b h g = absurd h
picks_one one script (Seeded seed) moves a b h g = named_is_one one script moves (word_of seed (length moves)) a b h g
picks_one one script (Faulty seed faults) moves a b (named, names, is) (named', names', is') =
    let number = words_by (steps_of moves) in
    let same : named ≡ named' = named_is_one one script moves (word_of seed number) named named' names names' in
    is ∙ ap (with_fault faults (word_of seed (number + 1))) same ∙ sym is'
picks_one one script (Listed choices) moves a b h g = same_some h g

-- of the clients from 1 to n, none; so none below n + 1
pub none_below : (script : ScriptState) (moves : List Move) (n : ℕ) → ((k : ℕ) → k < n → IsEnabled script moves (k + 1) → ⊥)
    → (other : ℕ) → other < n + 1 → IsEnabled script moves other → ⊥
none_below script moves n none zero less on = nobody_is_zero script moves on
none_below script moves n none (suc k) less on = none k (omega arith) (subst (IsEnabled script moves) (omega arith) on)

-- there are no more clients than these
pub nobody_past_the_end : (script : ScriptState) (moves : List Move) (n : ℕ) → length script.clients ≤ n
    → ((k : ℕ) → k < n → IsEnabled script moves (k + 1) → ⊥) → (client : ℕ) → IsEnabled script moves client → ⊥
nobody_past_the_end script moves n few none zero on = nobody_is_zero script moves on
nobody_past_the_end script moves n few none (suc k) (step, h) =
    let within = past script.clients k h.next.2 in
    none k (omega arith) (subst (IsEnabled script moves) (omega arith) (step, h))
  where
    past : {X : Type 0} {x : X} (xs : List X) (k : ℕ) → slice_get xs k ≡ Some x → k < length xs
    past [] k e = absurd cc
    past (x ∷ xs) zero e = omega arith
    past (x ∷ xs) (suc k) e = let less = past xs k e in omega arith

-- if no client is enabled and no message under way, no choice is left
pub nothing_left : OneList → (script : ScriptState) (policy : Policy) (moves : List Move) (words : ℕ)
    → ((choices : Listing Choice) → policy ≡ Listed choices → ⊥) → None ≡ generator_at policy words → LeavesMessages script moves 0
    → Ends script policy moves
nothing_left one script Oldest moves words not free idle (Client client) picks = idle.0 client picks.0
nothing_left one script Oldest moves words not free idle (Message place) (is, (count, more)) = let e = counts_are_one one script moves 0 (count + 1) idle more in omega arith
nothing_left one script Oldest moves words not free idle (Lost place) picks = picks
nothing_left one script Oldest moves words not free idle (Repeated place) picks = picks
nothing_left one script Newest moves words not free idle (Client client) picks = idle.0 client picks.0
nothing_left one script Newest moves words not free idle (Message place) more = let e = counts_are_one one script moves 0 (place + 1) idle more in omega arith
nothing_left one script Newest moves words not free idle (Lost place) picks = picks
nothing_left one script Newest moves words not free idle (Repeated place) picks = picks
nothing_left one script (Seeded seed) moves words not free idle choice picks = cc
nothing_left one script (Faulty seed faults) moves words not free idle choice picks = cc
nothing_left one script (Listed choices) moves words not free idle choice picks = not choices refl

pub newest_message : (script : ScriptState) (policy : Policy) (moves : List Move) (count : ℕ) → policy ≡ Newest → (count ≡ 0 → ⊥)
    → LeavesMessages script moves count → Picks script policy moves (Message (count - 1))
newest_message script Newest moves count is some idle = subst (LeavesMessages script moves) (omega arith) idle
newest_message script Oldest moves count is some idle = absurd cc
newest_message script (Seeded seed) moves count is some idle = absurd cc
newest_message script (Faulty seed faults) moves count is some idle = absurd cc
newest_message script (Listed choices) moves count is some idle = absurd cc

pub oldest_message : (script : ScriptState) (policy : Policy) (moves : List Move) (words count : ℕ)
    → ((choices : Listing Choice) → policy ≡ Listed choices → ⊥) → None ≡ generator_at policy words → (policy ≡ Newest → ⊥)
    → (count ≡ 0 → ⊥) → LeavesMessages script moves count → Picks script policy moves (Message 0)
oldest_message script Oldest moves words count not free other some idle = (refl, (count - 1, subst (LeavesMessages script moves) (omega arith) idle))
oldest_message script Newest moves words count not free other some idle = absurd (other refl)
oldest_message script (Seeded seed) moves words count not free other some idle = absurd cc
oldest_message script (Faulty seed faults) moves words count not free other some idle = absurd cc
oldest_message script (Listed choices) moves words count not free other some idle = absurd (not choices refl)

pub first_client : (script : ScriptState) (policy : Policy) (moves : List Move) (words client : ℕ)
    → ((choices : Listing Choice) → policy ≡ Listed choices → ⊥) → None ≡ generator_at policy words
    → IsFirstEnabled script moves client → Picks script policy moves (Client client)
first_client script Oldest moves words client not free first = first
first_client script Newest moves words client not free first = first
first_client script (Seeded seed) moves words client not free first = absurd cc
first_client script (Faulty seed faults) moves words client not free first = absurd cc
first_client script (Listed choices) moves words client not free first = absurd (not choices refl)

-- a policy that lists its choices makes the one at the place of the turn, and ends if there is none
pub listed_choice : (script : ScriptState) (policy : Policy) (choices : Listing Choice) (moves : List Move) (place : ℕ) (choice : Choice) → policy ≡ Listed choices
    → place ≡ length moves → Some choice ≡ slice_get choices.items place → Picks script policy moves choice
listed_choice script policy choices moves place choice is turn at =
    subst (λ (p : Policy). Picks script p moves choice) (sym is) (sym (at ∙ ap (slice_get choices.items) turn))

pub listed_ends : (script : ScriptState) (policy : Policy) (choices : Listing Choice) (moves : List Move) (place : ℕ) → policy ≡ Listed choices
    → place ≡ length moves → None ≡ slice_get choices.items place → Ends script policy moves
listed_ends script policy choices moves place is turn none choice picks =
    let picked = subst (λ (p : Policy). Picks script p moves choice) is picks in
    let clash : None ≡ Some choice = none ∙ ap (slice_get choices.items) turn ∙ picked in
    absurd cc
