-- A policy and its generator.
use Rattle.std.proofs.Common.{◌≡◌, ℕ, ◌+◌, ◌%◌, Bool, true, false, Some, None, List, [], ◌∷◌, ◌++◌, length, slice_get, refl, sym, ap, ◌∙◌, subst, arith}
use Rattle.std.specs.Prelude.{nat_lt, if◌then◌else◌}
use Rattle.std.proofs.lemmas.List as lists
use Rattle.std.proofs.Math.Numerals.{add-one}
use Rattle.ra_stamp.specs.Sequence.{Listed as Listing}
use Rattle.ra_stamp.specs.declared.message.Message.{Message as Sent}
use Rattle.rand_pcg.specs.Lcg.{Lcg}
use Rattle.rand_pcg.specs.Pcg.{pcg64, pcg64_of_seed}
use Rattle.rand_core.specs.Pcg32Seed.{pcg32_seed}
use Rattle.ra_world.specs.declared.step.Step.{Step}
use Rattle.ra_world.specs.Traffic.{Move, LeavesUnderWay}
use Rattle.ra_schedule.specs.declared.script.Op.{Op}
use Rattle.ra_schedule.specs.declared.script.Op.TheVariants.{Lock, Unlock}
use Rattle.ra_schedule.specs.declared.choice.Choice.{Choice}
use Rattle.ra_schedule.specs.declared.choice.Choice.TheVariants.{Client, Message, Lost, Repeated}
use Rattle.ra_schedule.specs.declared.choice.Policy.{Policy}
use Rattle.ra_schedule.specs.declared.choice.Policy.TheVariants.{Oldest, Newest, Seeded, Faulty, Listed}
use Rattle.ra_schedule.specs.Script.{ScriptState}
use Rattle.ra_schedule.specs.Faults.{FaultRates}
use Rattle.ra_schedule.specs.Seeds.{generator_after, word_of}
use Rattle.ra_schedule.specs.PolicyState.{generator_at, words_drawn, words_of, words_for, IsWithoutFault}
use Rattle.ra_schedule.specs.Schedule.{steps_of, step_of, StandsFor, AreChoices, IsNamedBy, with_fault, words_in, words_by, Picks, Ends}
use Rattle.ra_schedule.proofs.Naming.{choices_are_one}

same_generator : {a b : Lcg} → Some a ≡ Some b → a ≡ b
same_generator e = cc

pub begins : (seed : ℕ) → pcg64_of_seed (pcg32_seed 32 seed) ≡ generator_after seed 0
unfolding generator_after
begins seed = refl

-- ---- Words

-- the word that the generator gives after this many
pub next_word : (seed words : ℕ) (generator : Lcg) → generator ≡ generator_after seed words → (pcg64 generator).0 ≡ word_of seed words
unfolding word_of
next_word seed words generator at = ap (λ (g : Lcg). (pcg64 g).0) at

-- and its state then
pub after_word : (seed words : ℕ) (generator : Lcg) → generator ≡ generator_after seed words → (pcg64 generator).1 ≡ generator_after seed (words + 1)
unfolding generator_after
after_word seed words generator at = ap (λ (g : Lcg). (pcg64 g).1) at ∙ ap (generator_after seed) (sym (add-one words))

-- after no move no word was drawn
pub none_drawn : (policy : Policy) → words_drawn policy [] ≡ 0
none_drawn Oldest = refl
none_drawn Newest = refl
none_drawn (Seeded seed) = refl
none_drawn (Faulty seed faults) = refl
none_drawn (Listed choices) = refl

words_of_op : (node client : ℕ) (op : Op) → words_in (step_of node client op) ≡ 1
words_of_op node client (Lock name mode) = refl
words_of_op node client (Unlock name) = refl

-- a choice takes the words of its step
words_of_step : (script : ScriptState) (moves : List Move) (choice : Choice) (step : Step) → StandsFor script moves choice step
    → words_in step ≡ words_of choice
words_of_step script moves (Client client) step means =
    let (who, op, at, is, made) = means.next in ap words_in made ∙ words_of_op who.node client op
words_of_step script moves (Message place) step (message, at, is) = ap words_in is
words_of_step script moves (Lost place) step (message, at, is) = ap words_in is
words_of_step script moves (Repeated place) step (message, at, is) = ap words_in is

words_after : (moves : List Move) (move : Move) → words_by (steps_of (moves ++ move ∷ [])) ≡ words_by (steps_of moves) + words_in move.step
words_after [] move = let e : words_in move.step + 0 ≡ 0 + words_in move.step = omega arith in e
words_after (m ∷ moves) move = let rest = words_after moves move in omega arith

-- one more move adds the words of its choice
pub more_drawn : (script : ScriptState) (policy : Policy) (moves : List Move) (move : Move) (choice : Choice) → StandsFor script moves choice move.step
    → words_drawn policy (moves ++ move ∷ []) ≡ words_drawn policy moves + words_for policy choice
more_drawn script Oldest moves move choice means = refl
more_drawn script Newest moves move choice means = refl
more_drawn script (Seeded seed) moves move choice means = lists.length-append moves (move ∷ [])
more_drawn script (Faulty seed faults) moves move choice means =
    words_after moves move ∙ ap (λ (n : ℕ). words_by (steps_of moves) + n) (words_of_step script moves choice move.step means)
more_drawn script (Listed choices) moves move choice means = refl

-- ---- What is picked

-- a choice of a policy, and the state of its generator then
abbrev pub Draws : ScriptState → Policy → List Move → Lcg → Choice → Type 0
Draws script policy moves new choice = Picks script policy moves choice
    × (Some new ≡ generator_at policy (words_drawn policy moves + words_for policy choice))

-- without faults it is what the word names
pub named_is_picked : (script : ScriptState) (policy : Policy) (moves : List Move) (old new : Lcg) (choice : Choice)
    → ((seed : ℕ) (faults : FaultRates) → policy ≡ Faulty seed faults → ⊥)
    → Some old ≡ generator_at policy (words_drawn policy moves) → new ≡ (pcg64 old).1 → IsNamedBy (pcg64 old).0 script moves choice
    → Draws script policy moves new choice
named_is_picked script Oldest moves old new choice sound has is names = absurd cc
named_is_picked script Newest moves old new choice sound has is names = absurd cc
named_is_picked script (Seeded seed) moves old new choice sound has is names =
    let at = same_generator has in (
      subst (λ (word : ℕ). IsNamedBy word script moves choice) (next_word seed (length moves) old at) names,
      ap Some (is ∙ after_word seed (length moves) old at),
    )
named_is_picked script (Faulty seed faults) moves old new choice sound has is names = absurd (sound seed faults refl)
named_is_picked script (Listed choices) moves old new choice sound has is names = absurd cc

-- with faults it is that, with its fault
faulted : (script : ScriptState) (seed : ℕ) (faults : FaultRates) (moves : List Move) (old : Lcg) (named choice : Choice)
    → old ≡ generator_after seed (words_by (steps_of moves)) → IsNamedBy (pcg64 old).0 script moves named
    → choice ≡ with_fault faults (word_of seed (words_by (steps_of moves) + 1)) named → Picks script (Faulty seed faults) moves choice
faulted script seed faults moves old named choice at names is = (
  named,
  subst (λ (word : ℕ). IsNamedBy word script moves named) (next_word seed (words_by (steps_of moves)) old at) names,
  is,
)

of_client : (script : ScriptState) (seed : ℕ) (faults : FaultRates) (moves : List Move) (old new : Lcg) (named : Choice)
    → ((place : ℕ) → named ≡ Message place → ⊥) → IsWithoutFault named → old ≡ generator_after seed (words_by (steps_of moves))
    → new ≡ (pcg64 old).1 → IsNamedBy (pcg64 old).0 script moves named → Draws script (Faulty seed faults) moves new named
of_client script seed faults moves old new (Client client) other sound at is names = (
  faulted script seed faults moves old (Client client) (Client client) at names refl,
  ap Some (is ∙ after_word seed (words_by (steps_of moves)) old at),
)
of_client script seed faults moves old new (Message place) other sound at is names = absurd (other place refl)
of_client script seed faults moves old new (Lost place) other sound at is names = absurd sound
of_client script seed faults moves old new (Repeated place) other sound at is names = absurd sound

-- whatever befalls a message, two words were drawn
two_words : (faults : FaultRates) (word place : ℕ) → words_of (with_fault faults word (Message place)) ≡ 2
two_words faults word place =
    of_tests (nat_lt (word % 1000) faults.lose) (nat_lt (word % 1000) (faults.lose + faults.repeat))
  where
    of_tests : (lost repeated : Bool) → words_of (if lost then Lost place else if repeated then Repeated place else Message place) ≡ 2
    of_tests true repeated = refl
    of_tests false true = refl
    of_tests false false = refl

of_message : (script : ScriptState) (seed : ℕ) (faults : FaultRates) (moves : List Move) (old next new : Lcg) (place : ℕ) (choice : Choice)
    → old ≡ generator_after seed (words_by (steps_of moves)) → next ≡ (pcg64 old).1 → new ≡ (pcg64 next).1
    → IsNamedBy (pcg64 old).0 script moves (Message place) → choice ≡ with_fault faults (pcg64 next).0 (Message place)
    → Draws script (Faulty seed faults) moves new choice
of_message script seed faults moves old next new place choice at once twice names is =
    let words = words_by (steps_of moves) in
    let at' : next ≡ generator_after seed (words + 1) = once ∙ after_word seed words old at in
    let drawn : words + 1 + 1 ≡ words + words_of choice =
    let two : words_of choice ≡ 2 = ap words_of is ∙ two_words faults (pcg64 next).0 place in omega arith in (
      faulted script seed faults moves old (Message place) choice at names
          (is ∙ ap (λ (word : ℕ). with_fault faults word (Message place)) (next_word seed (words + 1) next at')),
      ap Some (twice ∙ after_word seed (words + 1) next at' ∙ ap (generator_after seed) drawn),
    )

-- a client is picked if the word names it
pub client_is_picked : (script : ScriptState) (policy : Policy) (seed : ℕ) (faults : FaultRates) (moves : List Move) (old new : Lcg) (named : Choice)
    → policy ≡ Faulty seed faults → ((place : ℕ) → named ≡ Message place → ⊥) → IsWithoutFault named
    → Some old ≡ generator_at policy (words_drawn policy moves) → new ≡ (pcg64 old).1 → IsNamedBy (pcg64 old).0 script moves named
    → Draws script policy moves new named
client_is_picked script policy seed faults moves old new named this other sound has is names =
    let at = same_generator (subst (λ (p : Policy). Some old ≡ generator_at p (words_drawn p moves)) this has) in
    subst (λ (p : Policy). Draws script p moves new named) (sym this) (of_client script seed faults moves old new named other sound at is names)

-- and for a message the next word decides what happens to it
pub message_is_picked : (script : ScriptState) (policy : Policy) (seed : ℕ) (faults : FaultRates) (moves : List Move) (old next new : Lcg)
    (named : Choice) (place : ℕ) (choice : Choice) → policy ≡ Faulty seed faults → named ≡ Message place
    → Some old ≡ generator_at policy (words_drawn policy moves) → next ≡ (pcg64 old).1 → new ≡ (pcg64 next).1
    → IsNamedBy (pcg64 old).0 script moves named → choice ≡ with_fault faults (pcg64 next).0 (Message place)
    → Draws script policy moves new choice
message_is_picked script policy seed faults moves old next new named place choice this message has once twice names is =
    let at = same_generator (subst (λ (p : Policy). Some old ≡ generator_at p (words_drawn p moves)) this has) in
    subst (λ (p : Policy). Draws script p moves new choice) (sym this)
    (of_message script seed faults moves old next new place choice at once twice
    (subst (λ (x : Choice). IsNamedBy (pcg64 old).0 script moves x) message names) is)

-- if there is no choice, nothing is picked
nothing_is_named : (script : ScriptState) (moves : List Move) (word : ℕ) (choice : Choice)
    → ((a b : List Sent) → LeavesUnderWay moves a → LeavesUnderWay moves b → a ≡ b)
    → AreChoices script moves [] → IsNamedBy word script moves choice → ⊥
nothing_is_named script moves word choice one none (choices, are, is) =
    no_item choices (word % length choices) choice (choices_are_one script moves one choices [] are none) is
  where
    no_item : (xs : List Choice) (n : ℕ) (x : Choice) → xs ≡ [] → slice_get xs n ≡ Some x → ⊥
    no_item [] n x e is = cc
    no_item (y ∷ ys) n x e is = cc

pub nothing_is_picked : (script : ScriptState) (policy : Policy) (moves : List Move) (generator : Lcg)
    → ((a b : List Sent) → LeavesUnderWay moves a → LeavesUnderWay moves b → a ≡ b)
    → Some generator ≡ generator_at policy (words_drawn policy moves) → AreChoices script moves [] → Ends script policy moves
nothing_is_picked script Oldest moves generator one has none choice picks = cc
nothing_is_picked script Newest moves generator one has none choice picks = cc
nothing_is_picked script (Seeded seed) moves generator one has none choice picks =
    nothing_is_named script moves (word_of seed (length moves)) choice one none picks
nothing_is_picked script (Faulty seed faults) moves generator one has none choice (named, names, is) =
    nothing_is_named script moves (word_of seed (words_by (steps_of moves))) named one none names
nothing_is_picked script (Listed choices) moves generator one has none choice picks = cc

-- a policy that has no generator goes on with none
pub none_goes_on : (policy : Policy) (words more : ℕ) → None ≡ generator_at policy words → None ≡ generator_at policy more
none_goes_on Oldest words more is = refl
none_goes_on Newest words more is = refl
none_goes_on (Seeded seed) words more is = absurd cc
none_goes_on (Faulty seed faults) words more is = absurd cc
none_goes_on (Listed choices) words more is = refl

-- and one that lists its choices has none
pub listed_goes_on : (policy : Policy) (choices : Listing Choice) (words more : ℕ) → policy ≡ Listed choices
    → generator_at policy words ≡ generator_at policy more
listed_goes_on policy choices words more this =
    subst (λ (p : Policy). generator_at p words ≡ generator_at p more) (sym this) refl
