-- Which choice a number names.
use Rattle.std.proofs.Common.{◌≡◌, ℕ, zero, suc, ◌+◌, ◌-◌, ◌%◌, ◌<◌, ◌≤◌, Some, List, [], ◌∷◌, ◌++◌, length, map, slice_get, refl, sym, ap, ◌∙◌, arith}
use Rattle.std.specs.List.{range_with_len}
use Rattle.std.proofs.lemmas.List.{length-append, length-map}
use Rattle.std.proofs.lemmas.List.FromFn.{length-map-range_with_len}
use Rattle.ra_stamp.specs.declared.message.Message.{Message as Sent}
use Rattle.ra_world.specs.Traffic.{Move, LeavesUnderWay}
use Rattle.ra_schedule.specs.declared.choice.Choice.{Choice}
use Rattle.ra_schedule.specs.declared.choice.Choice.TheVariants.{Client, Message}
use Rattle.ra_schedule.specs.Script.{ScriptState}
use Rattle.ra_schedule.specs.Schedule.{AreEnabled, AreChoices}
use Rattle.ra_schedule.proofs.EnabledLists.{enabled_are_one}

-- the choices of these clients and of this number of messages
abbrev choices : List ℕ → ℕ → List Choice
choices clients messages = map Client clients ++ map Message (range_with_len 0 messages)

how_many : (clients : List ℕ) (messages : ℕ) → length (choices clients messages) ≡ length clients + messages
how_many clients messages =
    length-append (map Client clients) (map Message (range_with_len 0 messages))
    ∙ ap (λ (n : ℕ). n + length (map Message (range_with_len 0 messages))) (length-map clients (λ (c : ℕ). Client c))
    ∙ ap (λ (n : ℕ). length clients + n) (length-map-range_with_len (λ (m : ℕ). Message m) 0 messages)

at_client : (clients : List ℕ) (rest : List Choice) (number client : ℕ) → Some client ≡ slice_get clients number
    → slice_get (map Client clients ++ rest) number ≡ Some (Client client)
at_client [] rest number client is = absurd cc
at_client (c ∷ clients) rest zero client is = cc
at_client (c ∷ clients) rest (suc number) client is = at_client clients rest number client is

at_place : (first messages place : ℕ) → place < messages → slice_get (map Message (range_with_len first messages)) place ≡ Some (Message (first + place))
at_place first zero place less = absurd (omega arith)
at_place first (suc messages) zero less = ap (λ (n : ℕ). Some (Message n)) (omega arith)
at_place first (suc messages) (suc place) less =
    at_place (first + 1) messages place (omega arith) ∙ ap (λ (n : ℕ). Some (Message n)) (omega arith)

at_message : (clients : List ℕ) (messages place : ℕ) → place < messages → slice_get (choices clients messages) (length clients + place) ≡ Some (Message place)
at_message [] messages place less = ap (slice_get (map Message (range_with_len 0 messages))) (omega arith) ∙ at_place 0 messages place less ∙ ap (λ (n : ℕ). Some (Message n)) (omega arith)
at_message (c ∷ clients) messages place less =
    let next : length (c ∷ clients) + place ≡ suc (length clients + place) = omega arith in
    ap (slice_get (choices (c ∷ clients) messages)) next ∙ at_message clients messages place less

-- the number of a word among the choices
number_of : (word : ℕ) (clients : List ℕ) (messages number : ℕ) → number ≡ word % (length clients + messages) → word % length (choices clients messages) ≡ number
number_of word clients messages number is = ap (λ (k : ℕ). word % k) (how_many clients messages) ∙ sym is

pub names_client : (script : ScriptState) (moves : List Move) (clients : List ℕ) (left : List Sent) (word number client : ℕ)
    → AreEnabled script moves clients → LeavesUnderWay moves left → number ≡ word % (length clients + length left) → Some client ≡ slice_get clients number
    → (all : List Choice) × AreChoices script moves all × (slice_get all (word % length all) ≡ Some (Client client))
names_client script moves clients left word number client are leaves is at = (
  choices clients (length left),
  (clients, left, are, leaves, refl),
  ap (slice_get (choices clients (length left))) (number_of word clients (length left) number is)
      ∙ at_client clients (map Message (range_with_len 0 (length left))) number client at,
)

pub names_message : (script : ScriptState) (moves : List Move) (clients : List ℕ) (left : List Sent) (word number : ℕ)
    → AreEnabled script moves clients → LeavesUnderWay moves left → number ≡ word % (length clients + length left)
    → length clients ≤ number → number < length clients + length left
    → (all : List Choice) × AreChoices script moves all × (slice_get all (word % length all) ≡ Some (Message (number - length clients)))
names_message script moves clients left word number are leaves is later within =
    let place = number - length clients in
    let here : number ≡ length clients + place = omega arith in (
      choices clients (length left),
      (clients, left, are, leaves, refl),
      ap (slice_get (choices clients (length left))) (number_of word clients (length left) number is ∙ here)
          ∙ at_message clients (length left) place (omega arith),
    )

-- no clients and no messages: no choices
pub no_choices : (script : ScriptState) (moves : List Move) (clients : List ℕ) (left : List Sent) → AreEnabled script moves clients → LeavesUnderWay moves left
    → length clients + length left ≡ 0 → AreChoices script moves []
no_choices script moves clients left are leaves none =
    let no_clients : clients ≡ [] = empty clients (omega arith) in
    let no_messages : left ≡ [] = empty left (omega arith) in (
      clients,
      left,
      are,
      leaves,
      sym (ap (λ (cs : List ℕ). choices cs (length left)) no_clients ∙ ap (λ (ms : List Sent). choices [] (length ms)) no_messages),
    )
  where
    empty : {X : Type 0} (xs : List X) → length xs ≡ 0 → xs ≡ []
    empty [] e = refl
    empty (x ∷ xs) e = absurd (omega arith)

-- the choices of a turn are one list
pub choices_are_one : (script : ScriptState) (moves : List Move) → ((a b : List Sent) → LeavesUnderWay moves a → LeavesUnderWay moves b → a ≡ b)
    → (a b : List Choice) → AreChoices script moves a → AreChoices script moves b → a ≡ b
choices_are_one script moves one a b (clients, left, are, leaves, is) (clients', left', are', leaves', is') =
    let same_clients = enabled_are_one script moves clients clients' are are' in
    let same_left = one left left' leaves leaves' in
    is ∙ ap (λ (cs : List ℕ). choices cs (length left)) same_clients ∙ ap (λ (ms : List Sent). choices clients' (length ms)) same_left ∙ sym is'
