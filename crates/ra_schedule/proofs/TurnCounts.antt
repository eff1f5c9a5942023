-- How many moves there are at most while clients do what a script says.
use Rattle.std.proofs.Common.{◌≡◌, ◌≢◌, ℕ, zero, suc, ◌+◌, ◌≤◌, Some, List, [], ◌∷◌, ◌++◌, length, take, slice_get, refl, sym, ap, ◌∙◌, subst, append_assoc, arith}
use Rattle.std.specs.Prelude.{sum_by}
use Rattle.std.proofs.lemmas.List.{append-nil, length-append}
use Rattle.std.proofs.lemmas.List.Sums.{sum_by-cons}
use Rattle.ra_stamp.specs.declared.message.Message.{Message as Sent}
use Rattle.ra_bag.specs.Bag.{TakesFirst}
use Rattle.ra_world.specs.declared.step.Step.{Step}
use Rattle.ra_world.specs.declared.step.Step.TheVariants.{Ask, Leave, Cancel, Deliver, Lose, Repeat, Forget}
use Rattle.ra_world.specs.Asked.{asks_in, asks_by}
use Rattle.ra_world.specs.Traffic.{Move, sent_by, put_by, taken_in, taken_by, repeated_in, repeated_by, TakesEach}
use Rattle.ra_schedule.specs.declared.script.Op.{Op}
use Rattle.ra_schedule.specs.declared.script.Op.TheVariants.{Lock, Unlock}
use Rattle.ra_schedule.specs.declared.choice.Choice.{Choice}
use Rattle.ra_schedule.specs.declared.choice.Choice.TheVariants.{Client, Message, Lost, Repeated}
use Rattle.ra_schedule.specs.Script.{ScriptClient, ScriptState, client_at}
use Rattle.ra_schedule.specs.Schedule.{steps_of, steps_in, steps_by, step_of, StandsFor}
use Rattle.ra_schedule.specs.Performing.{Performs, locks_in, locks_of, operations_of}
use Rattle.ra_schedule.proofs.Waiting.{steps_by-more}
use Rattle.ra_schedule.proofs.Elsewhere.{another's}
use Rattle.ra_schedule.proofs.StandingRuns.{own_step}

-- ---- Weights: of a lock, and of an unlock and of everything else that happens at a node

abbrev step_weight : ℕ → ℕ → Step → ℕ
step_weight a b (Ask node client name mode) = a
step_weight a b (Leave node client name) = b
step_weight a b (Cancel node client name) = b
step_weight a b (Deliver message) = 0
step_weight a b (Lose message) = 0
step_weight a b (Repeat message) = 0
step_weight a b (Forget node) = b

abbrev pub steps_weight : ℕ → ℕ → List Move → ℕ
steps_weight a b [] = 0
steps_weight a b (move ∷ moves) = step_weight a b move.step + steps_weight a b moves

abbrev op_weight : ℕ → ℕ → Op → ℕ
op_weight a b (Lock name mode) = a
op_weight a b (Unlock name) = b

abbrev pub ops_weight : ℕ → ℕ → List Op → ℕ
ops_weight a b [] = 0
ops_weight a b (op ∷ ops) = op_weight a b op + ops_weight a b ops

module _ (a b : ℕ) where
  steps_more : (moves : List Move) (move : Move) → steps_weight a b (moves ++ move ∷ []) ≡ steps_weight a b moves + step_weight a b move.step
  steps_more [] move = omega arith
  steps_more (x ∷ moves) move = omega (arith, steps_more moves move)

  weight_of : (node client : ℕ) (op : Op) → step_weight a b (step_of node client op) ≡ op_weight a b op
  weight_of node client (Lock name mode) = refl
  weight_of node client (Unlock name) = refl

  one_more_op : (ops : List Op) (k : ℕ) (op : Op) → slice_get ops k ≡ Some op → ops_weight a b (take (suc k) ops) ≡ ops_weight a b (take k ops) + op_weight a b op
  one_more_op [] k op is = absurd cc
  one_more_op (x ∷ ops) zero op is = let same : x ≡ op = cc in omega (arith, ap (op_weight a b) same)
  one_more_op (x ∷ ops) (suc k) op is = omega (arith, one_more_op ops k op is)

  at_most_all : (ops : List Op) (k : ℕ) → ops_weight a b (take k ops) ≤ ops_weight a b ops
  at_most_all [] zero = omega arith
  at_most_all [] (suc k) = omega arith
  at_most_all (x ∷ ops) zero = omega arith
  at_most_all (x ∷ ops) (suc k) = omega (arith, at_most_all ops k)

  -- the weight of what clients did, if each did this many operations and the first client has this number
  abbrev spent : (ℕ → ℕ) → ℕ → List ScriptClient → ℕ
  spent did k [] = 0
  spent did k (c ∷ clients) = ops_weight a b (take (did k) c.ops) + spent did (suc k) clients

  spent_same : (did did' : ℕ → ℕ) (k : ℕ) (clients : List ScriptClient) → ((i : ℕ) → k ≤ i → did' i ≡ did i) → spent did' k clients ≡ spent did k clients
  spent_same did did' k [] same = refl
  spent_same did did' k (c ∷ clients) same =
      omega (arith, ap (λ (i : ℕ). ops_weight a b (take i c.ops)) (same k (omega arith)), spent_same did did' (suc k) clients (λ i low. same i (omega (arith, low))))

  spent_one : (did did' : ℕ → ℕ) (k j : ℕ) (clients : List ScriptClient) (who : ScriptClient) (op : Op) → slice_get clients j ≡ Some who → slice_get who.ops (did (k + j)) ≡ Some op
      → did' (k + j) ≡ did (k + j) + 1 → ((i : ℕ) → k + j ≢ i → did' i ≡ did i) → spent did' k clients ≡ spent did k clients + op_weight a b op
  spent_one did did' k j [] who op is next one others = absurd cc
  spent_one did did' k zero (c ∷ clients) who op is next one others =
      let same : c ≡ who = cc in
      let here : k + 0 ≡ k = omega arith in
      let next' : slice_get c.ops (did k) ≡ Some op = ap (λ (w : ScriptClient). slice_get w.ops (did k)) same ∙ ap (λ (i : ℕ). slice_get who.ops (did i)) (sym here) ∙ next in
      let up : did' k ≡ suc (did k) = omega (arith, ap did' here, ap did here, one) in
      let rest = spent_same did did' (suc k) clients (λ i low. others i (λ e. omega (arith, low, e))) in
      omega (arith, ap (λ (i : ℕ). ops_weight a b (take i c.ops)) up, one_more_op c.ops (did k) op next', rest)
  spent_one did did' k (suc j) (c ∷ clients) who op is next one others =
      let here : k + suc j ≡ suc k + j = omega arith in
      let first : did' k ≡ did k = others k (λ e. omega (arith, e)) in
      let rest = spent_one did did' (suc k) j clients who op is (ap (λ (i : ℕ). slice_get who.ops (did i)) (sym here) ∙ next)
      (omega (arith, ap did' here, ap did here, one)) (λ i apart. others i (λ e. apart (sym here ∙ e))) in
      omega (arith, ap (λ (i : ℕ). ops_weight a b (take i c.ops)) first, rest)

  spent_whole : (did : ℕ → ℕ) (k : ℕ) (clients : List ScriptClient) → spent did k clients ≤ sum_by (λ c. ops_weight a b c.ops) clients
  spent_whole did k [] = omega arith
  spent_whole did k (c ∷ clients) =
      omega (arith, at_most_all c.ops (did k), spent_whole did (suc k) clients, sum_by-cons (λ (x : ScriptClient). ops_weight a b x.ops) c clients)

  spent_none : (k : ℕ) (clients : List ScriptClient) → spent (λ i. 0) k clients ≡ 0
  spent_none k [] = refl
  spent_none k (c ∷ clients) = omega (arith, spent_none (suc k) clients)

  -- ---- The steps of clients weigh as much as the operations that they did

  abbrev did_by : List Move → ℕ → ℕ
  did_by moves client = steps_by client (steps_of moves)

  abbrev Weighs : ScriptState → List Move → Type 0
  Weighs script moves = steps_weight a b moves ≡ spent (did_by moves) 1 script.clients

  by_nobody : (script : ScriptState) (moves : List Move) (move : Move) → ((client : ℕ) → steps_in client move.step ≡ 0) → step_weight a b move.step ≡ 0
      → Weighs script moves → Weighs script (moves ++ move ∷ [])
  by_nobody script moves move none light old =
      omega (
        arith,
        steps_more moves move,
        light,
        old,
        spent_same (did_by moves) (did_by (moves ++ move ∷ [])) 1 script.clients
            (λ i low. omega (arith, steps_by-more i moves move, none i)),
      )

  by_client : (script : ScriptState) (moves : List Move) (move : Move) (client : ℕ) (who : ScriptClient) (op : Op) → client_at script client ≡ Some who
      → slice_get who.ops (did_by moves client) ≡ Some op → move.step ≡ step_of who.node client op → Weighs script moves → Weighs script (moves ++ move ∷ [])
  by_client script moves move zero who op at next step old = absurd cc
  by_client script moves move (suc j) who op at next step old =
      let number : 1 + j ≡ suc j = omega arith in
      let one = steps_by-more (suc j) moves move in
      let own : steps_in (suc j) move.step ≡ 1 = ap (steps_in (suc j)) step ∙ own_step who.node (suc j) op in
      omega (
        arith,
        steps_more moves move,
        ap (step_weight a b) step,
        weight_of who.node (suc j) op,
        old,
        spent_one (did_by moves) (did_by (moves ++ move ∷ [])) 1 j script.clients who op at
            (ap (λ (i : ℕ). slice_get who.ops (did_by moves i)) number ∙ next)
            (omega (arith, ap (did_by moves) number, ap (did_by (moves ++ move ∷ [])) number, one, own))
            (λ i apart. omega (arith, steps_by-more i moves move, ap (steps_in i) step, another's who.node (suc j) i op (λ e. apart (number ∙ e)))),
      )

  by_choice : (script : ScriptState) (moves : List Move) (move : Move) (choice : Choice) → StandsFor script moves choice move.step → Weighs script moves → Weighs script (moves ++ move ∷ [])
  by_choice script moves move (Client client) means old = let (who, op, at, is, made) = means.next in by_client script moves move client who op at is made old
  by_choice script moves move (Message place) (message, at, is) old = by_nobody script moves move (λ client. ap (steps_in client) is) (ap (step_weight a b) is) old
  by_choice script moves move (Lost place) (message, at, is) old = by_nobody script moves move (λ client. ap (steps_in client) is) (ap (step_weight a b) is) old
  by_choice script moves move (Repeated place) (message, at, is) old = by_nobody script moves move (λ client. ap (steps_in client) is) (ap (step_weight a b) is) old

  weighs_on : (script : ScriptState) (rest moves : List Move) → Performs script (moves ++ rest) → Weighs script moves → Weighs script (moves ++ rest)
  weighs_on script [] moves performs old = subst (Weighs script) (sym (append-nil moves)) old
  weighs_on script (move ∷ rest) moves performs old =
      let again : moves ++ move ∷ rest ≡ (moves ++ move ∷ []) ++ rest = sym (append_assoc moves (move ∷ []) rest) in
      let (choice, means) = performs.each moves rest move refl in
      subst (Weighs script) (sym again)
      (weighs_on script rest (moves ++ move ∷ []) (subst (Performs script) again performs) (by_choice script moves move choice means old))

  pub weigh_at_most : (script : ScriptState) (moves : List Move) → Performs script moves → steps_weight a b moves ≤ sum_by (λ c. ops_weight a b c.ops) script.clients
  weigh_at_most script moves performs =
      omega (arith, weighs_on script moves [] performs (sym (spent_none 1 script.clients)), spent_whole (did_by moves) 1 script.clients)

-- ---- Asks, and steps of clients

locks_weight : (ops : List Op) → ops_weight 1 0 ops ≡ locks_in ops
locks_weight [] = refl
locks_weight (Lock name mode ∷ ops) = omega (arith, locks_weight ops)
locks_weight (Unlock name ∷ ops) = omega (arith, locks_weight ops)

length_weight : (ops : List Op) → ops_weight 1 1 ops ≡ length ops
length_weight [] = refl
length_weight (Lock name mode ∷ ops) = omega (arith, length_weight ops)
length_weight (Unlock name ∷ ops) = omega (arith, length_weight ops)

all_locks : (clients : List ScriptClient) → sum_by (λ c. ops_weight 1 0 c.ops) clients ≡ sum_by (λ c. locks_in c.ops) clients
all_locks [] = refl
all_locks (c ∷ clients) =
    omega (arith, locks_weight c.ops, all_locks clients, sum_by-cons (λ (x : ScriptClient). ops_weight 1 0 x.ops) c clients, sum_by-cons (λ (x : ScriptClient). locks_in x.ops) c clients)

all_lengths : (clients : List ScriptClient) → sum_by (λ c. ops_weight 1 1 c.ops) clients ≡ sum_by (λ c. length c.ops) clients
all_lengths [] = refl
all_lengths (c ∷ clients) =
    omega (arith, length_weight c.ops, all_lengths clients, sum_by-cons (λ (x : ScriptClient). ops_weight 1 1 x.ops) c clients, sum_by-cons (λ (x : ScriptClient). length x.ops) c clients)

asks_weight : (moves : List Move) → steps_weight 1 0 moves ≡ asks_by moves
asks_weight [] = refl
asks_weight (move ∷ moves) = omega (arith, weight_is move.step, asks_weight moves)
  where
    weight_is : (step : Step) → step_weight 1 0 step ≡ asks_in step
    weight_is (Ask node client name mode) = refl
    weight_is (Leave node client name) = refl
    weight_is (Cancel node client name) = refl
    weight_is (Deliver message) = refl
    weight_is (Lose message) = refl
    weight_is (Repeat message) = refl
    weight_is (Forget node) = refl

pub asks_at_most : (script : ScriptState) (moves : List Move) → Performs script moves → asks_by moves ≤ locks_of script
asks_at_most script moves performs = omega (arith, weigh_at_most 1 0 script moves performs, all_locks script.clients, asks_weight moves)

pub client_steps_at_most : (script : ScriptState) (moves : List Move) → Performs script moves → steps_weight 1 1 moves ≤ operations_of script
client_steps_at_most script moves performs = omega (arith, weigh_at_most 1 1 script moves performs, all_lengths script.clients)

-- ---- All moves: steps of clients, messages that are taken, and copies

by_step : (step : Step) (moves : List Move) → length moves ≡ steps_weight 1 1 moves + length (taken_by moves) + length (repeated_by moves)
    → suc (length moves) ≡ step_weight 1 1 step + steps_weight 1 1 moves + length (taken_in step ++ taken_by moves) + length (repeated_in step ++ repeated_by moves)
by_step (Ask node client name mode) moves rest = omega (arith, rest)
by_step (Leave node client name) moves rest = omega (arith, rest)
by_step (Cancel node client name) moves rest = omega (arith, rest)
by_step (Deliver message) moves rest = omega (arith, rest)
by_step (Lose message) moves rest = omega (arith, rest)
by_step (Repeat message) moves rest = omega (arith, rest)
by_step (Forget node) moves rest = omega (arith, rest)

pub moves_are : (moves : List Move) → length moves ≡ steps_weight 1 1 moves + length (taken_by moves) + length (repeated_by moves)
moves_are [] = refl
moves_are (move ∷ moves) = by_step move.step moves (moves_are moves)

-- no more is taken than was put under way, and that is what was sent and the copies
first_taken : (old : List Sent) (message : Sent) (next : List Sent) → TakesFirst old message next → length old ≡ length next + 1
first_taken old message next takes =
    omega (arith, ap length takes.old_is, length-append takes.prefix (message ∷ takes.suffix), ap length takes.new_is, length-append takes.prefix takes.suffix)

each_taken : (old messages new : List Sent) → TakesEach old messages new → length old ≡ length new + length messages
each_taken old [] new takes = omega (arith, ap length takes)
each_taken old (message ∷ messages) new takes =
    omega (arith, first_taken old message takes.0 takes.1, each_taken takes.0 messages new takes.2)

put_are : (moves : List Move) → length (put_by moves) ≡ length (sent_by moves) + length (repeated_by moves)
put_are [] = refl
put_are (move ∷ moves) =
    omega (
      arith,
      put_are moves,
      length-append (move.sends ++ repeated_in move.step) (put_by moves),
      length-append move.sends (repeated_in move.step),
      length-append move.sends (sent_by moves),
      length-append (repeated_in move.step) (repeated_by moves),
    )

pub taken_at_most : (moves : List Move) (left : List Sent) → TakesEach (put_by moves) (taken_by moves) left
    → length (taken_by moves) ≤ length (sent_by moves) + length (repeated_by moves)
taken_at_most moves left takes = omega (arith, each_taken (put_by moves) (taken_by moves) left takes, put_are moves)
