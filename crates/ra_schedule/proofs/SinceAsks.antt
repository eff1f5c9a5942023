-- Since when a client waits: since its last ask.
use Rattle.std.proofs.Common.{◌≡◌, ℕ, ◌+◌, List, [], ◌∷◌, ◌++◌, length, All, refl, sym, ap, ◌∙◌, subst, append_assoc, append-nil, arith, inl, inr}
use Rattle.std.proofs.lemmas.List.{length-map, length-append}
use Rattle.std.proofs.lemmas.List.Elements.{All-append, All-nil}
use Rattle.ra_stamp.specs.declared.mode.Mode.{Mode}
use Rattle.ra_world.specs.declared.step.Step.{Step}
use Rattle.ra_world.specs.declared.step.Step.TheVariants.{Ask, Leave, Cancel, Deliver, Lose, Repeat, Forget}
use Rattle.ra_world.specs.Traffic.{Move}
use Rattle.ra_world.specs.Run.{marks_of}
use Rattle.ra_schedule.specs.declared.driver.client_state.ClientState.{ClientState}
use Rattle.ra_schedule.specs.declared.driver.client_state.ClientState.TheVariants.{Done, Waits, Next}
use Rattle.ra_schedule.specs.Schedule.{steps_of, Asks, Enters, IsWaiting}
use Rattle.ra_schedule.specs.Script.{ScriptState}
use Rattle.ra_schedule.specs.Progress.{IsAskedIn, IsWaitingAt}
use Rattle.ra_schedule.specs.StateText.{IsClientState}
use Rattle.ra_schedule.proofs.Waiting.{waited, nobody_waits}

-- the move of the last of these steps
pub split_map : (moves : List Move) (before : List Step) (last : Step) → before ++ last ∷ [] ≡ steps_of moves
    → (kept : List Move) × (m : Move) × (moves ≡ kept ++ m ∷ []) × (steps_of kept ≡ before) × (m.step ≡ last)
split_map [] [] last e = absurd cc
split_map [] (s ∷ before) last e = absurd cc
split_map (m ∷ []) [] last e = ([], m, refl, refl, cc)
split_map (m ∷ n ∷ moves) [] last e = absurd cc
split_map (m ∷ moves) (s ∷ before) last e =
    let rest : before ++ last ∷ [] ≡ steps_of moves = cc in
    let first : m.step ≡ s = cc in
    let (kept, x, are, steps, is) = split_map moves before last rest in (
      m ∷ kept,
      x,
      ap (λ (ms : List Move). m ∷ ms) are,
      ap (λ (ss : List Step). m.step ∷ ss) steps ∙ ap (λ (x : Step). x ∷ before) first,
      is,
    )

-- only an ask asks
pub asks_not : (client : ℕ) (step : Step) → ((node asker : ℕ) (name : List ℕ) (mode : Mode) → step ≡ Ask node asker name mode → ⊥) → Asks client step → ⊥
asks_not client (Ask node asker name mode) not asks = not node asker name mode refl
asks_not client (Leave node leaver name) not asks = asks
asks_not client (Cancel node waiter name) not asks = asks
asks_not client (Deliver message) not asks = asks
asks_not client (Lose message) not asks = asks
asks_not client (Repeat message) not asks = asks
asks_not client (Forget node) not asks = asks

-- and only its own client
pub asked_other : (client asker : ℕ) (step : Step) (node : ℕ) (name : List ℕ) (mode : Mode) → step ≡ Ask node asker name mode → (asker ≡ client → ⊥) → Asks client step → ⊥
asked_other client asker step node name mode is other asks = other (subst (Asks client) is asks)

-- the client has waited since one of the first moves, whose steps these are
abbrev pub IsLeft : ℕ → List Move → List Step → Type 0
IsLeft client moves rest = (kept after : List Move) × (moves ≡ kept ++ after) × (steps_of kept ≡ rest) × IsWaiting client kept
    × All (λ mark. Enters client mark → ⊥) (marks_of after)

pub all_left : (client : ℕ) (moves : List Move) (steps : List Step) → steps ≡ steps_of moves → IsWaiting client moves → IsLeft client moves steps
all_left client moves steps are waits = (moves, [], sym (append-nil moves), sym are, waits, All-nil (λ mark. Enters client mark → ⊥))

module _ (client : ℕ) (moves : List Move) (rest before : List Step) (last : Step) (split : rest ≡ before ++ last ∷ []) where
  -- a step in which it does not ask
  pub next_left : IsLeft client moves rest → (Asks client last → ⊥) → IsLeft client moves before
  next_left (kept, after, are, steps, waits, silent) other =
      let (front, m, is, front_steps, last_is) = split_map kept before last (sym split ∙ sym steps) in
      let was = waited client front m (subst (IsWaiting client) is waits) in
      elim was.1 [
        | inl asks ↦ absurd (other (subst (Asks client) last_is asks))
        | inr waited_before ↦ (
          front,
          m ∷ after,
          are ∙ ap (λ (ms : List Move). ms ++ after) is ∙ append_assoc front (m ∷ []) after,
          front_steps,
          waited_before,
          All-append (λ mark. Enters client mark → ⊥) m.marks (marks_of after) was.0 silent,
        )
      ]

  -- the step in which it asks
  pub asked : (state : ClientState) → IsLeft client moves rest → IsAskedIn last client (length rest) state → IsWaitingAt client moves state
  asked state (kept, after, are, steps, waits, silent) (node, name, mode, asks, is) =
      let (front, m, kept_is, front_steps, last_is) = split_map kept before last (sym split ∙ sym steps) in
      let was = waited client front m (subst (IsWaiting client) kept_is waits) in
      let count : length rest ≡ length front + 1 =
      ap length split ∙ length-append before (last ∷ []) ∙ ap (λ (n : ℕ). n + 1) (sym (ap length front_steps) ∙ length-map front (λ (move : Move). move.step)) in
      subst (IsWaitingAt client moves) (sym is)
      (record {
        before = front;
        ask = m;
        after = after;
        moves_are = are ∙ ap (λ (ms : List Move). ms ++ after) kept_is ∙ append_assoc front (m ∷ []) after;
        number_is = count;
        asks = (node, last_is ∙ asks);
        not_entered = All-append (λ mark. Enters client mark → ⊥) m.marks (marks_of after) was.0 silent;
      })

-- before the first step nobody waits
pub none_left : (client : ℕ) (moves : List Move) (rest : List Step) → length rest ≡ 0 → IsLeft client moves rest → ⊥
none_left client moves rest none ([], after, are, steps, waits, silent) = nobody_waits client waits
none_left client moves rest none (m ∷ kept, after, are, steps, waits, silent) = let some = ap length steps in absurd (omega (arith, none, some))

-- a client that waits is at that
pub at_wait : (script : ScriptState) (moves : List Move) (client : ℕ) (state : ClientState) → IsWaitingAt client moves state → IsClientState script moves client state
at_wait script moves client Done h = absurd h
at_wait script moves client (Waits name mode number) h = h
at_wait script moves client (Next op enabled) h = absurd h
