-- So the requests and the moves are few, and numbers never run out.
use Rattle.std.proofs.Common.{◌≡◌, ℕ, ◌+◌, ◌-◌, ◌*◌, ◌<◌, ◌≤◌, List, [], ◌∷◌, All, length, ap, arith}
use Rattle.std.specs.Prelude.{sum_by}
use Rattle.std.proofs.Math.Nat.{mul-le-mul_left}
use Rattle.std.proofs.lemmas.List.Sums.{sum_by-cons}
use Rattle.std.proofs.lemmas.List.Elements.{All-head, All-tail}
use Rattle.ra_automaton.specs.Steps.{greatest_number}
use Rattle.ra_node.specs.Node.{NodeState, resource_at}
use Rattle.ra_world.specs.Traffic.{Move, repeated_by}
use Rattle.ra_world.specs.Run.{EndsWith, marks_of}
use Rattle.ra_world.specs.Quiet.{requests_in}
use Rattle.ra_schedule.specs.declared.script.Op.{Op}
use Rattle.ra_schedule.specs.declared.script.Op.TheVariants.{Lock, Unlock}
use Rattle.ra_schedule.specs.Script.{ScriptClient, ScriptState, IsScript, IsScriptClient}
use Rattle.ra_schedule.specs.Performing.{Performs, locks_in, locks_of, operations_of, most_turns}
use Rattle.ra_schedule.specs.BelowFinishing.{LawsOfRuns}
use Rattle.ra_schedule.proofs.MovedNodes.{IsNode}
use Rattle.ra_schedule.proofs.TurnCounts.{asks_at_most, client_steps_at_most, moves_are, taken_at_most}

-- ---- The operations of a script

few_locks : (ops : List Op) → locks_in ops ≤ length ops
few_locks [] = omega arith
few_locks (Lock name mode ∷ ops) = omega (arith, few_locks ops)
few_locks (Unlock name ∷ ops) = omega (arith, few_locks ops)

fewer_locks : (clients : List ScriptClient) → sum_by (λ c. locks_in c.ops) clients ≤ sum_by (λ c. length c.ops) clients
fewer_locks [] = omega arith
fewer_locks (c ∷ clients) =
    omega (arith, few_locks c.ops, fewer_locks clients, sum_by-cons (λ (x : ScriptClient). locks_in x.ops) c clients, sum_by-cons (λ (x : ScriptClient). length x.ops) c clients)

few_operations : (n : ℕ) (clients : List ScriptClient) → All (IsScriptClient n) clients → sum_by (λ c. length c.ops) clients ≤ 1024 * length clients
few_operations n [] all = omega arith
few_operations n (c ∷ clients) all =
    let here = (All-head (IsScriptClient n) c clients all).at_most in
    omega (arith, here, few_operations n clients (All-tail (IsScriptClient n) c clients all), sum_by-cons (λ (x : ScriptClient). length x.ops) c clients)

operations_bound : (script : ScriptState) → IsScript script → operations_of script ≤ 65536
operations_bound script fit = omega (arith, few_operations script.nodes script.clients fit.each, fit.at_most)

locks_bound : (script : ScriptState) → IsScript script → locks_of script ≤ 65536
locks_bound script fit = omega (arith, fewer_locks script.clients, operations_bound script fit)

-- the most turns of any script
pub turns_bound : (script : ScriptState) → IsScript script → most_turns script ≤ 8323072
turns_bound script fit =
    let others : 2 * (script.nodes - 1) ≤ 126 = omega (arith, fit.count.1) in
    let first : 2 * (script.nodes - 1) * locks_of script ≤ 2 * (script.nodes - 1) * 65536 = mul-le-mul_left (2 * (script.nodes - 1)) (locks_bound script fit) in
    omega (arith, others, first, operations_bound script fit)

-- ---- The moves

module _ (laws : LawsOfRuns) (script : ScriptState) (fit : IsScript script) (moves : List Move) (performs : Performs script moves) where
  abbrev n : ℕ
  n = script.nodes

  requests_few : requests_in (marks_of moves) ≤ locks_of script
  requests_few =
      omega (
        arith,
        laws.asks n 0 moves performs.run.ends.0 fit.count performs.run performs.run.ends.1,
        laws.withdrawn n 0 moves fit.count performs.run,
        asks_at_most script moves performs,
      )

  -- numbers never run out
  pub numbers_left : (nodes : ℕ → NodeState) → EndsWith n 0 moves nodes → (i : ℕ) (name : List ℕ) → IsNode n i → (resource_at (nodes i) name).state.highest < greatest_number
  numbers_left nodes ends i name within =
      let low = laws.highest n 0 moves nodes i name fit.count performs.run ends within.0 within.1 in
      omega (arith, low, requests_few, locks_bound script fit)

  pub moves_bound : length moves ≤ most_turns script + 3 * length (repeated_by moves)
  moves_bound =
      let left = laws.a_list n 0 moves fit.count performs.run in
      let sent = laws.sent n 0 moves fit.count performs.run in
      let product : 2 * (n - 1) * requests_in (marks_of moves) ≤ 2 * (n - 1) * locks_of script = mul-le-mul_left (2 * (n - 1)) requests_few in
      omega (arith, moves_are moves, client_steps_at_most script moves performs, taken_at_most moves left.0 left.1, sent, product)

  pub moves_bound_unrepeated : repeated_by moves ≡ [] → length moves ≤ most_turns script
  moves_bound_unrepeated none = omega (arith, moves_bound, ap length none)
