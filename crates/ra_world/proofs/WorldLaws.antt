-- The laws on which a world's steps and reports depend. A proof names them, and no code calls them.
use Rattle.std.proofs.Common.{◌≡◌, ℕ, ◌+◌, ◌<◌, ◌≤◌, List, [], ◌∷◌, ◌++◌, Contains, length, map, arith}
use Rattle.std.specs.Prelude.{◌↔◌, All, sum_by, slice_set}
use Rattle.std.specs.List.{range_with_len}
use Rattle.ra_stamp.specs.declared.entry.Entry.{Entry}
use Rattle.ra_stamp.specs.declared.entry.Mark.{Mark}
use Rattle.ra_stamp.specs.declared.message.Message.{Message}
use Rattle.ra_stamp.specs.declared.mode.Mode.{Mode}
use Rattle.ra_stamp.specs.contracts.message.MessagePartialEq.TheImpl.{eq-value}
use Rattle.ra_stamp.specs.Message.{from_of, to_of}
use Rattle.ra_stamp.specs.NodeId.{IsNodeNumber}
use Rattle.ra_stamp.proofs.StampLaws.{conflict_flips, one_is_earlier, same_messages}
use Rattle.ra_bag.specs.Bag.{TakesFirst, TakesOne}
use Rattle.ra_automaton.specs.State.{IsForNode, IsOtherNode}
use Rattle.ra_automaton.proofs.Consistent.{consistent_request, consistent_receive, consistent_leave, consistent_withdraw}
use Rattle.ra_node.specs.Node.{NodeState, opening_node, resource_at, queued_count, IsConsistentNode}
use Rattle.ra_node.specs.Resource.{Holds, IsKeptWaiting}
use Rattle.ra_node.specs.Turns.{MayAsk}
use Rattle.ra_node.specs.Events.{Event, Happening, NodeEvent, IsForThisNode, name_of_event}
use Rattle.ra_node.specs.Carried.{IsMark}
use Rattle.ra_node.proofs.NodeLemmas.{opening_is_consistent}
use Rattle.ra_node.proofs.EventLemmas.{other_resource, same_node, same_start}
use Rattle.ra_node.proofs.EventsKept.{event_kept, event_sends, event_numbers, event_marks, event_leads}
use Rattle.ra_node.proofs.Determined.{event_one, events_one}
use Rattle.ra_node.proofs.Possible.{ask_is_possible, ask_was_allowed, leave_is_possible, leave_was_allowed, cancel_is_possible, cancel_was_allowed, receive_is_possible}
use Rattle.ra_node.proofs.Chains.{events_join, events_split}
use Rattle.ra_table.proofs.History.{run_waits, same_entries}
use Rattle.ra_table.proofs.Runs.{steps_join, holders_do_not_conflict, grants_by_stamp}
use Rattle.ra_world.specs.declared.error.StepError.{StepError}
use Rattle.ra_world.specs.declared.step.Step.{Step}
use Rattle.ra_world.specs.declared.step.Step.TheVariants.{Ask, Leave, Cancel, Deliver, Lose, Repeat, Forget}
use Rattle.ra_world.specs.declared.text.report.Report.{Report}
use Rattle.ra_world.specs.Below.{LawsBelow}
use Rattle.ra_world.specs.Fairness.{IsFair}
use Rattle.ra_world.specs.Fitting.{FitWithCopies}
use Rattle.ra_world.specs.Keeping.{nodes_of, Keeps}
use Rattle.ra_world.specs.MainTheorem.{MainTheorem}
use Rattle.ra_world.specs.Run.{IsRun, IsFit, GoesOn, events_at, happened_at, marks_of}
use Rattle.ra_world.specs.Traffic.{Move, TakesEach, IsUnderWay, taken_in, repeated_by}
use Rattle.ra_world.specs.World.{HasCause, Reports}
use Rattle.ra_world.proofs.Causes as causes
use Rattle.ra_world.proofs.Deciding.{decided}
use Rattle.ra_world.proofs.DifferentRuns.{messages_differ}
use Rattle.ra_world.proofs.Elsewhere.{stays}
use Rattle.ra_world.proofs.Fairness.{is_fair}
use Rattle.ra_world.proofs.FittingRuns.{fit_is_run}
use Rattle.ra_world.proofs.GoingOn.{consistent_at, event_goes_on, loss_goes_on, copy_goes_on, ask_goes_on, leave_goes_on, cancel_goes_on, forget_goes_on, deliver_goes_on, lose_goes_on, repeat_goes_on}
use Rattle.ra_world.proofs.KeptRuns as kept
use Rattle.ra_world.proofs.Outcomes.{has_table, as_many_wait, something_under_way, is_traffic, among_them}
use Rattle.ra_world.proofs.Queues as queues
use Rattle.ra_world.proofs.QuietRuns.{is_blocked, meets_count, blocked_may_not_enter}
use Rattle.ra_world.proofs.Reached.{under_way_more}
use Rattle.ra_world.proofs.Reporting.{meets}
use Rattle.ra_world.proofs.Runs.{prefixes}
use Rattle.ra_node.proofs.Forgetting.{forget_is_possible}

-- ---- What the crates below say

-- each event of a node leads from a consistent node to a consistent one
pub stays_consistent : (old new : NodeState) (event : Event) (sends : List Message) (marks : List Mark)
    → IsConsistentNode old → IsForThisNode old event → NodeEvent old event sends marks new → IsConsistentNode new
stays_consistent =
    event_kept (λ old new mode sends entered. consistent_request old mode sends entered new)
    (λ old new message sends entered. consistent_receive old message sends entered new) (λ old new sends. consistent_leave old sends new)
    (λ old new sends. consistent_withdraw old sends new)

-- the marks of an event are of this node and name
pub marks_kept : (old new : NodeState) (event : Event) (sends : List Message) (marks : List Mark)
    → IsConsistentNode old → IsForThisNode old event → NodeEvent old event sends marks new → All (IsMark old.me (name_of_event event)) marks
marks_kept old new event sends marks h for happens = event_marks old new event sends marks h (stays_consistent old new event sends marks h for happens) happens

pub laws_below : LawsBelow
laws_below = record {
  symmetric = conflict_flips;
  same_or_apart = λ a b. decided _ (same_messages a b);
  leave_consistent = λ old new sends. consistent_leave old sends new;
  withdraw_consistent = λ old new sends. consistent_withdraw old sends new;
  opens = opening_is_consistent;
  consistent = stays_consistent;
  own_sends = event_sends;
  numbered = event_numbers;
  one_request = event_leads;
  other_names = other_resource;
  same_node = same_node;
  same_start = same_start;
  one_event = λ old a b event sends sends' marks marks'. event_one old a b event sends sends' marks marks';
  one_end = λ old a b happened. events_one happened old a b;
  may_ask = λ old client name mode h. (ask_was_allowed old client name mode, ask_is_possible old client name mode h);
  may_leave = λ old client name h. (leave_was_allowed old client name, leave_is_possible old client name h);
  may_cancel = λ old client name h. (cancel_was_allowed old client name, cancel_is_possible old client name h);
  may_receive = receive_is_possible;
  may_forget = forget_is_possible;
  splits = events_split;
  joins = events_join;
  table_joins = steps_join;
}

-- ---- What a run goes on with

-- the delivery, the loss or a copy of a message that is under way
pub deliver_allowed : (n start : ℕ) (moves : List Move) → IsNodeNumber n → IsRun n start moves
    → (message : Message) → GoesOn n start moves (Deliver message) ↔ IsUnderWay moves message
deliver_allowed n start moves count run = deliver_goes_on laws_below n start moves run.ends.0 count run run.ends.1

pub forget_allowed : (n start : ℕ) (moves : List Move) → IsNodeNumber n → IsRun n start moves
    → (node : ℕ) → GoesOn n start moves (Forget node) ↔ ((1 ≤ node) × (node ≤ n))
forget_allowed n start moves count run = forget_goes_on laws_below n start moves run.ends.0 count run run.ends.1

pub lose_allowed : (n start : ℕ) (moves : List Move) → IsNodeNumber n → IsRun n start moves
    → (message : Message) → GoesOn n start moves (Lose message) ↔ IsUnderWay moves message
lose_allowed n start moves count run = lose_goes_on laws_below n start moves run.ends.0 count run run.ends.1

pub repeat_allowed : (n start : ℕ) (moves : List Move) → IsNodeNumber n → IsRun n start moves
    → (message : Message) → GoesOn n start moves (Repeat message) ↔ IsUnderWay moves message
repeat_allowed n start moves count run = repeat_goes_on laws_below n start moves run.ends.0 count run run.ends.1

-- a move at another node changes nothing of what a client may do at this one
pub ask_stays : (n start : ℕ) (moves : List Move) (move : Move) → IsNodeNumber n → IsRun n start (moves ++ move ∷ [])
    → (node client : ℕ) (name : List ℕ) (mode : Mode) → events_at node move.step ≡ []
    → GoesOn n start moves (Ask node client name mode) ↔ GoesOn n start (moves ++ move ∷ []) (Ask node client name mode)
ask_stays n start moves move count run node client name mode none =
    stays n start moves move (prefixes laws_below.splits n start (move ∷ []) moves run) run node (Ask node client name mode)
    (λ (s : NodeState). MayAsk (resource_at s name) client)
    (λ ms nodes runs ends. ask_goes_on laws_below n start ms nodes count runs ends node client name mode) none

pub leave_stays : (n start : ℕ) (moves : List Move) (move : Move) → IsNodeNumber n → IsRun n start (moves ++ move ∷ [])
    → (node client : ℕ) (name : List ℕ) → events_at node move.step ≡ []
    → GoesOn n start moves (Leave node client name) ↔ GoesOn n start (moves ++ move ∷ []) (Leave node client name)
leave_stays n start moves move count run node client name none =
    stays n start moves move (prefixes laws_below.splits n start (move ∷ []) moves run) run node (Leave node client name)
    (λ (s : NodeState). (entry : Entry) × Holds (resource_at s name) client entry)
    (λ ms nodes runs ends. leave_goes_on laws_below n start ms nodes count runs ends node client name) none

pub cancel_stays : (n start : ℕ) (moves : List Move) (move : Move) → IsNodeNumber n → IsRun n start (moves ++ move ∷ [])
    → (node client : ℕ) (name : List ℕ) → events_at node move.step ≡ []
    → GoesOn n start moves (Cancel node client name) ↔ GoesOn n start (moves ++ move ∷ []) (Cancel node client name)
cancel_stays n start moves move count run node client name none =
    stays n start moves move (prefixes laws_below.splits n start (move ∷ []) moves run) run node (Cancel node client name)
    (λ (s : NodeState). IsKeptWaiting (resource_at s name) client)
    (λ ms nodes runs ends. cancel_goes_on laws_below n start ms nodes count runs ends node client name) none

-- If a step has a cause of refusal, the run does not go on with it, and it has one cause.
pub no_step : (n start : ℕ) (moves : List Move) (step : Step) (cause : StepError) → IsNodeNumber n → IsRun n start moves
    → HasCause n start moves step cause → GoesOn n start moves step → ⊥
no_step =
    causes.no_step (λ n start moves. ask_goes_on laws_below n start moves) (λ n start moves. leave_goes_on laws_below n start moves)
    (λ n start moves. cancel_goes_on laws_below n start moves) forget_allowed deliver_allowed lose_allowed repeat_allowed

pub one_cause : (n start : ℕ) (moves : List Move) (step : Step) (a b : StepError)
    → HasCause n start moves step a → HasCause n start moves step b → a ≡ b
one_cause = causes.one_cause laws_below.one_end

-- a message under way is between two nodes
pub between_nodes : (n start : ℕ) (moves : List Move) (message : Message) → IsNodeNumber n → IsRun n start moves → IsUnderWay moves message
    → ((1 ≤ to_of message) × (to_of message ≤ n)) × IsOtherNode (to_of message) n (from_of message)
between_nodes n start moves message count run was = let traffic = is_traffic laws_below n start moves count run message was in (traffic.to, traffic.from)

-- ---- Who overtakes

pub runs_are_fair : (n start : ℕ) (moves : List Move) → IsNodeNumber n → IsRun n start moves → IsFair n moves
runs_are_fair n start moves count =
    is_fair laws_below marks_kept (record { same = same_entries; waits = λ marks table e run. (run_waits marks table e run).0 }) n start count moves

-- ---- What a world keeps

-- what keeps a run keeps one after an event of a node, and after the loss or a copy of a message
pub record KeptRunsGoOn : Type 0 where
  pub opened : (n start : ℕ) → IsNodeNumber n → Keeps start (map (λ i. opening_node i n start) (range_with_len 1 n)) [] []
  pub event : (start : ℕ) (nodes : List NodeState) (left next : List Message) (moves : List Move) (move : Move)
      (place : ℕ) (event : Event) (new : NodeState) → Keeps start nodes left moves → place < length nodes
      → IsFit (length nodes) moves move.step move.sends move.marks → events_at (place + 1) move.step ≡ event ∷ []
      → NodeEvent (nodes_of nodes (place + 1)) event move.sends move.marks new → TakesEach left (taken_in move.step) next
      → Keeps start (slice_set nodes place new) (next ++ move.sends) (moves ++ move ∷ [])
  pub loss : (start : ℕ) (nodes : List NodeState) (left next : List Message) (moves : List Move) (message : Message)
      → Keeps start nodes left moves → TakesFirst left message next
      → Keeps start nodes next (moves ++ record { step = Lose message; sends = []; marks = [] } ∷ [])
  pub copy : (start : ℕ) (nodes : List NodeState) (left : List Message) (moves : List Move) (message : Message)
      → Keeps start nodes left moves → Contains left message
      → Keeps start nodes (left ++ message ∷ []) (moves ++ record { step = Repeat message; sends = []; marks = [] } ∷ [])
  -- A message is under way exactly if it is kept. Then it is for an existing node, which takes it.
  pub under_way : (start : ℕ) (nodes : List NodeState) (left : List Message) (moves : List Move) (message : Message)
      → Keeps start nodes left moves → IsUnderWay moves message ↔ Contains left message
  pub is_taken : (start : ℕ) (nodes : List NodeState) (left : List Message) (moves : List Move) (message : Message)
      → Keeps start nodes left moves → Contains left message → (to_of message ≤ length nodes)
      × IsForNode (nodes_of nodes (to_of message)).me (nodes_of nodes (to_of message)).nodes message
  pub counts : (start : ℕ) (nodes : List NodeState) (left : List Message) (moves : List Move) (place : ℕ)
      → Keeps start nodes left moves → place < length nodes → (nodes_of nodes (place + 1)).nodes ≡ length nodes
  pub consistent : (start : ℕ) (nodes : List NodeState) (left : List Message) (moves : List Move) (place : ℕ)
      → Keeps start nodes left moves → place < length nodes → IsConsistentNode (nodes_of nodes (place + 1))
  -- If nothing was repeated, all messages under way are different, so each is the first of its kind.
  pub taken : (start : ℕ) (nodes : List NodeState) (left next : List Message) (moves : List Move) (message : Message)
      → Keeps start nodes left moves → repeated_by moves ≡ [] → TakesOne left message next → TakesFirst left message next
  -- Each step queues at most one more client.
  pub queued : (start : ℕ) (nodes : List NodeState) (left : List Message) (moves : List Move)
      → Keeps start nodes left moves → sum_by queued_count nodes ≤ length moves
  pub at_all : (nodes : List NodeState) (f : NodeState → ℕ)
      → sum_by (λ i. f (nodes_of nodes i)) (range_with_len 1 (length nodes)) ≡ sum_by f nodes

pub kept_runs_go_on : KeptRunsGoOn
kept_runs_go_on =
    record {
      opened = kept.opened;
      event = kept.after_event under_way_more (λ n start moves nodes i event move new count run ends low high. event_goes_on events_join n start moves nodes i event move new run ends) loss_goes_on copy_goes_on;
      loss = kept.after_loss under_way_more (λ n start moves nodes i event move new count run ends low high. event_goes_on events_join n start moves nodes i event move new run ends) loss_goes_on copy_goes_on;
      copy = kept.after_copy under_way_more (λ n start moves nodes i event move new count run ends low high. event_goes_on events_join n start moves nodes i event move new run ends) loss_goes_on copy_goes_on;
      under_way = λ start nodes left moves message keeps. among_them moves left message keeps.under_way;
      is_taken = kept.is_taken same_node between_nodes;
      counts = kept.counts same_node;
      consistent = λ start nodes left moves place keeps within.
          consistent_at laws_below (length nodes) start moves (nodes_of nodes) keeps.count keeps.run keeps.ends (place + 1) (omega arith, omega (arith, within));
      taken = kept.taken_first (λ n start moves count run. messages_differ laws_below n start count moves run);
      queued = queues.few_queued;
      at_all = queues.at_all;
    }

-- ---- Reports

-- the report of a run meets the main theorem
pub reports_meet_the_main_theorem : (n start : ℕ) (moves : List Move) (report : Report) → IsNodeNumber n → IsRun n start moves
    → Reports n start moves report → MainTheorem n report
reports_meet_the_main_theorem =
    meets (has_table laws_below)
    (λ n start moves nodes table count run ends. as_many_wait laws_below n start moves count run nodes table ends (same_entries (marks_of moves)))
    (λ n start moves table e count run quiet. is_blocked laws_below n start moves count run quiet (same_entries (marks_of moves)) table e)
    (λ n start moves table e count run quiet table_run may.
    blocked_may_not_enter table e (is_blocked laws_below n start moves count run quiet (same_entries (marks_of moves)) table e table_run may.waits) may)
    (λ n start moves table count run quiet unrepeated unwithdrawn. meets_count laws_below n start moves count run quiet (same_entries (marks_of moves)) unrepeated unwithdrawn table)
    (holders_do_not_conflict conflict_flips) (grants_by_stamp conflict_flips one_is_earlier)

-- ---- Steps that fit together

pub fitting_steps_are_runs : (n start : ℕ) (steps : List Step) (happened : ℕ → List Happening) → IsNodeNumber n → FitWithCopies n start steps happened
    → (moves : List Move) × (map (λ move. move.step) moves ≡ steps) × IsRun n start moves
    × ((i : ℕ) → 1 ≤ i → i ≤ n → happened_at i moves ≡ happened i)
fitting_steps_are_runs =
    fit_is_run laws_below.splits laws_below.one_end (something_under_way laws_below) between_nodes
    (λ n start moves nodes i event move new count run ends low high. event_goes_on laws_below.joins n start moves nodes i event move new run ends)
    loss_goes_on copy_goes_on eq-value.it same_messages
