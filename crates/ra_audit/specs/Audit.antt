-- An auditor as contracts see it: what has happened so far at running nodes, put into one run of the cluster.
use Rattle.std.specs.Prelude.{◌≡◌, ◌≢◌, ◌↔◌, ◌⊎◌, ℕ, true, false, ◌-◌, ◌<◌, ◌≤◌, ◌^◌, Option, Some, None, Result, Ok, Err, IsErrOf, OnOk, OnErr, List, [], ◌∷◌, ◌++◌, length, map, flat_map, All, Contains, slice_get, slice_index_or, slice_set}
use Rattle.std.specs.List.{Any, AllWithin, range_with_len}
use Rattle.std.specs.List.Sorted.{IsPermutation}
use Rattle.ra_stamp.specs.declared.entry.Mark.{Mark}
use Rattle.ra_stamp.specs.NodeId.{IsNodeNumber}
use Rattle.ra_stamp.specs.Message.{from_of, to_of}
use Rattle.ra_node.specs.Events.{Happening}
use Rattle.ra_table.specs.Table.{LockTable, TableRun, MayEnter}
use Rattle.ra_table.specs.Laws.{IsConflictFree}
use Rattle.ra_world.specs.Traffic.{Move, IsUnderWay, lost_by, repeated_by}
use Rattle.ra_world.specs.Run.{IsRun, GoesOn, happened_at, marks_of}
use Rattle.ra_world.specs.Quiet.{IsQuiet, IsBlocked, withdrawn_in, MeetsMessageCount}
use Rattle.ra_world.specs.Fairness.{IsFair}
use Rattle.ra_world.specs.World.{WorldState}
use Rattle.ra_world.specs.MainTheorem.{AreGrantedInOrder}
use Rattle.ra_frame.specs.declared.frame.Frame.{Frame}
use Rattle.ra_audit.specs.declared.audit_error.AuditFault.{AuditFault}
use Rattle.ra_audit.specs.declared.audit_error.CloseError.{CloseError}
use Rattle.ra_audit.specs.declared.audit_error.CloseError.TheVariants.{NotFinished, Behind, StillLost}
use Rattle.ra_audit.specs.declared.audit_error.FinishError.{FinishError}
use Rattle.ra_audit.specs.declared.audit_error.FinishError.TheVariants.{Round, NeverSent, LostUnsent}
use Rattle.ra_audit.specs.declared.audit_error.RoundError.{RoundError}
use Rattle.ra_audit.specs.declared.audit_error.RoundError.TheVariants as round
use Rattle.ra_audit.specs.declared.audit_error.RoundError.TheVariants.{NotAudited, OtherCluster, Fault, NotLost, NotTaken}
use Rattle.ra_site.specs.declared.site.take_error.TakeError.{TakeError}
use Rattle.ra_site.specs.declared.site.take_error.TakeError.TheVariants.{NoNode, OutOfTurn, NotNext, Memory}
use Rattle.ra_book.specs.declared.book.event.BookKind.{BookKind}
use Rattle.ra_book.specs.declared.book.event.BookKind.TheVariants.{Ask, Leave, Cancel, Forget, Receive}
use Rattle.ra_book.specs.declared.book.event.BookEvent.{BookEvent}
use Rattle.ra_book.specs.History.{clock_after, clock_of, frames_at, node_event}
use Rattle.ra_book.specs.Book.{BookState, HasHistory, whole_events}
use Rattle.ra_book.specs.Settled.{step_at, frames_in, received_among}
use Rattle.ra_site.specs.Cluster.{ClusterState}
use Rattle.ra_site.specs.Handing.{IsLeftOfBook}
use Rattle.ra_site.specs.Losses.{lost_frames}

-- ---- What an auditor knows

-- A node's number, its events that are in the run, then the events that were taken from its book and can't be put into
-- the run yet, and then those that its book handed over and that are not taken yet.
pub record ProgressState : Type 0 where
  pub node : ℕ
  pub settled : List BookEvent
  pub waiting : List BookEvent
  pub kept : List BookEvent

-- all events of the node that were taken, from its first one on
abbrev pub taken_of : ProgressState → List BookEvent
taken_of p = p.settled ++ p.waiting

-- the same, and the events that are not taken yet
abbrev pub handed_over : ProgressState → List BookEvent
handed_over p = taken_of p ++ p.kept

-- a node from which nothing was taken
abbrev pub fresh_progress : ℕ → ProgressState
fresh_progress node = record { node = node; settled = []; waiting = []; kept = [] }

-- The run so far, as a world that made its steps; how far each node's events are in it; the frames noted as lost whose
-- loss has yet to be put into the run; those whose loss is in it, in its order; and what did not fit, if anything did
-- not.
pub record AuditState : Type 0 where
  pub world : WorldState
  pub nodes : List ProgressState
  pub losing : List Frame
  pub lost : List Frame
  pub fault : Option AuditFault

-- ---- What was taken

-- a frame that came is for this node
abbrev pub IsForNumber : ℕ → BookKind → Type 0
IsForNumber node (Ask client name mode) = Unit {0}
IsForNumber node (Leave client name) = Unit {0}
IsForNumber node (Cancel client name) = Unit {0}
IsForNumber node Forget = Unit {0}
IsForNumber node (Receive frame) = to_of frame.message ≡ node

-- after an event with this clock, this can be the next event of the node: it has the clock that follows, at most 2^62,
-- and a frame that came is for the node
pub record IsNextAt (node clock : ℕ) (event : BookEvent) : Type 0 where
  pub clock_is : event.clock ≡ clock_after clock event.kind
  pub within : event.clock ≤ 2 ^ 62
  pub for_node : IsForNumber node event.kind

-- these can be the next events of the node, one after the other
abbrev pub AreNextAt : ℕ → ℕ → List BookEvent → Type 0
AreNextAt node clock [] = Unit {0}
AreNextAt node clock (event ∷ events) = IsNextAt node clock event × AreNextAt node event.clock events

-- ---- What holds of every auditor

-- what happened at the node in these moves are its settled events, in order
abbrev pub HasSettled : List Move → ProgressState → Type 0
HasSettled moves p = map (λ h. h.event) (happened_at p.node moves) ≡ map (λ e. node_event e.kind) p.settled

-- The moves are a run of these nodes in which nothing was repeated. What happened in it at each node are the settled
-- events: the first ones that were taken from the node.
pub record IsAudited (world : WorldState) (nodes : List ProgressState) : Type 0 where
  pub count : IsNodeNumber world.count
  pub run : IsRun world.count world.start world.moves
  pub numbers : map (λ p. p.node) nodes ≡ range_with_len 1 world.count
  pub events : All (HasSettled world.moves) nodes
  pub unrepeated : repeated_by world.moves ≡ []

-- these moves lost the messages of these frames, in order, and no others
abbrev pub HasLost : List Move → List Frame → Type 0
HasLost moves lost = lost_by moves ≡ map (λ frame. frame.message) lost

-- ---- Which frames were sent in the run

-- The frames that a node sent, in order, by what happened at it and by its events, which are the same in the same
-- order: each message that an event sent, with the clock of the event.
abbrev pub frames_sent : List Happening → List BookEvent → List Frame
frames_sent [] events = []
frames_sent (h ∷ happened) [] = []
frames_sent (h ∷ happened) (event ∷ events) = frames_at event.clock h.sends ++ frames_sent happened events

-- The sender of the message sent the frame in these moves: an event of it that is in the run sent the message, and has
-- the frame's clock.
abbrev pub WasSentIn : List ProgressState → List Move → Frame → Type 0
WasSentIn nodes moves frame =
    Any (λ p. (p.node ≡ from_of frame.message) × Contains (frames_sent (happened_at p.node moves) p.settled) frame)
    nodes

-- Each frame that came in the run was sent in it, with the clock of the event that sent it. So was each of these
-- frames, whose losses are in the run.
pub record AllWereSent (nodes : List ProgressState) (moves : List Move) (lost : List Frame) : Type 0 where
  pub came : All (λ p. All (WasSentIn nodes moves) (received_among p.settled)) nodes
  pub losses : All (WasSentIn nodes moves) lost

-- ---- Which event can be put into the run

-- the run has come to the frame: all events of its sender up to the frame's clock are in the run
abbrev pub IsReached : List ProgressState → Frame → Type 0
IsReached nodes frame = All (λ p. p.node ≡ from_of frame.message → frame.clock ≤ clock_of p.settled) nodes

-- A frame that came can be put once the run has come to it, and every other event at once.
abbrev pub IsDue : List ProgressState → BookKind → Type 0
IsDue nodes (Ask client name mode) = Unit {0}
IsDue nodes (Leave client name) = Unit {0}
IsDue nodes (Cancel client name) = Unit {0}
IsDue nodes Forget = Unit {0}
IsDue nodes (Receive frame) = IsReached nodes frame

-- the next event of the node, after those in the run, can be put into it
abbrev pub IsReady : List ProgressState → ProgressState → Type 0
IsReady nodes p = (event : BookEvent) × (slice_get p.waiting 0 ≡ Some event) × IsDue nodes event.kind

-- all that can be put into the run is in it: of each node nothing waits, or a frame waits whose sender's events up to
-- its clock are not all in the run
abbrev pub NoneIsReady : List ProgressState → Type 0
NoneIsReady nodes = All (λ p. IsReady nodes p → ⊥) nodes

-- An event of this node fits after the run: the run goes on with it, and a frame that came was sent in the run, by the
-- event of its sender that has its clock.
pub record FitsRun (world : WorldState) (nodes : List ProgressState) (node : ℕ) (kind : BookKind) : Type 0 where
  pub goes_on : GoesOn world.count world.start world.moves (step_at node kind)
  pub sent : All (WasSentIn nodes world.moves) (frames_in kind)

-- The event is the next one of its node, and could be put, but it does not fit after the run. If it is a frame, all
-- that its sender sent up to the frame's clock is in the run, and the message is not under way, or was not sent with
-- this clock: the frame was never sent, or its message came or was lost before.
pub record IsMisfit (world : WorldState) (nodes : List ProgressState) (fault : AuditFault) : Type 0 where
  pub at_node : Any (λ p. (p.node ≡ fault.node) × (slice_get p.waiting 0 ≡ Some fault.event)) nodes
  pub due : IsDue nodes fault.event.kind
  pub misfit : FitsRun world nodes fault.node fault.event.kind → ⊥

-- an event is due at its node, and fits after the run
abbrev pub CanGoOn : WorldState → List ProgressState → Type 0
CanGoOn world nodes = Any (λ p. (event : BookEvent) × (slice_get p.waiting 0 ≡ Some event) × IsDue nodes event.kind
    × FitsRun world nodes p.node event.kind) nodes

-- ---- Which loss can be put into the run

-- the run has come to none of the frames whose loss is still to be put into it
abbrev pub NoneIsReached : List ProgressState → List Frame → Type 0
NoneIsReached nodes losing = All (λ frame. IsReached nodes frame → ⊥) losing

-- The loss of the frame is still to be put, and all that its sender sent up to the frame's clock is in the run. But its
-- message is not under way, or was not sent with this clock: it came, its loss is in the run already, or the frame was
-- never sent.
pub record IsNotLost (world : WorldState) (nodes : List ProgressState) (losing : List Frame)
    (frame : Frame) : Type 0 where
  pub is_losing : Contains losing frame
  pub reached : IsReached nodes frame
  pub misfit : IsUnderWay world.moves frame.message → WasSentIn nodes world.moves frame → ⊥

-- Something is left to put into the run: an event is due that fits, or no event can be put and some loss is still to be
-- put.
abbrev pub CanBePut : AuditState → Type 0
CanBePut auditor = CanGoOn auditor.world auditor.nodes ⊎ (NoneIsReady auditor.nodes × (auditor.losing ≢ []))

-- ---- What a round does

-- the cluster is audited, and the auditor was made for as many nodes and the same start
pub record IsAuditorOf (cluster : ClusterState) (auditor : AuditState) : Type 0 where
  pub audited : cluster.audited ≡ true
  pub count : auditor.world.count ≡ cluster.nodes
  pub start : auditor.world.start ≡ cluster.start

-- The run went on by some moves, and the observer was told their marks in order. The same events of each node are taken
-- and kept as before.
pub record Advances (old : WorldState) (nodes : List ProgressState) (told : List Mark) (new : WorldState)
    (nodes' : List ProgressState) (told' : List Mark) : Type 0 where
  pub audited : IsAudited new nodes'
  pub count : new.count ≡ old.count
  pub start : new.start ≡ old.start
  pub moves : List Move
  pub goes_on : new.moves ≡ old.moves ++ moves
  pub told_are : told' ≡ told ++ marks_of moves
  pub taken : map taken_of nodes' ≡ map taken_of nodes
  pub kept : map (λ p. p.kept) nodes' ≡ map (λ p. p.kept) nodes

-- the node is the same, and further events of it are taken, or none
pub record GoesOnFrom (old new : ProgressState) : Type 0 where
  pub node : new.node ≡ old.node
  pub taken : (more : List BookEvent) × (taken_of new ≡ taken_of old ++ more)

-- each node goes on from the one of before
abbrev pub TakenGoOn : List ProgressState → List ProgressState → Type 0
TakenGoOn [] [] = Unit {0}
TakenGoOn [] (new ∷ news) = ⊥
TakenGoOn (old ∷ olds) [] = ⊥
TakenGoOn (old ∷ olds) (new ∷ news) = GoesOnFrom old new × TakenGoOn olds news

-- The node's site handed over all that a book of the node had left: further events and, as lost, these frames. What was
-- taken from the book before ends at the clock of the last event that was handed over before. Only the clock is
-- compared.
abbrev pub HandsOver : ProgressState → ProgressState → List Frame → Type 0
HandsOver old new lost = (more : List BookEvent) × (handed_over new ≡ handed_over old ++ more)
    × IsLeftOfBook old.node (clock_of (handed_over old)) more lost

-- the node's site handed over nothing, since it was not asked or refused
abbrev pub HandsNothing : ProgressState → ProgressState → Type 0
HandsNothing old new = handed_over new ≡ handed_over old

-- The sites of the first nodes handed over (`HandsOver`), as many as there are lists: of each, in the order of the
-- nodes, its list has the frames that it handed over as lost. Those of the nodes after these handed over nothing.
abbrev pub AllHandOver : List ProgressState → List ProgressState → List (List Frame) → Type 0
AllHandOver [] [] [] = Unit {0}
AllHandOver [] [] (lost ∷ handed) = ⊥
AllHandOver [] (new ∷ news) handed = ⊥
AllHandOver (old ∷ olds) [] handed = ⊥
AllHandOver (old ∷ olds) (new ∷ news) [] = HandsNothing old new × AllHandOver olds news []
AllHandOver (old ∷ olds) (new ∷ news) (lost ∷ handed) = HandsOver old new lost × AllHandOver olds news handed

-- all that books have handed over is taken
abbrev pub NoneIsKept : List ProgressState → Type 0
NoneIsKept nodes = All (λ p. p.kept ≡ []) nodes

-- Further events were taken from nodes, and the frames that their sites handed over as lost have yet to be lost, after
-- the others. Nothing else has changed.
pub record TakesMore (old new : AuditState) : Type 0 where
  pub taken : TakenGoOn old.nodes new.nodes
  pub handed : List (List Frame)
  pub hands : AllHandOver old.nodes new.nodes handed
  pub losing : new.losing ≡ old.losing ++ flat_map (λ lost. lost) handed
  pub rest : new ≡ record old { nodes = new.nodes; losing = new.losing }
  pub audited : IsAudited new.world new.nodes

-- The same; and if all was taken, each node's site handed over (`HandsOver`).
pub record TakesByAnswer {E : Type 0} (old new : AuditState) (answer : Result (Unit {0}) E) : Type 0 where
  pub more : TakesMore old new
  pub asked : OnOk answer (length more.handed ≡ length new.nodes)

-- Some of the losses that were still to be put are in the run now, or none more. The run has come to the frame of each
-- by the end of the call. The others are still to be put, in any order. So no frame is forgotten, and none is lost more
-- often than noted.
pub record PutsLosses (nodes : List ProgressState) (losing lost losing' lost' : List Frame) : Type 0 where
  pub put : List Frame
  pub lost_are : lost' ≡ lost ++ put
  pub same : IsPermutation losing (put ++ losing')
  pub reached : All (IsReached nodes) put

-- A round of the audit of a cluster: further events were taken from its nodes. The nodes' sites handed over the frames
-- that were noted as lost. The run went on by some moves, and the observer was told their marks in order. It also went
-- on by some of the losses that had yet to be put, those of these frames among them.
pub record Audits (old : AuditState) (told : List Mark) (new : AuditState) (told' : List Mark) : Type 0 where
  pub audited : IsAudited new.world new.nodes
  pub count : new.world.count ≡ old.world.count
  pub start : new.world.start ≡ old.world.start
  pub moves : List Move
  pub goes_on : new.world.moves ≡ old.world.moves ++ moves
  pub told_are : told' ≡ told ++ marks_of moves
  pub taken : TakenGoOn old.nodes new.nodes
  pub handed : List (List Frame)
  pub hands : AllHandOver old.nodes new.nodes handed
  pub losses : PutsLosses new.nodes (old.losing ++ flat_map (λ lost. lost) handed) old.lost new.losing new.lost
  pub lost : HasLost new.world.moves new.lost
  pub sent : AllWereSent new.nodes new.world.moves new.lost

-- The same; and if the round is Ok, each node's site handed over (`HandsOver`).
pub record AuditsByAnswer {E : Type 0} (old : AuditState) (told : List Mark) (new : AuditState) (told' : List Mark)
    (answer : Result (Unit {0}) E) : Type 0 where
  pub audits : Audits old told new told'
  pub asked : OnOk answer (length audits.handed ≡ length new.nodes)

-- ---- What holds of the run

-- What the main theorem says of a run of n nodes, and that it is fair. A table is any table that the marks of the run
-- lead to.
pub record RunTheorem (n : ℕ) (moves : List Move) : Type 0 where
  -- the marks are a run of the lock table
  pub table_run : (table : LockTable) × TableRun (marks_of moves) table
  -- no two conflicting entries on one name hold at once
  pub exclusive : (table : LockTable) → TableRun (marks_of moves) table → IsConflictFree table.holding
  -- conflicting ones are granted in the order of their stamps
  pub in_order : AreGrantedInOrder (marks_of moves)
  -- if nothing was lost and nothing is under way, each waiting request is blocked, so that none could enter
  pub blocked : (table : LockTable) → TableRun (marks_of moves) table → IsQuiet moves
      → All (IsBlocked table) table.waiting
  pub none_may_enter : (table : LockTable) → TableRun (marks_of moves) table → IsQuiet moves
      → All (λ e. MayEnter table e → ⊥) table.waiting
  -- and if none waits and nothing was repeated or withdrawn, exactly two messages were sent for each request and other
  -- node
  pub count : (table : LockTable) → TableRun (marks_of moves) table → IsQuiet moves → repeated_by moves ≡ []
      → withdrawn_in (marks_of moves) ≡ 0 → table.waiting ≡ [] → MeetsMessageCount n moves
  -- each other node overtakes a waiting request at most once after its REQUEST has arrived there
  pub fair : IsFair n moves

-- ---- Taking events

-- this holds of what is known of the node with this number, if there is one
abbrev pub AtNumber : List ProgressState → ℕ → (ProgressState → Type 0) → Type 0
AtNumber nodes node P = (p : ProgressState) × (slice_get nodes (node - 1) ≡ Some p) × P p

-- the same, with these events after those that wait
abbrev pub with_more : ProgressState → List BookEvent → ProgressState
with_more p events = record p { waiting = p.waiting ++ events }

-- How events of a node are taken that come after one with this clock: they come after those that were taken, or
-- nothing changes. `Memory` is the only other error.
pub record Takes (nodes : List ProgressState) (node after : ℕ) (events : List BookEvent)
    (answer : Result (Unit {0}) TakeError) (nodes' : List ProgressState) : Type 0 where
  pub ok : OnOk answer (AtNumber nodes node (λ p. nodes' ≡ slice_set nodes (node - 1) (with_more p events)))
  pub no_node : IsErrOf answer NoNode ↔ (length nodes < node)
  pub out_of_turn : IsErrOf answer OutOfTurn ↔ AtNumber nodes node (λ p. after ≢ clock_of (taken_of p))
  pub not_next : IsErrOf answer NotNext ↔ AtNumber nodes node (λ p. (after ≡ clock_of (taken_of p))
      × (AreNextAt p.node (clock_of (taken_of p)) events → ⊥))
  pub err : OnErr answer (nodes' ≡ nodes)

-- the events that are kept of the node can be its next ones, after those that were taken
abbrev pub KeptAreNext : ProgressState → Type 0
KeptAreNext p = AreNextAt p.node (clock_of (taken_of p)) p.kept

-- the node's site handed over nothing, or these frames and further events (`HandsOver`)
abbrev pub MayHandOver : ProgressState → ProgressState → List Frame → Type 0
MayHandOver p q handed = (HandsNothing p q × (handed ≡ [])) ⊎ HandsOver p q handed

-- What is known about a node after its site handed over what has happened and these lost frames, or nothing.
-- It goes on from before, with the same events in the run. If the answer is Ok, the site handed over (`HandsOver`), and
-- nothing is kept. If it is OutOfTurn, nothing is kept either, and nothing was handed over. It is NotNext exactly if
-- what is kept can't be the node's next events. Memory is the only other error; then what is kept can be the next
-- events.
pub record TakesOver (p q : ProgressState) (handed : List Frame) (answer : Result (Unit {0}) TakeError) : Type 0 where
  pub goes_on : GoesOnFrom p q
  pub hands : MayHandOver p q handed
  pub all : OnOk answer (HandsOver p q handed)
  pub settled : q.settled ≡ p.settled
  pub ok : OnOk answer (q.kept ≡ [])
  pub no_node : IsErrOf answer NoNode → ⊥
  pub out_of_turn : IsErrOf answer OutOfTurn → (q.kept ≡ []) × (handed_over q ≡ handed_over p) × (handed ≡ [])
  pub not_next : IsErrOf answer NotNext ↔ (KeptAreNext q → ⊥)
  pub memory : IsErrOf answer Memory → KeptAreNext q

-- How an auditor takes what the site of a node hands over. If there is no such node, it says so, and nothing changes.
-- Otherwise the node goes on from before, and the other nodes are as before. The frames that were handed over as lost
-- are still to be lost, after the others, whatever the answer.
abbrev pub TakesHanded : List ProgressState → List Frame → ℕ → Result (Unit {0}) TakeError → List ProgressState
    → List Frame → Type 0
TakesHanded nodes losing node answer nodes' losing' =
    ((length nodes < node) × IsErrOf answer NoNode × (nodes' ≡ nodes) × (losing' ≡ losing))
    ⊎ AtNumber nodes node (λ p. (q : ProgressState) × (handed : List Frame) × TakesOver p q handed answer
    × (nodes' ≡ slice_set nodes (node - 1) q) × (losing' ≡ losing ++ handed))

-- Further events were taken from the node with this number, and the frames that its site handed over as lost have yet
-- to be lost, after the others. Nothing else has changed.
pub record TakesMoreAt (old : AuditState) (number : ℕ) (new : AuditState) : Type 0 where
  pub taken : TakenGoOn old.nodes new.nodes
  pub handed : List Frame
  pub at_node : number ≤ length old.nodes → AtNumber old.nodes number (λ p. (q : ProgressState) × MayHandOver p q handed
      × (new.nodes ≡ slice_set old.nodes (number - 1) q))
  pub losing : new.losing ≡ old.losing ++ handed
  pub rest : new ≡ record old { nodes = new.nodes; losing = new.losing }
  pub audited : IsAudited new.world new.nodes

-- Nothing is kept of the node any more, and the other nodes are as before. The node's site handed over further events,
-- and frames that are still to be lost, after the others (`HandsOver`).
abbrev pub TakesAllAt : List ProgressState → List Frame → ℕ → List ProgressState → List Frame → Type 0
TakesAllAt nodes losing node nodes' losing' = AtNumber nodes node (λ p. (q : ProgressState) × (q.kept ≡ [])
    × (nodes' ≡ slice_set nodes (node - 1) q) × (handed : List Frame) × HandsOver p q handed
    × (losing' ≡ losing ++ handed))

-- Why the events of a node were not taken, by what is known of it now. OutOfTurn: nothing is kept. NotNext: what is
-- kept can't be its next events. Memory: what is kept can be.
abbrev pub IsCauseAt : TakeError → ProgressState → Type 0
IsCauseAt NoNode p = ⊥
IsCauseAt OutOfTurn p = p.kept ≡ []
IsCauseAt NotNext p = KeptAreNext p → ⊥
IsCauseAt Memory p = KeptAreNext p

-- the events of the node were not taken for this cause, and the other nodes are as before
abbrev pub NotTakenAt : List ProgressState → ℕ → TakeError → List ProgressState → Type 0
NotTakenAt nodes node cause nodes' = (p : ProgressState) × (slice_get nodes (node - 1) ≡ Some p)
    × (q : ProgressState) × IsCauseAt cause q × (nodes' ≡ slice_set nodes (node - 1) q)

-- The events of this node were not taken for this cause. Nothing is kept of the nodes before it.
pub record IsNotTaken (nodes : List ProgressState) (node : ℕ) (cause : TakeError) : Type 0 where
  pub at_node : AtNumber nodes node (IsCauseAt cause)
  pub before : AllWithin (λ p. p.kept ≡ []) nodes 0 (node - 1)

-- ---- What is left at the end

-- The next event of the node is a frame that came, and none of the events that were taken from the frame's sender has
-- its clock. If all events of the sender were taken, the frame was never sent.
pub record IsNeverSent (nodes : List ProgressState) (fault : AuditFault) : Type 0 where
  pub at_node : Any (λ p. (p.node ≡ fault.node) × (slice_get p.waiting 0 ≡ Some fault.event)) nodes
  pub frame : Frame
  pub came : fault.event.kind ≡ Receive frame
  pub no_event : All (λ p. p.node ≡ from_of frame.message → All (λ e. e.clock ≢ frame.clock) (taken_of p)) nodes

-- no event that was taken and is not in the run has a lesser clock than this one
abbrev pub IsLeastLeft : List ProgressState → AuditFault → Type 0
IsLeastLeft nodes fault = All (λ p. All (λ event. fault.event.clock ≤ event.clock) p.waiting) nodes

-- The frame is still to be lost, and the events of its sender that are in the run end before the frame's clock. If they
-- are all events of the sender, the frame was never sent.
pub record IsAhead (nodes : List ProgressState) (losing : List Frame) (frame : Frame) : Type 0 where
  pub is_losing : Contains losing frame
  pub ahead : All (λ p. p.node ≡ from_of frame.message → clock_of p.settled < frame.clock) nodes

-- ---- What waits after a round

-- of each node, the clock of the last event that was taken from it, or 0 before the first
abbrev pub clocks_taken : List ProgressState → List ℕ
clocks_taken nodes = map (λ p. clock_of (taken_of p)) nodes

-- the clock of the node with this number among these, or 0
abbrev pub clock_at : List ℕ → ℕ → ℕ
clock_at clocks node = slice_index_or clocks (node - 1) 0

-- The event that sent the frame may still be put into the run: the sender's events that were taken come to the frame's
-- clock, and one waits that is not after it; or they do not, and the frame is new, so that the event may yet be taken.
abbrev pub MayComeFrom : ℕ → Type 0 → ProgressState → Type 0
MayComeFrom clock IsNew s =
    ((clock ≤ clock_of (taken_of s)) × (first : BookEvent) × (slice_get s.waiting 0 ≡ Some first)
    × (first.clock ≤ clock))
    ⊎ ((clock_of (taken_of s) < clock) × IsNew)

-- of a frame that came, this holds of its sender
abbrev pub MayCome : List ProgressState → Type 0 → BookKind → Type 0
MayCome nodes IsNew (Ask client name mode) = Unit {0}
MayCome nodes IsNew (Leave client name) = Unit {0}
MayCome nodes IsNew (Cancel client name) = Unit {0}
MayCome nodes IsNew Forget = Unit {0}
MayCome nodes IsNew (Receive frame) = All (λ s. s.node ≡ from_of frame.message → MayComeFrom frame.clock IsNew s) nodes

-- The node's next event, if one waits, may still be put into the run. A frame is new if it was taken after the nodes
-- had these clocks.
abbrev pub MayBePut : List ℕ → List ProgressState → ProgressState → Type 0
MayBePut clocks nodes p = (event : BookEvent) → slice_get p.waiting 0 ≡ Some event
    → MayCome nodes (clock_at clocks p.node < event.clock) event.kind

-- The next event of the node is a frame that came, and no event of its sender has its clock: no event that was taken
-- has it, and they go past it, or the frame was taken by the time at which the nodes had these clocks. The second case
-- requires that all events of the sender up to that time have been taken since.
pub record IsUnsent (clocks : List ℕ) (nodes : List ProgressState) (fault : AuditFault) : Type 0 where
  pub never_sent : IsNeverSent nodes fault
  pub sure : All (λ s. s.node ≡ from_of never_sent.frame.message
      → (never_sent.frame.clock < clock_of (taken_of s)) ⊎ (fault.event.clock ≤ clock_at clocks fault.node)) nodes

-- What a round of the audit of a cluster answers, and how it changes the auditor and the marks that were told.
pub record AnswersRound (cluster : ClusterState) (old : AuditState) (told : List Mark) (new : AuditState)
    (told' : List Mark)
    (answer : Result (Unit {0}) RoundError) : Type 0 where
  pub audits : Audits old told new told'
  pub theorem : RunTheorem new.world.count new.world.moves
  -- the auditor is one of the cluster
  pub fits : OnOk answer (IsAuditorOf cluster old)
  pub ok : OnOk answer (NoneIsReady new.nodes)
  pub none_reached : OnOk answer (NoneIsReached new.nodes new.losing)
  pub kept : OnOk answer (NoneIsKept new.nodes)
  -- each site handed over (`HandsOver`)
  pub asked : OnOk answer (length audits.handed ≡ length new.nodes)
  pub may_be_put : OnOk answer (All (MayBePut (clocks_taken old.nodes) new.nodes) new.nodes)
  pub not_audited : IsErrOf answer NotAudited ↔ (cluster.audited ≡ false)
  pub other_cluster : IsErrOf answer OtherCluster ↔ ((cluster.audited ≡ true) × (IsAuditorOf cluster old → ⊥))
  pub unchanged : (IsAuditorOf cluster old → ⊥) → new ≡ old
  pub known : (fault : AuditFault) → IsAuditorOf cluster old → old.fault ≡ Some fault
      → IsErrOf answer (Fault fault) × (new ≡ old)
  pub found : (fault : AuditFault) → old.fault ≡ None → IsErrOf answer (Fault fault)
      → IsMisfit new.world new.nodes fault ⊎ IsUnsent (clocks_taken old.nodes) new.nodes fault
  -- so after a round of its cluster, an auditor has a fault exactly if the round answered it
  pub fault : (fault : AuditFault) → IsAuditorOf cluster old → IsErrOf answer (Fault fault) ↔ (new.fault ≡ Some fault)
  pub not_lost : (frame : Frame) → IsErrOf answer (NotLost frame)
      → NoneIsReady new.nodes × IsNotLost new.world new.nodes new.losing frame
  -- nothing was done, or something is left to put
  pub memory : IsErrOf answer round.Memory → ((new ≡ old) × (told' ≡ told)) ⊎ CanBePut new
  pub not_taken : (node : ℕ) (cause : TakeError) → IsErrOf answer (NotTaken node cause)
      → NoneIsReady new.nodes × NoneIsReached new.nodes new.losing × IsNotTaken new.nodes node cause

-- what the last round answered, by what the end of an audit did: `Ok`, unless that round was refused
abbrev pub last_round : Result (Unit {0}) FinishError → Result (Unit {0}) RoundError
last_round (Ok done) = Ok done
last_round (Err (Round refused)) = Err refused
last_round (Err (NeverSent fault)) = Ok tt
last_round (Err (LostUnsent frame)) = Ok tt

-- no event that was taken waits
abbrev pub NoneWaits : List ProgressState → Type 0
NoneWaits nodes = All (λ p. p.waiting ≡ []) nodes

-- ---- What the books say at the end

-- All of the history of the book is in the run, by the clock: it is the book of the node, and its last event has the
-- clock of the node's last event in the run.
pub record IsAllIn (p : ProgressState) (book : BookState) : Type 0 where
  pub me : book.me ≡ p.node
  pub clock : clock_of (whole_events book) ≡ clock_of p.settled

-- this holds of the node and the book at this place, if there are both
abbrev pub IsAllInAt : List ProgressState → List BookState → ℕ → Type 0
IsAllInAt nodes books place = (p : ProgressState) (book : BookState) → slice_get nodes place ≡ Some p
    → slice_get books place ≡ Some book → IsAllIn p book

-- there is a book for each node, in their order, and all of its history is in the run
pub record AreAllIn (nodes : List ProgressState) (books : List BookState) : Type 0 where
  pub count : length books ≡ length nodes
  pub all : (place : ℕ) → IsAllInAt nodes books place

-- At some place are the node with this number and a book that is not all in the run. All of the history of each book
-- before it is.
pub record IsFirstNotAllIn (nodes : List ProgressState) (books : List BookState) (node : ℕ) : Type 0 where
  pub place : ℕ
  pub p : ProgressState
  pub book : BookState
  pub at : slice_get nodes place ≡ Some p
  pub book_at : slice_get books place ≡ Some book
  pub number : node ≡ p.node
  pub not_all : IsAllIn p book → ⊥
  pub before : (earlier : ℕ) → earlier < place → IsAllInAt nodes books earlier

-- the frames that these books still have flagged lost, by node and in order of sending
abbrev pub still_lost : List BookState → List Frame
still_lost books = flat_map (λ book. lost_frames book.sent) books

-- ---- The end of an audit

-- Why an audit did not end: its last round was refused, or a frame that came or was noted as lost was never sent.
abbrev pub RefusesFinish : AuditState → FinishError → Type 0
RefusesFinish auditor (Round refused) = Unit {0}
RefusesFinish auditor (NeverSent fault) = IsNeverSent auditor.nodes fault × IsLeastLeft auditor.nodes fault
RefusesFinish auditor (LostUnsent frame) = NoneWaits auditor.nodes × IsAhead auditor.nodes auditor.losing frame

-- all that was taken is in the run, and no loss is still to be put
pub record HasAllIn (auditor : AuditState) : Type 0 where
  pub none_waits : NoneWaits auditor.nodes
  pub none_losing : auditor.losing ≡ []

-- An audit ended, and all that the books of its cluster say is in the run, by the clock. None of the frames that they
-- still have is flagged lost.
pub record ClosesAudit (auditor : AuditState) (books : List BookState) : Type 0 where
  pub all_in : HasAllIn auditor
  pub books_in : AreAllIn auditor.nodes books
  pub none_lost : still_lost books ≡ []
  pub histories : All HasHistory books

-- Why a cluster was not closed so, with the cluster, if it was not closed, and otherwise its books.
abbrev pub RefusesClose : ClusterState → AuditState → CloseError → Option ClusterState → List BookState → Type 0
RefusesClose cluster auditor (NotFinished cause) kept books =
    (kept ≡ Some cluster) × (books ≡ []) × RefusesFinish auditor cause
RefusesClose cluster auditor (Behind node) kept books =
    (kept ≡ None) × HasAllIn auditor × All HasHistory books × IsFirstNotAllIn auditor.nodes books node
RefusesClose cluster auditor (StillLost frame) kept books =
    (kept ≡ None) × HasAllIn auditor × All HasHistory books × AreAllIn auditor.nodes books
    × (slice_get (still_lost books) 0 ≡ Some frame)

-- what the last round answered, by what the close of a cluster did
abbrev pub round_of : CloseError → Result (Unit {0}) RoundError
round_of (NotFinished cause) = last_round (Err cause)
round_of (Behind node) = Ok tt
round_of (StillLost frame) = Ok tt
