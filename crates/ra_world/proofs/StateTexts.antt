-- Lines of numbered things and of listed ones, which grow by one line at a time.
use Rattle.std.proofs.Common.{◌≡◌, ℕ, zero, suc, ◌+◌, ◌-◌, ◌<◌, List, [], ◌∷◌, ◌++◌, flat_map, take, length, get_or, Some, refl, sym, ap, ◌∙◌, subst, arith, append_assoc}
use Rattle.std.specs.Prelude.{Bool, true, Option, None, is_some, not, if◌then◌else◌, slice_get}
use Rattle.std.specs.List.{range_with_len}
use Rattle.std.specs.Ordering.{nat_cmp}
use Rattle.std.specs.FinSet as set
use Rattle.std.specs.FinMap as map
use Rattle.std.proofs.lemmas.Bool.{false≢true}
use Rattle.std.proofs.lemmas.List.{take_more, flat_map_more, append-nil, get_or_default, length-take-le}
use Rattle.ra_stamp.specs.declared.entry.Entry.{Entry}
use Rattle.ra_stamp.specs.declared.message.Message.{Message}
use Rattle.ra_stamp.specs.NodeId.{IsNodeNumber}
use Rattle.ra_automaton.specs.State.{State, IsWaitingPhase}
use Rattle.ra_automaton.specs.declared.phase.Phase.{Phase}
use Rattle.ra_automaton.specs.declared.phase.Phase.TheVariants.{Idle, Waiting, Inside}
use Rattle.ra_node.specs.Resource.{ClientFits, Use, use_in, waiting_entry, held_entry, waiter_of, holder_of}
use Rattle.ra_node.specs.Resource.Use.{Nobody, WaitsBy, HoldsBy}
use Rattle.ra_node.specs.Node.{NodeState, opening_node, resource_at, IsConsistentNode}
use Rattle.ra_table.specs.Table.{LockTable, TableRun}
use Rattle.ra_world.specs.Traffic.{Move}
use Rattle.ra_world.specs.Run.{IsRun, EndsWith, marks_of}
use Rattle.ra_world.specs.AtNodes.{IsTableOf}
use Rattle.ra_world.specs.Keeping.{nodes_of, Keeps}
use Rattle.ra_world.specs.StateLines.{awaits_line, awaited_line, awaited_lines, defers_line, deferred_line, deferred_lines, others_lines, message_line, message_lines, state_text, IsStateText}

-- ---- Numbered things

range_push : (first n : ℕ) → range_with_len first (suc n) ≡ range_with_len first n ++ (first + n) ∷ []
range_push first zero = ap (λ (x : ℕ). x ∷ []) (omega arith)
range_push first (suc n) =
    let next : (first + 1) + n ≡ first + suc n = omega arith in
    ap (λ (xs : List ℕ). first ∷ xs) (range_push (first + 1) n ∙ ap (λ (x : ℕ). range_with_len (first + 1) n ++ x ∷ []) next)

-- the numbers from 1, one more
range_more : (n j : ℕ) → j ≡ n + 1 → range_with_len 1 (n + 1) ≡ range_with_len 1 n ++ j ∷ []
range_more n j is =
    let next : n + 1 ≡ suc n = omega arith in
    let same : 1 + n ≡ j = omega (arith, is) in
    ap (λ (k : ℕ). range_with_len 1 k) next ∙ range_push 1 n ∙ ap (λ (x : ℕ). range_with_len 1 n ++ x ∷ []) same

-- the lines of the next number are added
pub next_lines : (f : ℕ → List ℕ) (old mid new : List ℕ) (n j : ℕ) → mid ≡ old ++ flat_map f (range_with_len 1 n) → j ≡ n + 1 → new ≡ mid ++ f j
    → new ≡ old ++ flat_map f (range_with_len 1 (n + 1))
next_lines f old mid new n j so_far is more =
    more ∙ ap (λ (xs : List ℕ). xs ++ f j) so_far ∙ flat_map_more f old (range_with_len 1 n) j
    ∙ ap (λ (ks : List ℕ). old ++ flat_map f ks) (sym (range_more n j is))

-- ---- Listed things

-- the lines of the next item are added
pub next_item : {X : Type 0} (f : X → List ℕ) (old mid new : List ℕ) (xs : List X) (n : ℕ) (x : X) → mid ≡ old ++ flat_map f (take n xs) → n < length xs → x ≡ get_or xs n x
    → new ≡ mid ++ f x → new ≡ old ++ flat_map f (take (n + 1) xs)
next_item {X} f old mid new xs n x so_far within is more =
    let next : take (n + 1) xs ≡ take n xs ++ x ∷ [] = take_more xs n x within ∙ ap (λ (y : X). take n xs ++ y ∷ []) (sym is) in
    more ∙ ap (λ (ys : List ℕ). ys ++ f x) so_far ∙ flat_map_more f old (take n xs) x
    ∙ ap (λ (ys : List X). old ++ flat_map f ys) (sym next)

-- what is at a place
pub at_place : {X : Type 0} (xs : List X) (k : ℕ) (x : X) → slice_get xs k ≡ Some x → (k < length xs) × (x ≡ get_or xs k x)
at_place [] k x e = absurd cc
at_place (y ∷ xs) zero x e = (omega arith, cc)
at_place (y ∷ xs) (suc k) x e = let (within, is) = at_place xs k x e in (omega (arith, within), is)

-- something is at each place of a list
pub some_there : {X : Type 0} (xs : List X) (k : ℕ) → k < length xs → slice_get xs k ≡ None → ⊥
some_there [] k within none = omega (arith, within)
some_there (y ∷ xs) zero within none = cc
some_there (y ∷ xs) (suc k) within none = some_there xs k (omega (arith, within)) none

-- ---- Messages

message_lines_more : (place : ℕ) (ms : List Message) (m : Message) → message_lines place (ms ++ m ∷ []) ≡ message_lines place ms ++ message_line (place + length ms) m
message_lines_more place [] m =
    let same : place ≡ place + 0 = omega arith in append-nil (message_line place m) ∙ ap (λ (k : ℕ). message_line k m) same
message_lines_more place (x ∷ ms) m =
    let same : (place + 1) + length ms ≡ place + suc (length ms) = omega arith in
    ap (λ (ys : List ℕ). message_line place x ++ ys) (message_lines_more (place + 1) ms m ∙ ap (λ (k : ℕ). message_lines (place + 1) ms ++ message_line k m) same)
    ∙ sym (append_assoc (message_line place x) (message_lines (place + 1) ms) (message_line (place + suc (length ms)) m))

-- the line of the next message is added
pub next_message : (old mid new : List ℕ) (ms : List Message) (n : ℕ) (m : Message) → mid ≡ old ++ message_lines 0 (take n ms) → n < length ms → m ≡ get_or ms n m
    → new ≡ mid ++ message_line n m → new ≡ old ++ message_lines 0 (take (n + 1) ms)
next_message old mid new ms n m so_far within is more =
    let next : take (n + 1) ms ≡ take n ms ++ m ∷ [] = take_more ms n m within ∙ ap (λ (y : Message). take n ms ++ y ∷ []) (sym is) in
    let count : length (take n ms) ≡ n = length-take-le n ms (omega (arith, within)) in
    let at : 0 + length (take n ms) ≡ n = omega (arith, count) in
    more ∙ ap (λ (ys : List ℕ). ys ++ message_line n m) so_far
    ∙ append_assoc old (message_lines 0 (take n ms)) (message_line n m)
    ∙ ap (λ (ys : List ℕ). old ++ ys)
    (ap (λ (k : ℕ). message_lines 0 (take n ms) ++ message_line k m) (sym at) ∙ sym (message_lines_more 0 (take n ms) m) ∙ ap (message_lines 0) (sym next))

-- ---- Nodes

-- the node at a place of the list is that with the number after it
pub node_at : (nodes : List NodeState) (place : ℕ) (state : NodeState) → place < length nodes → state ≡ get_or nodes place state → nodes_of nodes (place + 1) ≡ state
node_at nodes place state within is =
    let at : (place + 1) - 1 ≡ place = omega arith in
    ap (λ (k : ℕ). get_or nodes k (opening_node 0 0 0)) at ∙ get_or_default nodes place (opening_node 0 0 0) state within ∙ sym is

-- ---- Nobody is awaited or deferred

-- what is not something is nothing
pub nothing : {X : Type 0} (found : Option X) (none : Bool) → is_some found ≡ not none → none ≡ true → found ≡ None
nothing None none is holds = refl
nothing (Some x) none is holds = absurd (false≢true (sym (is ∙ ap not holds)))

none_of : (f : ℕ → List ℕ) (xs : List ℕ) → ((x : ℕ) → f x ≡ []) → flat_map f xs ≡ []
none_of f [] none = refl
none_of f (x ∷ xs) none = ap (λ (ys : List ℕ). ys ++ flat_map f xs) (none x) ∙ none_of f xs none

-- a node without a request is idle
no_request : (s : State) (phase : Phase) (client : Option ℕ) → ClientFits phase client → waiting_entry (use_in s phase client) ≡ None
    → held_entry (use_in s phase client) ≡ None → phase ≡ Idle
no_request s Idle client fits not_waiting not_held = refl
no_request s (Waiting seq mode) (Some client) fits not_waiting not_held = absurd cc
no_request s (Waiting seq mode) None fits not_waiting not_held = absurd (false≢true fits)
no_request s (Inside seq mode) (Some client) fits not_waiting not_held = absurd cc
no_request s (Inside seq mode) None fits not_waiting not_held = absurd (false≢true fits)

-- and has no lines of other nodes
pub no_others : (n i : ℕ) (name : List ℕ) (node : NodeState) → IsConsistentNode node → waiter_of (resource_at node name) ≡ None → holder_of (resource_at node name) ≡ None
    → others_lines n i name (resource_at node name).state ≡ []
no_others n i name node consistent not_waiting not_held =
    let r = resource_at node name in
    let fits = consistent.each name in
    let idle : r.state.phase ≡ Idle = no_request r.state r.state.phase r.client fits.client_fits not_waiting not_held in
    let awaits : r.state.awaited ≡ set.empty = fits.state.awaits_only (subst IsWaitingPhase idle) in
    let defers : r.state.deferred ≡ map.empty = fits.state.defers_only idle in
    let no_awaited : awaited_lines n i name r.state ≡ [] = none_of (awaited_line i name r.state) (range_with_len 1 n) (λ other.
    ap (λ (b : Bool). if b then awaits_line i name other else []) (ap (λ (q : set.FinSet nat_cmp). set.contains q other) awaits ∙ set.contains-empty nat_cmp other)) in
    let no_deferred : deferred_lines n i name r.state ≡ [] = none_of (deferred_line i name r.state) (range_with_len 1 n) (λ other.
    ap (defers_line i name other) (ap (λ (q : map.FinMap nat_cmp ℕ). map.get q other) defers ∙ map.get-empty nat_cmp other)) in
    ap (λ (xs : List ℕ). xs ++ deferred_lines n i name r.state) no_awaited ∙ no_deferred

-- ---- The state of a world

-- what is kept of a run tells this about it
pub state_here : (start : ℕ) (nodes : List NodeState) (left : List Message) (moves : List Move) (names : List (List ℕ)) (clients text : List ℕ)
    → Keeps start nodes left moves
    → ((n start : ℕ) (moves : List Move) → IsNodeNumber n → IsRun n start moves → (table : LockTable) × TableRun (marks_of moves) table)
    → ((n start : ℕ) (moves : List Move) (nodes : ℕ → NodeState) (table : LockTable) → IsNodeNumber n → IsRun n start moves → EndsWith n start moves nodes
    → TableRun (marks_of moves) table → IsTableOf n nodes table)
    → text ≡ state_text (length nodes) (length moves) names (nodes_of nodes) left clients → IsStateText (length nodes) start moves names clients text
state_here start nodes left moves names clients text keeps exists told is =
    let (table, marked) = exists (length nodes) start moves keeps.count keeps.run in
    record {
      nodes = nodes_of nodes;
      ends = keeps.ends;
      left = left;
      under_way = keeps.under_way;
      table = table;
      marked = marked;
      at_nodes = told (length nodes) start moves (nodes_of nodes) table keeps.count keeps.run keeps.ends marked;
      text_is = is;
    }

-- ---- What a node's clients make of a name

pub use_waiting : (u : Use) (e : Entry) → waiting_entry u ≡ Some e → u ≡ WaitsBy e
use_waiting Nobody e is = absurd cc
use_waiting (WaitsBy x) e is = let same : x ≡ e = cc in ap WaitsBy same
use_waiting (HoldsBy x) e is = absurd cc

pub use_holding : (u : Use) (e : Entry) → held_entry u ≡ Some e → u ≡ HoldsBy e
use_holding Nobody e is = absurd cc
use_holding (WaitsBy x) e is = absurd cc
use_holding (HoldsBy x) e is = let same : x ≡ e = cc in ap HoldsBy same

pub use_nobody : (u : Use) → waiting_entry u ≡ None → held_entry u ≡ None → u ≡ Nobody
use_nobody Nobody not_waiting not_held = refl
use_nobody (WaitsBy x) not_waiting not_held = absurd cc
use_nobody (HoldsBy x) not_waiting not_held = absurd cc
