-- A run in which one request overtakes another although its REQUEST has arrived: two nodes ask at once, and the lower
-- one goes first.
use Rattle.std.proofs.Common.{◌≡◌, ◌≢◌, ℕ, zero, suc, ◌+◌, ◌-◌, ◌<◌, cond, true, false, max, map, get_or, List, [], ◌∷◌, ◌++◌, Contains, Some, refl, sym, ap, ◌∙◌, subst, arith, inl, inr}
use Rattle.std.specs.FinSet as set
use Rattle.std.specs.FinMap as finmap
use Rattle.std.specs.Cmp.{nat_cmp_total}
use Rattle.std.specs.Ordering.{nat_cmp}
use Rattle.std.proofs.lemmas.List.Elements.{All-nil, All-cons}
use Rattle.ra_stamp.specs.declared.entry.Entry.{Entry}
use Rattle.ra_stamp.specs.declared.entry.Mark.TheVariants.{Requested, Entered}
use Rattle.ra_stamp.specs.declared.message.Message.{Message}
use Rattle.ra_stamp.specs.declared.message.Message.TheVariants.{Request, Reply}
use Rattle.ra_stamp.specs.declared.mode.Mode.TheVariants.{Exclusive}
use Rattle.ra_stamp.specs.Message.{from_of}
use Rattle.ra_stamp.specs.Mode.{compatible, Conflict}
use Rattle.ra_automaton.specs.declared.phase.Phase.TheVariants.{Waiting, Inside}
use Rattle.ra_automaton.specs.State.{State, opening}
use Rattle.ra_automaton.specs.Steps.{others_of, later_of, Awaits}
use Rattle.ra_automaton.proofs.Consistent.{other_is_asked}
use Rattle.ra_node.specs.Resource.{Resource, unmet}
use Rattle.ra_node.specs.Turns.{AskTurn, ReceiveTurn}
use Rattle.ra_node.specs.Node.{NodeState, opening_node, with_resource}
use Rattle.ra_node.specs.Events.{AskEvent, ReceiveEvent}
use Rattle.ra_node.proofs.Lookups.{nothing_met, resource_changed}
use Rattle.ra_table.specs.Table.{LockTable, TableRun}
use Rattle.ra_table.proofs.Kept.{empty_may}
use Rattle.ra_world.specs.declared.step.Step.TheVariants.{Ask, Deliver}
use Rattle.ra_world.specs.Fairness.{request_to, NoneIsMissing, Overtakes}
use Rattle.ra_world.specs.Run.{IsRun, EndsWith, marks_of}
use Rattle.ra_world.specs.Traffic.{Move, LeavesUnderWay}
use Rattle.ra_world.proofs.Reached.{one_list}

abbrev r : List ℕ
r = 114 ∷ []

-- the client of each node has the node's number
abbrev entry_of_node : ℕ → Entry
entry_of_node i = record { name = r; stamp = record { seq = 1; node = i }; client = i; mode = Exclusive }

abbrev request_from : ℕ → ℕ → Message
request_from i j = Request i j r Exclusive 1

exclusive_excludes : Conflict Exclusive Exclusive
unfolding compatible
exclusive_excludes = refl

-- ---- What happens at a node

abbrev asked : ℕ → State
asked i = record (opening i 2 r 0) { highest = 1; phase = Waiting 1 Exclusive; awaited = set.from_list (others_of i 2) }

abbrev at_client : ℕ → State → Resource
at_client i s = record { state = s; client = Some i; queue = [] }

asks : (i j : ℕ) → others_of i 2 ≡ j ∷ [] → AskTurn (unmet i 2 r 0) i Exclusive (request_from i j ∷ []) (Requested (entry_of_node i) ∷ []) (at_client i (asked i))
asks i j other = (
  record { not_busy = λ at. absurd (omega (arith, at.1)); number_left = omega arith },
  inl (record {
    entered = false;
    step = record {
      idle = refl;
      number_left = omega arith;
      sends_are = λ k. map (λ o. request_from i o) (sym other k);
      begins = inl (record { others = omega arith; entered_is = refl; new_is = refl });
    };
    marks_are = refl;
    client_is = refl;
    queue_is = refl;
  }),
)

abbrev node_asked : ℕ → NodeState
node_asked i = with_resource (opening_node i 2 0) r (at_client i (asked i))

ask_event : (i j : ℕ) → others_of i 2 ≡ j ∷ [] → AskEvent (opening_node i 2 0) i r Exclusive (request_from i j ∷ []) (Requested (entry_of_node i) ∷ []) (node_asked i)
ask_event i j other = record {
  resource = at_client i (asked i);
  turn = subst (λ (x : Resource). AskTurn x i Exclusive (request_from i j ∷ []) (Requested (entry_of_node i) ∷ []) (at_client i (asked i))) (sym (nothing_met i 2 0 r)) (asks i j other);
  new_is = refl;
}

-- node 1 defers the REQUEST of node 2
abbrev deferring : State
deferring = record (asked 1) { highest = max 1 1; deferred = finmap.insert (asked 1).deferred 2 (later_of (finmap.get (asked 1).deferred 2) 1) }

abbrev node_deferring : NodeState
node_deferring = with_resource (node_asked 1) r (at_client 1 deferring)

defers : ReceiveTurn (at_client 1 (asked 1)) (request_from 2 1) [] [] (at_client 1 deferring)
defers = record {
  entered = false;
  step = (refl, inl (record { own_first = record { excludes = exclusive_excludes; earlier = inr (refl, omega arith) }; sends_are = refl; new_is = refl }));
  enters = refl;
  client_is = refl;
  queue_is = refl;
}

defer_event : ReceiveEvent (node_asked 1) (request_from 2 1) [] [] node_deferring
defer_event = record {
  resource = at_client 1 deferring;
  turn = subst (λ (x : Resource). ReceiveTurn x (request_from 2 1) [] [] (at_client 1 deferring)) (sym (resource_changed (opening_node 1 2 0) r (at_client 1 (asked 1)))) defers;
  after_stray = λ stray. absurd stray;
  after_other = λ _. refl;
}

-- node 2 lets the REQUEST of node 1 pass
abbrev reply : Message
reply = Reply 2 1 r 1

abbrev passing : State
passing = record (asked 2) { highest = max 1 1 }

abbrev node_passing : NodeState
node_passing = with_resource (node_asked 2) r (at_client 2 passing)

passes : ReceiveTurn (at_client 2 (asked 2)) (request_from 1 2) (reply ∷ []) [] (at_client 2 passing)
passes = record {
  entered = false;
  step = (
    refl,
    inr (record {
      not_first = λ first. elim first.earlier [ inl below ↦ omega (arith, below) | inr same ↦ omega (arith, same.1) ];
      sends_are = refl;
      new_is = refl;
    }),
  );
  enters = refl;
  client_is = refl;
  queue_is = refl;
}

pass_event : ReceiveEvent (node_asked 2) (request_from 1 2) (reply ∷ []) [] node_passing
pass_event = record {
  resource = at_client 2 passing;
  turn = subst (λ (x : Resource). ReceiveTurn x (request_from 1 2) (reply ∷ []) [] (at_client 2 passing)) (sym (resource_changed (opening_node 2 2 0) r (at_client 2 (asked 2)))) passes;
  after_stray = λ stray. absurd stray;
  after_other = λ _. refl;
}

-- so node 1 enters
abbrev inside : State
inside = record deferring { phase = Inside 1 Exclusive; awaited = set.empty }

abbrev node_inside : NodeState
node_inside = with_resource node_deferring r (at_client 1 inside)

awaits_two : Awaits deferring 2 1 Exclusive
awaits_two = record { waits = refl; awaited = other_is_asked 1 2 2 (omega arith) (omega arith) (λ same. omega (arith, same)) }

abbrev two : set.FinSet nat_cmp
two = set.from_list (2 ∷ [])

one_there : set.len two ≡ 1
one_there =
    set.len-insert nat_cmp_total set.empty 2
    ∙ ap (λ b. cond b (set.len (set.empty {R = nat_cmp})) (set.len (set.empty {R = nat_cmp}) + 1)) (set.contains-empty nat_cmp 2)
    ∙ ap (λ k. k + 1) (set.len-empty nat_cmp)

none_left : set.remove two 2 ≡ set.empty
none_left =
    let has : set.contains two 2 ≡ true = other_is_asked 1 2 2 (omega arith) (omega arith) (λ same. omega (arith, same)) in
    let rest : set.len two - 1 ≡ 0 = omega (arith, one_there) in
    set.empty_of_len (set.remove two 2) (set.len-remove nat_cmp_total two 2 ∙ ap (λ b. cond b (set.len two - 1) (set.len two)) has ∙ rest)

enters : ReceiveTurn (at_client 1 deferring) reply [] (Entered (entry_of_node 1) ∷ []) (at_client 1 inside)
enters = record {
  entered = true;
  step = (refl, inr (Exclusive, inl (record { awaits = awaits_two; last = none_left; entered_is = refl; new_is = refl })));
  enters = (entry_of_node 1, refl, refl);
  client_is = refl;
  queue_is = refl;
}

enter_event : ReceiveEvent node_deferring reply [] (Entered (entry_of_node 1) ∷ []) node_inside
enter_event = record {
  resource = at_client 1 inside;
  turn = subst (λ (x : Resource). ReceiveTurn x reply [] (Entered (entry_of_node 1) ∷ []) (at_client 1 inside)) (sym (resource_changed (node_asked 1) r (at_client 1 deferring))) enters;
  after_stray = λ stray. absurd (stray Exclusive (subst (λ (x : Resource). Awaits x.state 2 1 Exclusive) (sym (resource_changed (node_asked 1) r (at_client 1 deferring))) awaits_two));
  after_other = λ _. refl;
}

-- ---- The run

abbrev ask_of : ℕ → ℕ → Move
ask_of i j = record { step = Ask i i r Exclusive; sends = request_from i j ∷ []; marks = Requested (entry_of_node i) ∷ [] }

abbrev deferral : Move
deferral = record { step = Deliver (request_from 2 1); sends = []; marks = [] }

abbrev answer : Move
answer = record { step = Deliver (request_from 1 2); sends = reply ∷ []; marks = [] }

abbrev entry : Move
entry = record { step = Deliver reply; sends = []; marks = Entered (entry_of_node 1) ∷ [] }

abbrev before : List Move
before = ask_of 1 2 ∷ ask_of 2 1 ∷ deferral ∷ []

abbrev later : List Move
later = answer ∷ entry ∷ []

abbrev last_nodes : ℕ → NodeState
last_nodes zero = opening_node 0 2 0
last_nodes (suc zero) = node_inside
last_nodes (suc (suc i)) = node_passing

ends : EndsWith 2 0 (before ++ later) last_nodes
ends zero low high = absurd (omega (arith, low))
ends (suc zero) low high = (node_asked 1, ask_event 1 2 refl, (node_deferring, defer_event, (node_inside, enter_event, refl)))
ends (suc (suc zero)) low high = (node_asked 2, ask_event 2 1 refl, (node_passing, pass_event, refl))
ends (suc (suc (suc i))) low high = absurd (omega (arith, high))

not_from_one : (m m' : Message) → from_of m ≡ 1 → from_of m' ≡ 2 → m ≡ m' → ⊥
not_from_one m m' one two same = omega (arith, one, two, ap from_of same)

left_first : LeavesUnderWay before (request_from 1 2 ∷ [])
left_first = (
  request_from 1 2 ∷ [],
  record {
    prefix = request_from 1 2 ∷ [];
    suffix = [];
    old_is = refl;
    first = All-cons (λ m. m ≢ request_from 2 1) (request_from 1 2) [] (not_from_one (request_from 1 2) (request_from 2 1) refl refl) (All-nil (λ m. m ≢ request_from 2 1));
    new_is = refl;
  },
  refl,
)

left_second : LeavesUnderWay (before ++ answer ∷ []) (reply ∷ [])
left_second = (
  request_from 1 2 ∷ reply ∷ [],
  record {
    prefix = request_from 1 2 ∷ [];
    suffix = reply ∷ [];
    old_is = refl;
    first = All-cons (λ m. m ≢ request_from 2 1) (request_from 1 2) [] (not_from_one (request_from 1 2) (request_from 2 1) refl refl) (All-nil (λ m. m ≢ request_from 2 1));
    new_is = refl;
  },
  (
    reply ∷ [],
    record { prefix = []; suffix = reply ∷ []; old_is = refl; first = All-nil (λ m. m ≢ request_from 1 2); new_is = refl },
    refl,
  ),
)

pub run : IsRun 2 0 (before ++ later)
run = record {
  each_fits = (
    (omega arith, omega arith),
    (
      (omega arith, omega arith),
      (
        (request_from 1 2 ∷ request_from 2 1 ∷ [], refl, (1, omega arith, refl)),
        (
          (request_from 1 2 ∷ [], left_first, (0, omega arith, refl)),
          (
            (reply ∷ [], left_second, (0, omega arith, refl)),
            tt,
          ),
        ),
      ),
    ),
  );
  ends = (last_nodes, ends);
}

-- ---- Who waits, and who overtakes

abbrev first_table : LockTable
first_table = record { waiting = entry_of_node 1 ∷ []; holding = []; granted = [] }

abbrev table : LockTable
table = record { waiting = entry_of_node 1 ∷ entry_of_node 2 ∷ []; holding = []; granted = [] }

table_run : TableRun (marks_of before) table
table_run = (
  first_table,
  (empty_may (entry_of_node 1), ([], [], refl, refl), refl, refl),
  (
    table,
    (
      record {
        not_waiting = All-cons (λ x. x.name ≡ r → x.stamp.node ≡ 2 → ⊥) (entry_of_node 1) [] (λ name node. omega (arith, node)) (All-nil (λ x. x.name ≡ r → x.stamp.node ≡ 2 → ⊥));
        not_holding = All-nil (λ (x : Entry). x.name ≡ r → x.stamp.node ≡ 2 → ⊥);
        above = All-nil (λ (x : Entry). x.name ≡ r → x.stamp.seq < 1);
      },
      (entry_of_node 1 ∷ [], [], refl, refl),
      refl,
      refl,
    ),
    refl,
  ),
)

none_missing : NoneIsMissing before (entry_of_node 2)
none_missing = record {
  none_under_way = λ node was.
      let at = subst (λ (ms : List Message). Contains ms (request_to node (entry_of_node 2))) (one_list before was.0 (request_from 1 2 ∷ []) was.1 left_first) was.2 in
      not_there node at.0 at.1 at.2;
  none_lost = λ node at. omega (arith, at.1);
}
  where
    not_there : (node k : ℕ) → k < 1 → get_or (request_from 1 2 ∷ []) k (request_to node (entry_of_node 2)) ≡ request_to node (entry_of_node 2) → ⊥
    not_there node zero lt is = not_from_one (request_from 1 2) (request_to node (entry_of_node 2)) refl refl is
    not_there node (suc k) lt is = omega (arith, lt)

overtakes : Overtakes (marks_of later) 0 (entry_of_node 1) (entry_of_node 2)
overtakes = record {
  other = λ same. omega (arith, ap (λ (x : Entry). x.stamp.node) same);
  excludes = (refl, exclusive_excludes);
  enters = refl;
  not_yet = λ earlier lt at. omega (arith, lt);
  not_withdrawn = λ earlier lt at. omega (arith, lt);
}

pub one_may_overtake : (before later : List Move) × (table : LockTable) × (e : Entry) × (f : Entry) × IsRun 2 0 (before ++ later)
    × TableRun (marks_of before) table × Contains table.waiting e × NoneIsMissing before e × Overtakes (marks_of later) 0 f e
one_may_overtake = (before, later, table, entry_of_node 2, entry_of_node 1, run, table_run, (1, omega arith, refl), none_missing, overtakes)
