-- If nothing was lost, and nothing more can happen, each client of a script in order is done: of those that wait, each
-- waits for a name that is held by a client that waits for a name above it.
use Rattle.std.proofs.Common.{◌≡◌, ℕ, zero, suc, ◌<◌, Option, Some, None, List, [], ◌∷◌, ◌++◌, Contains, length, map, slice_get, refl, sym, ap, ◌∙◌, subst, arith, inl, inr}
use Rattle.std.specs.Prelude.{option_to_list}
use Rattle.std.specs.Cmp.Lexicographic.{nat_list_cmp_total}
use Rattle.std.proofs.lemmas.List.{append-nil}
use Rattle.std.proofs.lemmas.List.Elements.{All-contains, Contains-append_left, Contains-append_right}
use Rattle.ra_stamp.specs.declared.entry.Entry.{Entry}
use Rattle.ra_stamp.specs.declared.mode.Mode.{Mode}
use Rattle.ra_automaton.specs.Steps.{greatest_number}
use Rattle.ra_node.specs.Resource.{Resource, use_of, IsBusy}
use Rattle.ra_node.specs.Node.{NodeState, opening_node, resource_at}
use Rattle.ra_table.specs.Table.{LockTable, TableRun}
use Rattle.ra_world.specs.declared.text.report.Report.{Report}
use Rattle.ra_world.specs.Traffic.{Move}
use Rattle.ra_world.specs.Run.{IsRun, marks_of, happened_at}
use Rattle.ra_world.specs.Quiet.{IsQuiet}
use Rattle.ra_world.specs.AtNodes.{IsTableOf, IsOfNode}
use Rattle.ra_world.specs.World.{Reports}
use Rattle.ra_schedule.specs.declared.script.Op.{Op}
use Rattle.ra_schedule.specs.declared.script.Op.TheVariants.{Lock, Unlock}
use Rattle.ra_schedule.specs.Script.{ScriptClient, ScriptState, client_at, IsScript, IsHeldAfter}
use Rattle.ra_schedule.specs.Schedule.{steps_of, IsWaiting, IsEnabled, IsFinished}
use Rattle.ra_schedule.specs.LockOrder.{IsBelow, IsOutOfOrder, IsUnreleased}
use Rattle.ra_schedule.specs.BelowFinishing.{LawsOfNodes, LawsOfRuns}
use Rattle.ra_schedule.proofs.Enabling.{held_last, place_of_last, must_wait}
use Rattle.ra_schedule.proofs.Held.{held_pushed}
use Rattle.ra_schedule.proofs.ClientTurns.{HasIt, holder_stands, use_waiter}
use Rattle.ra_schedule.proofs.MovedNodes.{IsNode}
use Rattle.ra_schedule.proofs.Standing.{LastLocks}
use Rattle.ra_schedule.proofs.StandingRuns.{AllStand, is_client}
use Rattle.ra_schedule.proofs.Climbing.{climbed}
use Rattle.ra_schedule.proofs.TakenNames.{IsTaken, below_or_not, never_below, by_use}
use Rattle.ra_schedule.proofs.NobodyQueued.{nobody_queued}

-- ---- The names of a script

abbrev name_in : Op → List ℕ
name_in (Lock name mode) = name
name_in (Unlock name) = name

abbrev names_in : List Op → List (List ℕ)
names_in ops = map name_in ops

abbrev all_names : List ScriptClient → List (List ℕ)
all_names [] = []
all_names (c ∷ clients) = names_in c.ops ++ all_names clients

named_in : (before left : List Op) (name : List ℕ) (mode : Mode) → Contains (names_in ((before ++ Lock name mode ∷ []) ++ left)) name
named_in [] left name mode = (0, omega arith, refl)
named_in (op ∷ before) left name mode = let rest = named_in before left name mode in (suc rest.0, omega (arith, rest.1), rest.2)

named_by : (clients : List ScriptClient) (k : ℕ) (who : ScriptClient) (name : List ℕ) → slice_get clients k ≡ Some who → Contains (names_in who.ops) name
    → Contains (all_names clients) name
named_by [] k who name is has = absurd cc
named_by (c ∷ clients) zero who name is has =
    let same : c ≡ who = cc in
    Contains-append_left (names_in c.ops) (all_names clients) name (subst (λ (w : ScriptClient). Contains (names_in w.ops) name) (sym same) has)
named_by (c ∷ clients) (suc k) who name is has =
    Contains-append_right (names_in c.ops) (all_names clients) name (named_by clients k who name is has)

named : (script : ScriptState) (client : ℕ) (who : ScriptClient) (name : List ℕ) → client_at script client ≡ Some who → Contains (names_in who.ops) name
    → Contains (all_names script.clients) name
named script zero who name is has = absurd cc
named script (suc k) who name is has = named_by script.clients k who name is has

-- ---- No entries

no_items : (es : List Entry) → ((e : Entry) → Contains es e → ⊥) → length es ≡ 0
no_items [] none = refl
no_items (e ∷ es) none = absurd (none e (0, omega arith, refl))

module _ (nodes_laws : LawsOfNodes) (laws : LawsOfRuns) (script : ScriptState) (fit : IsScript script) (ordered : IsOutOfOrder script → ⊥) (released : IsUnreleased script → ⊥)
    (moves : List Move) (run : IsRun script.nodes 0 moves) (quiet : IsQuiet moves) (nobody : (client : ℕ) → IsEnabled script moves client → ⊥)
    (all : AllStand script moves)
    (few : (i : ℕ) (name : List ℕ) → IsNode script.nodes i → (resource_at (all.nodes i) name).state.highest < greatest_number) where
  abbrev n : ℕ
  n = script.nodes

  abbrev at : ℕ → List ℕ → Resource
  at i name = resource_at (all.nodes i) name

  table : (t : LockTable) × TableRun (marks_of moves) t
  table = laws.table n 0 moves fit.count run

  of_nodes : IsTableOf n all.nodes table.0
  of_nodes = laws.table_of n 0 moves all.nodes table.0 fit.count run all.ends table.1

  -- ---- A client that waits

  -- a client waits for this name
  record IsStuckAt (name : List ℕ) : Type 0 where
    pub client : ℕ
    pub who : ScriptClient
    pub at_it : client_at script client ≡ Some who
    pub last : LastLocks (all.clients client who at_it).did name
    pub out : HasIt (at who.node name) client → ⊥

  is_stuck : (client : ℕ) (who : ScriptClient) (at_it : client_at script client ≡ Some who) → IsWaiting client moves → (name : List ℕ) × IsStuckAt name
  is_stuck client who at_it waits =
      let o = (all.clients client who at_it).waits waits in
      (o.0, record { client = client; who = who; at_it = at_it; last = o.1; out = o.2 })

  -- a client that holds a name and is not done waits for one that is above it
  waits_above : (name : List ℕ) (taken : IsTaken n all.nodes name) (who : ScriptClient) (at_it : client_at script taken.client ≡ Some who)
      → (left : List Op) → (all.clients taken.client who at_it).left ≡ left → (other : List ℕ) × IsStuckAt other × IsBelow name other
  waits_above name taken who at_it [] left_is =
      let stands = all.clients taken.client who at_it in
      let held = ((stands.stands taken.i name taken.within).0 (holder_stands (at taken.i name) taken.client taken.has)).1 in
      let done : who.ops ≡ stands.did = stands.ops_are ∙ ap (λ (xs : List Op). stands.did ++ xs) left_is ∙ append-nil stands.did in
      absurd (released (taken.client, (who, at_it, (name, subst (λ (ops : List Op). IsHeldAfter ops name) (sym done) held))))
  waits_above name taken who at_it (op ∷ rest) left_is =
      let d = taken.client in
      let stands = all.clients d who at_it in
      let there = (stands.stands taken.i name taken.within).0 (holder_stands (at taken.i name) d taken.has) in
      let waits = must_wait laws script fit moves run all few d who at_it stands op rest left_is (nobody d) in
      let o = stands.waits waits in
      let other = o.0 in
      let before = o.1.0 in
      let mode = o.1.1 in
      let did_is : stands.did ≡ before ++ Lock other mode ∷ [] = o.1.2 in
      let split : who.ops ≡ (before ++ Lock other mode ∷ []) ++ stands.left = stands.ops_are ∙ ap (λ (xs : List Op). xs ++ stands.left) did_is in
      let place = place_of_last who.ops before stands.left (Lock other mode) split in
      elim ((held_pushed before (Lock other mode) name).0 (subst (λ (ops : List Op). IsHeldAfter ops name) did_is there.1)) [
        | inl locks ↦
            let is = locks.1 in
            let same : name ≡ other = cc in
            absurd (o.2 (subst (λ (k : ℕ). HasIt (at k other) d) there.0 (subst (λ (x : List ℕ). HasIt (at taken.i x) d) same taken.has)))
        | inr kept ↦ elim (below_or_not name other) [
          | inl below ↦ (other, record { client = d; who = who; at_it = at_it; last = o.1; out = o.2 }, below)
          | inr not ↦ absurd (ordered (
            d,
            (
              who,
              at_it,
              (
                length before,
                other,
                mode,
                name,
                place.0,
                subst (λ (ops : List Op). IsHeldAfter ops name) (sym place.1) kept.1,
                not,
              ),
            ),
          ))
        ]
      ]

  rises : (name : List ℕ) → IsStuckAt name → (other : List ℕ) × IsStuckAt other × IsBelow name other
  rises name stuck =
      let stands = all.clients stuck.client stuck.who stuck.at_it in
      let c = is_client script stuck.client stuck.who fit stuck.at_it in
      let within : IsNode n stuck.who.node = (c.first, c.last) in
      let busy = (stands.stands stuck.who.node name within).1 (refl, held_last stands.did name stuck.last) in
      let r = at stuck.who.node name in
      let taken = by_use laws n 0 fit.count moves run quiet all.nodes all.ends (λ i at. (all.each i at).consistent) few stuck.who.node name stuck.client within busy (use_of r) (refl {a = use_of r}) in
      let known = all.known taken.i name taken.client taken.within (holder_stands (at taken.i name) taken.client taken.has) in
      waits_above name taken known.0 known.1 (all.clients taken.client known.0 known.1).left (refl {a = (all.clients taken.client known.0 known.1).left})

  among_names : (name : List ℕ) → IsStuckAt name → Contains (all_names script.clients) name
  among_names name stuck =
      let stands = all.clients stuck.client stuck.who stuck.at_it in
      let split : stuck.who.ops ≡ (stuck.last.0 ++ Lock name stuck.last.1 ∷ []) ++ stands.left = stands.ops_are ∙ ap (λ (xs : List Op). xs ++ stands.left) stuck.last.2 in
      named script stuck.client stuck.who name stuck.at_it
      (subst (λ (ops : List Op). Contains (names_in ops) name) (sym split) (named_in stuck.last.0 stands.left name stuck.last.1))

  nobody_stuck : (name : List ℕ) → IsStuckAt name → ⊥
  nobody_stuck name stuck =
      climbed IsBelow below_or_not nat_list_cmp_total.trans never_below IsStuckAt ⊥ (all_names script.clients) among_names (λ x p. inr (rises x p)) name stuck

  -- ---- So every client is done, and nobody is at any name

  none_left : (client : ℕ) (who : ScriptClient) (at_it : client_at script client ≡ Some who) (left : List Op) → (all.clients client who at_it).left ≡ left → left ≡ []
  none_left client who at_it [] left_is = refl
  none_left client who at_it (op ∷ rest) left_is =
      let stuck = is_stuck client who at_it (must_wait laws script fit moves run all few client who at_it (all.clients client who at_it) op rest left_is (nobody client)) in
      absurd (nobody_stuck stuck.0 stuck.1)

  did_all : (client : ℕ) (who : ScriptClient) (at_it : client_at script client ≡ Some who) → who.ops ≡ (all.clients client who at_it).did
  did_all client who at_it =
      let stands = all.clients client who at_it in
      stands.ops_are ∙ ap (λ (xs : List Op). stands.did ++ xs) (none_left client who at_it stands.left refl) ∙ append-nil stands.did

  nobody_busy : (i : ℕ) (name : List ℕ) (client : ℕ) → IsNode n i → IsBusy (at i name) client → ⊥
  nobody_busy i name client within busy =
      let known = all.known i name client within busy in
      let stands = all.clients client known.0 known.1 in
      let held = ((stands.stands i name within).0 busy).1 in
      released (client, (known.0, known.1, (name, subst (λ (ops : List Op). IsHeldAfter ops name) (sym (did_all client known.0 known.1)) held)))

  nobody_waits : (e : Entry) → Contains table.0.waiting e → ⊥
  nobody_waits e has =
      let i = e.stamp.node in
      let within : IsNode n i = All-contains (IsOfNode n) table.0.waiting e of_nodes.waiting_nodes has in
      let there = (of_nodes.waiting i e.name e within.0 within.1).0 (has, refl, refl) in
      let r = at i e.name in
      nobody_busy i e.name e.client within (subst (λ (o : Option ℕ). Contains (option_to_list o ++ map (λ q. q.client) r.queue) e.client)
      (sym (use_waiter r.state r.state.phase r.client e there)) (0, omega arith, refl))

  pub finished : (report : Report) → Reports script.nodes 0 moves report → IsFinished script (steps_of moves) report
  finished report reports =
      let nodes = reports.at_nodes.0 in
      let at_end = reports.at_nodes.1 in
      record {
        all_done = λ client who at_it. sym (all.clients client who at_it).done ∙ ap length (sym (did_all client who at_it));
        none_waits = reports.at_nodes.2 ∙ sym (laws.waiting n 0 moves nodes table.0 fit.count run at_end table.1) ∙ no_items table.0.waiting nobody_waits;
        none_queued = reports.at_nodes.3 ∙ nobody_queued n nodes (λ i name client within busy.
            let same : nodes i ≡ all.nodes i = nodes_laws.one_end (opening_node i n 0) (nodes i) (all.nodes i) (happened_at i moves)
            (at_end i within.0 within.1) (all.ends i within.0 within.1) in
            nobody_busy i name client within (subst (λ (s : NodeState). IsBusy (resource_at s name) client) same busy));
        none_under_way = reports.under_way.2 ∙ ap length (laws.one_list moves reports.under_way.0 [] reports.under_way.1 quiet.none_under_way);
      }
