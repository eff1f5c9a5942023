-- Runs are fair: once a node knows a waiting request, it overtakes that request at most once.
use Rattle.std.proofs.Common.{◌≡◌, ◌≢◌, ℕ, zero, suc, ◌≤◌, List, [], ◌∷◌, ◌++◌, All, Contains, refl, sym, ap, ◌∙◌, subst, append_assoc, arith, inl, inr}
use Rattle.std.proofs.lemmas.List.Elements.{All-nil, All-append, All-weaker, All-contains, Contains-append_left, Contains-append_right}
use Rattle.std.proofs.lemmas.Option.{same_Some}
use Rattle.ra_stamp.specs.declared.entry.Entry.{Entry}
use Rattle.ra_stamp.specs.declared.entry.Mark.{Mark}
use Rattle.ra_stamp.specs.declared.entry.Mark.TheVariants.{Requested, Entered}
use Rattle.ra_stamp.specs.Mark.{entry_of_mark}
use Rattle.ra_stamp.specs.NodeId.{IsNodeNumber}
use Rattle.ra_stamp.specs.Stamp.{IsEarlier}
use Rattle.ra_automaton.specs.State.{IsOtherNode}
use Rattle.ra_node.specs.Carried.{IsMark}
use Rattle.ra_node.specs.Node.{NodeState, opening_node, resource_at}
use Rattle.ra_node.specs.Events.{Happening, NodeEvents, name_of_event}
use Rattle.ra_table.specs.Table.{LockTable, empty_table, TableSteps, TableRun}
use Rattle.ra_table.specs.Laws.{IsAt, WaitsSince, SameEntries}
use Rattle.ra_table.proofs.Runs.{steps_split}
use Rattle.ra_table.proofs.Sound.{IsSoundTable, empty_is_sound}
use Rattle.ra_world.specs.Below.{LawsBelow}
use Rattle.ra_world.specs.Traffic.{Move, sent_by, put_by, taken_by}
use Rattle.ra_world.specs.Run.{IsRun, happened_at, marks_of}
use Rattle.ra_world.specs.Fairness.{request_to, HasArrivedAt, NoneIsMissing, Overtakes, IsFairTo, IsFair}
use Rattle.ra_world.proofs.Arriving.{arrived, event_above, events_raise}
use Rattle.ra_world.proofs.MoveByMove.{longer, just_before, by_move}
use Rattle.ra_world.proofs.Moves.{allows_all, happens, happened_more}
use Rattle.ra_world.proofs.Numbered.{MarksOfNodes}
use Rattle.ra_world.proofs.Overtaking.{IsAbove, steps_sound, overtakes_earlier, overtakes_waiting, overtakes_once}
use Rattle.ra_world.proofs.Protocol.{IsNode}
use Rattle.ra_world.proofs.RequestsSent.{IsSentIn, more_sent, event_sent, sent_is_put, taken_or_there, delivered_or_lost}
use Rattle.ra_world.proofs.Runs.{every_run, prefixes}

marks_both : (xs ys : List Move) → marks_of (xs ++ ys) ≡ marks_of xs ++ marks_of ys
marks_both [] ys = refl
marks_both (m ∷ xs) ys = ap (λ (ms : List Mark). m.marks ++ ms) (marks_both xs ys) ∙ sym (append_assoc m.marks (marks_of xs) (marks_of ys))

pub contained : (marks : List Mark) (place : ℕ) (mark : Mark) → IsAt marks place mark → Contains marks mark
contained [] place mark at = absurd cc
contained (m ∷ marks) zero mark at = (0, omega arith, same_Some m mark at)
contained (m ∷ marks) (suc place) mark at = let rest = contained marks place mark at in (suc rest.0, omega (arith, rest.1), rest.2)

-- what the marks of a table run say of its tables
pub record TablesByMarks : Type 0 where
  pub same : (marks : List Mark) (a b : LockTable) → TableRun marks a → TableRun marks b → SameEntries a b
  pub waits : (marks : List Mark) (table : LockTable) (e : Entry) → TableRun marks table → Contains table.waiting e → WaitsSince marks e

module _ (laws : LawsBelow) (marks_law : MarksOfNodes) (history : TablesByMarks) (n start : ℕ) (count : IsNodeNumber n) where
  -- ---- What holds of the marks of a run

  -- each mark is of one of the nodes
  marks_of_nodes : (suffix ms : List Move) → IsRun n start (ms ++ suffix) → All (λ mark. IsNode n (entry_of_mark mark).stamp.node) (marks_of suffix)
  marks_of_nodes [] ms run = All-nil (λ mark. IsNode n (entry_of_mark mark).stamp.node)
  marks_of_nodes (m ∷ suffix) ms run =
      let P = λ (mark : Mark). IsNode n (entry_of_mark mark).stamp.node in
      let before = just_before laws n start count m suffix ms run in
      let here = by_move laws n start count m suffix ms run P (λ p event new within for happened.
      let there = before.invariant.each p within in
      All-weaker (IsMark (before.nodes p).me (name_of_event event)) P (λ mark is. subst (IsNode n) (sym (is.node_is ∙ there.me_is)) within) m.marks (marks_law (before.nodes p) new event m.sends m.marks there.consistent for happened)) in
      All-append P m.marks (marks_of suffix) here (marks_of_nodes suffix (ms ++ m ∷ []) (longer laws n start count m suffix ms run))

  -- each request sends its REQUESTs
  requests_sent : (suffix ms : List Move) → IsRun n start (ms ++ suffix) → All (IsSentIn n (sent_by suffix)) (marks_of suffix)
  requests_sent [] ms run = All-nil (IsSentIn n [])
  requests_sent (m ∷ suffix) ms run =
      let before = just_before laws n start count m suffix ms run in
      let here = by_move laws n start count m suffix ms run (IsSentIn n m.sends) (λ p event new within for happened.
      let there = before.invariant.each p within in event_sent n (before.nodes p) new event m.sends m.marks there.consistent there.nodes_is happened) in
      let rest = requests_sent suffix (ms ++ m ∷ []) (longer laws n start count m suffix ms run) in
      let all = sent_by (m ∷ suffix) in
      All-append (IsSentIn n all) m.marks (marks_of suffix)
      (All-weaker (IsSentIn n m.sends) (IsSentIn n all) (more_sent n m.sends all (λ x. Contains-append_left m.sends (sent_by suffix) x)) m.marks here)
      (All-weaker (IsSentIn n (sent_by suffix)) (IsSentIn n all) (more_sent n (sent_by suffix) all (λ x. Contains-append_right m.sends (sent_by suffix) x)) (marks_of suffix) rest)

  -- after these moves each node that is At has met the entry's number
  abbrev pub HaveMet : (ℕ → Type 0) → Entry → List Move → Type 0
  HaveMet At e ms = (i : ℕ) (node : NodeState) → At i → NodeEvents (opening_node i n start) (happened_at i ms) node → e.stamp.seq ≤ (resource_at node e.name).state.highest

  met_on : (At : ℕ → Type 0) (e : Entry) (ms : List Move) (m : Move) → HaveMet At e ms → HaveMet At e (ms ++ m ∷ [])
  met_on At e ms m met i node here events =
      let parts = laws.splits (happened_at i ms) (happens i m) (opening_node i n start) node (subst (λ (hs : List Happening). NodeEvents (opening_node i n start) hs node) (happened_more i ms m) events) in
      omega (arith, met i parts.0 here parts.1, events_raise (happens i m) parts.0 node parts.2 e.name)

  -- so each later request of such a node on the entry's name has a greater number
  pub later_above : (At : ℕ → Type 0) (e : Entry) (suffix ms : List Move) → IsRun n start (ms ++ suffix) → HaveMet At e ms → All (IsAbove At e) (marks_of suffix)
  later_above At e [] ms run met = All-nil (IsAbove At e)
  later_above At e (m ∷ suffix) ms run met =
      let before = just_before laws n start count m suffix ms run in
      let here = by_move laws n start count m suffix ms run (IsAbove At e) (λ p event new within for happened.
      let there = before.invariant.each p within in
      event_above At e (before.nodes p) new m.sends m.marks there.consistent (λ at. met p (before.nodes p) (subst At there.me_is at) (before.ends p within.0 within.1)) event happened) in
      All-append (IsAbove At e) m.marks (marks_of suffix) here (later_above At e suffix (ms ++ m ∷ []) (longer laws n start count m suffix ms run) (met_on At e ms m met))

  -- each REQUEST of an entry that waits is under way, was delivered or was lost
  has_arrived : (moves : List Move) (table : LockTable) (e : Entry) → IsRun n start moves → TableRun (marks_of moves) table → Contains table.waiting e → NoneIsMissing moves e
      → (node : ℕ) → IsOtherNode e.stamp.node n node → HasArrivedAt node moves e
  has_arrived moves table e run table_run waits none node other =
      let since = history.waits (marks_of moves) table e table_run waits in
      let sent = All-contains (IsSentIn n (sent_by moves)) (marks_of moves) (Requested e) (requests_sent moves [] run) (contained (marks_of moves) since.requested (Requested e) since.was_requested) node other in
      let at_end = every_run laws n start moves (allows_all moves) count run in
      let message = request_to node e in
      elim (taken_or_there (put_by moves) (taken_by moves) at_end.bag message at_end.under_way (sent_is_put moves message sent)) [
        | inr there ↦ absurd (none.none_under_way node (at_end.bag, at_end.under_way, there))
        | inl taken ↦ elim (delivered_or_lost moves message taken) [
          | inl delivered ↦ delivered
          | inr lost ↦ absurd (none.none_lost node lost)
        ]
      ]

  -- ---- A run that is cut in two

  module _ (before later : List Move) (table : LockTable) (e : Entry) (run : IsRun n start (before ++ later)) (table_run : TableRun (marks_of before) table) (waits : Contains table.waiting e) where
    -- a table of the first part from which the marks of the second part lead on
    record Cut : Type 0 where
      between : LockTable
      last : LockTable
      leads : TableRun (marks_of before) between
      steps : TableSteps between (marks_of later) last

    cut : Cut
    cut =
        let at_end = every_run laws n start (before ++ later) (allows_all (before ++ later)) count run in
        let parts = steps_split (marks_of before) (marks_of later) empty_table at_end.table (subst (λ (ms : List Mark). TableRun ms at_end.table) (marks_both before later) at_end.run) in
        record { between = parts.0; last = at_end.table; leads = parts.1; steps = parts.2 }

    same : SameEntries table cut.between
    same = history.same (marks_of before) table cut.between table_run cut.leads

    sound : IsSoundTable cut.between
    sound = steps_sound (marks_of before) empty_table cut.between cut.leads empty_is_sound

    waits' : Contains cut.between.waiting e
    waits' = (same.waiting e).0 waits

    abbrev At : ℕ → Type 0
    At i = HasArrivedAt i before e

    above : All (IsAbove At e) (marks_of later)
    above = later_above At e later before run (λ i node here events. arrived e.stamp.node i e.name e.mode e.stamp.seq before (opening_node i n start) node events here)

    overtakes : (place : ℕ) (f : Entry) → Overtakes (marks_of later) place f e → IsEarlier f.stamp e.stamp × (f.stamp.node ≢ e.stamp.node)
    overtakes = overtakes_earlier laws.symmetric e (marks_of later) cut.between cut.last cut.steps sound waits'

    is_fair_to : IsFairTo n before table e later
    is_fair_to =
        record {
          elsewhere = λ place f over.
              let of_node = All-contains (λ mark. IsNode n (entry_of_mark mark).stamp.node) (marks_of later) (Entered f) (marks_of_nodes later before run) (contained (marks_of later) place (Entered f) over.enters) in
              record { first = of_node.0; last = of_node.1; other = (overtakes place f over).1 };
          earlier = λ place f over. (overtakes place f over).0;
          waits = λ place f over here. (same.waiting f).1 (overtakes_waiting laws.symmetric e At (marks_of later) cut.between cut.last cut.steps sound waits' above place f over here);
          once = overtakes_once laws.symmetric e At (marks_of later) cut.between cut.last cut.steps sound waits' above;
          arrived = has_arrived before table e (prefixes laws.splits n start later before run) table_run waits;
        }

  pub is_fair : (moves : List Move) → IsRun n start moves → IsFair n moves
  is_fair moves run before later table e parts table_run waits = is_fair_to before later table e (subst (IsRun n start) parts run) table_run waits
