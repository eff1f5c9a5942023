-- Which mark may come next.
use Rattle.std.proofs.Common.{◌≡◌, ◌<◌, List, [], ◌∷◌, ◌++◌, All, Contains, refl}
use Rattle.std.specs.Prelude.{◌↔◌}
use Rattle.std.proofs.lemmas.List.Elements.{All-contains}
use Rattle.ra_stamp.specs.declared.entry.Entry.{Entry}
use Rattle.ra_stamp.specs.declared.entry.Mark.{Mark}
use Rattle.ra_stamp.specs.declared.entry.Mark.TheVariants.{Requested, Entered, Left, Withdrawn}
use Rattle.ra_stamp.specs.Stamp.{IsEarlier}
use Rattle.ra_table.specs.Table.{LockTable, empty_table, Excludes, MayRequest, MayEnter, TableRun}
use Rattle.ra_table.specs.Laws.{AllowsMark, SameEntries}
use Rattle.ra_table.proofs.Apart.{All-from_contains}
use Rattle.ra_table.proofs.Moves.{Gains-push, Loses-contained}
use Rattle.ra_table.proofs.Runs.{steps_split, steps_grow}
use Rattle.ra_table.proofs.History.{same_entries}

pub allows_request : (table : LockTable) (e : Entry) → AllowsMark table (Requested e) ↔ MayRequest table e
allows_request table e = (
  λ step. step.1.0,
  λ may. (record { waiting = table.waiting ++ e ∷ []; holding = table.holding; granted = table.granted }, (may, Gains-push table.waiting e, refl, refl)),
)

pub allows_enter : (table : LockTable) (e : Entry) → AllowsMark table (Entered e) ↔ MayEnter table e
allows_enter table e = (
  λ step. step.1.0,
  λ may. let rest = Loses-contained table.waiting e may.waits in
      (record { waiting = rest.0; holding = table.holding ++ e ∷ []; granted = table.granted ++ e ∷ [] }, (may, rest.1, Gains-push table.holding e, Gains-push table.granted e)),
)

pub allows_leave : (table : LockTable) (e : Entry) → AllowsMark table (Left e) ↔ Contains table.holding e
allows_leave table e = (
  λ step. step.1.0,
  λ at. let rest = Loses-contained table.holding e at in
      (record { waiting = table.waiting; holding = rest.0; granted = table.granted }, (at, refl, rest.1, refl)),
)

pub allows_withdrawal : (table : LockTable) (e : Entry) → AllowsMark table (Withdrawn e) ↔ Contains table.waiting e
allows_withdrawal table e = (
  λ step. step.1.0,
  λ at. let rest = Loses-contained table.waiting e at in
      (record { waiting = rest.0; holding = table.holding; granted = table.granted }, (at, rest.1, refl, refl)),
)

-- what holds of each entry of one list holds of each entry of another that has no more
All-along : (P : Entry → Type 0) (xs ys : List Entry) → ((e : Entry) → Contains ys e → Contains xs e) → All P xs → All P ys
All-along P xs ys within all = All-from_contains P ys (λ e at. All-contains P xs e all (within e at))

along : (a b : LockTable) (m : Mark) → SameEntries a b → AllowsMark a m → AllowsMark b m
along a b (Requested e) same allowed =
    let may = (allows_request a e).0 allowed in
    (allows_request b e).1 (record {
      not_waiting = All-along (λ x. x.name ≡ e.name → x.stamp.node ≡ e.stamp.node → ⊥) a.waiting b.waiting (λ x. (same.waiting x).1) may.not_waiting;
      not_holding = All-along (λ x. x.name ≡ e.name → x.stamp.node ≡ e.stamp.node → ⊥) a.holding b.holding (λ x. (same.holding x).1) may.not_holding;
      above = All-along (λ x. x.name ≡ e.name → x.stamp.seq < e.stamp.seq) a.granted b.granted (λ x. (same.granted x).1) may.above;
    })
along a b (Entered e) same allowed =
    let may = (allows_enter a e).0 allowed in
    (allows_enter b e).1 (record {
      waits = (same.waiting e).0 may.waits;
      not_held = All-along (λ x. Excludes x e → ⊥) a.holding b.holding (λ x. (same.holding x).1) may.not_held;
      no_earlier = All-along (λ x. Excludes x e → IsEarlier x.stamp e.stamp → ⊥) a.waiting b.waiting (λ x. (same.waiting x).1) may.no_earlier;
    })
along a b (Left e) same allowed = (allows_leave b e).1 ((same.holding e).0 ((allows_leave a e).0 allowed))
along a b (Withdrawn e) same allowed = (allows_withdrawal b e).1 ((same.waiting e).0 ((allows_withdrawal a e).0 allowed))

-- a run goes on with a mark exactly if the table at its end allows it
pub next_mark : (marks : List Mark) (m : Mark) (table : LockTable) → TableRun marks table → AllowsMark table m ↔ ((next : LockTable) × TableRun (marks ++ m ∷ []) next)
next_mark marks m table run = (
  λ allowed. (allowed.0, steps_grow marks m empty_table table allowed.0 run allowed.1),
  λ longer.
      let parts = steps_split marks (m ∷ []) empty_table longer.0 longer.1 in
      along parts.0 table m (same_entries marks parts.0 table parts.1 run) (parts.2.0, parts.2.1),
)
