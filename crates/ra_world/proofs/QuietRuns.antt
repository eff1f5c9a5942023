-- Quiet runs: each request that waits is blocked, and how many messages were sent.
use Rattle.std.proofs.Common.{◌≡◌, ℕ, List, [], Any, Contains, length, sym, ap, subst, arith, inl, inr}
use Rattle.ra_stamp.specs.declared.message.Message.{Message}
use Rattle.ra_stamp.specs.declared.entry.Entry.{Entry}
use Rattle.ra_stamp.specs.NodeId.{IsNodeNumber}
use Rattle.ra_stamp.specs.Stamp.{IsEarlier}
use Rattle.ra_table.specs.Table.{LockTable, Excludes, MayEnter, TableRun}
use Rattle.ra_table.specs.Laws.{SameEntries}
use Rattle.ra_world.specs.Below.{LawsBelow}
use Rattle.ra_world.specs.Traffic.{Move, repeated_by}
use Rattle.ra_world.specs.Run.{IsRun, marks_of}
use Rattle.ra_world.specs.Quiet.{IsQuiet, IsBlocked, MeetsMessageCount, withdrawn_in}
use Rattle.ra_world.proofs.Moves.{allows_moves}
use Rattle.ra_world.proofs.Cluster.{Invariant}
use Rattle.ra_world.proofs.Balance.{asking}
use Rattle.ra_world.proofs.Blocked.{blocked}
use Rattle.ra_world.proofs.NobodyDeferred.{nothing_owed}
use Rattle.ra_world.proofs.Reached.{Reached, one_list}
use Rattle.ra_world.proofs.Runs.{every_run}

module _ (laws : LawsBelow) (n start : ℕ) (moves : List Move) (count : IsNodeNumber n) (run : IsRun n start moves) (quiet : IsQuiet moves)
    (same_tables : (a b : LockTable) → TableRun (marks_of moves) a → TableRun (marks_of moves) b → SameEntries a b) where
  -- whatever was repeated
  reached : Reached ⊥ (Unit {0}) n start moves
  reached = every_run laws n start moves (allows_moves moves (inl quiet.none_lost) (inr tt) (inr tt)) count run

  nothing_under_way : reached.bag ≡ []
  nothing_under_way = one_list moves reached.bag [] reached.under_way quiet.none_under_way

  holds : Invariant ⊥ (Unit {0}) start n reached.nodes [] reached.table
  holds = subst (λ (bag : List Message). Invariant ⊥ (Unit {0}) start n reached.nodes bag reached.table) nothing_under_way reached.invariant

  pub is_blocked : (table : LockTable) (e : Entry) → TableRun (marks_of moves) table → Contains table.waiting e → IsBlocked table e
  is_blocked table e table_run waits =
      let same = same_tables table reached.table table_run reached.run in
      elim (blocked (Unit {0}) start n reached.nodes reached.table holds e ((same.waiting e).0 waits)) [
        | inl held ↦ inl (still (λ x. Excludes x e) reached.table.holding table.holding (λ x. (same.holding x).1) held)
        | inr first ↦ inr (still (λ x. Excludes x e × IsEarlier x.stamp e.stamp) reached.table.waiting table.waiting (λ x. (same.waiting x).1) first)
      ]
    where
      still : (P : Entry → Type 0) (old new : List Entry) → ((x : Entry) → Contains old x → Contains new x) → Any P old → Any P new
      still P old new more (k, x, lt, is, p) = let at = more x (k, lt, is) in (at.0, x, at.1, at.2, p)

  -- if nothing was repeated or withdrawn
  module _ (unrepeated : repeated_by moves ≡ []) (unwithdrawn : withdrawn_in (marks_of moves) ≡ 0) where
    exactly : Reached ⊥ ⊥ n start moves
    exactly = every_run laws n start moves (allows_moves moves (inl quiet.none_lost) (inl unrepeated) (inl unwithdrawn)) count run

    nothing_left : exactly.bag ≡ []
    nothing_left = one_list moves exactly.bag [] exactly.under_way quiet.none_under_way

    pub meets_count : (table : LockTable) → TableRun (marks_of moves) table → table.waiting ≡ [] → MeetsMessageCount n moves
    meets_count table table_run nobody =
        let same = same_tables table exactly.table table_run exactly.run in
        let none : length exactly.table.waiting ≡ 0 = omega (arith, same.waiting_count, ap length nobody) in
        let owes = nothing_owed start n exactly.nodes exactly.table (subst (λ (bag : List Message). Invariant ⊥ ⊥ start n exactly.nodes bag exactly.table) nothing_left exactly.invariant) none in
        omega (arith, exactly.balance, exactly.none_joined (λ x. x), owes, ap asking nothing_left, ap asking quiet.none_lost, ap asking unrepeated)

pub blocked_may_not_enter : (table : LockTable) (e : Entry) → IsBlocked table e → MayEnter table e → ⊥
blocked_may_not_enter table e x may = elim x [
  | inl (k, y, lt, is, excludes) ↦ may.not_held k y lt (subst (λ (z : Entry). Excludes z e) (sym is) excludes)
  | inr (k, y, lt, is, both) ↦ may.no_earlier k y lt (subst (λ (z : Entry). Excludes z e) (sym is) both.0) (subst (λ (z : Entry). IsEarlier z.stamp e.stamp) (sym is) both.1)
]
