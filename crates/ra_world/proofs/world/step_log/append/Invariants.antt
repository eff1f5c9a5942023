use Rattle.std.proofs.Common.{◌≡◌, ◌+◌, ◌++◌, take}
use Rattle.ra_world.proofs.world.step_log.append.Given as goal

-- the items so far are at the end, and each has taken its room
abbrev pub invariant-loop-item : goal.invariant-loop-item
invariant-loop-item g l = record {
  items : l.list.items ≡ l.initial.list.items ++ take l.item-index l.items;
  room : l.list.spare + l.item-index ≡ l.initial.list.spare;
}
