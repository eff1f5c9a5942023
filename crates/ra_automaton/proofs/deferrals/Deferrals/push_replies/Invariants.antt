use Rattle.std.proofs.Common.{◌≡◌, ◌+◌, ◌-◌, ◌≤◌, ◌++◌, length, map, filter, get_or}
use Rattle.std.specs.List.{range_with_len}
use Rattle.ra_stamp.specs.declared.message.Message.TheVariants.{Reply}
use Rattle.std.specs.FinSet as set
use Rattle.ra_automaton.proofs.deferrals.Deferrals.push_replies.Given as goal

abbrev pub invariant-loop-place : goal.invariant-loop-place
invariant-loop-place l =
    (l.sends.items
    ≡ l.fn.sends.items ++ map (λ node. Reply l.me node l.name (get_or l.self-inside.numbers.items (node - 1) 0)) (filter (λ node. set.contains l.self-inside.nodes node) (range_with_len 1 l.place)))
    × (length l.self-inside.numbers.items ≤ l.fn.sends.spare → l.fn.sends.spare ≤ l.sends.spare + l.place)
