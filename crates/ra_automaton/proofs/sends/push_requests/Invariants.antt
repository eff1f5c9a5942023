use Rattle.std.proofs.Common.{◌≡◌, ◌+◌, ◌≤◌, ◌++◌, map}
use Rattle.ra_stamp.specs.declared.message.Message.TheVariants.{Request}
use Rattle.ra_automaton.specs.Steps.{others_of}
use Rattle.ra_automaton.proofs.sends.push_requests.Given as goal

abbrev pub invariant-loop-place : goal.invariant-loop-place
invariant-loop-place l =
    (l.sends.items ≡ l.fn.sends.items ++ map (λ other. Request l.me other l.name l.mode l.seq) (others_of l.me l.place))
    × (l.nodes ≤ l.fn.sends.spare → l.fn.sends.spare ≤ l.sends.spare + l.place)
