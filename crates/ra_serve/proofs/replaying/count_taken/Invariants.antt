use Rattle.ra_serve.proofs.EventLists.{Counting}
use Rattle.ra_serve.proofs.replaying.count_taken.Given as goal

-- the events up to this place are read and counted, and each turn took a byte or more
abbrev pub invariant-loop-turn : goal.invariant-loop-turn
invariant-loop-turn l = Counting l.events l.place l._turn l.settings.member.nodes l.counts.counts.items
