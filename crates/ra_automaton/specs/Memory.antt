-- Which messages take memory: those that are answered at once.
use Rattle.ra_stamp.specs.declared.message.Message.{Message}
use Rattle.ra_stamp.specs.declared.message.Message.TheVariants.{Request, Reply}
use Rattle.ra_automaton.specs.State.{State}
use Rattle.ra_automaton.specs.Steps.{OwnGoesFirst}

-- the message is a REQUEST whose REPLY is not deferred; no other message takes memory
abbrev pub IsRepliedAtOnce : State → Message → Type 0
IsRepliedAtOnce old (Request from to name mode seq) = OwnGoesFirst old.phase old.me from seq mode → ⊥
IsRepliedAtOnce old (Reply from to name seq) = ⊥
