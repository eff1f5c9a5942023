-- A list that only contracts see owns nothing, so it may go to another thread.
use denote.RattleType.{RattleType}
use denote.Param.Send.{IsSend, owning_send, sendable}
use Rattle.ra_stamp.specs.contracts.ghost_list.GhostList.{the_row, the_type}

pub send : (R : RattleType) → IsSend (the_row R)
send R = owning_send (the_type R) (search sendable, tt) (λ d. tt) (λ k x w. tt)
