-- Which refusal of a book a refusal of its node is.
use Rattle.ra_automaton.specs.declared.error.ReceiveError.{ReceiveError}
use Rattle.ra_automaton.specs.declared.error.ReceiveError.TheVariants as receive
use Rattle.ra_node.specs.declared.error.AskError.{AskError}
use Rattle.ra_node.specs.declared.error.AskError.TheVariants as ask
use Rattle.ra_node.specs.declared.error.CancelError.{CancelError}
use Rattle.ra_node.specs.declared.error.CancelError.TheVariants as cancel
use Rattle.ra_node.specs.declared.error.LeaveError.{LeaveError}
use Rattle.ra_node.specs.declared.error.LeaveError.TheVariants as leave
use Rattle.ra_book.specs.declared.error.BookError.{BookError}
use Rattle.ra_book.specs.declared.error.BookError.TheVariants.{Busy, Exhausted, NotHeld, NotWaiting, WrongNode, Stranger, Memory}

-- the refusal of a book's event that a refusal of its node's ask becomes
abbrev pub refusal_of_ask : AskError → BookError
refusal_of_ask ask.Busy = Busy
refusal_of_ask ask.Exhausted = Exhausted
refusal_of_ask ask.Memory = Memory

-- the one that a refusal of its leave becomes
abbrev pub refusal_of_leave : LeaveError → BookError
refusal_of_leave leave.NotHeld = NotHeld
refusal_of_leave leave.Memory = Memory

-- the one that a refusal of its cancel becomes
abbrev pub refusal_of_cancel : CancelError → BookError
refusal_of_cancel cancel.NotWaiting = NotWaiting
refusal_of_cancel cancel.Memory = Memory

-- the one that a refusal of a message becomes
abbrev pub refusal_of_receive : ReceiveError → BookError
refusal_of_receive receive.WrongNode = WrongNode
refusal_of_receive receive.Stranger = Stranger
refusal_of_receive receive.Memory = Memory
