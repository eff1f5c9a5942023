-- Which messages a node takes without sending or marking anything.
use Rattle.std.specs.Prelude.{[]}
use Rattle.ra_stamp.specs.declared.message.Message.{Message}
use Rattle.ra_node.specs.Resource.{Resource}
use Rattle.ra_node.specs.Turns.{ReceiveTurn}
use Rattle.ra_node.specs.Node.{NodeState}
use Rattle.ra_node.specs.Events.{ReceiveEvent}

-- nothing is sent and nothing is marked when the message comes to this resource
abbrev pub BringsNothingTo : Resource → Message → Type 0
BringsNothingTo old message = (new : Resource) × ReceiveTurn old message [] [] new

-- nothing is sent and nothing is marked when the message comes to this node
abbrev pub BringsNothing : NodeState → Message → Type 0
BringsNothing old message = (new : NodeState) × ReceiveEvent old message [] [] new
