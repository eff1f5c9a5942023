-- The parts that messages of both kinds have.
use Rattle.std.specs.Prelude.{ℕ, List}
use Rattle.ra_stamp.specs.declared.message.Message.{Message}
use Rattle.ra_stamp.specs.declared.message.Message.TheVariants.{Request, Reply}

-- the node that sends the message
abbrev pub from_of : Message → ℕ
from_of (Request from to name mode seq) = from
from_of (Reply from to name seq) = from

-- the node that the message is for
abbrev pub to_of : Message → ℕ
to_of (Request from to name mode seq) = to
to_of (Reply from to name seq) = to

-- the name that the message is about
abbrev pub name_of : Message → List ℕ
name_of (Request from to name mode seq) = name
name_of (Reply from to name seq) = name

-- the number of the request that the message is, or that it answers
abbrev pub seq_of : Message → ℕ
seq_of (Request from to name mode seq) = seq
seq_of (Reply from to name seq) = seq
