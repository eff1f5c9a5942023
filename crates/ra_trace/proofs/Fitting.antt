-- What the types of fields say of their ranges.
use Rattle.std.proofs.Common.{◌≡◌, ◌<◌, ◌^◌, ℕ, List, refl, subst}
use Rattle.ra_stamp.specs.Message.{from_of, to_of, name_of, seq_of}
use Rattle.ra_stamp.specs.Name.{IsName}
use Rattle.ra_stamp.specs.NodeId.{IsNodeNumber}
use Rattle.ra_stamp.specs.declared.entry.Entry.{Entry}
use Rattle.ra_stamp.specs.declared.message.Message.{Message}
use Rattle.ra_stamp.specs.declared.message.Message.TheVariants.{Request, Reply}
use Rattle.ra_trace.specs.Ranges.{EntryFits, MessageFits}

pub entry_fits : (entry : Entry) (node : ℕ) (name : List ℕ) → node ≡ entry.stamp.node → IsNodeNumber node → name ≡ entry.name → IsName name
    → entry.client < 2 ^ 32 → entry.stamp.seq < 2 ^ 64 → EntryFits entry
entry_fits entry node name node_is node_fits name_is name_fits client seq some =
    (subst IsNodeNumber node_is node_fits, client, subst IsName name_is name_fits, refl, (some, seq))

pub message_fits : (message : Message) (from to seq : ℕ) (name : List ℕ) → from ≡ from_of message → IsNodeNumber from → to ≡ to_of message → IsNodeNumber to
    → name ≡ name_of message → IsName name → seq ≡ seq_of message → seq < 2 ^ 64 → MessageFits message
message_fits (Request f t n mode s) from to seq name from_is from_fits to_is to_fits name_is name_fits seq_is seq_fits some =
    (subst IsNodeNumber from_is from_fits, subst IsNodeNumber to_is to_fits, subst IsName name_is name_fits, refl, (some, subst (λ (k : ℕ). k < 2 ^ 64) seq_is seq_fits))
message_fits (Reply f t n s) from to seq name from_is from_fits to_is to_fits name_is name_fits seq_is seq_fits some =
    (subst IsNodeNumber from_is from_fits, subst IsNodeNumber to_is to_fits, subst IsName name_is name_fits, (some, subst (λ (k : ℕ). k < 2 ^ 64) seq_is seq_fits))
