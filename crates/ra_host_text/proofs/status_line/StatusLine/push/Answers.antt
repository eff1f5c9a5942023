use Rattle.std.proofs.Common.{◌++◌, ap, append_assoc, codes, sym, ℕ}
use Rattle.std.specs.Prelude.{decimal}
use Rattle.ra_stamp.specs.Mode.{mode_word}
use Rattle.ra_text.specs.Lines.{field}
use Rattle.ra_text.proofs.Drafts.{adds_as, adds_both}
use Rattle.ra_host_text.specs.StatusText.{connection_text}
use Rattle.ra_host_text.proofs.status_line.StatusLine.push.Goals as goal

pub returns-in-Node-clause-text : goal.returns-in-Node-clause-text
returns-in-Node-clause-text c =
    let nodes = adds_as c.push_number.ensures (ap (λ (n : ℕ). field (decimal n)) c.get.ensures.value) in
    rw c.in-Node.is (adds_both (adds_both c.push_node.ensures.text nodes) c.push_number-in-Node.ensures)

pub returns-in-Peer-clause-text : goal.returns-in-Peer-clause-text
returns-in-Peer-clause-text c =
    let word = adds_as c.push_field.ensures (ap field c.peer_word.ensures) in
    rw c.in-Peer.is
    (adds_both (adds_both (adds_both c.push_node-in-Peer.ensures.text word) c.push_number-in-Peer.ensures)
    c.push_number-in-Peer-2.ensures)

pub returns-in-Holds-clause-text : goal.returns-in-Holds-clause-text
returns-in-Holds-clause-text c =
    let before = codes "holds" ++ field c.in-Holds.name ++ field (mode_word c.in-Holds.mode) ++ field (decimal c.in-Holds.seq) in
    rw c.in-Holds.is
    (adds_as (adds_both (adds_both c.push_mode.ensures.text c.push_number-in-Holds.ensures) c.push_client_since.ensures.text)
    (sym (append_assoc before (field (connection_text c.in-Holds.client)) (field (decimal c.in-Holds.since)))))

pub returns-in-Waits-clause-text : goal.returns-in-Waits-clause-text
returns-in-Waits-clause-text c =
    let before = codes "waits" ++ field c.in-Waits.name ++ field (mode_word c.in-Waits.mode) in
    rw c.in-Waits.is
    (adds_as (adds_both c.push_mode-in-Waits.ensures.text c.push_client_since-in-Waits.ensures.text)
    (sym (append_assoc before (field (connection_text c.in-Waits.client)) (field (decimal c.in-Waits.since)))))
