use Rattle.ra_host.proofs.Grants.{NodeLaws}
use Rattle.ra_host.proofs.Held.{granted, lasts, lead_keeps}
use Rattle.ra_host.proofs.HostLaws.{sound_at}
use Rattle.ra_host.proofs.Sound.{BookLaws}
use Rattle.ra_host.proofs.laws.grants.what_is_granted_is_held_until_its_client_leaves.Goals as goal

pub returns : goal.returns
returns c =
    let first = c.histories_go_on.ensures in
    let cut = c.books_can_be_cut.ensures in
    let laws : BookLaws =
    record { opening = first.opening; event = first.event; history = cut.history; whole = cut.whole; come = cut.come; sent = cut.sent; again = cut.again; all = cut.all } in
    let others = c.events_leave_other_names.ensures in
    let node_laws : NodeLaws =
    record { resource = others.resource; forgets = others.forgets; one_request = c.events_keep_a_node_consistent.ensures.one_request } in
    let consistent = c.histories_keep_a_node_consistent.ensures.from_opening in
    let one = c.histories_are_determined.ensures.node in
    record {
      granted = λ h new kind entry history is has. granted laws node_laws consistent one h new kind history is entry has;
      lasts = λ h new kind entry history is not held. lasts laws node_laws consistent one h new kind history is entry not held;
      hosts = λ n start before later old new i entry count reaches low high held lead all.
          lead_keeps laws node_laws consistent one n start i low high entry later old new (sound_at laws n start count before old reaches) held all lead;
    }
