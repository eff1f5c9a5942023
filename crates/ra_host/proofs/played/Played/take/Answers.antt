use Rattle.std.proofs.Common.{◌≡◌, ◌≤◌, List, false, length, map, sym, ap, ◌∙◌, subst, arith}
use Rattle.ra_stamp.specs.declared.message.Message.{Message}
use Rattle.ra_book.specs.History.{frames_at, node_event}
use Rattle.ra_host.specs.declared.outbox.Outbox.{Outbox}
use Rattle.ra_host.specs.Full.{is_full, most_made}
use Rattle.ra_host.specs.Outgoing.{outgoing_of, posts}
use Rattle.ra_host.specs.Played.{IsPlayedOf, PlayedState, Plays, played_of}
use Rattle.ra_node.proofs.EventsKept.{node_kept}
use Rattle.ra_host.proofs.PlayedBooks.{few_sent, plays_of, plays_on}
use Rattle.ra_host.proofs.Rooms.{have_room, on_ok}
use Rattle.ra_host.proofs.played.Played.take.Goals as goal

pub post-requires : goal.post-requires
post-requires c =
    let free : is_full (map outgoing_of c.self.inside.outboxes.items) ≡ false =
    ap (λ (boxes : List Outbox). is_full (map outgoing_of boxes)) (sym c.deref.ensures.value) ∙ sym c.is_full.ensures ∙ c.if-is_full.false in
    let few : length c.in-Ok.outcome.sends.items ≤ most_made =
    few_sent c.self.inside.timed.node c.take.new.self.node c.args.kind.now c.in-Ok.outcome.sends.items c.in-Ok.outcome.marks.items c.self.invariant c.in-Ok.ensures.taken.event in
    let len = ap (λ (ms : List Message). length ms) c.as_slice.ensures in
    have_room c.make_room.new.outboxes.items (length c.as_slice.result.now) (ap is_full c.make_room.ensures.same ∙ free)
    (on_ok c.make_room.result (sym c.is_err.ensures.value ∙ c.if-is_err.false) c.make_room.ensures.ok) (omega (arith, len, few))

pub invariant_of-self-2 : goal.invariant_of-self-2
invariant_of-self-2 c =
    let takes = c.in-Ok.ensures.taken in
    node_kept c.self.inside.timed.node c.take.new.self.node (node_event c.args.kind.now) c.in-Ok.outcome.sends.items c.in-Ok.outcome.marks.items c.self.invariant takes.for_this_node takes.event

pub returns-clause-taken : goal.returns-clause-taken
returns-clause-taken c =
    let new : PlayedState = record { timed = c.take.new.self; outgoing = map outgoing_of c.post.new.outboxes.items } in
    let free : is_full (map outgoing_of c.self.inside.outboxes.items) ≡ false =
    ap (λ (boxes : List Outbox). is_full (map outgoing_of boxes)) (sym c.deref.ensures.value) ∙ sym c.is_full.ensures ∙ c.if-is_full.false in
    let posted = c.post.ensures ∙ (λ at. posts (c.make_room.ensures.same at) (frames_at (c.clock-clock.ensures at) (c.as_slice.ensures at))) in
    subst (λ (p : PlayedState). Plays p c.args.kind.now c.in-Ok.outcome new) c.self.view_is
    (plays_of c.self.inside c.args.kind.now c.in-Ok.outcome c.take.new.self c.post.new.outboxes.items c.self.invariant c.in-Ok.ensures.taken free posted)

pub returns-clause-book : goal.returns-clause-book
returns-clause-book c book is =
    let new : PlayedState = record { timed = c.take.new.self; outgoing = map outgoing_of c.post.new.outboxes.items } in
    let free : is_full (map outgoing_of c.self.inside.outboxes.items) ≡ false =
    ap (λ (boxes : List Outbox). is_full (map outgoing_of boxes)) (sym c.deref.ensures.value) ∙ sym c.is_full.ensures ∙ c.if-is_full.false in
    let posted = c.post.ensures ∙ (λ at. posts (c.make_room.ensures.same at) (frames_at (c.clock-clock.ensures at) (c.as_slice.ensures at))) in
    plays_on (played_of c.self.inside) new c.args.kind.now c.in-Ok.outcome book
    (plays_of c.self.inside c.args.kind.now c.in-Ok.outcome c.take.new.self c.post.new.outboxes.items c.self.invariant c.in-Ok.ensures.taken free posted)
    (subst (λ (p : PlayedState). IsPlayedOf p book) (sym c.self.view_is) is)
