use Rattle.std.proofs.Common.{◌≡◌, ◌<◌, ◌∙◌, ℕ, List, [], Option, Some, None, sym, subst, arith}
use Rattle.std.specs.BTreeMap.{btree_map_len}
use Rattle.ra_stamp.specs.declared.mode.Mode.{Mode}
use Rattle.ra_book.specs.declared.book.event.BookKind.TheVariants.{Ask}
use Rattle.ra_clients.specs.Clients.{Clients, locks_as}
use Rattle.ra_clients.specs.Shown.{AreShown, IsTurn, limits_of}
use Rattle.ra_clients.proofs.Numbered.{same_unused}
use Rattle.ra_clients.proofs.Locking.{first_asks, has_room}
use Rattle.ra_clients.proofs.Found.{count_more, num_apart}
use Rattle.ra_clients.proofs.clients.ClientTables.lock_first.Goals as goal

pub returns-clause-ok : goal.returns-clause-ok
returns-clause-ok c =
    λ s unused mode shows first.
    let old = c.args.self.now in
    let k = c.in-Some.number in
    let l = limits_of c.args.limits.now in
    let name = c.args.name.now in
    let client = c.args.client in
    let least = c.in-Some.ensures in
    let same : unused ≡ k =
    same_unused old.time old.number_of old.closed old.roster old.released s shows (λ j. (old.roster.in_step j).used) k unused least.free least.least first in
    let put = c.in_ok-insert.ensures.updates in
    let few : btree_map_len old.number_of < l.clients = omega (arith, c.if-limits-len.false, c.len.ensures.len) in
    let some = c.if-limits-eq0.false in
    let room = has_room old.time old.number_of old.closed old.roster old.released s shows l client k name mode c.args.until few some c.in_default-enrol.ensures.fits in
    subst
    (λ (u : ℕ).
    IsTurn (λ (t : Clients). AreShown old.time c.insert.new.self old.closed c.enrol.new.self old.released t) (locks_as None l u s client name mode c.args.until) []
    (Some (Ask k name mode)))
    (sym same)
    (first_asks old.time old.number_of old.closed old.roster old.released s shows l client k name mode c.args.until c.insert.new.self c.enrol.new.self c.in_default-enrol.ensures.ok put.1
    (λ d apart. put.2 d (num_apart client d (λ its. apart (sym its))))
    (count_more c.in_ok-insert.field-0 _ _ c.in_ok-insert.ensures.len (c.in_ok-insert.ensures.old ∙ c.requires))
    room some)
