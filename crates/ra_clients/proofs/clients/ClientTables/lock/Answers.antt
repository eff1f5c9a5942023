use Rattle.std.proofs.Common.{◌≡◌, ℕ, true, false, List, [], Option, Some, None, refl, sym, ◌∙◌}
use Rattle.std.specs.BTreeMap.{get}
use Rattle.std.specs.Ordering.{nat_cmp}
use Rattle.ra_stamp.specs.declared.mode.Mode.{Mode}
use Rattle.ra_clients.specs.Clients.{Clients, asks, locks, locks_as, silent}
use Rattle.ra_clients.specs.Shown.{Shows, limits_of, lock_tells, lock_does}
use Rattle.ra_clients.proofs.Shown.{as_turn}
use Rattle.ra_clients.proofs.Numbered.{first_free, first_unused}
use Rattle.ra_clients.proofs.Locking.{passed_over, locks_by}
use Rattle.ra_clients.proofs.Found.{if_ok}
use Rattle.ra_clients.proofs.clients.ClientTables.lock.Goals as goal

pub returns-then-contains-clause-ok : goal.returns-then-contains-clause-ok
returns-then-contains-clause-ok c =
    λ mode s shows.
    let old = c.args.self.now in
    let free = first_free old.roster.numbers old.roster.numbers.fits old.roster.numbers.within in
    let first = first_unused old.time old.number_of old.closed old.roster old.released s shows (λ k. (old.roster.in_step k).used) free.number free.free free.least in
    let l = limits_of c.args.limits.now in
    let name = c.args.name.now in (
      locks l free.number s c.args.client name mode c.args.within,
      (free.number, first, refl),
      as_turn (λ (t : Clients). Shows old t) (locks l free.number s c.args.client name mode c.args.within) (silent s) [] None
          (passed_over s.now s l c.args.client free.number name mode c.args.within _ refl refl (shows.are_closed c.args.client ∙ (sym c.contains.ensures ∙ c.if-contains.true)))
          (record { clients = shows; tells_are = refl; does_is = refl; closes_not = refl }),
    )

pub returns-in-Some-clause-ok : goal.returns-in-Some-clause-ok
returns-in-Some-clause-ok c =
    let old = c.args.self.now in
    let free = first_free old.roster.numbers old.roster.numbers.fits old.roster.numbers.within in
    let l = limits_of c.args.limits.now in
    let name = c.args.name.now in
    let number = c.in-Some.number in
    let until = c.end_after-until.result in
    let has : get nat_cmp old.number_of c.args.client ≡ Some number = sym c.get.ensures.value ∙ (sym c.copied.ensures ∙ c.in-Some.is) in
    if_ok c.lock_more.result _ _
    (λ lock more mode s shows.
    let first = first_unused old.time old.number_of old.closed old.roster old.released s shows (λ k. (old.roster.in_step k).used) free.number free.free free.least in
    let isnt = shows.are_closed c.args.client ∙ (sym c.contains.ensures ∙ c.if-contains.false) in (
      locks l free.number s c.args.client name mode c.args.within,
      (free.number, first, refl),
      as_turn (λ (t : Clients). Shows c.lock_more.new.self t) (locks l free.number s c.args.client name mode c.args.within) (asks l s c.args.client number name mode until)
          (lock_tells c.args.client name lock) (lock_does name mode lock)
          (locks_by old.time s l c.args.client free.number name mode c.args.within until shows.now_is c.end_after-until.ensures (Some number) isnt (shows.numbers c.args.client ∙ has))
          (more s c.args.client mode shows),
    ))
    c.lock_more.ensures.ok

pub returns-in-None-clause-ok : goal.returns-in-None-clause-ok
returns-in-None-clause-ok c =
    let old = c.args.self.now in
    let free = first_free old.roster.numbers old.roster.numbers.fits old.roster.numbers.within in
    let l = limits_of c.args.limits.now in
    let name = c.args.name.now in
    let until = c.end_after-until.result in
    let none : get nat_cmp old.number_of c.args.client ≡ None = sym c.get.ensures.value ∙ (sym c.copied.ensures ∙ c.in-None.is) in
    if_ok c.lock_first.result _ _
    (λ lock more mode s shows.
    let first = first_unused old.time old.number_of old.closed old.roster old.released s shows (λ k. (old.roster.in_step k).used) free.number free.free free.least in
    let isnt = shows.are_closed c.args.client ∙ (sym c.contains.ensures ∙ c.if-contains.false) in (
      locks l free.number s c.args.client name mode c.args.within,
      (free.number, first, refl),
      as_turn (λ (t : Clients). Shows c.lock_first.new.self t) (locks l free.number s c.args.client name mode c.args.within) (locks_as None l free.number s c.args.client name mode until)
          (lock_tells c.args.client name lock) (lock_does name mode lock)
          (locks_by old.time s l c.args.client free.number name mode c.args.within until shows.now_is c.end_after-until.ensures None isnt (shows.numbers c.args.client ∙ none))
          (more s free.number mode shows first),
    ))
    c.lock_first.ensures.ok
