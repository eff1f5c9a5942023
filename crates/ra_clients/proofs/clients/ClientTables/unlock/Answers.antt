use Rattle.std.proofs.Common.{◌≡◌, Some, refl, sym, ◌∙◌}
use Rattle.std.specs.BTreeMap.{get}
use Rattle.std.specs.Ordering.{nat_cmp}
use Rattle.ra_clients.specs.Clients.{unlocks}
use Rattle.ra_clients.proofs.NamedUses.{none_some}
use Rattle.ra_clients.proofs.Shown.{not_held}
use Rattle.ra_clients.proofs.clients.ClientTables.unlock.Goals as goal

pub returns-in-Ok-None : goal.returns-in-Ok-None
returns-in-Ok-None c =
    λ l s shows.
    let old = c.args.self.now in
    let has : get nat_cmp old.number_of c.args.client ≡ Some c.in-Some.number = sym c.get.ensures.value ∙ (sym c.copied.ensures ∙ c.in-Some.is) in (
      unlocks s c.args.client c.args.name.now,
      refl,
      not_held old.time old.number_of old.closed old.roster c.end.new.self old.released s shows c.in-Some.number c.args.name.now c.args.client
          (shows.are_closed c.args.client ∙ (sym c.contains.ensures ∙ c.if-contains.false)) (shows.numbers c.args.client ∙ has) (sym c.in-Ok-None.ensures.value ∙ c.in-Ok-None.field-0-is)
          c.in-Ok-None.ensures.ok,
    )

pub returns-in-Err : goal.returns-in-Err
returns-in-Err c =
    λ l s shows.
    let old = c.args.self.now in
    let has : get nat_cmp old.number_of c.args.client ≡ Some c.in-Some.number = sym c.get.ensures.value ∙ (sym c.copied.ensures ∙ c.in-Some.is) in
    absurd (none_some c.args.client (sym (c.in-Err.ensures.lacks refl) ∙ old.numbered c.args.client c.in-Some.number has))
