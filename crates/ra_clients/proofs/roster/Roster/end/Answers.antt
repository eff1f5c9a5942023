use Rattle.std.proofs.Common.{Option, ℕ, false, ap, subst, ◌∙◌}
use Rattle.ra_clients.specs.Times.{Sets}
use Rattle.ra_clients.specs.Roster.{end_if_some}
use Rattle.ra_clients.proofs.RosterCalls.{ended}
use Rattle.ra_clients.proofs.roster.Roster.end.Goals as goal

pub invariant_of-self-2 : goal.invariant_of-self-2
invariant_of-self-2 c =
    let old = c.args.self.now in
    let k = c.args.number in
    let name = c.args.name.now in
    record {
      in_step = ended old.clients c.end_at-used.new.clients c.forget_at.new.clients old.numbers c.free_number.new.numbers old.ends c.drop_end.new.ends old.leaving c.free_number.new.leaving
          k name old.in_step c.end_at-used.ensures.changes c.forget_at.ensures
          (subst (λ (o : Option ℕ). Sets old.ends k name o false c.drop_end.new.ends) (c.end_of.ensures ∙ ap end_if_some c.end_at-used.ensures.value) c.drop_end.ensures)
          c.is_last_at-is_last.result c.is_last_at-is_last.ensures c.in_ok-free_number.ensures.ok;
    }
