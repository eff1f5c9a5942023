use Rattle.std.proofs.Common.{refl, ◌∙◌}
use Rattle.ra_clients.specs.Table.{connection_at, uses_at}
use Rattle.ra_clients.proofs.RosterCalls.{parted, parted_kept, parted_had}
use Rattle.ra_clients.proofs.Found.{has_names_is, is_some_found}
use Rattle.ra_clients.proofs.roster.Roster.part.Goals as goal

pub invariant_of-self-2 : goal.invariant_of-self-2
invariant_of-self-2 c =
    let old = c.args.self.now in
    let k = c.args.number in
    let found = is_some_found (connection_at old.clients k) c.requires in
    let us = uses_at old.clients k in
    record {
      in_step = parted old.clients c.leave_at.new.clients c.forget_at.new.clients old.numbers c.part_number.new.numbers old.ends old.leaving c.part_number.new.leaving k found.0 old.in_step
          found.1 c.leave_at.ensures c.forget_at.ensures c.is_some-has_names.result us refl
          (c.is_some-has_names.ensures ∙ has_names_is c.first_at.result us c.first_at.ensures) c.in_ok-part_number.ensures.ok;
    }

pub returns-clause-ok : goal.returns-clause-ok
returns-clause-ok c =
    let old = c.args.self.now in
    let k = c.args.number in
    let found = is_some_found (connection_at old.clients k) c.requires in
    let us = uses_at old.clients k in
    record {
      clients = record {
        here = c.forget_at.ensures.connections k ∙ c.leave_at.ensures.here;
        others = λ j apart. c.forget_at.ensures.connections j ∙ c.leave_at.ensures.others j apart;
        uses = λ j. c.forget_at.ensures.uses j ∙ c.leave_at.ensures.uses j;
      };
      before = record {
        had = parted_had old.clients c.leave_at.new.clients c.forget_at.new.clients old.numbers c.part_number.new.numbers old.ends old.leaving c.part_number.new.leaving k found.0
            old.in_step found.1 c.leave_at.ensures c.forget_at.ensures;
        before = parted_kept old.clients c.leave_at.new.clients c.forget_at.new.clients old.numbers c.part_number.new.numbers old.ends old.leaving c.part_number.new.leaving k found.0
            old.in_step found.1 c.leave_at.ensures c.forget_at.ensures c.is_some-has_names.result us refl
            (c.is_some-has_names.ensures ∙ has_names_is c.first_at.result us c.first_at.ensures) c.in_ok-part_number.ensures.ok;
      };
    }
