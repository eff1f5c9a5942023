use Rattle.ra_clients.specs.Table.{connection_at}
use Rattle.ra_clients.proofs.InStep.{begun}
use Rattle.ra_clients.proofs.Found.{begun_changes, is_some_found}
use Rattle.ra_clients.proofs.roster.Roster.begin.Goals as goal

pub invariant_of-self-in-Ok : goal.invariant_of-self-in-Ok
invariant_of-self-in-Ok c =
    let old = c.args.self.now in
    let found = is_some_found (connection_at old.clients c.args.number) c.requires.connected in
    record {
      in_step = begun old.clients c.begin_at.new.clients old.numbers old.ends c.add_end.new.ends old.leaving c.args.number c.args.name.now old.in_step found.0 c.args.now c.args.until
          found.1 c.requires.new_name
          (begun_changes old.clients c.begin_at.new.clients c.args.number found.0 _ _ c.in-Ok.field-0 found.1 c.in-Ok.ensures.there c.in-Ok.ensures.changes)
          c.in_ok-add_end.ensures.ok;
    }
