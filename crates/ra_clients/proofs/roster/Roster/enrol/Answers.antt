use Rattle.ra_clients.proofs.RosterCalls.{enrolled}
use Rattle.ra_clients.proofs.Found.{taken}
use Rattle.ra_clients.proofs.roster.Roster.enrol.Goals as goal

pub invariant_of-self-2 : goal.invariant_of-self-2
invariant_of-self-2 c =
    let old = c.args.self.now in
    let takes = taken old.numbers c.take.new.self c.args.number c.take.result c.requires c.ranges.number.fits c.take.ensures.least c.take.ensures.takes c.take.ensures.none in
    record {
      in_step = enrolled old.clients c.join_at.new.clients old.numbers c.take.new.self old.ends c.add_end.new.ends old.leaving c.args.number c.args.name.now old.in_step c.requires.free
          c.args.connection c.args.now c.args.until c.in_default.ensures.ok takes c.in_ok-add_end.ensures.ok;
    }
