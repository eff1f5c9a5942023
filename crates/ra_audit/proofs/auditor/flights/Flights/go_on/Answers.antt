use Rattle.ra_audit.proofs.Flying.{flies_next}
use Rattle.ra_audit.proofs.auditor.flights.Flights.go_on.Goals as goal

pub returns : goal.returns
returns c = flies_next c.args.self.now c.take_of.new.self c.send.new.self _ c.args.event.now.clock c.args.sends.items c.take_of.ensures c.send.ensures
