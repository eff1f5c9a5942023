use Rattle.ra_bag.proofs.bag.slot_among.Goals as goal

pub returns : goal.returns
returns c = c.nth.ensures c.args.place (c.skip-first.ensures c.args.slots.now.items c.requires)
