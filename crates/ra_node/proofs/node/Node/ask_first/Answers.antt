use Rattle.std.proofs.Common.{refl, subst}
use Rattle.ra_node.specs.Faults.{IsAskRefusal}
use Rattle.ra_node.specs.Resource.{Resource}
use Rattle.ra_node.specs.Turns.{MayAsk}
use Rattle.ra_node.proofs.After.{first_here, first_ask_kept, first_asked}
use Rattle.ra_node.proofs.node.Node.ask_first.Goals as goal

pub insert_slot-requires-clause-consistent : goal.insert_slot-requires-clause-consistent
insert_slot-requires-clause-consistent c =
    let slot = c.unmet_slot-slot in
    let ended = c.in-Ok.ensures in
    first_ask_kept c.args.self.now c.args.name c.requires slot.result slot.ensures.value slot.ensures.consistent c.args.client c.args.mode _ _ c.ask.new.self ended.0 ended.1

pub returns-clause-asked : goal.returns-clause-asked
returns-clause-asked c =
    let slot = c.unmet_slot-slot in
    first_asked c.args.self.now c.args.name c.requires slot.result slot.ensures.value c.args.client c.args.mode _ _ c.ask.new.self c.in-Ok.ensures.0 c.insert_slot.new.self c.in-Ok-insert_slot.ensures.inserted

pub returns-in-Err-clause-asked : goal.returns-in-Err-clause-asked
returns-in-Err-clause-asked c =
    let slot = c.unmet_slot-slot in
    (subst (λ (r : Resource). IsAskRefusal r c.args.client c.in-Err.fault) (first_here c.args.self.now c.args.name c.requires slot.result slot.ensures.value) c.in-Err.ensures.0, refl)

pub returns-in_default-clause-asked : goal.returns-in_default-clause-asked
returns-in_default-clause-asked c =
    let slot = c.unmet_slot-slot in
    (subst (λ (r : Resource). MayAsk r c.args.client) (first_here c.args.self.now c.args.name c.requires slot.result slot.ensures.value) c.in-Ok.ensures.0.0, c.in_default.ensures.err)
