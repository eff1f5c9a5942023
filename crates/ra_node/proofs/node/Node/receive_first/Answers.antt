use Rattle.std.proofs.Common.{◌≡◌, ℕ, List, refl, sym, ap, ◌∙◌}
use Rattle.std.specs.FinMap as finmap
use Rattle.ra_stamp.specs.Message.{name_of}
use Rattle.ra_node.proofs.After.{first_receive_kept, first_received, first_stays, request_is_no_stray}
use Rattle.ra_node.proofs.Bringing.{first_is_brought}
use Rattle.ra_node.proofs.node.Node.receive_first.Goals as goal

pub returns-in_default-clause-received : goal.returns-in_default-clause-received
returns-in_default-clause-received c =
    first_stays c.args.self.now _ refl c.args.message.now _ _ _ _ c.in_default.is c.requires.first _ _ c.nothing.ensures.0 c.nothing.ensures.1

pub insert_slot-requires-clause-consistent : goal.insert_slot-requires-clause-consistent
insert_slot-requires-clause-consistent c =
    let slot = c.unmet_slot-slot in
    let ended = c.in-Ok.ensures.received in
    let none = ap (λ (q : List ℕ). finmap.get c.args.self.now.resources q) (sym (ap name_of c.in-Request.is)) ∙ c.requires.first in
    first_receive_kept c.args.self.now c.in-Request.name none slot.result slot.ensures.value c.requires.consistent c.args.message.now _ _ c.receive.new.self ended.0 ended.1

pub returns-in-Err-clause-brings : goal.returns-in-Err-clause-brings
returns-in-Err-clause-brings c = first_is_brought c.args.self.now c.args.message.now _ _ _ _ _ c.in-Request.is c.requires.first

pub returns-clause-received : goal.returns-clause-received
returns-clause-received c =
    let slot = c.unmet_slot-slot in
    let name-is : c.in-Request.name ≡ name_of c.args.message.now = sym (ap name_of c.in-Request.is) in
    let none = ap (λ (q : List ℕ). finmap.get c.args.self.now.resources q) name-is ∙ c.requires.first in
    let no_stray = request_is_no_stray slot.result c.args.message.now _ _ _ _ _ c.in-Request.is in
    first_received c.args.self.now c.in-Request.name none slot.result slot.ensures.value c.args.message.now _ _ c.receive.new.self name-is c.in-Ok.ensures.received.0 no_stray c.insert_slot.new.self c.in-Ok-insert_slot.ensures.inserted

pub insert_slot-requires-clause-first : goal.insert_slot-requires-clause-first
insert_slot-requires-clause-first c = ap (λ (q : List ℕ). finmap.get c.args.self.now.resources q) (sym (ap name_of c.in-Request.is)) ∙ c.requires.first

pub returns-in_default-insert_slot-clause-received : goal.returns-in_default-insert_slot-clause-received
returns-in_default-insert_slot-clause-received c = (refl, c.in_default-insert_slot.ensures.err)

pub returns-in_default-insert_slot-clause-brings : goal.returns-in_default-insert_slot-clause-brings
returns-in_default-insert_slot-clause-brings c = first_is_brought c.args.self.now c.args.message.now _ _ _ _ _ c.in-Request.is c.requires.first
