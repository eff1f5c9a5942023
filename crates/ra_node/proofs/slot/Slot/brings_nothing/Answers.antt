use Rattle.std.proofs.Common.{◌↔◌, IsTrue, sym, ap, ◌∙◌, subst}
use Rattle.std.specs.Prelude.{not}
use Rattle.std.proofs.lemmas.Bool.{false≢true}
use Rattle.ra_automaton.specs.Steps.{LetsEnter}
use Rattle.ra_automaton.specs.Memory.{IsRepliedAtOnce}
use Rattle.ra_node.specs.Resource.{Resource}
use Rattle.ra_node.proofs.Bringing.{tells, reply_is_brought}
use Rattle.ra_node.proofs.slot.Slot.brings_nothing.Goals as goal

pub returns-then-not-replies_at_once : goal.returns-then-not-replies_at_once
returns-then-not-replies_at_once c =
    tells c.args.self.now c.args.message.now c.replies_at_once.result c.lets_enter.result
    (subst (λ (r : Resource). IsTrue c.replies_at_once.result ↔ IsRepliedAtOnce r.state c.args.message.now) c.self.view_is c.replies_at_once.ensures)
    (subst (λ (r : Resource). IsTrue c.lets_enter.result ↔ LetsEnter r.state c.args.message.now) c.self.view_is c.lets_enter.ensures)
    c.if-not-replies_at_once.true

pub returns-else-not-replies_at_once : goal.returns-else-not-replies_at_once
returns-else-not-replies_at_once c =
    let answered = subst (λ (r : Resource). IsTrue c.replies_at_once.result ↔ IsRepliedAtOnce r.state c.args.message.now) c.self.view_is c.replies_at_once.ensures in
    (λ is. absurd (false≢true (sym (ap not c.if-not-replies_at_once.false) ∙ is)), λ brings. absurd (reply_is_brought c.args.self.now c.args.message.now (answered.0 c.if-not-replies_at_once.false) brings))
