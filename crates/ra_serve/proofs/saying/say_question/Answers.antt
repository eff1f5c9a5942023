use Rattle.std.proofs.Common.{Option, subst}
use Rattle.ra_link.specs.declared.message.Message.{Message}
use Rattle.ra_serve.specs.Saying.{SaysPlain}
use Rattle.ra_serve.proofs.saying.say_question.Goals as goal

pub returns : goal.returns
returns c = (
  c.say_plain.new.base,
  subst (λ (m : Option Message). SaysPlain c.args.base.now c.args.to m c.say_plain.new.base) c.hello.ensures c.say_plain.ensures,
  subst (λ (m : Option Message). SaysPlain c.say_plain.new.base c.args.to m c.say_plain-2.new.base) c.old.ensures c.say_plain-2.ensures,
)
