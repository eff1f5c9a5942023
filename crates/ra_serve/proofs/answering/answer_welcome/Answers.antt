use Rattle.std.proofs.Common.{◌≡◌, Bool, false, not, Option, ap, subst, sym, ◌∙◌}
use Rattle.std.specs.Prelude.{is_some}
use Rattle.ra_link.specs.declared.message.Message.{Message}
use Rattle.ra_link.specs.Link.{hello_of}
use Rattle.ra_serve.specs.Answering.{AnswersBy, AnswersIf, is_question}
use Rattle.ra_serve.proofs.answering.answer_welcome.Goals as goal

pub returns-then-is_none : goal.returns-then-is_none
returns-then-is_none c =
    let open_one : c.is_question.result ≡ is_question (hello_of c.args.was) c.args.start c.args.question =
    c.is_question.ensures ∙ ap (λ (m : Option Message). is_question m c.args.start c.args.question) c.hello.ensures in
    let none : is_some (hello_of c.args.is) ≡ false = ap is_some (sym c.hello-2.ensures) ∙ c.is_none.ensures ∙ ap not c.if-is_none.true in
    subst (λ (b : Bool). AnswersBy b c.args.base.now c.args.host c.args.is c.acknowledge.new.base) (sym c.if-not-is_question.false ∙ open_one)
    (subst (λ (b : Bool). AnswersIf b c.args.base.now c.args.host c.args.is c.acknowledge.new.base) (sym none) (c.touch.new.self, c.touch.ensures, c.acknowledge.ensures))
