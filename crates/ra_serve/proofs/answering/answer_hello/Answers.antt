use Rattle.std.proofs.Common.{◌≡◌, ℕ, Bool, Option, ap, refl, subst, sym, ◌∙◌}
use Rattle.ra_link.specs.Link.{hello_of}
use Rattle.ra_serve.specs.Answering.{AsksIf, is_another, question_in}
use Rattle.ra_serve.proofs.answering.answer_hello.Goals as goal

pub returns-then-is_another : goal.returns-then-is_another
returns-then-is_another c =
    let was = c.question_in.ensures ∙ ap question_in c.hello.ensures in
    let is = c.question_in-2.ensures ∙ ap question_in c.hello-2.ensures in
    let another : c.is_another.result ≡ is_another (question_in (hello_of c.args.was)) (question_in (hello_of c.args.is)) =
    c.is_another.ensures ∙ ap (λ (q : Option ℕ). is_another q c.question_in-2.result) was ∙ ap (is_another (question_in (hello_of c.args.was))) is in
    let mid = c.say_plain.new.base in
    (mid, c.say_plain.ensures, subst (λ (b : Bool). AsksIf b mid c.args.host c.args.is c.ask.new.base) (sym c.if-is_another.true ∙ another) c.ask.ensures)

pub returns-else-is_another : goal.returns-else-is_another
returns-else-is_another c =
    let was = c.question_in.ensures ∙ ap question_in c.hello.ensures in
    let is = c.question_in-2.ensures ∙ ap question_in c.hello-2.ensures in
    let another : c.is_another.result ≡ is_another (question_in (hello_of c.args.was)) (question_in (hello_of c.args.is)) =
    c.is_another.ensures ∙ ap (λ (q : Option ℕ). is_another q c.question_in-2.result) was ∙ ap (is_another (question_in (hello_of c.args.was))) is in
    let mid = c.say_plain.new.base in
    (mid, c.say_plain.ensures, subst (λ (b : Bool). AsksIf b mid c.args.host c.args.is mid) (sym c.if-is_another.false ∙ another) refl)
