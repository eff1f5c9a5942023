use Rattle.std.proofs.Common.{◌↔◌, true, false, refl, sym, subst}
use Rattle.std.specs.Prelude.{IsTrue}
use Rattle.std.proofs.lemmas.Bool.{false≢true}
use Rattle.ra_stamp.specs.declared.message.Message.{Message}
use Rattle.ra_automaton.specs.Memory.{IsRepliedAtOnce}
use Rattle.ra_automaton.proofs.automaton.Automaton.replies_at_once.Goals as goal

pub returns-in-Reply-answer : goal.returns-in-Reply-answer
returns-in-Reply-answer c =
    subst (λ (m : Message). IsTrue true ↔ IsRepliedAtOnce c.args.self.now m) (sym c.in-Request.is)
    (λ _. c.answer.ensures.reply c.in-Reply-answer.is, λ _. refl)

pub returns-in-Defer : goal.returns-in-Defer
returns-in-Defer c =
    subst (λ (m : Message). IsTrue false ↔ IsRepliedAtOnce c.args.self.now m) (sym c.in-Request.is)
    (λ yes. absurd (false≢true yes), λ at_once. absurd (at_once (c.answer.ensures.defer c.in-Defer.is)))

pub returns-in-Reply : goal.returns-in-Reply
returns-in-Reply c =
    subst (λ (m : Message). IsTrue false ↔ IsRepliedAtOnce c.args.self.now m) (sym c.in-Reply.is)
    (λ yes. absurd (false≢true yes), λ at_once. absurd at_once)
