use Rattle.std.proofs.Common.{◌↔◌, true, false, refl, sym, subst}
use Rattle.std.specs.Prelude.{IsTrue}
use Rattle.std.proofs.lemmas.Bool.{false≢true}
use Rattle.ra_stamp.specs.declared.message.Message.{Message}
use Rattle.ra_automaton.specs.Steps.{LetsEnter}
use Rattle.ra_automaton.proofs.Refusals.{request_enters}
use Rattle.ra_automaton.proofs.automaton.Automaton.lets_enter.Goals as goal

pub returns-in-Request : goal.returns-in-Request
returns-in-Request c = request_enters c.args.self.now c.args.message.now _ _ _ _ _ c.in-Request.is

pub returns-in-Enter : goal.returns-in-Enter
returns-in-Enter c =
    subst (λ (m : Message). IsTrue true ↔ LetsEnter c.args.self.now m) (sym c.in-Reply.is)
    (λ _. c.effect.ensures.enter c.in-Enter.is, λ _. refl)

pub returns-in-WaitOn : goal.returns-in-WaitOn
returns-in-WaitOn c =
    subst (λ (m : Message). IsTrue false ↔ LetsEnter c.args.self.now m) (sym c.in-Reply.is)
    (λ yes. absurd (false≢true yes), λ enters. absurd ((c.effect.ensures.wait c.in-WaitOn.is).2 enters.2))

pub returns-in-Stray : goal.returns-in-Stray
returns-in-Stray c =
    subst (λ (m : Message). IsTrue false ↔ LetsEnter c.args.self.now m) (sym c.in-Reply.is)
    (λ yes. absurd (false≢true yes), λ enters. absurd (c.effect.ensures.stray c.in-Stray.is enters.0 enters.1))
