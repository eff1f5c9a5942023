use Rattle.std.proofs.Common.{ap, ◌∙◌}
use Rattle.ra_stamp.specs.Member.{Membership}
use Rattle.ra_automaton.specs.State.{opening}
use Rattle.ra_automaton.proofs.automaton.Automaton.new.Goals as goal

pub returns-clause-ok : goal.returns-clause-ok
returns-clause-ok c = c.of.ensures.value ∙ ap (λ (m : Membership). opening m.node m.nodes c.args.name c.args.start) c.in_ok-member.ensures.ok
