use Rattle.std.proofs.Common.{ℕ, [], ap, ◌∙◌}
use Rattle.ra_world.specs.World.{WorldState}
use Rattle.ra_schedule.proofs.driver.drive_script.opened.Goals as goal

pub returns : goal.returns
returns c = record {
  fit = c.nodes.ensures.script;
  opened = ap (λ (w : WorldState). w.moves) c.in-Ok.ensures.ok;
  ready = c.in_ok-driver.ensures.ready;
  records_as = c.in_ok-driver.ensures.records;
}

pub open-requires-clause-opened : goal.open-requires-clause-opened
open-requires-clause-opened c =
    let opened : ℕ → WorldState = λ n. record { count = n; start = 0; moves = [] } in
    c.in-Ok.ensures.ok ∙ ap opened c.nodes.ensures.value
