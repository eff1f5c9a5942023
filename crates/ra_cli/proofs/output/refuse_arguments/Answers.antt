use Rattle.std.proofs.Common.{refl, ◌∙◌}
use Rattle.ra_cli.specs.Refusals.{command_word, refused_line}
use Rattle.ra_cli.proofs.Statuses.{writes_as}
use Rattle.ra_cli.proofs.output.refuse_arguments.Goals as goal

pub returns : goal.returns
returns g c =
    writes_as (refused_line (command_word c.args.fault)) c.as_bytes-line.result.now 2 _ _ c.written.result c.written.result refl
    (c.as_bytes-line.ensures.value ∙ c.line_of.ensures) c.written.ensures
