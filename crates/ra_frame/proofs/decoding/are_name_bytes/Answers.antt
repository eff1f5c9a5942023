use Rattle.std.proofs.Common.{rules}
use Rattle.ra_frame.proofs.Checks.{name_passes}
use Rattle.ra_frame.proofs.decoding.are_name_bytes.Goals as goal

pub returns : goal.returns
returns c = name_passes c.args.name.now c.is_some.result c.requires.not_empty c.requires.not_long (search rules) (search rules)
