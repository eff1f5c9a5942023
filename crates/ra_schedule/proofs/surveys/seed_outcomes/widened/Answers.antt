use Rattle.std.proofs.Common.{subst}
use Rattle.ra_schedule.specs.Survey.{IsLeastAndMost}
use Rattle.ra_schedule.proofs.Tallying.{one_number, wider}
use Rattle.ra_schedule.proofs.surveys.seed_outcomes.widened.Goals as goal

pub returns-in-None : goal.returns-in-None
returns-in-None c numbers none = one_number numbers c.args.number (subst (IsLeastAndMost numbers) c.in-None.is none)

pub returns-in-Some : goal.returns-in-Some
returns-in-Some c numbers kept =
    wider numbers c.in-Some.field-0 c.args.number c.min.result c.max.result (subst (IsLeastAndMost numbers) c.in-Some.is kept) c.min.ensures c.max.ensures
