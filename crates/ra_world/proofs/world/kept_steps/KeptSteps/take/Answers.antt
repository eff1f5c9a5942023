use Rattle.std.proofs.Common.{sym, ◌∙◌, inl, inr}
use Rattle.std.proofs.lemmas.List.{nil_from_length}
use Rattle.ra_world.specs.Traffic.{repeated_by}
use Rattle.ra_world.proofs.StepTries.{first_is_taken}
use Rattle.ra_world.proofs.world.kept_steps.KeptSteps.take.Goals as goal

pub returns-then-counts-eq0-clause-taken : goal.returns-then-counts-eq0-clause-taken
returns-then-counts-eq0-clause-taken g c =
    inr (nil_from_length (repeated_by c.args.self.now.log.moves) (sym c.counts.ensures.repeated ∙ c.if-counts-eq0.true), c.take_from.ensures.taken)

pub returns-else-counts-eq0-clause-taken : goal.returns-else-counts-eq0-clause-taken
returns-else-counts-eq0-clause-taken g c =
    inl (first_is_taken c.take.result c.args.self.now.under_way.items c.take.new.self.items c.args.message.now c.requires c.take.ensures.taken c.take.ensures.none.0)
