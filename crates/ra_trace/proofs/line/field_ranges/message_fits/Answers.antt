use Rattle.std.proofs.Common.{◌∙◌}
use Rattle.ra_trace.proofs.Fitting.{message_fits}
use Rattle.ra_trace.proofs.line.field_ranges.message_fits.Goals as goal

pub returns : goal.returns
returns c =
    message_fits c.args.message.now c.get.result c.get-2.result c.seq.result c.bytes.result.now (c.get.ensures.value ∙ c.from.ensures) c.get.ensures.valid
    (c.get-2.ensures.value ∙ c.to.ensures) c.get-2.ensures.valid (c.bytes.ensures.value ∙ c.name.ensures) c.bytes.ensures.valid c.seq.ensures c.seq.type_inv
