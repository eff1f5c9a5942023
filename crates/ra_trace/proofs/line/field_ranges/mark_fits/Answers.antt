use Rattle.std.proofs.Common.{subst}
use Rattle.ra_trace.specs.Ranges.{EntryFits}
use Rattle.ra_trace.proofs.Fitting.{entry_fits}
use Rattle.ra_trace.proofs.line.field_ranges.mark_fits.Goals as goal

pub returns : goal.returns
returns c =
    subst EntryFits c.entry-entry.ensures
    (entry_fits c.entry-entry.result.now c.get.result c.bytes.result.now c.get.ensures.value c.get.ensures.valid c.bytes.ensures.value c.bytes.ensures.valid
    c.client_fits.ensures c.seq_fits.ensures)
