use Rattle.std.proofs.Common.{refl, ap}
use Rattle.std.specs.Option.{is_some}
use Rattle.ra_trace.specs.declared.error.TraceError.TheVariants.{Read}
use Rattle.ra_trace.proofs.Shown.{read_fails}
use Rattle.ra_trace.proofs.checker.check_text.ending.Goals as goal

pub returns-in-Err : goal.returns-in-Err
returns-in-Err g c =
    (read_fails c.args.left (g.R.Read.remaining c.args.reader.now) (g.R.Read.remaining c.next_byte.new.reader) Read refl c.in-Err.ensures.untaken)

pub returns-in-Ok-None : goal.returns-in-Ok-None
returns-in-Ok-None g c =
    let ends = c.in-Ok-None.ensures.none (ap is_some c.in-Ok-None.field-0-is) in
    (ends.0, ends.1, c.requests.ensures.value, c.sent.ensures.value)
