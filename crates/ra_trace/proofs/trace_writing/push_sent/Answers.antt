use Rattle.ra_text.proofs.Drafts.{adds_both}
use Rattle.ra_trace.proofs.trace_writing.push_sent.Goals as goal

pub returns : goal.returns
returns c = adds_both c.push.ensures c.push_message.ensures
