use Rattle.std.proofs.Common.{take, flat_map, All}
use Rattle.ra_text.specs.Drafting.{Adds}
use Rattle.ra_trace.specs.TraceText.{send_line}
use Rattle.ra_trace.specs.Ranges.{MessageFits}
use Rattle.ra_trace.proofs.trace_writing.push_sends.Given as goal

-- the lines of the messages so far were added
abbrev pub invariant-loop-message : goal.invariant-loop-message
invariant-loop-message l = record {
  adds : Adds l.fn.text (flat_map send_line (take l.message-index l.message-items)) l.text;
  fit : All MessageFits (take l.message-index l.message-items);
}
