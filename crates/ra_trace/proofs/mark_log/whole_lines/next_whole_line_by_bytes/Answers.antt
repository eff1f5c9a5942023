use Rattle.std.proofs.Common.{◌∙◌, ap}
use Rattle.ra_trace.specs.Forms.{line_in}
use Rattle.ra_trace.proofs.WholeLines.{end_by_bytes, fault_by_bytes, long_by_bytes, read_by_bytes}
use Rattle.ra_trace.proofs.mark_log.whole_lines.next_whole_line_by_bytes.Goals as goal

pub returns-in-Err : goal.returns-in-Err
returns-in-Err g c =
    fault_by_bytes c.args.left (g.R.Read.remaining c.args.reader.now) (g.R.Read.remaining c.read_to_feed.new.reader) c.read_to_feed.new.taken
    c.read_to_feed.new.taken c.read_to_feed.new.bytes.items c.args.room.now.line c.in-Err.fault c.in-Err.ensures

pub returns-then-not-has_feed : goal.returns-then-not-has_feed
returns-then-not-has_feed g c =
    end_by_bytes c.args.left (g.R.Read.remaining c.args.reader.now) (g.R.Read.remaining c.read_to_feed.new.reader) c.read_to_feed.new.taken
    c.read_to_feed.new.bytes.items (rw c.if-not-has_feed.true at c.in-Ok.ensures)

pub returns-then-taken-le-MAX_LINE : goal.returns-then-taken-le-MAX_LINE
returns-then-taken-le-MAX_LINE g c =
    read_by_bytes c.args.left (g.R.Read.remaining c.args.reader.now) (g.R.Read.remaining c.read_to_feed.new.reader) c.read_to_feed.new.taken
    c.read_to_feed.new.bytes.items c.read_line_of.new.line (rw c.if-not-has_feed.false at c.in-Ok.ensures) c.if-taken-le-MAX_LINE.true
    (c.read_line_of.ensures ∙ ap line_in c.deref.ensures.0)

pub returns : goal.returns
returns g c =
    long_by_bytes c.args.left (g.R.Read.remaining c.args.reader.now) (g.R.Read.remaining c.read_to_feed.new.reader) c.read_to_feed.new.taken
    c.read_to_feed.new.bytes.items (rw c.if-not-has_feed.false at c.in-Ok.ensures) c.if-taken-le-MAX_LINE.false
