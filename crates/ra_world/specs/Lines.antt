-- The printed lines of a report.
use Rattle.std.specs.Prelude.{ℕ, List, [], ◌++◌, codes, flat_map, if◌then◌else◌, ◌==◌}
use Rattle.ra_text.specs.Lines.{mark_line, total_line}
use Rattle.ra_world.specs.declared.text.report.Report.{Report}

-- the line that tells how many requests were withdrawn, if any was
abbrev pub withdrawn_line : ℕ → List ℕ
withdrawn_line withdrawn = if withdrawn == 0 then [] else total_line (codes "withdrawn") withdrawn

-- the lines of the totals: requests, messages sent, under way and lost, requests that wait, clients that are queued,
-- and requests that were withdrawn, if any was
abbrev pub total_lines : Report → List ℕ
total_lines report =
    total_line (codes "requests") report.requests
    ++ total_line (codes "messages") report.sent
    ++ total_line (codes "under-way") report.under_way
    ++ total_line (codes "lost") report.lost
    ++ total_line (codes "waiting") report.waiting
    ++ total_line (codes "queued") report.queued
    ++ withdrawn_line report.withdrawn

-- the text of a report: a line for each mark, in order, and then the lines of the totals
abbrev pub report_text : Report → List ℕ
report_text report = flat_map mark_line report.marks.items ++ total_lines report
