-- The objects of a settled run: one for each mark, and one for the totals.
use Rattle.std.specs.Prelude.{List, ℕ, ◌++◌, codes, flat_map}
use Rattle.serde_json.specs.Data.{Data, number, string, unsigned, object, member, no_members}
use Rattle.ra_stamp.specs.Mark.{mark_word, entry_of_mark}
use Rattle.ra_stamp.specs.Mode.{mode_word}
use Rattle.ra_stamp.specs.declared.entry.Entry.{Entry}
use Rattle.ra_stamp.specs.declared.entry.Mark.{Mark}
use Rattle.ra_world.specs.declared.text.report.Report.{Report}
use Rattle.ra_json.specs.Objects.{count, line_of}

-- what happened to an entry, by the word of its mark
abbrev pub entry_object : (word : List ℕ) → Entry → Data
entry_object word entry = object
    (member (codes "client") (number (unsigned entry.client))
    (member (codes "mark") (string word)
    (member (codes "mode") (string (mode_word entry.mode))
    (member (codes "name") (string entry.name)
    (member (codes "node") (number (unsigned entry.stamp.node))
    (member (codes "seq") (number (unsigned entry.stamp.seq))
    no_members))))))

-- the line of a mark
abbrev pub mark_line : Mark → List ℕ
mark_line mark = line_of (entry_object (mark_word mark) (entry_of_mark mark))

-- the totals of a run
abbrev pub totals_object : Report → Data
totals_object report = object
    (member (codes "lost") (count report.lost)
    (member (codes "messages") (count report.sent)
    (member (codes "queued") (count report.queued)
    (member (codes "requests") (count report.requests)
    (member (codes "under_way") (count report.under_way)
    (member (codes "verdict") (string (codes "valid"))
    (member (codes "waiting") (count report.waiting)
    (member (codes "withdrawn") (count report.withdrawn)
    no_members))))))))

-- the lines of a report: one for each mark, in order, and then the line of the totals
abbrev pub report_lines : Report → List ℕ
report_lines report = flat_map mark_line report.marks.items ++ line_of (totals_object report)
