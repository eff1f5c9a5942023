-- Printed lines, of marks and of totals, and the fields of lines. A line is words with a single space between them, and
-- a line feed at its end. Numbers are decimal, without leading zeros.
use Rattle.std.specs.Prelude.{ℕ, List, ◌++◌, codes, decimal}
use Rattle.ra_stamp.specs.Mark.{mark_word, entry_of_mark}
use Rattle.ra_stamp.specs.Mode.{mode_word}
use Rattle.ra_stamp.specs.declared.entry.Entry.{Entry}
use Rattle.ra_stamp.specs.declared.entry.Mark.{Mark}
use Rattle.ra_stamp.specs.declared.message.Message.{Message}
use Rattle.ra_stamp.specs.declared.message.Message.TheVariants.{Request, Reply}

-- a field that follows the first word of a line, with the space before it
abbrev pub field : List ℕ → List ℕ
field text = codes " " ++ text

-- the fields of a request: node, client, name, mode and number
abbrev pub entry_fields : Entry → List ℕ
entry_fields entry =
    field (decimal entry.stamp.node) ++ field (decimal entry.client) ++ field entry.name ++ field (mode_word entry.mode)
    ++ field (decimal entry.stamp.seq)

-- the fields of a message: kind, sender, receiver, name, for a REQUEST the mode, and number
abbrev pub message_fields : Message → List ℕ
message_fields (Request from to name mode seq) =
    field (codes "request") ++ field (decimal from) ++ field (decimal to) ++ field name ++ field (mode_word mode)
    ++ field (decimal seq)
message_fields (Reply from to name seq) =
    field (codes "reply") ++ field (decimal from) ++ field (decimal to) ++ field name ++ field (decimal seq)

-- the line of a mark: its word, `request`, `enter` or `leave`, and then the fields of its request
abbrev pub mark_line : Mark → List ℕ
mark_line mark = mark_word mark ++ entry_fields (entry_of_mark mark) ++ codes "\n"

-- the line of a total: a word, and then the number
abbrev pub total_line : List ℕ → ℕ → List ℕ
total_line word total = word ++ field (decimal total) ++ codes "\n"
