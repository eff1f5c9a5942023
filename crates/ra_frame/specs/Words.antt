-- What is printed of bytes that are not the text of a frame.
use Rattle.std.specs.Prelude.{ℕ, List, ◌++◌, codes}
use Rattle.ra_frame.specs.declared.error.FrameError.{FrameError}
use Rattle.ra_frame.specs.declared.error.FrameError.TheVariants.{Short, Version, Kind, From, To, SameNode, Mode, Seq, Clock, NameLength, NameByte, Trailing}

-- the word for what is wrong
abbrev pub word_of : FrameError → List ℕ
word_of Short = codes "Short"
word_of Version = codes "Version"
word_of Kind = codes "Kind"
word_of From = codes "From"
word_of To = codes "To"
word_of SameNode = codes "SameNode"
word_of Mode = codes "Mode"
word_of Seq = codes "Seq"
word_of Clock = codes "Clock"
word_of NameLength = codes "NameLength"
word_of NameByte = codes "NameByte"
word_of Trailing = codes "Trailing"

-- the line with this word
abbrev pub refused_line : FrameError → List ℕ
refused_line fault = codes "refused " ++ word_of fault ++ codes "\n"
