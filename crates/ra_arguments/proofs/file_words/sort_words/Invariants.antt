use Rattle.std.proofs.Common.{◌≡◌, drop, map, string_bytes}
use Rattle.std.specs.Prelude.{fold}
use Rattle.ra_arguments.specs.FileWords.{sorted, sorted_in, with_word}
use Rattle.ra_arguments.proofs.file_words.sort_words.Given as goal

-- the words so far are sorted
abbrev pub invariant-loop-word : goal.invariant-loop-word
invariant-loop-word l = fold with_word (sorted_in l.sorting) (map string_bytes (drop l.word-index l.words)) ≡ sorted (map string_bytes l.words)
