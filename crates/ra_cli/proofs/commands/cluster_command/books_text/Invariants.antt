use Rattle.std.proofs.Common.{take, string_bytes}
use Rattle.ra_cli.specs.ClusterRun.{AreWrittenBooks}
use Rattle.ra_cli.proofs.commands.cluster_command.books_text.Given as goal

-- the text is the text of the books so far
abbrev pub invariant-loop-book : goal.invariant-loop-book
invariant-loop-book l = AreWrittenBooks (take l.book-index l.books) (string_bytes l.text)
