use Rattle.std.proofs.Common.{Ok, Err, ap, refl}
use Rattle.ra_book_text.specs.declared.error.BookFault.TheVariants.{Line}
use Rattle.ra_cli.proofs.NodeRuns.{failed_reader, failed_writer}
use Rattle.ra_cli.proofs.commands.node_command.be_a_node.Goals as goal

pub returns-in-Ok-clause-serves : goal.returns-in-Ok-clause-serves
returns-in-Ok-clause-serves g c =
    let (answers, owed, told) = c.in-Ok.ensures in
    (answers, Ok tt, owed, told, refl)

pub returns-in-Err-Line-clause-serves : goal.returns-in-Err-Line-clause-serves
returns-in-Err-Line-clause-serves g c =
    let (answers, owed, told) = rw c.in-Err-Line.field-0-is at c.in-Err-Line.ensures in
    (answers, Err Line, owed, told, refl)

pub returns-in-Err-Read-clause-serves : goal.returns-in-Err-Read-clause-serves
returns-in-Err-Read-clause-serves g c =
    failed_reader _ _ _ _ _ _ c.refuse.result.status (rw c.in-Err-Read.field-0-is at c.in-Err-Read.ensures) c.refuse.ensures

pub returns-in-Err-Write-clause-serves : goal.returns-in-Err-Write-clause-serves
returns-in-Err-Write-clause-serves g c =
    failed_writer _ _ _ _ _ _ c.refuse-in-Err-Write.result.status (rw c.in-Err-Write.field-0-is at c.in-Err-Write.ensures) c.refuse-in-Err-Write.ensures
    (ap g.W.Write.contents)
