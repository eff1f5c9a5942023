use Rattle.std.proofs.Common.{Err}
use Rattle.std.proofs.lemmas.Result.{err_from_is_err_and}
use Rattle.toml.specs.View.{table_view}
use Rattle.ra_script.specs.Document.{document}
use Rattle.ra_script.proofs.Meanings.{means_by, only, refused_tree, script_of-shape}
use Rattle.ra_script.proofs.script_reading.read_script.Goals as goal

pub returns-in_err-tree-clause-only : goal.returns-in_err-tree-clause-only
returns-in_err-tree-clause-only c =
    let p = err_from_is_err_and c.from_residual.result c.from_residual.ensures.1 in
    rw (p.1, p.2) (only c.args.text.now (Err _) tt (refused_tree c.args.text.now _ c.in_err-tree.ensures.err))

pub returns-clause-means : goal.returns-clause-means
returns-clause-means c =
    let is = script_of-shape c.args.text.now (table_view c.in_ok-tree.tree) (document c.in_ok-document.document) c.in_ok-tree.ensures.ok c.in_ok-document.ensures.ok in
    means_by c.args.text.now c.script_in.result (rw is c.script_in.ensures.ok) c.script_in.ensures.script

pub returns-clause-only : goal.returns-clause-only
returns-clause-only c =
    let is = script_of-shape c.args.text.now (table_view c.in_ok-tree.tree) (document c.in_ok-document.document) c.in_ok-tree.ensures.ok c.in_ok-document.ensures.ok in
    only c.args.text.now c.script_in.result (rw is c.script_in.ensures.ok) (rw is c.script_in.ensures.err)

pub returns-clause-ok : goal.returns-clause-ok
returns-clause-ok c =
    let is = script_of-shape c.args.text.now (table_view c.in_ok-tree.tree) (document c.in_ok-document.document) c.in_ok-tree.ensures.ok c.in_ok-document.ensures.ok in
    rw is c.script_in.ensures.ok

pub returns-clause-refused : goal.returns-clause-refused
returns-clause-refused c =
    let is = script_of-shape c.args.text.now (table_view c.in_ok-tree.tree) (document c.in_ok-document.document) c.in_ok-tree.ensures.ok c.in_ok-document.ensures.ok in
    rw is c.script_in.ensures.err

pub returns-clause-script : goal.returns-clause-script
returns-clause-script c = c.script_in.ensures.script
