use Rattle.std.proofs.Common.{[], ◌∷◌, map, ap, ◌∙◌}
use Rattle.std.proofs.lemmas.List.{map-append}
use Rattle.std.proofs.lemmas.Result.{err_from_is_err_and}
use Rattle.ra_script.specs.Document.{client_of, client_table}
use Rattle.ra_script.proofs.Trees.{IsReadTo-none, IsReadTo-more, IsReadTo-all, IsReadTo-err}
use Rattle.ra_script.proofs.script_reading.document.clients_of.Goals as goal

pub loop-table-init : goal.loop-table-init
loop-table-init c = rw c.new-clients.ensures.items (IsReadTo-none client_of c.args.tables.now.items)

pub returns-in_err-client-clause-err : goal.returns-in_err-client-clause-err
returns-in_err-client-clause-err c =
    let lt = rw c.deref-table-items.ensures.value at c.loop-table-test.true in
    let is = rw c.deref-table-items.ensures.value at c.table-item.is in
    let p = err_from_is_err_and c.from_residual.result c.from_residual.ensures.1 in
    rw (p.1, p.2) (IsReadTo-err client_of c.args.tables.now.items c.loop-table.table-index (map client_table c.loop-table.clients.items) c.table-item.result _
    lt is c.in_err-client.ensures.err c.loop-table.invariant)

pub loop-table-preserved : goal.loop-table-preserved
loop-table-preserved c =
    let grown = ap (map client_table) c.in_ok-push.ensures.items ∙ map-append client_table c.loop-table.clients.items (c.in_ok-client.client ∷ []) in
    let lt = rw c.deref-table-items.ensures.value at c.loop-table-test.true in
    let is = rw c.deref-table-items.ensures.value at c.table-item.is in
    rw grown
    (IsReadTo-more client_of c.args.tables.now.items c.loop-table.table-index (map client_table c.loop-table.clients.items) c.table-item.result (client_table c.in_ok-client.client) lt is c.in_ok-client.ensures.ok
    c.loop-table.invariant)

pub returns-clause-ok : goal.returns-clause-ok
returns-clause-ok c =
    let past = rw c.deref-table-items.ensures.value at c.loop-table-test.false in
    IsReadTo-all client_of c.args.tables.now.items c.loop-table.table-index (map client_table c.loop-table.clients.items) past c.loop-table.invariant
