use Rattle.std.proofs.Common.{◌<◌, length, ap, arith}
use Rattle.std.specs.Prelude.{is_some}
use Rattle.ra_audit.proofs.BooksIn.{all_in_more, all_in, first_not_all_in}
use Rattle.ra_audit.proofs.auditor.closing.first_not_all_in.Goals as goal

pub loop-place-init : goal.loop-place-init
loop-place-init c = λ i below p b np nb. absurd (omega (arith, below))

pub loop-place-preserved : goal.loop-place-preserved
loop-place-preserved c =
    let nodes = c.args.nodes.now in
    let books = c.args.books.now in
    let place = c.loop-place.place in
    let low : place < length nodes = c.loop-place-test.true in
    let low' : place < length books = omega (arith, c.loop-place-test.true, c.requires) in
    all_in_more nodes books place c.index-nodes-place.result c.index-books-place.result low low' c.index-nodes-place.is c.index-books-place.is
    (c.node_not_all_in.ensures.all (ap is_some c.in_default.is)) c.loop-place.invariant

pub returns-in-Some-clause-found : goal.returns-in-Some-clause-found
returns-in-Some-clause-found c =
    let nodes = c.args.nodes.now in
    let books = c.args.books.now in
    let place = c.loop-place.place in
    let low : place < length nodes = c.loop-place-test.true in
    let low' : place < length books = omega (arith, c.loop-place-test.true, c.requires) in
    first_not_all_in nodes books place c.index-nodes-place.result c.index-books-place.result c.in-Some.node low low' c.index-nodes-place.is c.index-books-place.is
    c.in-Some.ensures.found.0 c.in-Some.ensures.found.1 c.loop-place.invariant

pub returns-clause-all : goal.returns-clause-all
returns-clause-all c = λ none.
    all_in c.args.nodes.now c.args.books.now c.loop-place.place (omega (arith, c.loop-place-test.false)) c.requires c.loop-place.invariant
