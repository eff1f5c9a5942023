use Rattle.std.proofs.Common.{◌≡◌, None, Some, rules}
use Rattle.ra_host_text.specs.Fields.{address_of}
use Rattle.ra_host_text.proofs.HostLines.{line_only, no_address, no_message}
use Rattle.ra_host_text.proofs.host_line.HostLine.parse.Goals as goal

pub returns-in_err-cluster : goal.returns-in_err-cluster
returns-in_err-cluster c =
    let none : address_of c.args.line.now ≡ None = search rules in
    rw c.from_residual.ensures (no_address c.args.line.now none)

pub returns-in_err-cluster-2 : goal.returns-in_err-cluster-2
returns-in_err-cluster-2 c =
    let none : address_of c.args.line.now ≡ None = search rules in
    rw c.from_residual-in_err-cluster-2.ensures (no_address c.args.line.now none)

pub returns-in_err-from : goal.returns-in_err-from
returns-in_err-from c =
    let none : address_of c.args.line.now ≡ None = search rules in
    rw c.from_residual-in_err-from.ensures (no_address c.args.line.now none)

pub returns-in_err-from-2 : goal.returns-in_err-from-2
returns-in_err-from-2 c =
    let none : address_of c.args.line.now ≡ None = search rules in
    rw c.from_residual-in_err-from-2.ensures (no_address c.args.line.now none)

pub returns-in_err-to : goal.returns-in_err-to
returns-in_err-to c =
    let none : address_of c.args.line.now ≡ None = search rules in
    rw c.from_residual-in_err-to.ensures (no_address c.args.line.now none)

pub returns-in_err-to-2 : goal.returns-in_err-to-2
returns-in_err-to-2 c =
    let none : address_of c.args.line.now ≡ None = search rules in
    rw c.from_residual-in_err-to-2.ensures (no_address c.args.line.now none)

pub returns-in_err-message : goal.returns-in_err-message
returns-in_err-message c =
    let found : address_of c.args.line.now ≡ Some (c.in_ok-cluster-2.cluster, (c.in_ok-from-2.from, (c.in_ok-to-2.to, c.in_ok-to.said.now))) = search rules in
    rw c.from_residual-in_err-message.ensures
    (no_message c.args.line.now c.in_ok-cluster-2.cluster c.in_ok-from-2.from c.in_ok-to-2.to c.in_ok-to.said.now found c.in_err-message.ensures)

pub returns : goal.returns
returns c =
    let found : address_of c.args.line.now ≡ Some (c.in_ok-cluster-2.cluster, (c.in_ok-from-2.from, (c.in_ok-to-2.to, c.in_ok-to.said.now))) = search rules in
    line_only c.args.line.now c.in_ok-cluster-2.cluster c.in_ok-from-2.from c.in_ok-to-2.to c.in_ok-to.said.now c.in_ok-message.message found c.in_ok-message.ensures
