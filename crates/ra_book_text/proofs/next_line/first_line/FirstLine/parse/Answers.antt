use Rattle.std.proofs.Common.{◌≡◌, ◌≤◌, ◌<◌, ℕ, length, sym, ap, ◌∙◌, subst, arith}
use Rattle.ra_stamp.specs.Member.{Membership}
use Rattle.ra_book_text.proofs.Forms.{no_book, no_first, first_read, first_above, no_member}
use Rattle.ra_book_text.proofs.next_line.first_line.FirstLine.parse.Goals as goal

pub returns-then-line-gt-MAX_LINE : goal.returns-then-line-gt-MAX_LINE
returns-then-line-gt-MAX_LINE c version node nodes start h =
    let short : length c.args.line.now ≤ 256 = h.short in
    omega (arith, c.if-line-gt-MAX_LINE.true, short)

pub returns-in_err-version : goal.returns-in_err-version
returns-in_err-version c = rw c.from_residual.ensures (no_book c.args.line.now c.in_err-version.ensures)

pub returns-in_err-fields : goal.returns-in_err-fields
returns-in_err-fields c =
    rw c.from_residual-in_err-fields.ensures
    (no_first c.args.line.now c.in_ok-version.rest.now c.in_ok-version.version c.in_ok-version.ensures (sym c.in_err-fields.ensures))

pub returns-in-Ok : goal.returns-in-Ok
returns-in-Ok c =
    let f = c.in_ok-fields.fields in
    let member = c.in-Ok.ensures.ok in
    let node : c.in-Ok.member.node ≡ f.0 = ap (λ (m : Membership). m.node) member in
    let nodes : c.in-Ok.member.nodes ≡ f.1.0 = ap (λ (m : Membership). m.nodes) member ∙ c.get.ensures.value in
    let within : f.0 ≤ f.1.0 = omega (arith, node, nodes, c.in-Ok.ensures.valid.last) in
    rw (node, nodes) (first_read c.args.line.now c.in_ok-version.rest.now c.in_ok-version.version c.in_ok-version.ensures c.if-line-gt-MAX_LINE.false f (sym c.in_ok-fields.ensures) within)

pub returns-in-Err : goal.returns-in-Err
returns-in-Err c =
    let f = c.in_ok-fields.fields in
    let above : f.1.0 < f.0 =
    subst (λ (n : ℕ). n < f.0) c.get.ensures.value
    (no_member c.in-Err.field-0 f.0 c.get.result c.get.ensures.valid c.in-Err.ensures.bad_count c.in-Err.ensures.bad_node) in
    first_above c.args.line.now c.in_ok-version.rest.now c.in_ok-version.version c.in_ok-version.ensures f (sym c.in_ok-fields.ensures) above
