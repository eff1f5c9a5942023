use Rattle.std.proofs.Common.{◌≡◌, List, Result, Ok, Err, refl, sym, ap, ◌∙◌, subst}
use Rattle.ra_stamp.specs.declared.entry.Entry.{Entry}
use Rattle.ra_table.specs.declared.error.RequestError.{RequestError}
use Rattle.ra_table.specs.declared.error.RequestError.TheVariants.{Memory}
use Rattle.ra_table.specs.Table.{LockTable, Gains}
use Rattle.ra_table.specs.Answers.{RequestTells}
use Rattle.ra_table.proofs.Moves.{of_parts, Gains-push}
use Rattle.ra_table.proofs.Refused.{same_fault, request_refused, request_made}
use Rattle.ra_table.proofs.name_table.NameTable.request.Goals as goal

-- ---- It may not be made

pub returns-in_err-check_request-clause-told : goal.returns-in_err-check_request-clause-told
returns-in_err-check_request-clause-told c =
    let fault = c.in_err-check_request.field-0.0 in
    let is : c.from_residual.result ≡ Err fault = same_fault fault c.from_residual.result c.from_residual.ensures.1 in
    subst (λ (result : Result (Unit {0}) RequestError). RequestTells result c.args.self.now c.args.entry.now) (sym is) (request_refused fault c.args.self.now c.args.entry.now c.in_err-check_request.ensures)

-- ---- It is made

pub returns-clause-told : goal.returns-clause-told
returns-clause-told c = request_made (Ok tt) c.args.self.now c.args.entry.now (c.in_ok-check_request.ensures.allowed.0 refl) tt

pub returns-clause-ok : goal.returns-clause-ok
returns-clause-ok c =
    let gains : Gains c.self.inside.waiting.items c.args.entry.now c.push_exactly.new.list.items = subst (Gains c.self.inside.waiting.items c.args.entry.now) (sym c.in-Ok.ensures.ok) (Gains-push c.self.inside.waiting.items c.args.entry.now) in (
      c.in_ok-check_request.ensures.allowed.0 refl,
      subst (λ (es : List Entry). Gains es c.args.entry.now c.push_exactly.new.list.items) (ap (λ (t : LockTable). t.waiting) c.self.view_is) gains,
      ap (λ (t : LockTable). t.holding) c.self.view_is,
      ap (λ (t : LockTable). t.granted) c.self.view_is,
    )

-- ---- Memory ran out

pub returns-in_default-clause-told : goal.returns-in_default-clause-told
returns-in_default-clause-told c = request_made (Err Memory) c.args.self.now c.args.entry.now (c.in_ok-check_request.ensures.allowed.0 refl) refl

pub returns-in_default-clause-err : goal.returns-in_default-clause-err
returns-in_default-clause-err c = (λ i. of_parts (c.in_default.ensures.err i) c.self.inside.holding.items c.self.inside.granted.items) ∙ c.self.view_is
