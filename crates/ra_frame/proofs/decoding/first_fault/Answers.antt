use Rattle.std.proofs.Common.{sym, ◌∙◌}
use Rattle.ra_frame.proofs.Checks.{by_head, by_numbers, by_name}
use Rattle.ra_frame.proofs.decoding.first_fault.Goals as goal

pub returns-in-Some : goal.returns-in-Some
returns-in-Some c = sym (by_head c.args.format c.args.bytes.now c.in-Some.fault (sym c.in-Some.ensures))

pub returns-in-Some-numbers_fault : goal.returns-in-Some-numbers_fault
returns-in-Some-numbers_fault c =
    sym (by_numbers c.args.format c.args.bytes.now c.in-Some-numbers_fault.fault (sym c.head_fault.ensures ∙ c.in_default.is) (sym c.in-Some-numbers_fault.ensures))

pub returns : goal.returns
returns c =
    c.name_fault.ensures
    ∙ sym (by_name c.args.format c.args.bytes.now (sym c.head_fault.ensures ∙ c.in_default.is) (sym c.numbers_fault.ensures ∙ c.in_default-numbers_fault.is))
