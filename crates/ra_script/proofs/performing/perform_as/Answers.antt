use Rattle.std.proofs.Common.{◌≡◌, [], Err, string_bytes, sym, ap, ◌∙◌, refl}
use Rattle.std.proofs.lemmas.Result.{err_from_is_err_and}
use Rattle.ra_script.specs.Faults.{of_read, of_script}
use Rattle.ra_script.proofs.Inputs.{performs_input, read_cause, read_early, read_failed, read_refuses, refuses_input, script_early, script_read, script_refuses}
use Rattle.ra_script.proofs.Performs.{unmade, broken_off, made}
use Rattle.ra_script.proofs.performing.perform_as.Goals as goal

pub returns-in_err-input : goal.returns-in_err-input
returns-in_err-input g c =
    let p = err_from_is_err_and c.from_residual.result c.from_residual.ensures.1 in
    let laws = c.read_scripts_come_to_rest.ensures in
    let old = g.R.Read.remaining c.args.reader.now in
    let before = g.W.Write.contents c.args.writer.now in
    let format = c.args.format in
    let policy = c.args.policy.now in
    let why = c.in_err-input.field-0.0 in
    rw (p.1, p.2)
    (unmade laws.below_limit laws.never_refused format policy old (g.R.Read.remaining c.read_up_to.new.reader) before before
    (c.args.writer.now ≡ c.args.writer.now) c.read_up_to.ensures.at_most (of_read why) (read_refuses old format policy why)
    ([], read_cause format policy why) (read_early why) (λ is. c.in_err-input.ensures.failed (ap Err (read_failed why is))) refl)

pub returns-in_err-script : goal.returns-in_err-script
returns-in_err-script g c =
    let p = err_from_is_err_and c.from_residual-in_err-script.result c.from_residual-in_err-script.ensures.1 in
    let laws = c.read_scripts_come_to_rest.ensures in
    let old = g.R.Read.remaining c.args.reader.now in
    let new = g.R.Read.remaining c.read_up_to.new.reader in
    let before = g.W.Write.contents c.args.writer.now in
    let format = c.args.format in
    let policy = c.args.policy.now in
    let why = c.in_err-script.field-0.0 in
    let taken = c.in_ok-input.input.items in
    let refuses = script_refuses format policy taken why (rw c.deref.ensures.value at c.in_err-script.ensures.refused) in
    rw (p.1, p.2)
    (unmade laws.below_limit laws.never_refused format policy old new before before
    (c.args.writer.now ≡ c.args.writer.now) c.read_up_to.ensures.at_most (of_script why)
    (refuses_input old new format policy taken (of_script why) (script_early why) c.in_ok-input.ensures.bytes refuses)
    (taken, refuses) (script_early why) (λ is. absurd (script_read why is)) refl)

pub returns-in_err-printed : goal.returns-in_err-printed
returns-in_err-printed g c =
    let p = err_from_is_err_and c.from_residual-in_err-printed.result c.from_residual-in_err-printed.ensures.1 in
    let laws = c.read_scripts_come_to_rest.ensures in
    let old = g.R.Read.remaining c.args.reader.now in
    let new = g.R.Read.remaining c.read_up_to.new.reader in
    let before = g.W.Write.contents c.args.writer.now in
    let format = c.args.format in
    let policy = c.args.policy.now in
    let why = c.in_err-printed.field-0.0 in
    let taken = c.in_ok-input.input.items in
    let prints = c.in_err-printed.ensures in
    let refuses = prints.err taken (rw c.deref.ensures.value at c.in_ok-script.ensures.ok) in
    rw (p.1, p.2)
    (unmade laws.below_limit laws.never_refused format policy old new before before
    (c.args.writer.now ≡ c.args.writer.now) c.read_up_to.ensures.at_most why
    (refuses_input old new format policy taken why prints.early c.in_ok-input.ensures.bytes refuses)
    (taken, refuses) prints.early (λ is. absurd (prints.unread is)) refl)

pub returns-in_err-write_out : goal.returns-in_err-write_out
returns-in_err-write_out g c =
    let p = err_from_is_err_and c.from_residual-in_err-write_out.result c.from_residual-in_err-write_out.ensures.1 in
    let laws = c.read_scripts_come_to_rest.ensures in
    let old = g.R.Read.remaining c.args.reader.now in
    let new = g.R.Read.remaining c.read_up_to.new.reader in
    let format = c.args.format in
    let policy = c.args.policy.now in
    let printed = c.in_ok-printed.printed in
    let taken = c.in_ok-input.input.items in
    let performed = c.in_ok-printed.ensures.ok taken (rw c.deref.ensures.value at c.in_ok-script.ensures.ok) in
    let (prefix, rest, is, left, appends) = c.in_err-write_out.ensures.err in
    rw (p.1, p.2)
    (broken_off laws.below_limit laws.never_refused format policy old new (g.W.Write.contents c.args.writer.now)
    (g.W.Write.contents c.write_out.new.writer) (c.write_out.new.writer ≡ c.args.writer.now) c.read_up_to.ensures.at_most
    (string_bytes printed.text) printed.finished
    (performs_input old new format policy taken (string_bytes printed.text) printed.finished c.in_ok-input.ensures.bytes performed)
    (taken, performed) prefix rest (sym c.as_bytes.ensures.value ∙ is) left appends)

pub returns : goal.returns
returns g c =
    let laws = c.read_scripts_come_to_rest.ensures in
    let old = g.R.Read.remaining c.args.reader.now in
    let new = g.R.Read.remaining c.read_up_to.new.reader in
    let format = c.args.format in
    let policy = c.args.policy.now in
    let printed = c.in_ok-printed.printed in
    let taken = c.in_ok-input.input.items in
    let performed = c.in_ok-printed.ensures.ok taken (rw c.deref.ensures.value at c.in_ok-script.ensures.ok) in
    made laws.below_limit laws.never_refused format policy old new (g.W.Write.contents c.args.writer.now)
    (g.W.Write.contents c.write_out.new.writer) (c.write_out.new.writer ≡ c.args.writer.now) c.read_up_to.ensures.at_most
    (string_bytes printed.text) printed.finished
    (performs_input old new format policy taken (string_bytes printed.text) printed.finished c.in_ok-input.ensures.bytes performed)
    (taken, performed) (rw c.as_bytes.ensures.value at c.in_ok-write_out.ensures.ok)
