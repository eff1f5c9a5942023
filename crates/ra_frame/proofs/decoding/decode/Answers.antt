use Rattle.std.proofs.Common.{◌≡◌, Some, None, Result, Ok, Err, sym, ap, ◌∙◌}
use Rattle.std.specs.Prelude.{IsErrOf}
use Rattle.ra_frame.specs.declared.error.FrameError.{FrameError}
use Rattle.ra_frame.specs.declared.format.Format.{Format}
use Rattle.ra_frame.specs.declared.frame.Frame.{Frame}
use Rattle.ra_frame.specs.Faults.{format_of, fault_by}
use Rattle.ra_frame.proofs.Checks.{checked, clock_is_there}
use Rattle.ra_frame.proofs.Texts.{one_frame, no_fault, text_fits}
use Rattle.ra_frame.proofs.decoding.decode.Goals as goal

none_apart : {fault : FrameError} → None ≡ Some fault → ⊥
none_apart {fault} e = cc

not_err : {frame : Frame} {fault : FrameError} → IsErrOf (Ok frame) fault → ⊥
not_err {frame} {fault} e = cc

one_err : {a b : FrameError} → IsErrOf {T = Frame} (Err a) b → a ≡ b
one_err {a} {b} e = cc

one_some : {a b : FrameError} → Some a ≡ Some b → a ≡ b
one_some {a} {b} e = cc

pub number_at-requires : goal.number_at-requires
number_at-requires c = clock_is_there c.in_ok-format.format c.args.bytes.now _ c.mode_place.ensures.value (checked c.in_ok-format.format c.args.bytes.now (sym c.in_ok-format.ensures) (sym c.in-None.ensures))

pub message_of-requires : goal.message_of-requires
message_of-requires c = checked c.in_ok-format.format c.args.bytes.now (sym c.in_ok-format.ensures) (sym c.in-None.ensures)

pub returns-in-Some-clause-only : goal.returns-in-Some-clause-only
returns-in-Some-clause-only c frame text =
    let version : Ok c.in_ok-format.format ≡ format_of c.args.bytes.now = c.in_ok-format.ensures in
    absurd (none_apart (sym (no_fault c.args.bytes.now frame text) ∙ (ap (λ (r : Result Format FrameError). fault_by r c.args.bytes.now) (sym version) ∙ sym c.in-Some.ensures)))

pub returns-in-None-clause-only : goal.returns-in-None-clause-only
returns-in-None-clause-only c frame text =
    ap Ok (one_frame c.args.bytes.now _ frame (c.in_ok-format.format, rw (c.number_at.ensures, c.mode_place.ensures.value) c.message_of.ensures) text)

pub returns-in-None-clause-found : goal.returns-in-None-clause-found
returns-in-None-clause-found c = (c.in_ok-format.format, rw (c.number_at.ensures, c.mode_place.ensures.value) c.message_of.ensures)

pub returns-in-None-clause-fits : goal.returns-in-None-clause-fits
returns-in-None-clause-fits c =
    text_fits c.in_ok-format.format c.args.bytes.now _ c.message_of.result (rw (c.number_at.ensures, c.mode_place.ensures.value) c.message_of.ensures)

pub returns-in-None-clause-fault : goal.returns-in-None-clause-fault
returns-in-None-clause-fault c fault =
    let whole = ap (λ (r : Result Format FrameError). fault_by r c.args.bytes.now) c.in_ok-format.ensures in (
      λ is. absurd (not_err is),
      λ e. absurd (none_apart (c.in-None.ensures ∙ whole ∙ e)),
    )

pub returns-in-Some-clause-fault : goal.returns-in-Some-clause-fault
returns-in-Some-clause-fault c fault =
    let whole = ap (λ (r : Result Format FrameError). fault_by r c.args.bytes.now) c.in_ok-format.ensures in (
      λ is. sym (c.in-Some.ensures ∙ whole) ∙ ap Some (one_err is),
      λ e. ap Err (one_some (c.in-Some.ensures ∙ whole ∙ e)),
    )
