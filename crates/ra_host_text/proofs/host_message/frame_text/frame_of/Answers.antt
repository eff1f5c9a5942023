use Rattle.std.proofs.Common.{◌≡◌, ◌/◌, List, ℕ, length, sym, subst, arith, rules}
use Rattle.std.specs.Prelude.{Ok}
use Rattle.hex.specs.Hex.{decode_sized}
use Rattle.ra_frame.specs.FrameText.{IsFrameText}
use Rattle.ra_host_text.specs.HostText.{IsFrameDigits}
use Rattle.ra_host_text.proofs.Frames.{decoded_as, digits_short, undecoded}
use Rattle.ra_host_text.proofs.host_message.frame_text.frame_of.Goals as goal

pub returns-then-digits-gt-MAX_DIGITS : goal.returns-then-digits-gt-MAX_DIGITS
returns-then-digits-gt-MAX_DIGITS c frame is =
    let short = digits_short c.args.digits.now frame is in
    omega (arith, short, c.if-digits-gt-MAX_DIGITS.true)

pub returns-then-is_err : goal.returns-then-is_err
returns-then-is_err c =
    let none : (bytes : List ℕ) → decode_sized c.args.digits.now (length c.args.digits.now / 2) ≡ Ok bytes → ⊥ = search rules in
    undecoded c.args.digits.now none

pub returns-in_default : goal.returns-in_default
returns-in_default c frame is =
    let decoded : decode_sized c.args.digits.now (length c.args.digits.now / 2) ≡ Ok c.decode_to_slice.new.out = search rules in
    let text : IsFrameText c.decode_to_slice.new.out frame = decoded_as c.round_trip.ensures.written_is_read c.args.digits.now c.decode_to_slice.new.out decoded frame is in
    let some = c.decode.ensures.only frame text in
    search (rules, some)

pub returns-else-are_digits_of : goal.returns-else-are_digits_of
returns-else-are_digits_of c frame is =
    let decoded : decode_sized c.args.digits.now (length c.args.digits.now / 2) ≡ Ok c.decode_to_slice.new.out = search rules in
    let text : IsFrameText c.decode_to_slice.new.out frame = decoded_as c.round_trip.ensures.written_is_read c.args.digits.now c.decode_to_slice.new.out decoded frame is in
    let same : c.in-Ok.frame ≡ frame = c.round_trip.ensures.one_frame c.decode_to_slice.new.out c.in-Ok.frame frame c.in-Ok.ensures.found text in
    let not : IsFrameDigits c.args.digits.now c.in-Ok.frame → ⊥ = search rules in
    not (subst (IsFrameDigits c.args.digits.now) (sym same) is)
