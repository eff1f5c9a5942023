use Rattle.std.proofs.Common.{subst, sym, rules}
use Rattle.std.specs.Str.{IsUtf8}
use Rattle.ra_host_text.proofs.Frames.{frame_is_utf8}
use Rattle.ra_host_text.proofs.host_message.frame_text.push_frame.Goals as goal

pub unwrap-requires : goal.unwrap-requires
unwrap-requires c =
    let text = subst IsUtf8 (sym c.as_slice.ensures.value) (frame_is_utf8 c.digits_of-digits.result.items c.args.frame.now c.digits_of-digits.ensures) in
    search (rules, text)
