use Rattle.std.proofs.Common.{◌≡◌, ap, sym, subst, rules}
use Rattle.std.specs.Str.{IsUtf8}
use Rattle.ra_text.specs.Lines.{field}
use Rattle.ra_text.proofs.Drafts.{adds_as}
use Rattle.ra_host_text.specs.HostText.{nonce_text}
use Rattle.ra_host_text.proofs.Frames.{nonce_is_utf8}
use Rattle.ra_host_text.proofs.nonce.push_nonce.Goals as goal

pub unwrap-requires : goal.unwrap-requires
unwrap-requires c =
    let written : c.as_slice.result.now ≡ nonce_text c.args.nonce = search rules in
    let text : IsUtf8 c.as_slice.result.now = subst IsUtf8 (sym written) (nonce_is_utf8 c.args.nonce) in
    search (rules, text)

pub returns-clause-text : goal.returns-clause-text
returns-clause-text c =
    let digits : c.unwrap.result.now ≡ nonce_text c.args.nonce = search rules in
    adds_as c.push_field.ensures (ap field digits)
