use Rattle.std.proofs.Common.{◌≡◌, ◌∙◌, rules}
use Rattle.hex.specs.Hex.{encode_lower}
use Rattle.ra_host_text.proofs.Nonces.{encoded}
use Rattle.ra_host_text.proofs.nonce.digits_of.Goals as goal

pub returns : goal.returns
returns c =
    let written : c.encode_to_slice.new.output ≡ encode_lower c.as_slice.result.now = search rules in
    written ∙ encoded c.args.nonce c.as_slice.result.now (c.as_slice.ensures ∙ c.to_be_bytes-bytes.ensures)
