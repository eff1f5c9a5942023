use Rattle.std.proofs.Common.{◌≡◌, refl, ◌∙◌}
use Rattle.ra_stamp.specs.Message.{from_of, to_of, name_of}
use Rattle.ra_stamp.proofs.message.MessageHash.hash.Goals as goal

pub returns : goal.returns
returns g c =
    let m = c.args.self.now in
    let from : c.from-2.result ≡ from_of m = c.from-2.ensures ∙ c.get.ensures.value ∙ c.from.ensures in
    let to : c.from-3.result ≡ to_of m = c.from-3.ensures ∙ c.get-2.ensures.value ∙ c.to.ensures in
    let name : c.bytes.result.now ≡ name_of m = c.bytes.ensures.value ∙ c.name.ensures in
    rw (c.write.ensures, c.write_u64.ensures, c.write_u32.ensures, from, to, c.seq.ensures, name) refl
