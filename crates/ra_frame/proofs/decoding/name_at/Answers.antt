use Rattle.std.proofs.Common.{arith}
use Rattle.ra_frame.proofs.Texts.{fields_of}
use Rattle.ra_frame.proofs.decoding.name_at.Goals as goal

pub unwrap-requires : goal.unwrap-requires
unwrap-requires c =
    c.of.ensures.some.1 (
    rw (c.mode_place-name.ensures.value, c.from-length.ensures, c.mode_place.ensures.value)
    (fields_of c.args.format c.args.bytes.now (λ i. omega (arith, c.type_inv.bytes i)) c.requires).is_name
    )
