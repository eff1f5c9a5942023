use Rattle.std.proofs.Common.{◌≡◌, arith, inl, inr}
use Rattle.std.specs.Prelude.{slice_index}
use Rattle.ra_frame.proofs.Texts.{request_fields, reply_fields}
use Rattle.ra_frame.proofs.decoding.message_of.Goals as goal

pub returns-then-bytes-eq-REQUEST : goal.returns-then-bytes-eq-REQUEST
returns-then-bytes-eq-REQUEST c =
    rw (c.node_at-from.ensures, c.node_at-to.ensures, c.mode_of.ensures, c.number_at-seq.ensures, c.name_at-name.ensures, c.to_place.ensures.value, c.mode_place-mode.ensures.value)
    (request_fields c.args.format c.args.bytes.now (λ i. omega (arith, c.type_inv.bytes i)) c.requires (omega arith))

pub returns-else-bytes-eq-REQUEST : goal.returns-else-bytes-eq-REQUEST
returns-else-bytes-eq-REQUEST c =
    let h = c.requires in
    let kind : slice_index c.args.bytes.now 1 ≡ 2 = elim h.kind [ inl request ↦ absurd (omega arith) | inr reply ↦ reply ] in
    rw (c.node_at-from.ensures, c.node_at-to.ensures, c.number_at-seq.ensures, c.name_at-name.ensures, c.to_place.ensures.value, c.mode_place-mode.ensures.value)
    (reply_fields c.args.format c.args.bytes.now (λ i. omega (arith, c.type_inv.bytes i)) h kind)
