use Rattle.std.proofs.Common.{ap, refl, subst, ℕ}
use Rattle.std.specs.Prelude.{decimal}
use Rattle.ra_stamp.specs.NodeId.{IsNodeNumber}
use Rattle.ra_text.specs.Lines.{field}
use Rattle.ra_text.proofs.Drafts.{adds_as, adds_both}
use Rattle.ra_host_text.proofs.host_message.HostMessage.push.Goals as goal

pub returns-in-Hello : goal.returns-in-Hello
returns-in-Hello c =
    let asked = c.push_question.ensures.fits in
    let nodes = subst IsNodeNumber c.get.ensures.value c.get.ensures.valid in
    let number = adds_as c.push_number.ensures (ap (λ (n : ℕ). field (decimal n)) c.get.ensures.value) in
    rw c.in-Hello.is (
      _,
      ((asked.0, asked.1, nodes, c.push_count.ensures.fits, c.push_nonce.ensures.fits), refl),
      adds_both (adds_both (adds_both c.push_question.ensures.text number) c.push_count.ensures.text) c.push_nonce.ensures.text,
    )

pub returns-in-Welcome : goal.returns-in-Welcome
returns-in-Welcome c =
    let asked = c.push_question-in-Welcome.ensures.fits in
    rw c.in-Welcome.is (
      _,
      ((asked.0, asked.1, c.push_nonce-in-Welcome.ensures.fits, c.push_count-in-Welcome.ensures.fits), refl),
      adds_both (adds_both c.push_question-in-Welcome.ensures.text c.push_nonce-in-Welcome.ensures.text) c.push_count-in-Welcome.ensures.text,
    )

pub returns-in-Frame : goal.returns-in-Frame
returns-in-Frame c =
    let (digits, are, adds) = c.push_frame.ensures in
    rw c.in-Frame.is (
      _,
      ((c.push_nonce-in-Frame.ensures.fits, c.push_count-in-Frame.ensures.fits), (digits, are, refl)),
      adds_both (adds_both (adds_both c.push.ensures c.push_nonce-in-Frame.ensures.text) c.push_count-in-Frame.ensures.text) adds,
    )

pub returns-in-Ack : goal.returns-in-Ack
returns-in-Ack c =
    rw c.in-Ack.is (
      _,
      ((c.push_nonce-in-Ack.ensures.fits, c.push_nonce-in-Ack-2.ensures.fits, c.push_count-in-Ack.ensures.fits), refl),
      adds_both (adds_both (adds_both c.push-in-Ack.ensures c.push_nonce-in-Ack.ensures.text) c.push_nonce-in-Ack-2.ensures.text) c.push_count-in-Ack.ensures.text,
    )

pub returns-in-Old : goal.returns-in-Old
returns-in-Old c = rw c.in-Old.is (_, (c.push_count-in-Old.ensures.fits, refl), adds_both c.push-in-Old.ensures c.push_count-in-Old.ensures.text)
