use Rattle.ra_text.proofs.Drafts.{adds_as, adds_both}
use Rattle.ra_host_text.proofs.Takes.{join_question}
use Rattle.ra_host_text.specs.HostText.{nonce_text}
use Rattle.ra_host_text.proofs.host_message.push_question.Goals as goal

pub returns-clause-text : goal.returns-clause-text
returns-clause-text c =
    let number = adds_as c.push-3.ensures c.format.ensures.text in
    adds_as (adds_both (adds_both (adds_both c.push.ensures c.push_nonce.ensures.text) c.push-2.ensures) number)
    (join_question c.args.word.now (nonce_text c.args.start) _)
