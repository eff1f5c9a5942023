use Rattle.std.proofs.Common.{◌≡◌, ◌+◌, ◌<◌, length, get_or, arith, refl, sym, ◌∙◌}
use Rattle.std.proofs.lemmas.List.{get_or_default}
use Rattle.ra_audit.proofs.AuditRounds.{handed_at}
use Rattle.ra_audit.proofs.AuditSteps.{number_of}
use Rattle.ra_audit.proofs.auditor.take_handed_into.Goals as goal

pub returns-clause-handed : goal.returns-clause-handed
returns-clause-handed r c =
    let nodes = c.args.nodes.now in
    let place = c.place-place.result in
    let number : place + 1 ≡ c.args.site.now.node = omega (arith, c.place-place.ensures.value, c.place-place.ensures.valid.0, c.node.ensures) in
    let within : place < length nodes = omega (arith, c.if-place-nodes.false) in
    let x = c.index-nodes-place.result in
    let p = get_or nodes place x in
    handed_at nodes _ c.args.losses.now.losing c.take_handed.new.losses.losing c.args.site.now.node place p c.take_handed.new.self c.take_handed.result number within
    (get_or_default nodes place x p within) refl c.take_handed.ensures.takes

pub take_handed-requires : goal.take_handed-requires
take_handed-requires r c =
    let nodes = c.args.nodes.now in
    let place = c.place-place.result in
    let number : place + 1 ≡ c.args.site.now.node = omega (arith, c.place-place.ensures.value, c.place-place.ensures.valid.0, c.node.ensures) in
    let within : place < length nodes = omega (arith, c.if-place-nodes.false) in
    let node = sym number ∙ sym (number_of nodes c.requires.numbers.0 place c.index-nodes-place.result c.requires.numbers.1 within) in
    λ i. record { node = node i; audited = c.requires.audited i }
