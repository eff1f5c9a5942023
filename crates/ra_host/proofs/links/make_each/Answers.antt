use Rattle.std.proofs.Common.{◌≡◌, ◌-◌, ◌<◌, ◌≤◌, ℕ, length, set, ap, ◌∙◌, arith}
use Rattle.ra_stamp.specs.Message.{to_of}
use Rattle.ra_host.specs.Making.{makes_at}
use Rattle.ra_host.proofs.MadeFrames.{made_or, makes_more, none_made, set_made}
use Rattle.ra_host.proofs.links.make_each.Goals as goal
use Rattle.ra_host.proofs.links.make_each.Goals.{then-place-len, else-place-len}

pub loop-message-preserved : goal.loop-message-preserved
loop-message-preserved c =
    let items = c.loop-message.links.items in
    let i = c.loop-message.message-index in
    let sends = c.args.sends.now in
    let m = c.message-item.result in
    let at = c.place-place.result in
    let within : i < length sends = omega (arith, c.loop-message-test.true) in
    let place : at ≡ to_of m - 1 = omega (arith, c.place-place.ensures.value, c.to.ensures) in
    elim c.if-place-len.branch [
      | then-place-len w ↦
          let y = w.make.new.self in
          let old = w.index.result.now in
          let low : at < length items = omega (arith, w.if-place-len.true, c.len.ensures, c.loop-message.links.ok.0) in
          let made = set_made items at y old low (made_or old y w.make.result w.make.ensures.ok w.make.ensures.link w.make.ensures.err items at w.index.ensures)
          ∙ ap (λ (p : ℕ). makes_at items p) place in
          rw w.links-is (makes_more items (set items at y) i sends m within c.message-item.is made ∙ c.loop-message.invariant)
      | else-place-len w ↦
          let past : length items ≤ at = omega (arith, w.if-place-len.false, c.len.ensures, c.loop-message.links.ok.0) in
          rw w.links-is (makes_more items items i sends m within c.message-item.is (none_made items at past ∙ ap (λ (p : ℕ). makes_at items p) place) ∙ c.loop-message.invariant)
    ]
