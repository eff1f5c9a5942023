use Rattle.std.proofs.Common.{rules, ◌≡◌, ◌+◌, ◌<◌, ◌≤◌, true, false, length, get_or, None, ap, ◌∙◌, arith}
use Rattle.std.proofs.lemmas.List.{take_all, get_or_default}
use Rattle.std.specs.Option.{is_some}
use Rattle.ra_bag.specs.Bag.{messages_in}
use Rattle.ra_bag.proofs.Emptied.{at_slot, at_end, one_more_before, none_more_before}
use Rattle.ra_bag.proofs.slots.nth.Goals.{then-is_some+else-left-eq0, else-is_some}
use Rattle.ra_bag.proofs.slots.nth.Goals as goal

pub returns-then-left-eq0 : goal.returns-then-left-eq0
returns-then-left-eq0 c = λ place is_place.
    let slots = c.args.slots.now.items in
    let i = c.loop-slot.slot in
    let lt : i < length slots = search rules in
    let kept : get_or slots i c.index.result.now ≡ c.index.result.now = search rules in
    let is : is_some c.index.result.now ≡ true = search rules in
    let some = ap is_some (get_or_default slots i None c.index.result.now lt ∙ kept) ∙ is in
    let zero : c.loop-slot.left ≡ 0 = search rules in
    at_slot slots i place lt some (omega (arith, is_place, c.loop-slot.invariant.left, zero))

pub loop-slot-preserved : goal.loop-slot-preserved
loop-slot-preserved c =
    let slots = c.args.slots.now.items in
    let i = c.loop-slot.slot in
    let lt : i < length slots = search rules in
    let kept : get_or slots i c.index.result.now ≡ c.index.result.now = search rules in
    let same = ap is_some (get_or_default slots i None c.index.result.now lt ∙ kept) in
    elim c.if-is_some.branch [
      | then-is_some+else-left-eq0 w ↦
          let some : is_some c.index.result.now ≡ true = search rules in
          let more : 1 ≤ c.loop-slot.left = search rules in
          let less : c.if-is_some.left + 1 ≡ c.loop-slot.left = search rules in
          record { left = omega (arith, c.loop-slot.invariant.left, less, one_more_before slots i lt (same ∙ some)) }
      | else-is_some w ↦
          let none : is_some c.index.result.now ≡ false = search rules in
          let stays : c.if-is_some.left ≡ c.loop-slot.left = search rules in
          record { left = omega (arith, c.loop-slot.invariant.left, stays, none_more_before slots i lt (same ∙ none)) }
    ]

pub returns : goal.returns
returns c = λ place is_place.
    let slots = c.args.slots.now.items in
    let end : length slots ≤ c.loop-slot.slot = search rules in
    let len : c.len.result ≡ length slots = search rules in
    at_end slots place c.len.result (omega (arith, len))
    (omega (arith, is_place, c.loop-slot.invariant.left, ap (λ l. length (messages_in l)) (take_all c.loop-slot.slot slots end)))
