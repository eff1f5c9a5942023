use Rattle.std.proofs.Common.{ℕ, List, [], ◌∷◌, Bor, ok_or, sym, ap, ◌∙◌, inl}
use Rattle.std.proofs.lemmas.List.{map-append}
use Rattle.toml.specs.Data.{as_str}
use Rattle.ra_script.specs.declared.error.ScriptError.TheVariants as fault
use Rattle.ra_script.specs.Document.{texts}
use Rattle.ra_script.proofs.Trees.{IsReadTo-none, IsReadTo-more, IsReadTo-all, IsReadTo-err}
use Rattle.ra_script.proofs.script_reading.document.strings_of.Goals as goal

pub loop-item-init : goal.loop-item-init
loop-item-init c = rw c.new-strings.ensures.items (IsReadTo-none as_str c.args.items.now.items)

pub returns-in_default-clause-err : goal.returns-in_default-clause-err
returns-in_default-clause-err c =
    let lt = rw c.deref-item-items.ensures.value at c.loop-item-test.true in
    let is = rw c.deref-item-items.ensures.value at c.item-item.is in
    (IsReadTo-err as_str c.args.items.now.items c.loop-item.item-index (texts c.loop-item.strings.items) c.item-item.result fault.Shape
    lt is (inl (ap (λ o. ok_or o fault.Shape) (sym (rw c.in_default.is at c.as_str.ensures)))) c.loop-item.invariant)

pub loop-item-preserved : goal.loop-item-preserved
loop-item-preserved c =
    let seen = sym (rw c.in-Some.is at c.as_str.ensures) in
    let grown = ap texts c.in_ok-push.ensures.items ∙ map-append (λ (string : Bor (List ℕ)). string.now) c.loop-item.strings.items (c.in-Some.string ∷ []) in
    let lt = rw c.deref-item-items.ensures.value at c.loop-item-test.true in
    let is = rw c.deref-item-items.ensures.value at c.item-item.is in
    rw grown
    (IsReadTo-more as_str c.args.items.now.items c.loop-item.item-index (texts c.loop-item.strings.items) c.item-item.result c.in-Some.string.now lt is seen
    c.loop-item.invariant)

pub returns-clause-ok : goal.returns-clause-ok
returns-clause-ok c =
    let past = rw c.deref-item-items.ensures.value at c.loop-item-test.false in
    IsReadTo-all as_str c.args.items.now.items c.loop-item.item-index (texts c.loop-item.strings.items) past c.loop-item.invariant
