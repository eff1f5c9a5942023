use Rattle.std.proofs.Common.{rules, arith, ◌≡◌, ◌<◌, ◌≤◌, Bool, true, false, ◌&&◌, length, take, get_or, replicate, refl, ap, ◌∙◌}
use Rattle.std.proofs.lemmas.List.{take_at}
use Rattle.std.proofs.lemmas.List.Folds.{list_all_more}
use Rattle.ra_stamp.specs.Name.{is_name_byte}
use Rattle.ra_stamp.proofs.Names.{IsPadded-name, copied_more, copied_all, name_from_bytes}
use Rattle.ra_stamp.proofs.name.Name.of.Goals as goal

both : (a b : Bool) → a ≡ true → b ≡ true → (a && b) ≡ true
both true b left right = right
both false b left right = left

pub loop-place-preserved : goal.loop-place-preserved
loop-place-preserved c =
    let bytes = c.args.bytes.now in
    let place = c.loop-place.place in
    let here : place < length bytes = search rules in
    let right : is_name_byte (get_or bytes place 0) ≡ true = search rules in
    record {
      each = list_all_more is_name_byte bytes place 0 here ∙ both _ _ c.loop-place.invariant.each right;
      copied = copied_more bytes (replicate 32 0) c.loop-place.padded place here (omega arith) c.loop-place.invariant.copied;
    }

-- ---- All bytes are copied

pub invariant_of-result : goal.invariant_of-result
invariant_of-result c =
    let bytes = c.args.bytes.now in
    let place = c.loop-place.place in
    let some : 1 ≤ length bytes = search rules in
    IsPadded-name bytes c.loop-place.padded
    (name_from_bytes bytes place c.loop-place-test.false some c.if-bytes-gt-MAX_LEN.false c.loop-place.invariant.each)
    (copied_all bytes c.loop-place.padded place c.loop-place-test.false c.loop-place.auto.place-end c.loop-place.invariant.copied)

pub returns-clause-some : goal.returns-clause-some
returns-clause-some c =
    let some : 1 ≤ length c.args.bytes.now = search rules in (
      λ _. name_from_bytes c.args.bytes.now c.loop-place.place c.loop-place-test.false some c.if-bytes-gt-MAX_LEN.false c.loop-place.invariant.each,
      λ _. refl,
    )

pub returns-clause-value : goal.returns-clause-value
returns-clause-value c =
    let bytes = c.args.bytes.now in
    ap (take (length bytes)) (copied_all bytes c.loop-place.padded c.loop-place.place c.loop-place-test.false c.loop-place.auto.place-end c.loop-place.invariant.copied)
    ∙ take_at bytes _ (length bytes) refl
