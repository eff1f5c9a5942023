use Rattle.std.proofs.Common.{◌≡◌, ℕ, zero, suc, ◌<◌, List, [], ◌∷◌, length, None, sym, ap, ◌∙◌, arith}
use Rattle.std.specs.Prelude.{slice_get}
use Rattle.std.proofs.lemmas.List.{take_all}
use Rattle.std.proofs.lemmas.Option.{slice_get_within, get_or_from_slice_get}
use Rattle.ra_book.specs.declared.book.sent.Sent.{Sent}
use Rattle.ra_site.specs.Losses.{lost_frames}
use Rattle.ra_site.proofs.LostFrames.{one_more_frame}
use Rattle.ra_site.proofs.site.refused_frames.lost_of.Goals as goal

pub loop-place-preserved : goal.loop-place-preserved
loop-place-preserved c =
    let all = c.args.book.now.sent in
    let place = c.loop-place.place in
    let sent = c.in-Some.sent in
    let found = sym c.in-Some.ensures.value in
    one_more_frame
    c.loop-place.lost.items
    c.push_if_lost.new.lost.items
    []
    all
    place
    sent
    (slice_get_within all place sent found)
    (get_or_from_slice_get all place sent sent found)
    c.loop-place.invariant
    c.in_ok-push_if_lost.ensures

-- a place within a list has an item
is_there : (xs : List Sent) (place : ℕ) → place < length xs → slice_get xs place ≡ None → ⊥
is_there [] place low none = absurd (omega (arith, low))
is_there (x ∷ xs) zero low none = absurd cc
is_there (x ∷ xs) (suc place) low none = is_there xs place (omega (arith, low)) none

pub unreachable-requires : goal.unreachable-requires
unreachable-requires c =
    is_there c.args.book.now.sent c.loop-place.place (omega (arith, c.loop-place-test.true, c.sent_len-place-end.ensures.value)) (sym c.in_default.ensures.value)

pub returns : goal.returns
returns c =
    c.loop-place.invariant
    ∙ ap lost_frames (take_all c.loop-place.place c.args.book.now.sent (omega (arith, c.loop-place-test.false, c.sent_len-place-end.ensures.value)))
