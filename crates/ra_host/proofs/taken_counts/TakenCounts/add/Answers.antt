use Rattle.std.proofs.Common.{◌≡◌, ◌+◌, ◌-◌, ◌<◌, ◌≤◌, length, sym, subst, arith, ℕ, Some, ap, ◌∙◌}
use Rattle.std.proofs.lemmas.Option.{slice_get-get_or}
use Rattle.ra_link.specs.Link.{greatest}
use Rattle.ra_stamp.specs.Message.{from_of}
use Rattle.ra_book.specs.declared.book.event.BookKind.{BookKind}
use Rattle.ra_book.specs.declared.book.event.BookKind.TheVariants.{Receive}
use Rattle.ra_book.specs.Book.{with_event}
use Rattle.std.specs.Prelude.{slice_get, slice_set}
use Rattle.ra_host.specs.Running.{HasTaken}
use Rattle.ra_host.proofs.CountedFrames.{counted, counts_frame, counts_stranger}
use Rattle.ra_host.proofs.taken_counts.TakenCounts.add.Goals as goal

pub returns-then-place-len-clause-ok : goal.returns-then-place-len-clause-ok
returns-then-place-len-clause-ok c book clock frames has =
    let counts = c.args.self.now.counts in
    let frame = c.in-Receive.frame in
    let place : c.place-place.result ≡ from_of frame.message - 1 = omega (arith, c.place-place.ensures.value, c.from.ensures) in
    let past : length counts.items ≤ c.place-place.result = omega (arith, c.if-place-len.true, c.len.ensures, counts.ok.0) in
    subst (λ (k : BookKind). HasTaken (with_event book clock k frames) counts.items) (sym c.in-Receive.is)
    (counted book clock (Receive frame) frames counts.items counts.items (counts_stranger frame counts.items c.place-place.result place past) has)

pub returns-clause-ok : goal.returns-clause-ok
returns-clause-ok c book clock frames has =
    let counts = c.args.self.now.counts in
    let frame = c.in-Receive.frame in
    let at = c.place-place.result in
    let x = c.index_mut.result.now in
    let place : at ≡ from_of frame.message - 1 = omega (arith, c.place-place.ensures.value, c.from.ensures) in
    let first : 1 ≤ from_of frame.message = omega (arith, c.place-place.ensures.valid.0, c.from.ensures) in
    let within : at < length counts.items = omega (arith, c.if-place-len.false, c.len.ensures, counts.ok.0) in
    let counts_new = slice_set counts.items at (x + 1) in
    subst (λ (k : BookKind). HasTaken (with_event book clock k frames) counts_new) (sym c.in-Receive.is)
    (counted book clock (Receive frame) frames counts.items counts_new (counts_frame frame counts.items at x place first within c.index_mut.ensures.value) has)

pub returns-then-index-clause-too_many : goal.returns-then-index-clause-too_many
returns-then-index-clause-too_many c =
    let counts = c.args.self.now.counts in
    let frame = c.in-Receive.frame in
    let at = c.place-place.result in
    let x = c.index.result.now in
    let place : at ≡ from_of frame.message - 1 = omega (arith, c.place-place.ensures.value, c.from.ensures) in
    let within : at < length counts.items = omega (arith, c.if-place-len.false, c.len.ensures, counts.ok.0) in
    let most : x ≡ greatest = omega (arith, c.if-index.true) in (
      frame,
      c.in-Receive.is,
      ap (slice_get counts.items) (sym place) ∙ slice_get-get_or counts.items at x within ∙ ap (λ (n : ℕ). Some n) (sym c.index.ensures ∙ most),
    )
