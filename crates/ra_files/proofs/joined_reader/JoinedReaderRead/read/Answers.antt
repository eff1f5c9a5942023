use Rattle.std.proofs.Common.{rules, ◌≡◌, ◌<◌, suc, length, drop, slice_index_or, arith}
use Rattle.ra_files.specs.Joined.{joined}
use Rattle.ra_files.proofs.Joined.{after_kept, from_place, given, with_part}
use Rattle.ra_files.proofs.joined_reader.JoinedReaderRead.read.Goals as goal
use Rattle.ra_files.proofs.joined_reader.JoinedReaderRead.read.Goals.{then-count-gt0, else-count-gt0}

pub returns-in-Ok-clause-bytes : goal.returns-in-Ok-clause-bytes
returns-in-Ok-clause-bytes g c =
    let remaining = g.R.Read.remaining in
    let parts = c.loop-place.self.parts.items in
    let place = c.loop-place.place in
    let part = c.index_mut.result.now in
    let less : place < length parts = search rules in
    let is : slice_index_or parts place part ≡ part = search rules in
    let before = from_place remaining parts place part less in
    let kept = rw (before, is) at c.loop-place.invariant.kept in
    let gives = given (remaining part) (remaining c.read.new.self) (joined remaining (drop (suc place) parts)) _ c.in-Ok.ensures.bytes.0 in (
      rw (c.loop-place.invariant.done, with_part remaining parts place c.read.new.self less) (after_kept _ _ _ _ kept gives),
      λ zero room. elim c.if-count-gt0.branch [
        | then-count-gt0 w ↦ absurd (omega (arith, zero, w.if-count-gt0.true))
        | else-count-gt0 w ↦ absurd (search rules)
      ],
    )
