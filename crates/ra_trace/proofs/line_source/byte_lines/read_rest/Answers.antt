use Rattle.std.proofs.Common.{◌∷◌, [], ℕ, IfSome, ap, refl, subst}
use Rattle.std.specs.Option.{is_some}
use Rattle.std.specs.Io.KnownBytes.{Consumes}
use Rattle.ra_trace.specs.declared.error.TraceError.TheVariants.{Read}
use borrow.Author.Count.{falls}
use Rattle.ra_trace.proofs.Shown.{input_ends, reader_fails, passes_left, small, just_left, is_short, pushed_within, pushed_count, open_so_far, joined, ends_at_feed, no_feed_more, all_turns}
use Rattle.ra_trace.proofs.line_source.byte_lines.read_rest.Goals as goal

pub loop-turn-init : goal.loop-turn-init
loop-turn-init g c = record {
  count = c.len-turn.ensures.value;
  short = c.requires.short;
  at_most = c.requires.within;
  none = c.requires.part;
  taken = λ old earlier. earlier;
}

-- ---- No byte came

pub returns-in-Err : goal.returns-in-Err
returns-in-Err g c old earlier =
    let so_far = c.loop-turn.invariant in
    (reader_fails c.args.left old (g.R.Read.remaining c.loop-turn.reader) (g.R.Read.remaining c.next_byte.new.reader)
    c.loop-turn.bytes.items Read refl (so_far.taken old earlier) c.in-Err.ensures.untaken (open_so_far _ _ so_far.count c.loop-turn-test.true so_far.none) so_far.at_most)

pub returns-in_default : goal.returns-in_default
returns-in_default g c old earlier =
    let so_far = c.loop-turn.invariant in
    let ends = c.in-Ok.ensures.none (ap is_some c.in_default.is) in
    input_ends c.args.left old (g.R.Read.remaining c.loop-turn.reader) (g.R.Read.remaining c.next_byte.new.reader)
    c.loop-turn.bytes.items (so_far.taken old earlier) ends.0 ends.1 (open_so_far _ _ so_far.count c.loop-turn-test.true so_far.none) so_far.at_most

-- ---- A byte came

pub returns-then-len-left : goal.returns-then-len-left
returns-then-len-left g c old earlier =
    let so_far = c.loop-turn.invariant in
    let mid = g.R.Read.remaining c.loop-turn.reader in
    let new = g.R.Read.remaining c.next_byte.new.reader in
    let later = subst (λ came. IfSome came (λ (b : ℕ). Consumes mid new (b ∷ []))) c.in-Some.is c.in-Ok.ensures.some in
    passes_left c.args.left old mid new c.loop-turn.bytes.items c.in-Some.byte (so_far.taken old earlier) later
    (open_so_far _ _ so_far.count c.loop-turn-test.true so_far.none) (just_left _ _ _ so_far.at_most c.len.ensures.value c.if-len-left.true)

pub push-requires : goal.push-requires
push-requires g c =
    let so_far = c.loop-turn.invariant in
    (small, (open_so_far _ _ so_far.count c.loop-turn-test.true so_far.none).1)

pub returns-then-byte-eq10 : goal.returns-then-byte-eq10
returns-then-byte-eq10 g c old earlier =
    let so_far = c.loop-turn.invariant in
    let mid = g.R.Read.remaining c.loop-turn.reader in
    let new = g.R.Read.remaining c.next_byte.new.reader in
    let later = subst (λ came. IfSome came (λ (b : ℕ). Consumes mid new (b ∷ []))) c.in-Some.is c.in-Ok.ensures.some in
    ends_at_feed c.args.left old mid new c.loop-turn.bytes.items c.push.new.self.items c.in-Some.byte c.push.ensures.items
    c.if-byte-eq10.true (open_so_far _ _ so_far.count c.loop-turn-test.true so_far.none) (so_far.taken old earlier) later
    (is_short _ _ _ c.len.ensures.value c.if-len-left.false)

pub loop-turn-smaller : goal.loop-turn-smaller
loop-turn-smaller g c = falls 128 c.loop-turn._turn c.loop-turn-test.true

pub loop-turn-preserved : goal.loop-turn-preserved
loop-turn-preserved g c =
    let so_far = c.loop-turn.invariant in
    let before = c.loop-turn.bytes.items in
    let bytes = c.push.new.self.items in
    let byte = c.in-Some.byte in
    let mid = g.R.Read.remaining c.loop-turn.reader in
    let new = g.R.Read.remaining c.next_byte.new.reader in
    let later = subst (λ came. IfSome came (λ (b : ℕ). Consumes mid new (b ∷ []))) c.in-Some.is c.in-Ok.ensures.some in
    record {
      count = pushed_count before bytes byte c.push.ensures.items c.loop-turn._turn so_far.count;
      short = pushed_within before bytes byte c.push.ensures.items 128 (open_so_far _ _ so_far.count c.loop-turn-test.true so_far.none).1;
      at_most = pushed_within before bytes byte c.push.ensures.items c.args.left (is_short _ _ _ c.len.ensures.value c.if-len-left.false);
      none = no_feed_more before bytes byte c.push.ensures.items so_far.none c.if-byte-eq10.false;
      taken = λ old earlier. joined old mid new before (byte ∷ []) bytes c.push.ensures.items (so_far.taken old earlier) later;
    }

pub returns : goal.returns
returns g c old earlier =
    let so_far = c.loop-turn.invariant in
    ((so_far.taken old earlier, so_far.at_most), (so_far.none, all_turns _ _ so_far.count so_far.short c.loop-turn-test.false))
