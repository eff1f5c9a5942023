use Rattle.std.proofs.Common.{◌∷◌, [], ℕ, IfSome, ap, arith, refl, subst}
use Rattle.std.specs.Option.{is_some}
use Rattle.std.specs.Io.KnownBytes.{Consumes}
use Rattle.std.proofs.KnownBytes.{Consumes-nil}
use Rattle.ra_trace.specs.declared.error.TraceError.TheVariants.{Read}
use Rattle.ra_trace.proofs.WholeLines.{nothing_within, within_ends, within_fails, within_feeds, within_more, within_passes}
use Rattle.ra_trace.proofs.mark_log.whole_lines.read_to_feed.Goals as goal

pub loop-came-init : goal.loop-came-init
loop-came-init g c =
    let old = g.R.Read.remaining c.args.reader.now in nothing_within c.args.left old c.args.bytes.now.items c.requires (Consumes-nil old)

pub returns-in-Err : goal.returns-in-Err
returns-in-Err g c =
    within_fails c.args.left (g.R.Read.remaining c.args.reader.now) (g.R.Read.remaining c.loop-came.reader) (g.R.Read.remaining c.next_byte.new.reader)
    c.loop-came.taken c.loop-came.bytes.items c.loop-came.invariant Read refl c.in-Err.ensures.untaken

pub returns-in_default : goal.returns-in_default
returns-in_default g c =
    let ends = c.in-Ok.ensures.none (ap is_some c.in_default.is) in
    within_ends c.args.left (g.R.Read.remaining c.args.reader.now) (g.R.Read.remaining c.loop-came.reader) (g.R.Read.remaining c.next_byte.new.reader)
    c.loop-came.taken c.loop-came.bytes.items c.loop-came.invariant ends.0 ends.1

pub returns-then-taken-left : goal.returns-then-taken-left
returns-then-taken-left g c =
    let mid = g.R.Read.remaining c.loop-came.reader in
    let new = g.R.Read.remaining c.next_byte.new.reader in
    let later = subst (λ came. IfSome came (λ (b : ℕ). Consumes mid new (b ∷ []))) c.in-Some.is c.in-Ok.ensures.some in
    within_passes c.args.left (g.R.Read.remaining c.args.reader.now) mid new c.loop-came.taken c.loop-came.bytes.items c.loop-came.invariant
    c.in-Some.byte later c.if-taken-left.true

pub returns-then-byte-eq10 : goal.returns-then-byte-eq10
returns-then-byte-eq10 g c =
    let mid = g.R.Read.remaining c.loop-came.reader in
    let new = g.R.Read.remaining c.next_byte.new.reader in
    let later = subst (λ came. IfSome came (λ (b : ℕ). Consumes mid new (b ∷ []))) c.in-Some.is c.in-Ok.ensures.some in
    within_feeds c.args.left (g.R.Read.remaining c.args.reader.now) mid new c.loop-came.taken c.loop-came.bytes.items c.loop-came.invariant
    c.in-Some.byte later c.if-taken-left.false c.if-byte-eq10.true

pub loop-came-preserved-then-len-lt-MAX_LINE : goal.loop-came-preserved-then-len-lt-MAX_LINE
loop-came-preserved-then-len-lt-MAX_LINE g c =
    let mid = g.R.Read.remaining c.loop-came.reader in
    let new = g.R.Read.remaining c.next_byte.new.reader in
    let later = subst (λ came. IfSome came (λ (b : ℕ). Consumes mid new (b ∷ []))) c.in-Some.is c.in-Ok.ensures.some in
    within_more c.args.left (g.R.Read.remaining c.args.reader.now) mid new c.loop-came.taken c.loop-came.bytes.items c.loop-came.invariant
    c.in-Some.byte c.push.new.self.items later c.if-taken-left.false c.if-byte-eq10.false (λ room. c.push.ensures.items)
    (λ full. absurd (omega (arith, c.len.ensures.value, c.if-len-lt-MAX_LINE.true, full)))

pub loop-came-preserved : goal.loop-came-preserved
loop-came-preserved g c =
    let mid = g.R.Read.remaining c.loop-came.reader in
    let new = g.R.Read.remaining c.next_byte.new.reader in
    let later = subst (λ came. IfSome came (λ (b : ℕ). Consumes mid new (b ∷ []))) c.in-Some.is c.in-Ok.ensures.some in
    within_more c.args.left (g.R.Read.remaining c.args.reader.now) mid new c.loop-came.taken c.loop-came.bytes.items c.loop-came.invariant
    c.in-Some.byte c.loop-came.bytes.items later c.if-taken-left.false c.if-byte-eq10.false
    (λ room. absurd (omega (arith, c.len.ensures.value, c.if-len-lt-MAX_LINE.false, room))) (λ full. refl)
