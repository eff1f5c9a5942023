use Rattle.std.proofs.Common.{◌≡◌, ◌-◌, ◌≤◌, ◌∙◌, ℕ, None, length, take, sym, ap, subst, inl, inr}
use Rattle.ra_trace.specs.declared.line_source.byte_lines.LineEnd.{LineEnd}
use Rattle.ra_trace.specs.declared.line_source.byte_lines.LineEnd.TheVariants.{Length, Input}
use Rattle.ra_trace.specs.NextLine.{EndsSo, HasNone}
use Rattle.ra_trace.proofs.Ends.{reads_at_feed, none_at_length, none_at_input, some_bytes_at_feed}
use Rattle.ra_trace.proofs.line_source.byte_lines.next_line_by_bytes.Goals as goal

pub returns-in-Err : goal.returns-in-Err
returns-in-Err g c old earlier = (c.read_rest.new.bytes.items, c.in-Err.ensures old earlier)

-- ---- The line ends with its line feed

-- of bytes that are not known, each may have been taken
pub slice_bounds-read_line_of-count : goal.slice_bounds-read_line_of-count
slice_bounds-read_line_of-count g c =
    let bytes = c.read_rest.new.bytes.items in
    let new = g.R.Read.remaining c.read_rest.new.reader in
    let some = some_bytes_at_feed bytes new (subst (λ (end : LineEnd). EndsSo end bytes new) c.in-Feed.is (c.in-Ok.ensures None tt).1) in
    subst (λ (n : ℕ). 1 ≤ n) (sym c.len-in-Feed.ensures.value) some

pub returns-in-Feed : goal.returns-in-Feed
returns-in-Feed g c old earlier =
    let bytes = c.read_rest.new.bytes.items in
    let new = g.R.Read.remaining c.read_rest.new.reader in
    let reads = c.in-Ok.ensures old earlier in (
      bytes,
      sym c.len.ensures.value,
      reads_at_feed c.args.left old new bytes (take (c.len-in-Feed.result - 1) c.deref.result.now) c.read_line_of.new.line
          reads.0 (subst (λ (end : LineEnd). EndsSo end bytes new) c.in-Feed.is reads.1)
          (ap (λ (n : ℕ). take (n - 1) c.deref.result.now) c.len-in-Feed.ensures.value ∙ ap (take (length bytes - 1)) c.deref.ensures.0) c.read_line_of.ensures,
    )

-- ---- It is over without one

pub returns-in-Length : goal.returns-in-Length
returns-in-Length g c old earlier =
    let bytes = c.read_rest.new.bytes.items in
    let new = g.R.Read.remaining c.read_rest.new.reader in
    let reads = c.in-Ok.ensures old earlier in
    let ends = λ (end : LineEnd) (is : c.in-Ok.end ≡ end). subst (λ (e : LineEnd). EndsSo e bytes new) is reads.1 in
    let none : HasNone bytes new = elim c.in-Length.is [
      | inl long ↦ none_at_length bytes new (ends Length long)
      | inr over ↦ none_at_input bytes new (ends Input over)
    ] in
    (bytes, sym c.len.ensures.value, (reads.0, none))
