use borrow.Author.Count.{falls}
use Rattle.std.proofs.Common.{◌≡◌, ◌≤◌, ◌+◌, ◌++◌, List, [], ℕ, length, take, zero-le, false, refl, sym, ap, ◌∙◌, subst}
use Rattle.std.proofs.lemmas.Bool.{false≢true}
use Rattle.ra_text.specs.Input.{Reads}
use Rattle.std.specs.Io.KnownBytes.{Consumes}
use Rattle.ra_text.proofs.Pieces.{consumed_both, consumed_none, consumed_before, no_bytes, no_fault, not_read, is_read, is_room, then_came, less_than, one_turn_more, all_turns, no_room, reads_all, reads_to_end, is_piece}
use Rattle.ra_text.proofs.io.limited_input.read_from.Goals as goal
use Rattle.ra_text.proofs.io.limited_input.read_from.Goals.{else-loop-turn-test, then-loop-turn-test+then-left-eq0, then-loop-turn-test+else-left-eq0+in_ok-count+then-count-eq0}

pub returns-in_err-extend_from_slice-clause-at_most : goal.returns-in_err-extend_from_slice-clause-at_most
returns-in_err-extend_from_slice-clause-at_most g c =
    let before = c.loop-turn.bytes.items in
    let count = c.in_ok-count.count in
    let some = c.in_ok-count.ensures.some in
    let piece = is_piece before c.loop-turn.piece c.read.new.buffer c.args.limit _ count _ c.loop-turn.invariant.room c.loop-turn.invariant.at_most
    (c.len.ensures ∙ c.loop-turn.bytes.ok.0) c.min-in-loop-turn.ensures c.read.ensures.same some.0 in
    (before ++ take count c.read.new.buffer, piece.at_most, consumed_both _ _ _ before _ c.loop-turn.invariant.taken some.1)

pub loop-turn-preserved : goal.loop-turn-preserved
loop-turn-preserved g c =
    let before = c.loop-turn.bytes.items in
    let count = c.in_ok-count.count in
    let some = c.in_ok-count.ensures.some in
    let piece = is_piece before c.loop-turn.piece c.read.new.buffer c.args.limit _ count _ c.loop-turn.invariant.room c.loop-turn.invariant.at_most
    (c.len.ensures ∙ c.loop-turn.bytes.ok.0) c.min-in-loop-turn.ensures c.read.ensures.same some.0 in
    let came = take count c.read.new.buffer in
    let added : c.extend_from_slice.new.self.items ≡ before ++ came =
    then_came before _ came _ c.in_ok-extend_from_slice.ensures.items piece.same in
    let long : length c.extend_from_slice.new.self.items ≡ length before + count = ap length added ∙ piece.long in
    record {
      unfailed = c.in_ok-count.ensures.unfailed;
      same_reference = c.read.ensures.same_reference ∙ c.loop-turn.invariant.same_reference;
      count = one_turn_more _ _ _ _ long c.if-count-eq0.false c.loop-turn.invariant.count;
      at_most = subst (λ (bytes : List ℕ). length bytes ≤ c.args.limit) (sym added) piece.at_most;
      room = piece.room_stays ∙ c.loop-turn.invariant.room;
      taken = subst (λ (bytes : List ℕ). Consumes (g.R.Read.remaining c.args.source.now.reader.now) (g.R.Read.remaining c.read.new.self.reader.now) bytes) (sym added)
          (consumed_both _ _ _ before came c.loop-turn.invariant.taken some.1);
    }

pub returns-in_err-bytes : goal.returns-in_err-bytes
returns-in_err-bytes g c =
    let r = c.from_residual.result in
    let memory = c.from_residual.ensures.1 in
    record {
      same_reference = refl;
      bytes = no_bytes r _ _ memory;
      at_most = ([], zero-le, consumed_none _);
      failed = λ is. absurd (not_read r memory is);
      fault = (λ is. absurd (not_read r memory is), λ failed. absurd (false≢true (sym c.requires ∙ failed)));
    }

pub loop-turn-init : goal.loop-turn-init
loop-turn-init g c =
    let none = c.in_ok-bytes.ensures.items in
    let all = g.R.Read.remaining c.args.source.now.reader.now in
    record {
      unfailed = c.requires;
      same_reference = refl;
      count = zero-le;
      at_most = subst (λ (bytes : List ℕ). length bytes ≤ c.args.limit) (sym none) zero-le;
      room = refl;
      taken = subst (Consumes all all) (sym none) (consumed_none all);
    }

pub overflow_sub-left : goal.overflow_sub-left
overflow_sub-left g c = subst (λ (n : ℕ). n ≤ c.args.limit) (sym (c.len.ensures ∙ c.loop-turn.bytes.ok.0)) c.loop-turn.invariant.at_most

pub slice_bounds-piece-end : goal.slice_bounds-piece-end
slice_bounds-piece-end g c = (is_room c.loop-turn.piece _ _ c.loop-turn.invariant.room c.if-left-eq0.false c.min-in-loop-turn.ensures).fits

pub slice_bounds-read-end : goal.slice_bounds-read-end
slice_bounds-read-end g c = (is_room c.loop-turn.piece _ _ c.loop-turn.invariant.room c.if-left-eq0.false c.min-in-loop-turn.ensures).long

pub read-requires-clause-unfailed : goal.read-requires-clause-unfailed
read-requires-clause-unfailed g c = c.loop-turn.invariant.unfailed

pub read-requires-clause-some : goal.read-requires-clause-some
read-requires-clause-some g c = (is_room c.loop-turn.piece _ _ c.loop-turn.invariant.room c.if-left-eq0.false c.min-in-loop-turn.ensures).some

pub returns-in_err-count : goal.returns-in_err-count
returns-in_err-count g c =
    let r = c.from_residual-in_err-count.result in
    let told = c.from_residual-in_err-count.ensures.1 in
    let bytes = c.loop-turn.bytes.items in
    let invariant = c.loop-turn.invariant in
    let taken = consumed_before _ _ _ bytes invariant.taken c.in_err-count.ensures.untaken in
    record {
      same_reference = c.read.ensures.same_reference ∙ invariant.same_reference;
      bytes = no_bytes r _ _ told;
      at_most = (bytes, invariant.at_most, taken);
      failed = λ is. (bytes, less_than bytes c.args.limit _ (c.len.ensures ∙ c.loop-turn.bytes.ok.0) c.if-left-eq0.false, taken);
      fault = (λ is. c.in_err-count.ensures.failed, λ failed. is_read r _ told c.in_err-count.ensures.err);
    }

pub slice_bounds-piece-end-in-loop-turn : goal.slice_bounds-piece-end-in-loop-turn
slice_bounds-piece-end-in-loop-turn g c =
    let piece = is_piece c.loop-turn.bytes.items c.loop-turn.piece c.read.new.buffer c.args.limit _ c.in_ok-count.count _ c.loop-turn.invariant.room c.loop-turn.invariant.at_most
    (c.len.ensures ∙ c.loop-turn.bytes.ok.0) c.min-in-loop-turn.ensures c.read.ensures.same c.in_ok-count.ensures.some.0 in
    piece.fits

pub slice_bounds-extend_from_slice-end : goal.slice_bounds-extend_from_slice-end
slice_bounds-extend_from_slice-end g c =
    let piece = is_piece c.loop-turn.bytes.items c.loop-turn.piece c.read.new.buffer c.args.limit _ c.in_ok-count.count _ c.loop-turn.invariant.room c.loop-turn.invariant.at_most
    (c.len.ensures ∙ c.loop-turn.bytes.ok.0) c.min-in-loop-turn.ensures c.read.ensures.same c.in_ok-count.ensures.some.0 in
    piece.is_all

pub returns-in_err-extend_from_slice-clause-same_reference : goal.returns-in_err-extend_from_slice-clause-same_reference
returns-in_err-extend_from_slice-clause-same_reference g c = c.read.ensures.same_reference ∙ c.loop-turn.invariant.same_reference

pub returns-in_err-extend_from_slice-clause-bytes : goal.returns-in_err-extend_from_slice-clause-bytes
returns-in_err-extend_from_slice-clause-bytes g c = no_bytes c.from_residual-in_err-extend_from_slice.result _ _ c.from_residual-in_err-extend_from_slice.ensures.1

pub returns-in_err-extend_from_slice-clause-failed : goal.returns-in_err-extend_from_slice-clause-failed
returns-in_err-extend_from_slice-clause-failed g c is =
    absurd (not_read c.from_residual-in_err-extend_from_slice.result c.from_residual-in_err-extend_from_slice.ensures.1 is)

pub returns-in_err-extend_from_slice-clause-fault : goal.returns-in_err-extend_from_slice-clause-fault
returns-in_err-extend_from_slice-clause-fault g c = (
  λ is. absurd (not_read c.from_residual-in_err-extend_from_slice.result c.from_residual-in_err-extend_from_slice.ensures.1 is),
  λ failed. absurd (false≢true (sym c.in_ok-count.ensures.unfailed ∙ failed)),
)

pub loop-turn-smaller : goal.loop-turn-smaller
loop-turn-smaller g c = falls c.args.limit c.loop-turn._turn c.loop-turn-test.true

pub returns : goal.returns
returns g c =
    let bytes = c.loop-turn.bytes.items in
    let invariant = c.loop-turn.invariant in
    let old = c.args.source.now in
    let told : (c.loop-turn-test.source.reader.ghost_name ≡ old.reader.ghost_name) × (c.loop-turn-test.source.failed ≡ false)
    × Reads (g.R.Read.remaining old.reader.now) (g.R.Read.remaining c.loop-turn-test.source.reader.now) c.args.limit bytes =
    elim c.loop-turn-test.branch [
      | else-loop-turn-test w ↦
          rw w.source-is (invariant.same_reference, invariant.unfailed, reads_all _ _ _ bytes invariant.taken invariant.at_most (all_turns _ _ _ w.loop-turn-test.false invariant.count))
      | then-loop-turn-test+then-left-eq0 w ↦
          rw w.source-is (invariant.same_reference, invariant.unfailed, reads_all _ _ _ bytes invariant.taken invariant.at_most (no_room _ _ _ (w.len.ensures ∙ c.loop-turn.bytes.ok.0) w.if-left-eq0.true))
      | then-loop-turn-test+else-left-eq0+in_ok-count+then-count-eq0 w ↦
          rw w.source-is (
            w.read.ensures.same_reference ∙ invariant.same_reference,
            w.in_ok-count.ensures.unfailed,
            reads_to_end _ _ _ _ w.in_ok-count.count bytes _ invariant.taken invariant.at_most w.in_ok-count.ensures.some.1 w.if-count-eq0.true w.in_ok-count.ensures.none,
          )
    ] in
    record {
      same_reference = told.0;
      bytes = told.2;
      at_most = (bytes, told.2.at_most, told.2.taken);
      failed = λ is. absurd (no_fault is);
      fault = (λ is. absurd (no_fault is), λ failed. absurd (false≢true (sym told.1 ∙ failed)));
    }
