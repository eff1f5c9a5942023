use Rattle.std.proofs.Common.{◌≡◌, ◌≢◌, Result, Ok, Err, refl, sym, ap, ◌∙◌, subst}
use Rattle.std.specs.Io.KnownBytes.{Appends}
use Rattle.std.proofs.lemmas.Result.{err_from_is_err_and, IfOk-from_err, MatchResult-from_err, IfErr-at_err}
use Rattle.ra_trace.specs.declared.error.WriteTraceError.{WriteTraceError}
use Rattle.ra_trace.specs.declared.error.WriteTraceError.TheVariants.{Write}
use Rattle.ra_trace.specs.TraceText.{IsTraceIn}
use Rattle.ra_trace.specs.declared.line.version.Version.TheVariants.{ThreeWithSends}
use Rattle.ra_trace.proofs.Refusing.{passes, all_made, tells_unwritten, of_writer}
use Rattle.ra_trace.proofs.trace_writing.write_trace_with_sends.Goals as goal

-- ---- No trace is made

pub returns-in_err-text : goal.returns-in_err-text
returns-in_err-text g c =
    let result = c.from_residual.result in
    let p = err_from_is_err_and result c.from_residual.ensures.1 in
    let e = c.in_err-text.ensures in
    let tells = passes c.args.nodes c.args.start c.args.steps.now.items result c.in_err-text.field-0.0 (p.1 ∙ ap Err p.2)
    (record { refusals = e.refusals; early = e.early }) in
    record {
      ok = IfOk-from_err result _ c.from_residual.ensures.0;
      refusals = tells.refusals;
      unwritten = MatchResult-from_err result _ _ c.from_residual.ensures.0 (λ fault other. refl);
      prefix = λ is. absurd (IfErr-at_err (λ fault. fault ≢ Write) is tells.early refl);
    }

-- ---- The trace is not written

pub returns : goal.returns
returns g c =
    let n = c.args.nodes in
    let start = c.args.start in
    let steps = c.args.steps.now.items in
    let (moves, made, trace) = c.in_ok-text.ensures.ok in
    let result : Result (Unit {0}) WriteTraceError = Err Write in
    let is : result ≡ Err Write = refl in
    record {
      ok = tt;
      refusals = tells_unwritten n start steps result is trace.count;
      unwritten = of_writer n start steps result is _;
      prefix = λ _.
          let (prefix, rest, whole, some, appends) = c.in-Err.ensures.err in
          (moves, prefix, rest, made, subst (IsTraceIn ThreeWithSends n start moves) (sym c.as_bytes.ensures.value ∙ whole) trace, some, appends);
    }

-- ---- It is written

written_is_no_fault : {done : Unit {0}} → ◌≡◌ {A = Result (Unit {0}) WriteTraceError} (Ok done) (Err Write) → ⊥
written_is_no_fault e = cc

pub returns-in-Ok : goal.returns-in-Ok
returns-in-Ok g c =
    let (moves, made, trace) = c.in_ok-text.ensures.ok in
    record {
      ok = (
        moves,
        _,
        made,
        trace,
        subst (Appends (g.W.Write.contents c.args.writer.now) (g.W.Write.contents c.write_out.new.writer)) c.as_bytes.ensures.value c.in-Ok.ensures.ok,
      );
      refusals = (all_made c.args.nodes c.args.start c.args.steps.now.items tt trace.count).refusals;
      unwritten = tt;
      prefix = λ is. absurd (written_is_no_fault is);
    }
