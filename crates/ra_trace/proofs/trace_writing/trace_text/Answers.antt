use Rattle.std.proofs.Common.{◌≡◌, ℕ, List, map, Result, Ok, Err, IfOk, subst, sym, ap, ◌∙◌}
use Rattle.std.specs.Prelude.{string_bytes}
use Rattle.ra_world.specs.declared.step.Step.{Step}
use Rattle.ra_world.specs.Traffic.{Move}
use Rattle.ra_trace.specs.declared.error.WriteTraceError.{WriteTraceError}
use Rattle.ra_trace.specs.declared.line.version.Version.{Version}
use Rattle.ra_trace.specs.TraceText.{IsTrace, IsTraceIn, plain_version}
use Rattle.ra_trace.proofs.trace_writing.trace_text.Goals as goal

-- the version is the one that the steps are written in
as_plain : {X : Type 0} (bytes : X → List ℕ) (version : Version) (n start : ℕ) (steps : List Step) (result : Result X WriteTraceError) → version ≡ plain_version steps
    → IfOk result (λ text. (moves : List Move) × (map (λ (move : Move). move.step) moves ≡ steps) × IsTraceIn version n start moves (bytes text))
    → IfOk result (λ text. (moves : List Move) × (map (λ (move : Move). move.step) moves ≡ steps) × IsTrace n start moves (bytes text))
as_plain bytes version n start steps (Ok text) is (moves, made, trace) =
    (moves, made, subst (λ (v : Version). IsTraceIn v n start moves (bytes text)) (is ∙ ap plain_version (sym made)) trace)
as_plain bytes version n start steps (Err fault) is h = h

pub returns : goal.returns
returns c =
    record {
      ok = as_plain string_bytes c.plain_version-version.result c.args.nodes c.args.start c.args.steps.now.items c.text_in.result c.plain_version-version.ensures.version c.text_in.ensures.ok;
      refusals = c.text_in.ensures.refusals;
      early = c.text_in.ensures.early;
    }
