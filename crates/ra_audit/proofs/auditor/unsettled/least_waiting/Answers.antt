use Rattle.std.proofs.Common.{◌≡◌, ◌+◌, List, [], ◌∷◌, ◌++◌, take, sym, ap, ◌∙◌, subst}
use Rattle.std.proofs.lemmas.List.{take_more, take_all}
use Rattle.std.proofs.lemmas.List.Elements.{All-nil, All-push}
use Rattle.ra_audit.specs.Audit.{ProgressState, AreNextAt, taken_of}
use Rattle.ra_audit.specs.AuditKeeping.{AreTaken, IsLeastOf}
use Rattle.ra_audit.proofs.auditor.unsettled.least_waiting.Goals as goal

pub loop-progress-init : goal.loop-progress-init
loop-progress-init c = record {
  least = All-nil (λ (p : ProgressState). p.waiting ≡ []);
  taken = All-nil (λ (p : ProgressState). AreNextAt p.node 0 (taken_of p));
}

pub loop-progress-preserved : goal.loop-progress-preserved
loop-progress-preserved c =
    let nodes = c.args.nodes.now in
    let i = c.loop-progress.progress-index in
    let x = c.progress-item.result in
    let more : take (i + 1) nodes ≡ take i nodes ++ x ∷ [] =
    take_more nodes i x c.loop-progress-test.true ∙ ap (λ (p : ProgressState). take i nodes ++ p ∷ []) (sym c.progress-item.is)
    in
    record {
      least = subst (λ (ns : List ProgressState). IsLeastOf ns c.lesser_of-least.result) (sym more)
          (c.lesser_of-least.ensures (take i nodes) (x ∷ []) c.loop-progress.invariant.least c.first_of.ensures.first);
      taken = subst AreTaken (sym more)
          (All-push (λ (p : ProgressState). AreNextAt p.node 0 (taken_of p)) (take i nodes) x c.loop-progress.invariant.taken c.first_of.ensures.taken);
    }

pub returns : goal.returns
returns c =
    let nodes = c.args.nodes.now in
    let all : take c.loop-progress.progress-index nodes ≡ nodes = take_all c.loop-progress.progress-index nodes c.loop-progress-test.false in
    record {
      least = subst (λ (ns : List ProgressState). IsLeastOf ns c.loop-progress.least) all c.loop-progress.invariant.least;
      taken = subst AreTaken all c.loop-progress.invariant.taken;
    }
