use Rattle.std.proofs.Common.{◌≡◌, ◌+◌, [], ◌∷◌, ◌++◌, take, sym, ap, ◌∙◌}
use Rattle.std.proofs.lemmas.List.{map_push, take_more, take_all}
use Rattle.ra_book.specs.History.{clock_of}
use Rattle.ra_audit.specs.Audit.{ProgressState, clocks_taken, taken_of}
use Rattle.ra_audit.proofs.auditor.never_sent.clocks_of.Goals as goal

pub loop-progress-preserved : goal.loop-progress-preserved
loop-progress-preserved c =
    let nodes = c.args.nodes.now in
    let i = c.loop-progress.progress-index in
    let x = c.progress-item.result in
    let more : take (i + 1) nodes ≡ take i nodes ++ x ∷ [] =
    take_more nodes i x c.loop-progress-test.true ∙ ap (λ (p : ProgressState). take i nodes ++ p ∷ []) (sym c.progress-item.is)
    in
    c.in_ok-push.ensures.items
    ∙ (λ j. c.loop-progress.invariant j ++ c.latest.ensures j ∷ [])
    ∙ sym (map_push (λ (p : ProgressState). clock_of (taken_of p)) (take i nodes) x)
    ∙ ap clocks_taken (sym more)

pub returns : goal.returns
returns c =
    let all : take c.loop-progress.progress-index c.args.nodes.now ≡ c.args.nodes.now = take_all c.loop-progress.progress-index c.args.nodes.now c.loop-progress-test.false in
    c.loop-progress.invariant ∙ ap clocks_taken all
