use Rattle.std.proofs.Common.{◌≡◌, ℕ, List, [], ◌∷◌, ◌++◌, ap, ◌∙◌, arith}
use Rattle.std.specs.Prelude.{replicate}
use Rattle.ra_serve.proofs.Pieces.{replicate_more}
use Rattle.ra_serve.specs.Peers.{unknown}
use Rattle.ra_serve.specs.declared.peer.Peer.{Peer}
use Rattle.ra_serve.proofs.base.Base.new.Goals as goal

pub loop-turn-preserved : goal.loop-turn-preserved
loop-turn-preserved c =
    c.in_ok-push.ensures.items ∙ ap (λ (ps : List Peer). ps ++ c.new.result ∷ []) c.loop-turn.invariant
    ∙ ap (λ (p : Peer). replicate c.loop-turn._turn unknown ++ p ∷ []) c.new.ensures ∙ replicate_more c.loop-turn._turn unknown

pub returns-clause-peers : goal.returns-clause-peers
returns-clause-peers c =
    let end : c.loop-turn._turn ≡ c.args.settings.member.nodes = omega (arith, c.loop-turn-test.false, c.loop-turn.auto._turn-end, c.from-nodes.ensures, c.nodes.ensures.value) in
    c.loop-turn.invariant ∙ ap (λ (n : ℕ). replicate n unknown) end
