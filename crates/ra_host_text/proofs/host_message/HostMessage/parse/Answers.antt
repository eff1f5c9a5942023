use Rattle.std.proofs.Common.{◌≡◌, ◌∷◌, ◌++◌, List, ℕ, ap, codes, subst, sym, ◌∙◌, rules}
use Rattle.std.specs.Prelude.{MatchOption}
use Rattle.ra_trace.proofs.Cuts.{cut-only}
use Rattle.ra_host_text.specs.HostText.{IsMessage}
use Rattle.ra_host_text.specs.declared.host_message.HostMessage.{HostMessage}
use Rattle.ra_host_text.proofs.Messages.{plain_told}
use Rattle.ra_host_text.proofs.host_message.HostMessage.parse.Goals as goal

pub returns-then-eq : goal.returns-then-eq
returns-then-eq c =
    let word : c.in_ok-word.word.now ≡ codes "frame" = search rules in
    let rest = c.in_ok-word.rest.now in
    let text : c.args.text.now ≡ codes "frame " ++ rest =
    cut-only 32 c.args.text.now (c.in_ok-word.word.now, rest) c.in_ok-word.ensures ∙ ap (λ (w : List ℕ). w ++ 32 ∷ rest) word in
    subst (λ (t : List ℕ). MatchOption c.frame_message_of.result ((m : HostMessage) → IsMessage t m → ⊥) (IsMessage t)) (sym text) c.frame_message_of.ensures

pub returns-else-eq : goal.returns-else-eq
returns-else-eq c =
    let other : c.in_ok-word.word.now ≡ codes "frame" → ⊥ = search rules in
    plain_told c.args.text.now c.in_ok-word.word.now c.in_ok-word.rest.now c.plain_message_of.result c.in_ok-word.ensures other c.plain_message_of.ensures
