use Rattle.std.proofs.Common.{◌≡◌, ℕ, List, refl, sym, ap, ◌∙◌, subst}
use Rattle.std.proofs.lemmas.Bool.{false≢true}
use Rattle.ra_stamp.specs.declared.message.Message.{Message}
use Rattle.ra_stamp.specs.Message.{name_of}
use Rattle.ra_node.specs.Resource.{Resource, unmet}
use Rattle.ra_node.specs.Node.{resource_at}
use Rattle.ra_node.proofs.Bringing.{IsQuietAt, brings_nothing, unmet_is_quiet, idle_is_brought, to_node, of_node}
use Rattle.ra_node.proofs.node.Node.brings_nothing.Goals as goal

pub returns-in-Some-clause-value : goal.returns-in-Some-clause-value
returns-in-Some-clause-value c =
    let now = c.args.self.now in
    let message = c.args.message.now in
    let here : c.in-Some.slot.now ≡ resource_at now (name_of message) = c.in-Some.ensures.found ∙ ap (λ (q : List ℕ). resource_at now q) c.name.ensures in
    (λ is. to_node now message c.in-Some.slot.now here (c.brings_nothing.ensures.0 is), λ brings. c.brings_nothing.ensures.1 (of_node now message c.in-Some.slot.now here brings))

pub returns-in-Reply-clause-value : goal.returns-in-Reply-clause-value
returns-in-Reply-clause-value c =
    let now = c.args.self.now in
    let message = c.args.message.now in
    let r = unmet now.me now.nodes c.name.result now.start in
    let here : r ≡ resource_at now (name_of message) = sym (c.in-None.ensures.absent refl) ∙ ap (λ (q : List ℕ). resource_at now q) c.name.ensures in
    let quiet : IsQuietAt r.state message =
    subst (λ (m : Message). IsQuietAt r.state m) (sym c.in-Reply.is) (unmet_is_quiet now.me now.nodes now.start c.in-Reply.from c.in-Reply.to c.in-Reply.seq c.name.result c.in-Reply.name) in
    (λ is. to_node now message r here (brings_nothing r message quiet), λ brings. refl)

pub returns-in-Request-clause-value : goal.returns-in-Request-clause-value
returns-in-Request-clause-value c =
    let now = c.args.self.now in
    let message = c.args.message.now in
    let idle = ap (λ (q : List ℕ). (resource_at now q).state.phase) (sym c.name.ensures) ∙ ap (λ (r : Resource). r.state.phase) (c.in-None.ensures.absent refl) in
    (λ is. absurd (false≢true is), λ brings. absurd (idle_is_brought now message _ _ _ _ _ c.in-Request.is idle brings))
