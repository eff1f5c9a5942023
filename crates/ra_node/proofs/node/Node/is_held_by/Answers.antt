use Rattle.std.proofs.Common.{◌↔◌, ℕ, Bool, Option, Some, None, IfSome, IsNone, refl, sym, subst}
use Rattle.std.specs.Prelude.{IsTrue, is_some}
use Rattle.std.proofs.lemmas.Bool.{false≢true}
use Rattle.ra_stamp.specs.declared.entry.Entry.{Entry}
use Rattle.ra_node.specs.Resource.{Resource, Holds}
use Rattle.ra_node.specs.Node.{resource_at}
use Rattle.ra_node.proofs.After.{nobody_holds}
use Rattle.ra_node.proofs.node.Node.is_held_by.Goals as goal

-- a client holds exactly if its granted request is found
held_tells : (found : Option Entry) (r : Resource) (client : ℕ) → IfSome found (Holds r client) → IsNone found ↔ ((entry : Entry) → Holds r client entry → ⊥) → IsTrue (is_some found) ↔ ((entry : Entry) × Holds r client entry)
held_tells None r client held none = (λ e. absurd (false≢true e), λ holds. absurd (none.0 refl holds.0 holds.1))
held_tells (Some entry) r client held none = (λ _. (entry, held), λ _. refl)

pub returns-in-Some-clause-held : goal.returns-in-Some-clause-held
returns-in-Some-clause-held c =
    let tells = held_tells c.held_by.result c.in-Some.slot.now c.args.client c.held_by.ensures.held c.held_by.ensures.not_held in
    subst (λ (r : Resource). IsTrue c.is_some.result ↔ ((entry : Entry) × Holds r c.args.client entry)) c.in-Some.ensures.found
    (subst (λ (b : Bool). IsTrue b ↔ ((entry : Entry) × Holds c.in-Some.slot.now c.args.client entry)) (sym c.is_some.ensures) tells)

pub returns-in-None-clause-held : goal.returns-in-None-clause-held
returns-in-None-clause-held c =
    let now = c.args.self.now in
    (λ e. absurd (false≢true e), λ holds. absurd (nobody_holds (resource_at now c.args.name.now) now.me now.nodes c.args.name.now now.start (c.in-None.ensures.absent refl) c.args.client holds.0 holds.1))
