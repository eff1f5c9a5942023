-- What a host that comes back says, by the host of the machine.
use Rattle.std.proofs.Common.{◌≡◌, ℕ, Bool, true, false, if◌then◌else◌, refl, sym, ap, subst, ◌∙◌, eq-eqb}
use Rattle.ra_link.specs.declared.link.Link.{Link}
use Rattle.ra_link.specs.declared.message.Message.{Message}
use Rattle.ra_link.specs.Link as rule
use Rattle.ra_host.specs.Host.{Host, linked}
use Rattle.ra_serve.specs.declared.base.Base.{Base}
use Rattle.ra_serve.specs.Answering.{AnswersHello, Meets, may_hear}
use Rattle.ra_serve.specs.Returning.{AnswersIf, SaysToHello}

-- the link that was put
pub linked_here : (h : Host) (j : ℕ) (l : Link) → (linked h j l).links j ≡ l
linked_here h j l = ap (λ (b : Bool). if b then l else h.links j) (eq-eqb j j refl)

-- a question that is heard is answered
pub hello_said : (old mid new : Base) (h : Host) (j start question nodes first identity : ℕ) (was is : Link) (welcome : Message) (heard : Bool)
    → Meets old j nodes first identity mid → heard ≡ may_hear old j nodes first identity → heard ≡ true → was ≡ h.links j → is ≡ rule.hears_hello (h.links j) start
    → welcome ≡ rule.welcome_of (h.links j) start question → AnswersHello mid j was is welcome new → SaysToHello old h j start question nodes first identity new
hello_said old mid new h j start question nodes first identity was is welcome heard meets value so was_is is_is welcome_is answers =
    let own = subst (λ (l : Link). AnswersHello mid j l is welcome new) was_is answers in
    let now = subst (λ (l : Link). AnswersHello mid j (h.links j) l welcome new) is_is own in
    let said = subst (λ (m : Message). AnswersHello mid j (h.links j) (rule.hears_hello (h.links j) start) m new) welcome_is now in
    (mid, meets, subst (λ (b : Bool). AnswersIf b mid h j start question new) (sym so ∙ value) said)

-- one that is not heard is noted
pub hello_passed : (old mid : Base) (h : Host) (j start question nodes first identity : ℕ) (heard : Bool)
    → Meets old j nodes first identity mid → heard ≡ may_hear old j nodes first identity → heard ≡ false → SaysToHello old h j start question nodes first identity mid
hello_passed old mid h j start question nodes first identity heard meets value not_so =
    (mid, meets, subst (λ (b : Bool). AnswersIf b mid h j start question mid) (sym not_so ∙ value) refl)
