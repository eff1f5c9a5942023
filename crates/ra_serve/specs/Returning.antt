-- What a host that comes back makes of what others say, by the host of the machine. It takes no frame yet.
use Rattle.std.specs.Prelude.{◌≡◌, ℕ, Bool, true, false}
use Rattle.ra_link.specs.declared.link.Link.{Link}
use Rattle.ra_link.specs.Link as rule
use Rattle.ra_host.specs.declared.links.Links.{Links}
use Rattle.ra_host.specs.Host.{Host, IsOther}
use Rattle.ra_host.specs.Running.{AreLinksOf}
use Rattle.ra_serve.specs.declared.base.Base.{Base}
use Rattle.ra_serve.specs.Answering.{AnswersHello, Meets, may_hear}

-- this is the link to another host
abbrev pub IsLinkTo : Links → ℕ → Link → Type 0
IsLinkTo links j link = (h : Host) → AreLinksOf links h → IsOther h j × (link ≡ h.links j)

-- what it says to a question that may be heard
abbrev pub AnswersIf : Bool → Base → Host → ℕ → ℕ → ℕ → Base → Type 0
AnswersIf true old h j start question new =
    AnswersHello old j (h.links j) (rule.hears_hello (h.links j) start) (rule.welcome_of (h.links j) start question) new
AnswersIf false old h j start question new = new ≡ old

-- what it says to a question
abbrev pub SaysToHello : Base → Host → (j start question nodes first identity : ℕ) → Base → Type 0
SaysToHello old h j start question nodes first identity new =
    (mid : Base) × Meets old j nodes first identity mid
    × AnswersIf (may_hear old j nodes first identity) mid h j start question new
