use Rattle.std.proofs.Common.{◌≡◌, Bool, true, false, cond, sym, ap, ◌∙◌}
use Rattle.ra_link.specs.declared.link.Heard.TheVariants.{Passed}
use Rattle.ra_link.specs.declared.link.Link.{Link}
use Rattle.ra_link.specs.Link as rule
use Rattle.ra_host.specs.Running.{names}
use Rattle.ra_host.proofs.LinksHeld.{found_is, next_is, passed_is}
use Rattle.ra_host.proofs.links.Links.heard.Goals as goal

pub returns-then-not-is_between-clause-host : goal.returns-then-not-is_between-clause-host
returns-then-not-is_between-clause-host c h are =
    let found = c.in-Some.ensures.found in
    passed_is c.args.self.now h c.args.other c.args.start c.args.number c.args.frame.now c.in-Some.link are found.0 found.1 (sym c.is_between.ensures ∙ c.if-not-is_between.true)

pub returns-clause-host : goal.returns-clause-host
returns-clause-host c h are =
    let found = c.in-Some.ensures.found in
    next_is c.args.self.now h c.args.other c.args.start c.args.number c.args.frame.now c.in-Some.link are found.0 found.1 c.hear_frame.result
    (sym c.is_between.ensures ∙ c.if-not-is_between.false) c.hear_frame.ensures.heard

pub returns-then-not-is_between-clause-value : goal.returns-then-not-is_between-clause-value
returns-then-not-is_between-clause-value c h are =
    let unnamed : names c.args.frame.now c.args.other c.args.self.now.me ≡ false = sym c.is_between.ensures ∙ c.if-not-is_between.true in
    sym (ap (λ (b : Bool). cond b (rule.heard_frame (h.links c.args.other) c.args.start c.args.number) Passed) unnamed)

pub returns-clause-value : goal.returns-clause-value
returns-clause-value c h are =
    let found = c.in-Some.ensures.found in
    let named : names c.args.frame.now c.args.other c.args.self.now.me ≡ true = sym c.is_between.ensures ∙ c.if-not-is_between.false in
    c.hear_frame.ensures.heard
    ∙ ap (λ (l : Link). rule.heard_frame l c.args.start c.args.number) (sym (found_is c.args.self.now h c.args.other c.in-Some.link are found.0 found.1))
    ∙ sym (ap (λ (b : Bool). cond b (rule.heard_frame (h.links c.args.other) c.args.start c.args.number) Passed) named)
