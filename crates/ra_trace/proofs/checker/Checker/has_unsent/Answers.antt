use Rattle.std.proofs.Common.{◌≡◌, Bool, true, cond, [], drop, ap, sym, ◌∙◌, arith}
use Rattle.std.proofs.lemmas.Bool.{ltb-true}
use Rattle.ra_trace.specs.Version.{has_sends}
use Rattle.ra_trace.proofs.Due.{some_left}
use Rattle.ra_trace.proofs.checker.Checker.has_unsent.Goals as goal

pub returns-then-has_sends-clause-some : goal.returns-then-has_sends-clause-some
returns-then-has_sends-clause-some c is none =
    let checker = c.args.self.now in
    let tells : has_sends checker.version ≡ true = sym c.has_sends.ensures ∙ c.if-has_sends.true in
    let left = drop checker.told checker.sends.items in
    some_left checker.sends.items checker.told
    (omega (arith, ltb-true checker.told c.len.result is, c.len.ensures))
    (ap (λ (b : Bool). cond b left []) (sym tells) ∙ none)
