use Rattle.std.proofs.Common.{◌≡◌, List, [], ◌∷◌, Contains, Some, Err, Result, sym, ap, ◌∙◌, subst, arith}
use Rattle.std.specs.Prelude.{slice_get}
use Rattle.std.proofs.lemmas.Option.{none-some, same_Some}
use Rattle.ra_stamp.specs.declared.entry.Entry.{Entry}
use Rattle.ra_book.specs.declared.book.grant.Grant.{Grant}
use Rattle.ra_audit.specs.declared.grant_matcher.GrantError.{GrantError}
use Rattle.ra_audit.specs.declared.grant_matcher.GrantError.TheVariants.{GrantMissing}
use Rattle.ra_audit.specs.Matching.{MatcherState, IsUnmatched}
use Rattle.ra_audit.proofs.Matching.{is_unmatched}
use Rattle.ra_audit.proofs.grant_matcher.GrantMatcher.check.Goals as goal

first_there : (xs : List Entry) (e : Entry) → Some e ≡ slice_get xs 0 → Contains xs e
first_there [] e is = absurd (none-some e (sym is))
first_there (x ∷ xs) e is = (0, omega arith, same_Some x e (sym is))

same_grant : (a b : Grant) → ◌≡◌ {A = Result (Unit {0}) GrantError} (Err (GrantMissing a)) (Err (GrantMissing b)) → a ≡ b
same_grant a b is = cc

pub returns-clause-missing : goal.returns-clause-missing
returns-clause-missing c = λ grant is.
    let e = c.in-Some.entry.now in
    let i = c.self.inside in
    let waits = first_there i.waiting.items e (c.in-Some.ensures.value ∙ ap (λ (xs : List Entry). slice_get xs 0) c.deref.ensures.value) in
    subst (λ (g : Grant). IsUnmatched c.args.self.now.told c.args.self.now.grants g.entry) (same_grant (record { entry = e }) grant is)
    (subst (λ (s : MatcherState). IsUnmatched s.told s.grants e) c.self.view_is
    (is_unmatched i.told i.grants.items i.waiting.items i.left.items i.forgot c.self.invariant e waits c.if-self.false))
