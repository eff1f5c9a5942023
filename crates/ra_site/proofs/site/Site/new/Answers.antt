use Rattle.std.proofs.Common.{◌≡◌, Result, Ok, Err}
use Rattle.ra_automaton.specs.declared.error.NewError.{NewError}
use Rattle.ra_site.proofs.site.Site.new.Goals as goal

-- what is made is not refused
made : {X : Type 0} (x : X) (e : NewError) → ◌≡◌ {A = Result X NewError} (Ok x) (Err e) → ⊥
made x e is = cc

pub returns-clause-member : goal.returns-clause-member
returns-clause-member c = record {
  bad_count = (λ is. absurd (made _ _ is), λ bad. absurd (made _ _ (c.in_ok-book.ensures.member.bad_count.1 bad)));
  bad_node = (λ is. absurd (made _ _ is), λ bad. absurd (made _ _ (c.in_ok-book.ensures.member.bad_node.1 bad)));
  no_memory = λ is. made _ _ is;
}
