use Rattle.std.proofs.Common.{◌≡◌, true, false, cond, length, nat_le, Some, None, ap, sym, ◌∙◌, is_some, arith}
use Rattle.std.proofs.lemmas.Bool.{cond-false, cond-true, le-leb, lt-leb}
use Rattle.ra_host_text.specs.declared.answer.Refusal.TheVariants.{Busy, Limit}
use Rattle.ra_clients.specs.Uses.{use_of}
use Rattle.ra_clients.proofs.uses.check_lock.Goals as goal

pub returns-then-is_some : goal.returns-then-is_some
returns-then-is_some c =
    let us = c.args.uses.now in
    let has : is_some (use_of c.args.name.now us) ≡ true = ap is_some (sym c.find_use.ensures) ∙ (sym c.is_some.ensures ∙ c.if-is_some.true) in
    sym (cond-true (is_some (use_of c.args.name.now us)) (Some Busy) (cond (nat_le c.args.most (length us)) (Some Limit) None) has)

pub returns-then-most-uses : goal.returns-then-most-uses
returns-then-most-uses c =
    let us = c.args.uses.now in
    let has_not : is_some (use_of c.args.name.now us) ≡ false = ap is_some (sym c.find_use.ensures) ∙ (sym c.is_some.ensures ∙ c.if-is_some.false) in
    sym
    (cond-false (is_some (use_of c.args.name.now us)) (Some Busy) (cond (nat_le c.args.most (length us)) (Some Limit) None) has_not
    ∙ cond-true (nat_le c.args.most (length us)) (Some Limit) None (le-leb c.args.most (length us) (omega arith)))

pub returns : goal.returns
returns c =
    let us = c.args.uses.now in
    let has_not : is_some (use_of c.args.name.now us) ≡ false = ap is_some (sym c.find_use.ensures) ∙ (sym c.is_some.ensures ∙ c.if-is_some.false) in
    sym
    (cond-false (is_some (use_of c.args.name.now us)) (Some Busy) (cond (nat_le c.args.most (length us)) (Some Limit) None) has_not
    ∙ cond-false (nat_le c.args.most (length us)) (Some Limit) None (lt-leb c.args.most (length us) (omega arith)))
