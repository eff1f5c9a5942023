use Rattle.std.proofs.Common.{Bool, Option, ℕ, cond, false, sym, ap, subst, ◌∙◌}
use Rattle.ra_clients.specs.Uses.{let_in, use_of}
use Rattle.ra_clients.specs.Times.{Sets}
use Rattle.ra_clients.specs.Table.{uses_at, Changes}
use Rattle.ra_clients.specs.Roster.{end_if_some}
use Rattle.ra_clients.proofs.InStep.{entered}
use Rattle.ra_clients.proofs.Found.{waited_found}
use Rattle.ra_clients.proofs.roster.Roster.enter.Goals as goal

pub invariant_of-self-2 : goal.invariant_of-self-2
invariant_of-self-2 c =
    let old = c.args.self.now in
    let k = c.args.number in
    let name = c.args.name.now in
    let us = uses_at old.clients k in
    let found = waited_found (use_of name us) (sym c.enter_at.ensures.waited ∙ c.if-not-enter_at.false) in
    record {
      in_step = entered old.clients c.enter_at.new.clients old.numbers old.ends c.drop_end.new.ends old.leaving k name old.in_step found.0 c.args.now found.1
          (subst (λ (b : Bool). Changes old.clients k (cond b (let_in name c.args.now us) us) c.enter_at.new.clients) c.if-not-enter_at.false c.enter_at.ensures.changes)
          (subst (λ (o : Option ℕ). Sets old.ends k name o false c.drop_end.new.ends) (c.end_of.ensures ∙ ap end_if_some c.use_at-used.ensures) c.drop_end.ensures);
    }
