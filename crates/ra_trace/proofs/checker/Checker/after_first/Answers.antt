use Rattle.std.proofs.Common.{◌≡◌, true, refl, sym, ◌∙◌}
use Rattle.ra_trace.specs.Forms.{has_node}
use Rattle.ra_trace.specs.Version.{has_sends}
use Rattle.ra_trace.proofs.TraceLaws.{traces_rest_on_runs}
use Rattle.ra_trace.proofs.Taking.{opens, opens_not, nothing_due, first_may_come}
use Rattle.ra_trace.proofs.checker.Checker.after_first.Goals as goal

pub returns-then-not-has_node-clause-none : goal.returns-then-not-has_node-clause-none
returns-then-not-has_node-clause-none c =
    rw c.in-First.is (λ none version is first.
    opens_not c.in-First.version c.in-First.nodes c.in-First.start (sym c.has_node.ensures ∙ c.if-not-has_node.true) version is)

pub returns-in-Ok-new-clause-some : goal.returns-in-Ok-new-clause-some
returns-in-Ok-new-clause-some c =
    let has : has_node c.in-First.version c.in-First.nodes ≡ true = sym c.has_node.ensures ∙ c.if-not-has_node.false in
    rw c.in-First.is
    (opens traces_rest_on_runs c.in-First.version c.in-First.nodes c.in-First.start _ (record {
      version_is = refl;
      world_is = rw c.get.ensures.value at c.in-Ok.ensures.ok;
      run = c.in-Ok.ensures.run;
      table_is = c.in-Ok-new.ensures.empty;
      none = nothing_due (has_sends c.in-First.version) c.new-in-Ok-new.result.items c.new-in-Ok-new-2.result.items c.new-in-Ok-new.ensures c.new-in-Ok-new-2.ensures;
    }) has)

-- ---- There is no memory for it

pub returns-in_default-new-clause-err : goal.returns-in_default-new-clause-err
returns-in_default-new-clause-err c =
    let has : has_node c.in-First.version c.in-First.nodes ≡ true = sym c.has_node.ensures ∙ c.if-not-has_node.false in
    (refl, rw c.in-First.is (first_may_come traces_rest_on_runs c.in-First.version c.in-First.nodes c.in-First.start has))

pub returns-in-Err-clause-err : goal.returns-in-Err-clause-err
returns-in-Err-clause-err c =
    let has : has_node c.in-First.version c.in-First.nodes ≡ true = sym c.has_node.ensures ∙ c.if-not-has_node.false in
    (refl, rw c.in-First.is (first_may_come traces_rest_on_runs c.in-First.version c.in-First.nodes c.in-First.start has))
