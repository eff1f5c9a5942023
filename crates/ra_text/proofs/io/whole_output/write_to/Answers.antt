use Rattle.std.proofs.Common.{◌≡◌, ℕ, List, [], ◌++◌, take, refl, sym, ap, ◌∙◌, subst}
use Rattle.std.specs.Io.KnownBytes.{Appends}
use Rattle.std.proofs.KnownBytes.{Appends-nil, Appends-trans}
use Rattle.std.proofs.lemmas.Bool.{eqb-true}
use Rattle.std.proofs.lemmas.List.{append-nil, nil_from_length}
use Rattle.ra_text.proofs.Written.{cut_again}
use Rattle.ra_text.proofs.io.whole_output.write_to.Goals as goal

pub loop-rest-preserved : goal.loop-rest-preserved
loop-rest-preserved g c =
    let so_far = c.loop-rest.invariant.written in
    let count = c.in_ok-count.count in
    record {
      unfailed = c.in_ok-count.ensures.unfailed;
      same_reference = c.write.ensures.same_reference ∙ c.loop-rest.invariant.same_reference;
      written = (
        so_far.0 ++ take count c.loop-rest.rest.now,
        cut_again _ so_far.0 c.loop-rest.rest.now count so_far.1,
        Appends-trans _ _ _ so_far.0 _ so_far.2 c.in_ok-count.ensures.some.2,
      );
    }

pub loop-rest-init : goal.loop-rest-init
loop-rest-init g c = record { unfailed = c.requires; same_reference = refl; written = ([], refl, Appends-nil _) }

pub returns-clause-ok : goal.returns-clause-ok
returns-clause-ok g c =
    let so_far = c.loop-rest.invariant.written in
    let none : c.loop-rest.rest.now ≡ [] = nil_from_length c.loop-rest.rest.now (eqb-true _ _ (sym c.is_empty.ensures ∙ c.loop-rest-test.false)) in
    subst (Appends (g.W.Write.contents c.args.target.now.writer.now) (g.W.Write.contents c.loop-rest.target.writer.now))
    (sym (so_far.1 ∙ ap (λ (rest : List ℕ). so_far.0 ++ rest) none ∙ append-nil so_far.0)) so_far.2
