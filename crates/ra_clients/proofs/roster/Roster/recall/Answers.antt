use Rattle.std.proofs.Common.{true, refl, sym, ◌∙◌}
use Rattle.ra_clients.proofs.TimeOrder.{none_set}
use Rattle.ra_clients.proofs.InStep.{all_same}
use Rattle.ra_clients.proofs.RosterCalls.{recalled}
use Rattle.ra_clients.proofs.Found.{had_same, num_apart, recalled_off}
use Rattle.ra_clients.proofs.roster.Roster.recall.Goals as goal

pub invariant_of-self-in-Err : goal.invariant_of-self-in-Err
invariant_of-self-in-Err c =
    let old = c.args.self.now in
    let same = recalled_off old.clients c.recall_at.new.clients c.end_at.new.clients c.forget_at.new.clients c.args.number c.args.name.now c.args.now _ c.requires.new_name
    c.in_ok-recall_at.ensures.ok c.end_at.ensures.changes c.forget_at.ensures in
    record {
      in_step = all_same old.clients c.forget_at.new.clients old.numbers c.keep.new.self old.ends old.ends old.leaving old.leaving old.in_step same c.in-Err.ensures.err
          (λ time k n. refl) (λ k. refl);
    }

pub returns-in-Err-clause-err : goal.returns-in-Err-clause-err
returns-in-Err-clause-err c =
    let old = c.args.self.now in
    let same = recalled_off old.clients c.recall_at.new.clients c.end_at.new.clients c.forget_at.new.clients c.args.number c.args.name.now c.args.now _ c.requires.new_name
    c.in_ok-recall_at.ensures.ok c.end_at.ensures.changes c.forget_at.ensures in
    record {
      clients = same;
      before = record {
        had = λ k is. had_same old.clients c.forget_at.new.clients k same is;
        before = λ k is. c.in-Err.ensures.err.before k;
      };
    }

pub invariant_of-self-2 : goal.invariant_of-self-2
invariant_of-self-2 c =
    let old = c.args.self.now in
    let off = c.remove.ensures.updates in
    record {
      in_step = recalled old.clients c.recall_at.new.clients old.numbers c.keep.new.self old.ends old.leaving c.remove.new.self c.args.number c.args.name.now c.args.now old.in_step
          c.requires.not_connected c.requires.new_name c.in_ok-recall_at.ensures.ok c.in_default.ensures.ok off.1
          (λ j apart. off.2 j (num_apart c.args.number j (λ its. apart (sym its))))
          (none_set old.ends c.args.number c.args.name.now true);
    }
