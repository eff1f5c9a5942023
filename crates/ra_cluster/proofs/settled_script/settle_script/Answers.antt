use Rattle.ra_cluster.specs.Outcome.{RefusesSound}
use Rattle.ra_cluster.proofs.Endings as done
use Rattle.ra_cluster.proofs.settled_script.settle_script.Goals as goal

pub returns-in-Some-clause-fault : goal.returns-in-Some-clause-fault
returns-in-Some-clause-fault c = λ stop. done.same_fault c.args.books.now c.in-Some.stop stop c.in-Some.ensures

pub returns-in-Some-clause-refused : goal.returns-in-Some-clause-refused
returns-in-Some-clause-refused c =
    done.some_fault c.args.books.now c.in-Some.stop (RefusesSound c.args.script.now c.args.books.now c.args.grants.now) c.in-Some.ensures

pub returns : goal.returns
returns c =
    let script = c.args.script.now in
    let books = c.args.books.now in
    let grants = c.args.grants.now in
    let r = c.settle_sound.result in
    let says = c.settle_sound.ensures in
    record {
      outcome = done.outcome script books grants r says;
      done = done.done script books grants r says;
      fault = λ stop. done.no_fault script books grants stop c.in_default.ensures r says;
      refused = λ none. done.refuses script books grants r says;
      threads = done.of_threads script books grants r says;
    }
