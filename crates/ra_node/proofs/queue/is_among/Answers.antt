use Rattle.std.proofs.Common.{refl}
use Rattle.std.proofs.lemmas.Bool.{false≢true}
use Rattle.ra_node.proofs.queue.is_among.Goals as goal

pub returns-in-Some : goal.returns-in-Some
returns-in-Some c =
    let found = c.in-Some.ensures.found in
    (λ _. (_, found.0, found.1, found.2, found.3), λ _. refl)

pub returns-in-None : goal.returns-in-None
returns-in-None c = (λ yes. absurd (false≢true yes), λ any. absurd (c.in-None.ensures.none refl any))
