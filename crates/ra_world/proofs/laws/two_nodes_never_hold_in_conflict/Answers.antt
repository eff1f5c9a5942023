use Rattle.ra_world.proofs.Outcomes.{one_holds}
use Rattle.ra_world.proofs.WorldLaws.{laws_below}
use Rattle.ra_world.proofs.laws.two_nodes_never_hold_in_conflict.Goals as goal

pub returns : goal.returns
returns c n start moves nodes i j name a b count run ends is_i i_high is_j j_high apart =
    one_holds laws_below n start moves count run nodes ends i j name a b (is_i.0, i_high) (is_j.0, j_high) apart
