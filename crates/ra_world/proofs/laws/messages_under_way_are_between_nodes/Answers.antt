use Rattle.ra_world.proofs.Moves.{put_is_sent}
use Rattle.ra_world.proofs.Reached.{one_list, under_way_more}
use Rattle.ra_world.proofs.Outcomes.{something_under_way, is_traffic, among_them}
use Rattle.ra_world.proofs.WorldLaws.{between_nodes, laws_below}
use Rattle.ra_world.proofs.laws.messages_under_way_are_between_nodes.Goals as goal

pub returns : goal.returns
returns c =
    record {
      exist = something_under_way laws_below;
      are_one = one_list;
      among_them = among_them;
      go_on = under_way_more;
      put_is_sent = put_is_sent;
      between_nodes = between_nodes;
      numbered = λ n start moves message count run was. (is_traffic laws_below n start moves count run message was).numbered;
    }
