use Rattle.ra_node.proofs.Chains.{events_join, events_split, events_step}
use Rattle.ra_node.proofs.laws.events_go_on.Goals as goal

pub returns : goal.returns
returns c = record { step = events_step; joins = events_join; splits = events_split }
