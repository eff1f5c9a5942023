use Rattle.ra_node.proofs.EventLemmas.{other_entry, other_resource, same_node, same_start, forgets_all}
use Rattle.ra_node.proofs.laws.events_leave_other_names.Goals as goal

pub returns : goal.returns
returns c = record { entry = other_entry; resource = other_resource; node = same_node; start = same_start; forgets = forgets_all }
