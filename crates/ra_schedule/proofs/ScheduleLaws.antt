-- The laws of nodes and of runs on which schedules and their ends depend. A proof names them, and no code calls them.
use Rattle.ra_node.proofs.Chains.{events_split}
use Rattle.ra_node.proofs.Determined.{events_one}
use Rattle.ra_node.proofs.EventLemmas.{other_resource, same_node}
use Rattle.ra_node.proofs.EventsKept.{event_leads}
use Rattle.ra_node.proofs.NodeLemmas.{opening_is_consistent}
use Rattle.ra_table.proofs.History.{same_entries}
use Rattle.ra_world.specs.Run.{marks_of}
use Rattle.ra_world.proofs.GoingOn.{ask_goes_on, leave_goes_on}
use Rattle.ra_world.proofs.Outcomes.{has_table, as_many_wait, numbers_at_most, sends_at_most, something_under_way}
use Rattle.ra_world.proofs.QuietRuns.{is_blocked}
use Rattle.ra_world.proofs.Reached.{one_list}
use Rattle.ra_world.proofs.RequestCounts.{asks_counted}
use Rattle.ra_world.proofs.Runs.{one_run, prefixes}
use Rattle.ra_world.proofs.TableNodes.{table_of_nodes}
use Rattle.ra_world.proofs.WorldLaws.{stays_consistent, laws_below, between_nodes, deliver_allowed, lose_allowed, repeat_allowed, ask_stays, leave_stays}
use Rattle.ra_schedule.specs.Below.{LawsBelow}
use Rattle.ra_schedule.specs.BelowFinishing.{LawsOfNodes, LawsOfRuns}

-- the laws on which schedules depend
pub schedules_rest_on_runs : LawsBelow
schedules_rest_on_runs = record {
  prefixes = λ n start prefix rest. prefixes laws_below.splits n start rest prefix;
  determined = one_run laws_below;
  one_list = one_list;
  a_list = something_under_way laws_below;
  deliver = deliver_allowed;
  lose = lose_allowed;
  repeat = repeat_allowed;
  ask_stays = ask_stays;
  leave_stays = leave_stays;
}

-- the laws on which the laws of the ends of scripts depend: laws of nodes
pub endings_rest_on_nodes : LawsOfNodes
endings_rest_on_nodes = record {
  opens = opening_is_consistent;
  consistent = stays_consistent;
  one_request = event_leads;
  other_names = other_resource;
  same_node = same_node;
  one_end = λ old a b happened. events_one happened old a b;
  splits = events_split;
}

-- and laws of runs
pub endings_rest_on_runs : LawsOfRuns
endings_rest_on_runs = record {
  prefixes = λ n start prefix rest. prefixes laws_below.splits n start rest prefix;
  between_nodes = between_nodes;
  one_list = one_list;
  may_ask = λ n start moves. ask_goes_on laws_below n start moves;
  may_leave = λ n start moves. leave_goes_on laws_below n start moves;
  table = has_table laws_below;
  waiting = λ n start moves nodes table count run ends. as_many_wait laws_below n start moves count run nodes table ends (same_entries (marks_of moves));
  table_of = λ n start moves nodes table count run ends. table_of_nodes laws_below n start moves count run nodes ends (same_entries (marks_of moves)) table;
  blocked = λ n start moves table e count run quiet. is_blocked laws_below n start moves count run quiet (same_entries (marks_of moves)) table e;
  highest = λ n start moves nodes i name count run ends low high. numbers_at_most laws_below n start moves count run nodes ends i name (low, high);
  a_list = something_under_way laws_below;
  sent = λ n start moves count run. sends_at_most laws_below n start moves count run;
  asks = λ n start moves nodes count run. (asks_counted laws_below n start count moves run).made nodes;
  withdrawn = λ n start moves count run. (asks_counted laws_below n start count moves run).few;
}
