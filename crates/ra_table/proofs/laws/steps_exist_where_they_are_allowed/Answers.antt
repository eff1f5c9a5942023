use Rattle.ra_table.proofs.Next.{allows_request, allows_enter, allows_leave, allows_withdrawal}
use Rattle.ra_table.proofs.laws.steps_exist_where_they_are_allowed.Goals as goal

pub returns : goal.returns
returns c = record { request = allows_request; enter = allows_enter; leave = allows_leave; withdraw = allows_withdrawal }
