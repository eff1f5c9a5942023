use Rattle.std.proofs.Common.{refl}
use Rattle.ra_arguments.proofs.command_line.task_in.Goals as goal

pub returns-in-answer : goal.returns-in-answer
returns-in-answer c = rw c.in-answer.is c.answer_task.ensures

pub returns-in-sim : goal.returns-in-sim
returns-in-sim c = rw c.in-sim.is c.sim_task.ensures

pub returns-in-cluster : goal.returns-in-cluster
returns-in-cluster c = rw c.in-cluster.is c.cluster_task.ensures

pub returns-in-check : goal.returns-in-check
returns-in-check c = rw c.in-check.is c.check_task.ensures

pub returns-in-draw : goal.returns-in-draw
returns-in-draw c = rw c.in-draw.is c.draw_task.ensures

pub returns-in-node : goal.returns-in-node
returns-in-node c = rw c.in-node.is refl

pub returns-in-settle : goal.returns-in-settle
returns-in-settle c = rw c.in-settle.is refl
