use Rattle.std.proofs.Common.{refl}
use Rattle.ra_cli.proofs.Statuses.{said_why, writes_as}
use Rattle.ra_cli.proofs.serving.do_alone.Goals as goal

pub returns-in-Node-clause-does : goal.returns-in-Node-clause-does
returns-in-Node-clause-does g c = rw c.in-Node.is c.be_a_node.ensures.serves

pub returns-in-Settle-clause-does : goal.returns-in-Settle-clause-does
returns-in-Settle-clause-does g c = rw c.in-Settle.is c.settle_books.ensures

pub returns-in-Task-Answer-clause-does : goal.returns-in-Task-Answer-clause-does
returns-in-Task-Answer-clause-does g c =
    let is = rw c.in-Task-Answer.is at c.in-Task-Answer.field-0-is in
    rw c.in-Task-Answer.is (rw is c.respond.ensures.does)

pub returns-in-Task-Sim-clause-does : goal.returns-in-Task-Sim-clause-does
returns-in-Task-Sim-clause-does g c =
    let is = rw c.in-Task-Sim.is at c.in-Task-Sim.field-0-is in
    rw c.in-Task-Sim.is (rw is c.simulate.ensures.does)

pub returns-in-Task-Survey-clause-does : goal.returns-in-Task-Survey-clause-does
returns-in-Task-Survey-clause-does g c =
    let is = rw c.in-Task-Survey.is at c.in-Task-Survey.field-0-is in
    rw c.in-Task-Survey.is (rw is c.survey_seeds.ensures)

pub returns-in-Task-Check-clause-does : goal.returns-in-Task-Check-clause-does
returns-in-Task-Check-clause-does g c =
    let is = rw c.in-Task-Check.is at c.in-Task-Check.field-0-is in
    rw c.in-Task-Check.is (rw is c.judge.ensures)

pub returns-in-Task-CheckMarks-clause-does : goal.returns-in-Task-CheckMarks-clause-does
returns-in-Task-CheckMarks-clause-does g c =
    let is = rw c.in-Task-CheckMarks.is at c.in-Task-CheckMarks.field-0-is in
    rw c.in-Task-CheckMarks.is (rw is c.judge_marks.ensures)

pub returns-in-Task-Follow-clause-does : goal.returns-in-Task-Follow-clause-does
returns-in-Task-Follow-clause-does g c =
    let is = rw c.in-Task-Follow.is at c.in-Task-Follow.field-0-is in
    rw c.in-Task-Follow.is (rw is c.follow_text.ensures.does)

pub returns-in-Task-Follow-clause-told : goal.returns-in-Task-Follow-clause-told
returns-in-Task-Follow-clause-told g c =
    let is = rw c.in-Task-Follow.is at c.in-Task-Follow.field-0-is in
    rw c.in-Task-Follow.is (rw is c.follow_text.ensures.told)

pub returns-in-Task-CheckAll-clause-does : goal.returns-in-Task-CheckAll-clause-does
returns-in-Task-CheckAll-clause-does g c =
    let is = rw c.in-Task-CheckAll.is at c.in-Task-CheckAll.field-0-is in
    rw c.in-Task-CheckAll.is (rw is c.judge_all_lines.ensures.does)

pub returns-in-Task-CheckAll-clause-told : goal.returns-in-Task-CheckAll-clause-told
returns-in-Task-CheckAll-clause-told g c =
    let is = rw c.in-Task-CheckAll.is at c.in-Task-CheckAll.field-0-is in
    rw c.in-Task-CheckAll.is (rw is c.judge_all_lines.ensures.told)

pub returns-in-Task-Draw-clause-does : goal.returns-in-Task-Draw-clause-does
returns-in-Task-Draw-clause-does g c =
    let is = rw c.in-Task-Draw.is at c.in-Task-Draw.field-0-is in
    rw c.in-Task-Draw.is (rw is c.draw_part.ensures)

pub returns-in-Task-Help-clause-does : goal.returns-in-Task-Help-clause-does
returns-in-Task-Help-clause-does g c =
    let is = rw c.in-Task-Help.is at c.in-Task-Help.field-0-is in
    rw c.in-Task-Help.is (rw is (writes_as _ c.as_bytes.result.now 0 _ _ _ _ refl c.as_bytes.ensures.value c.print_text.ensures))

pub returns-in-Unknown-clause-does : goal.returns-in-Unknown-clause-does
returns-in-Unknown-clause-does g c = rw c.in-Unknown.is (said_why c.in-Unknown.fault _ _ _ _ c.refuse.ensures)
