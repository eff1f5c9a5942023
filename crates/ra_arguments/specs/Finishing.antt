-- Which tasks run every orderly script to its end.
use Rattle.std.specs.Prelude.{◌≡◌, ⊤, ◌≤◌, []}
use Rattle.ra_schedule.specs.Survey.{NoneIsLost, NoneIsRepeated}
use Rattle.ra_arguments.specs.declared.command_line.PolicyName.{PolicyName}
use Rattle.ra_arguments.specs.declared.command_line.PolicyName.TheVariants.{Oldest, Newest, Seeded, Faulty, Listed}
use Rattle.ra_arguments.specs.declared.command_line.Task.{Task}
use Rattle.ra_arguments.specs.declared.command_line.Task.TheVariants as task

-- the policy of this name chooses by itself, and neither loses nor repeats a message
abbrev pub IsFaithful : PolicyName → Type 0
IsFaithful Oldest = ⊤
IsFaithful Newest = ⊤
IsFaithful (Seeded seed) = ⊤
IsFaithful (Faulty seed faults) = (faults.lose ≡ 0) × (faults.repeat ≡ 0)
IsFaithful Listed = ⊥

-- the task is `sim` by such a policy, or by such chance under at least one seed
abbrev pub RunsFaithfully : Task → Type 0
RunsFaithfully (task.Answer node nodes) = ⊥
RunsFaithfully (task.Sim policy choices format) = IsFaithful policy
RunsFaithfully (task.Survey asked) = NoneIsLost asked.faults × NoneIsRepeated asked.faults
    × (asked.seeds.first ≤ asked.seeds.last)
RunsFaithfully (task.Check complete form) = ⊥
RunsFaithfully (task.CheckMarks complete form) = ⊥
RunsFaithfully (task.Follow kind every complete form) = ⊥
RunsFaithfully (task.CheckAll complete) = ⊥
RunsFaithfully (task.Draw kind part) = ⊥
RunsFaithfully (task.Cluster printed) = ⊥
RunsFaithfully (task.Help text) = ⊥

-- no choices are given to the task
abbrev pub HasNoChoices : Task → Type 0
HasNoChoices (task.Answer node nodes) = ⊤
HasNoChoices (task.Sim policy choices format) = choices.now ≡ []
HasNoChoices (task.Survey asked) = ⊤
HasNoChoices (task.Check complete form) = ⊤
HasNoChoices (task.CheckMarks complete form) = ⊤
HasNoChoices (task.Follow kind every complete form) = ⊤
HasNoChoices (task.CheckAll complete) = ⊤
HasNoChoices (task.Draw kind part) = ⊤
HasNoChoices (task.Cluster printed) = ⊤
HasNoChoices (task.Help text) = ⊤
