use Rattle.ra_schedule.proofs.Meanings.{delivered, lost, repeated, none_delivered, none_lost, none_repeated, some_number, place_of_client, progress_of, nobody_above, somebody, nobody, number_zero, enabled_stands, disabled_fault}
use Rattle.ra_schedule.proofs.ScheduleLaws.{schedules_rest_on_runs}
use Rattle.ra_schedule.proofs.choice.picking.meaning.Goals as goal
use Rattle.ra_schedule.proofs.choice.picking.meaning.Goals.{then-client-eq0-via-then-client-eq0, then-client-eq0-via-else-client-eq0+then-client-clients}

pub returns-then-client-eq0-clause-err : goal.returns-then-client-eq0-clause-err
returns-then-client-eq0-clause-err c =
    elim c.then-client-eq0.branch [
      | then-client-eq0-via-then-client-eq0 w ↦ number_zero c.args.script.now c.args.world.now.moves c.args.choice c.in-Client.client c.in-Client.is w.if-client-eq0.true
      | then-client-eq0-via-else-client-eq0+then-client-clients w ↦
          nobody c.args.script.now c.args.world.now.moves c.args.choice c.in-Client.client c.in-Client.is
          (nobody_above c.args.script.now c.in-Client.client w.clients.result w.if-client-clients.true w.clients.ensures.value)
    ]

pub overflow_sub-progress : goal.overflow_sub-progress
overflow_sub-progress c = some_number c.in-Client.client c.if-client-eq0.false

pub bounds-clients-client : goal.bounds-clients-client
bounds-clients-client c =
    place_of_client c.args.script.now c.in-Client.client c.clients.result c.args.clients.now c.if-client-eq0.false c.if-client-clients.false c.clients.ensures.value c.requires.length_is

pub enabled_step-requires-clause-count : goal.enabled_step-requires-clause-count
enabled_step-requires-clause-count c = c.requires.count

pub enabled_step-requires-clause-start : goal.enabled_step-requires-clause-start
enabled_step-requires-clause-start c = c.requires.start

pub enabled_step-requires-clause-progress : goal.enabled_step-requires-clause-progress
enabled_step-requires-clause-progress c =
    progress_of c.args.script.now c.args.world.now c.args.clients.now c.in-Client.client _ c.requires c.if-client-eq0.false
    (place_of_client c.args.script.now c.in-Client.client c.clients.result c.args.clients.now c.if-client-eq0.false c.if-client-clients.false c.clients.ensures.value c.requires.length_is)

pub returns-else-client-clients-clause-ok : goal.returns-else-client-clients-clause-ok
returns-else-client-clients-clause-ok c =
    enabled_stands c.args.script.now c.args.world.now.moves c.args.choice c.in-Client.client c.enabled_step.result c.ok_or.result c.in-Client.is c.ok_or.ensures.value
    c.enabled_step.ensures.some

pub returns-else-client-clients-clause-err : goal.returns-else-client-clients-clause-err
returns-else-client-clients-clause-err c =
    disabled_fault c.args.script.now c.args.world.now.moves c.args.choice c.in-Client.client c.enabled_step.result c.ok_or.result c.in-Client.is c.ok_or.ensures.value
    c.enabled_step.ensures.none
    (somebody c.args.script.now c.in-Client.client c.clients.result c.if-client-eq0.false c.if-client-clients.false c.clients.ensures.value)

pub returns-in-Some-clause-ok : goal.returns-in-Some-clause-ok
returns-in-Some-clause-ok c =
    delivered c.args.script.now c.args.world.now.moves c.args.choice c.in-Message.place c.in-Some.message c.in-Message.is c.in-Some.ensures.value

pub returns-in-None-clause-err : goal.returns-in-None-clause-err
returns-in-None-clause-err c =
    none_delivered schedules_rest_on_runs.one_list c.args.script.now c.args.world.now.moves c.args.choice c.in-Message.place c.in-Message.is c.in-None.ensures.value

pub returns-in-Some-message_at-clause-ok : goal.returns-in-Some-message_at-clause-ok
returns-in-Some-message_at-clause-ok c =
    lost c.args.script.now c.args.world.now.moves c.args.choice c.in-Lost.place c.in-Some-message_at.message c.in-Lost.is c.in-Some-message_at.ensures.value

pub returns-in-None-message_at-clause-err : goal.returns-in-None-message_at-clause-err
returns-in-None-message_at-clause-err c =
    none_lost schedules_rest_on_runs.one_list c.args.script.now c.args.world.now.moves c.args.choice c.in-Lost.place c.in-Lost.is c.in-None-message_at.ensures.value

pub returns-in-Some-message_at-2-clause-ok : goal.returns-in-Some-message_at-2-clause-ok
returns-in-Some-message_at-2-clause-ok c =
    repeated c.args.script.now c.args.world.now.moves c.args.choice c.in-Repeated.place c.in-Some-message_at-2.message c.in-Repeated.is c.in-Some-message_at-2.ensures.value

pub returns-in-None-message_at-2-clause-err : goal.returns-in-None-message_at-2-clause-err
returns-in-None-message_at-2-clause-err c =
    none_repeated schedules_rest_on_runs.one_list c.args.script.now c.args.world.now.moves c.args.choice c.in-Repeated.place c.in-Repeated.is c.in-None-message_at-2.ensures.value
