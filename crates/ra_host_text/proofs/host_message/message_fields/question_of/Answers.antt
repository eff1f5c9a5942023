use Rattle.std.proofs.Common.{rules}
use Rattle.ra_host_text.specs.Fields.{question_of}
use Rattle.ra_host_text.proofs.host_message.message_fields.question_of.Goals as goal

pub returns-in_err-start : goal.returns-in_err-start
unfolding question_of
returns-in_err-start c = search rules

pub returns-in_err-start-2 : goal.returns-in_err-start-2
unfolding question_of
returns-in_err-start-2 c = search rules

pub returns-in_err-question : goal.returns-in_err-question
unfolding question_of
returns-in_err-question c = search rules

pub returns : goal.returns
unfolding question_of
returns c = search rules
