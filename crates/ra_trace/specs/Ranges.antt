-- What the types of messages, entries, marks and steps say of the ranges of their fields in what is written: everything
-- but that numbers are 1 or more.
use Rattle.std.specs.Prelude.{◌≤◌}
use Rattle.ra_stamp.specs.Mark.{entry_of_mark}
use Rattle.ra_stamp.specs.Message.{seq_of}
use Rattle.ra_stamp.specs.declared.entry.Entry.{Entry}
use Rattle.ra_stamp.specs.declared.entry.Mark.{Mark}
use Rattle.ra_stamp.specs.declared.message.Message.{Message}
use Rattle.ra_world.specs.declared.step.Step.{Step}
use Rattle.ra_world.specs.declared.step.Step.TheVariants.{Ask, Leave, Cancel, Deliver, Lose, Repeat, Forget}
use Rattle.ra_trace.specs.declared.line.version.Version.TheVariants.{Three}
use Rattle.ra_trace.specs.TraceText.{IsEntryLine, IsMessageLine, IsStepLine}

-- if the request's number is 1 or more, each of its fields is in its range in version 3
abbrev pub EntryFits : Entry → Type 0
EntryFits entry = 1 ≤ entry.stamp.seq → IsEntryLine Three entry

-- if the number of the mark's request is 1 or more, each field of the mark is in its range in version 3
abbrev pub MarkFits : Mark → Type 0
MarkFits mark = EntryFits (entry_of_mark mark)

-- if the message's number is 1 or more, each of its fields is in its range in version 3
abbrev pub MessageFits : Message → Type 0
MessageFits message = 1 ≤ seq_of message → IsMessageLine Three message

-- each field of the step is in its range in version 3, for a message's step if the message's number is 1 or more
abbrev pub StepFits : Step → Type 0
StepFits (Ask node client name mode) = IsStepLine Three (Ask node client name mode)
StepFits (Leave node client name) = IsStepLine Three (Leave node client name)
StepFits (Cancel node client name) = IsStepLine Three (Cancel node client name)
StepFits (Deliver message) = MessageFits message
StepFits (Lose message) = MessageFits message
StepFits (Repeat message) = MessageFits message
StepFits (Forget node) = IsStepLine Three (Forget node)
