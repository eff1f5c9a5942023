use Rattle.std.proofs.Common.{All, take}
use Rattle.ra_audit.specs.AuditKeeping.{NotesSome, IsIn, IsNotedIn, AreApart}
use Rattle.ra_audit.proofs.auditor.flights.note_all.Given as goal

-- the messages so far are noted, and none is noted twice
abbrev pub invariant-loop-message : goal.invariant-loop-message
invariant-loop-message l = record {
  apart : AreApart l.nodes l.slots.items l.others.entries;
  notes : NotesSome (IsNotedIn l.nodes l.fn.slots.items l.fn.others.entries) (take l.message-index l.messages) l.clock (IsNotedIn l.nodes l.slots.items l.others.entries);
  all : All (IsIn (IsNotedIn l.nodes l.slots.items l.others.entries)) (take l.message-index l.messages);
}
