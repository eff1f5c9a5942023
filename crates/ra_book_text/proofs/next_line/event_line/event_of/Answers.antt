use Rattle.std.proofs.Common.{codes, sym, ◌∙◌}
use Rattle.ra_trace.proofs.Cuts.{rest_after-only}
use Rattle.ra_book_text.proofs.Forms.{ask_some, ask_none, leave_some, leave_none, no_words}
use Rattle.ra_book_text.proofs.next_line.event_line.event_of.Goals as goal
use Rattle.ra_book_text.proofs.next_line.event_line.event_of.Goals.{in-Some-rest_after, in_default-rest_after+in-Some-rest_after-2, in_default-rest_after+in_default-rest_after-2}

pub returns-in-Some-clause-read : goal.returns-in-Some-clause-read
returns-in-Some-clause-read c =
    c.receive_line.ensures.read c.args.line.now (rest_after-only (codes "receive ") c.args.line.now c.in-Some.digits.now (rw c.in-Some.is at c.rest_after.ensures))
    c.if-line-gt-MAX_LINE.false

pub returns-in-Some-read-clause-read : goal.returns-in-Some-read-clause-read
returns-in-Some-read-clause-read c =
    let line = c.args.line.now in
    let kind = c.in-Some-read.kind in
    elim c.match-rest_after-2.branch [
      | in-Some-rest_after w ↦
          let rest = w.in-Some-rest_after.rest.now in
          ask_some rest kind (sym w.ask_of-read.ensures ∙ sym w.read-is ∙ c.in-Some-read.is) line
          (rest_after-only (codes "ask ") line rest (rw w.in-Some-rest_after.is at c.rest_after-2.ensures)) c.if-line-gt-MAX_LINE.false
      | in_default-rest_after+in-Some-rest_after-2 w ↦
          let rest = w.in-Some-rest_after-2.rest.now in
          leave_some rest kind (sym w.leave_of.ensures ∙ sym w.read-is ∙ c.in-Some-read.is) line
          (rest_after-only (codes "release ") line rest (rw w.in-Some-rest_after-2.is at w.rest_after-in_default-rest_after.ensures)) c.if-line-gt-MAX_LINE.false
      | in_default-rest_after+in_default-rest_after-2 w ↦ rw (sym w.read-is ∙ c.in-Some-read.is) at w.later_event_of.ensures
    ]

pub returns-in-None-clause-read : goal.returns-in-None-clause-read
returns-in-None-clause-read c =
    let line = c.args.line.now in
    elim c.match-rest_after-2.branch [
      | in-Some-rest_after w ↦
          let rest = w.in-Some-rest_after.rest.now in
          ask_none rest (sym w.ask_of-read.ensures ∙ sym w.read-is ∙ c.in-None.is) line
          (rest_after-only (codes "ask ") line rest (rw w.in-Some-rest_after.is at c.rest_after-2.ensures))
      | in_default-rest_after+in-Some-rest_after-2 w ↦
          let rest = w.in-Some-rest_after-2.rest.now in
          leave_none rest (sym w.leave_of.ensures ∙ sym w.read-is ∙ c.in-None.is) line
          (rest_after-only (codes "release ") line rest (rw w.in-Some-rest_after-2.is at w.rest_after-in_default-rest_after.ensures))
      | in_default-rest_after+in_default-rest_after-2 w ↦
          no_words line (rw c.in_default.is at c.rest_after.ensures) (rw w.in_default-rest_after.is at c.rest_after-2.ensures)
          (rw w.in_default-rest_after-2.is at w.rest_after-in_default-rest_after.ensures) (rw (sym w.read-is ∙ c.in-None.is) at w.later_event_of.ensures)
    ]
