use Rattle.std.proofs.Common.{sym, ◌∙◌}
use Rattle.ra_book_text.proofs.Faults.{ok_no_err}
use Rattle.ra_book_text.proofs.Taken.{can_read, received, refused_by}
use Rattle.ra_book_text.proofs.text_settling.recording.record_event.Goals as goal

pub returns-in_err-ask-in-Ask : goal.returns-in_err-ask-in-Ask
returns-in_err-ask-in-Ask c =
    let refused = c.in_err-ask-in-Ask in
    refused_by c.args.book.now c.args.kind.now _ refused.field-0.0
    ((λ apart can. apart (refused.ensures.allowed.1 (rw c.in-Ask.is at can))), (λ is. rw c.in-Ask.is (refused.ensures.allowed.0 is)))
    c.from_residual.result c.from_residual.ensures.1

pub returns-in_err-leave-in-Leave : goal.returns-in_err-leave-in-Leave
returns-in_err-leave-in-Leave c =
    let refused = c.in_err-leave-in-Leave in
    let passed = c.from_residual-in_err-leave-in-Leave in
    refused_by c.args.book.now c.args.kind.now _ refused.field-0.0
    ((λ apart can. apart (refused.ensures.allowed.1 (rw c.in-Leave.is at can))), (λ is. rw c.in-Leave.is (refused.ensures.allowed.0 is)))
    passed.result passed.ensures.1

pub returns-in_err-cancel-in-Cancel : goal.returns-in_err-cancel-in-Cancel
returns-in_err-cancel-in-Cancel c =
    let refused = c.in_err-cancel-in-Cancel in
    let passed = c.from_residual-in_err-cancel-in-Cancel in
    refused_by c.args.book.now c.args.kind.now _ refused.field-0.0
    ((λ apart can. apart (refused.ensures.allowed.1 (rw c.in-Cancel.is at can))), (λ is. rw c.in-Cancel.is (refused.ensures.allowed.0 is)))
    passed.result passed.ensures.1

pub returns-in_err-forget-in-Forget : goal.returns-in_err-forget-in-Forget
returns-in_err-forget-in-Forget c =
    let refused = c.in_err-forget-in-Forget in
    let passed = c.from_residual-in_err-forget-in-Forget in
    refused_by c.args.book.now c.args.kind.now _ refused.field-0.0
    ((λ apart can. apart (refused.ensures.allowed.1 (rw c.in-Forget.is at can))), (λ is. rw c.in-Forget.is (refused.ensures.allowed.0 is)))
    passed.result passed.ensures.1

pub returns-in_err-receive-in-Receive : goal.returns-in_err-receive-in-Receive
returns-in_err-receive-in-Receive c =
    let refused = c.in_err-receive-in-Receive in
    let passed = c.from_residual-in_err-receive-in-Receive in
    let frame = c.in-Receive.frame in
    let bytes = c.encoded-bytes.result.items in
    let written = c.round_trip.ensures.written_is_read bytes frame c.encoded-bytes.ensures in
    refused_by c.args.book.now c.args.kind.now _ refused.field-0.0 (
      (λ apart can.
          let takes = rw c.in-Receive.is at can in
          apart (refused.ensures.allowed.1 (record { no_fault = takes.0; frame = frame; text = rw c.as_slice.ensures.value written; holds = (takes.1, takes.2) }))),
      (λ is. rw c.in-Receive.is (can_read c.args.book.now frame bytes c.round_trip.ensures.one_frame written (rw c.as_slice.ensures.value at (refused.ensures.allowed.0 is)))),
    ) passed.result passed.ensures.1

pub returns-in_ok-receive-in-Receive : goal.returns-in_ok-receive-in-Receive
returns-in_ok-receive-in-Receive c =
    let frame = c.in-Receive.frame in
    let bytes = c.encoded-bytes.result.items in
    let written = c.round_trip.ensures.written_is_read bytes frame c.encoded-bytes.ensures in
    rw c.in-Receive.is
    (received c.args.book.now c.receive.new.self frame bytes c.receive.result c.round_trip.ensures.one_frame written
    (rw c.as_slice.ensures.value at c.receive.ensures.ok) c.receive.ensures.history (λ why is. ok_no_err (sym c.in_ok-receive-in-Receive.was ∙ is)))
