use Rattle.std.proofs.Common.{Ok, subst}
use Rattle.std.specs.Prelude.{MatchResult}
use Rattle.ra_book.specs.declared.book.event.BookKind.{BookKind}
use Rattle.ra_book.specs.Endings.{kind_of}
use Rattle.ra_book.specs.EventChecks.{CanHappen, IsRefusedAfter}
use Rattle.ra_book.specs.Keeping.{book_of}
use Rattle.ra_book.proofs.Endings.{ending_failed, ending_checked}
use Rattle.ra_book.proofs.Kept.{history_of}
use Rattle.ra_book.proofs.Running.{runs_is, some_fault, no_fault, ComesAt, checked_failed, clock_checked, event_checked}
use Rattle.ra_book.proofs.KeptLaws.{kept_histories_go_on}
use Rattle.ra_book.proofs.book.Book.check_ending.Goals as goal

pub returns-then-is_some-clause-checked : goal.returns-then-is_some-clause-checked
returns-then-is_some-clause-checked c = checked_failed c.args.self.now _ (history_of c.args.self.now _ _ c.self.invariant.keeps c.self.view_is)

pub returns-then-is_some-clause-refused : goal.returns-then-is_some-clause-refused
returns-then-is_some-clause-refused c = ending_failed c.args.self.now c.args.ending.now (some_fault c.self.view_is c.if-is_some.ensures)

pub returns-in-Ok-clause-checked : goal.returns-in-Ok-clause-checked
returns-in-Ok-clause-checked c =
    clock_checked c.args.self.now c.clock-latest.result (kind_of c.args.ending.now)
    (history_of c.args.self.now _ _ c.self.invariant.keeps c.self.view_is) (no_fault c.self.view_is c.if-is_some.ensures) c.clock-latest.ensures.value
    c.in-Ok.clock (subst (λ (k : BookKind). ComesAt c.clock-latest.result k (Ok c.in-Ok.clock)) c.kind-kind.ensures c.in-Ok.ensures)

-- the check of the event is one of the ending
checked : (c : goal.After-check_event) → MatchResult c.check_event.result (CanHappen c.self.inside.node c.clock-latest.result (kind_of c.args.ending.now)) (IsRefusedAfter c.self.inside.node c.clock-latest.result (kind_of c.args.ending.now))
checked c =
    subst (λ (k : BookKind). MatchResult c.check_event.result (CanHappen c.self.inside.node c.clock-latest.result k) (IsRefusedAfter c.self.inside.node c.clock-latest.result k))
    c.kind-kind.ensures c.check_event.ensures.checked

pub returns-in-Err-clause-checked : goal.returns-in-Err-clause-checked
returns-in-Err-clause-checked c =
    event_checked c.args.self.now c.self.inside.node c.clock-latest.result (kind_of c.args.ending.now)
    (history_of c.args.self.now _ _ c.self.invariant.keeps c.self.view_is) (no_fault c.self.view_is c.if-is_some.ensures) c.clock-latest.ensures.value
    c.check_event.result c.check_event.ensures.no_memory (checked c)

pub returns-in-Err-clause-refused : goal.returns-in-Err-clause-refused
returns-in-Err-clause-refused c =
    ending_checked c.args.self.now c.args.ending.now c.self.inside.node (no_fault c.self.view_is c.if-is_some.ensures)
    (runs_is kept_histories_go_on.determined c.args.self.now (book_of c.self.inside) c.self.inside.node c.self.invariant.keeps c.self.view_is)
    c.clock-latest.result c.clock-latest.ensures.value c.check_event.result c.check_event.ensures.no_memory (checked c)
