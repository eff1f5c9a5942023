use Rattle.ra_book.proofs.Losing.{flags_none, flags_none_again, flags_it}
use Rattle.ra_book.proofs.book.kept_events.flag_lost.Goals as goal

pub returns-in_default : goal.returns-in_default
returns-in_default c = flags_none c.args.sent.now c.args.frame.now c.in_default.ensures

pub returns-then-sent-place : goal.returns-then-sent-place
returns-then-sent-place c =
    let place = c.index-sent-place in
    let found = c.in-Some.ensures in
    flags_none_again c.args.sent.now c.in-Some.place place.result c.args.frame.now found.within place.is found.is found.first place.result c.if-sent-place.true

pub returns : goal.returns
returns c =
    let place = c.index-sent-place-2 in
    let found = c.in-Some.ensures in
    flags_it c.args.sent.now c.in-Some.place place.result c.args.frame.now found.within place.is found.is found.first c.index-sent-place.result c.if-sent-place.false
