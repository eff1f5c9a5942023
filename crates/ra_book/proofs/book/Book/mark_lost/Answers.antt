use Rattle.std.proofs.Common.{refl, sym, subst}
use Rattle.ra_book.specs.Keeping.{Ascends, book_of}
use Rattle.ra_book.proofs.Kept.{history_of}
use Rattle.ra_book.proofs.Losing.{flags_book, flags_now, marked_ok, marked_err}
use Rattle.ra_book.proofs.KeptLaws.{kept_histories_go_on}
use Rattle.ra_book.proofs.book.Book.mark_lost.Goals as goal

pub flag_lost-requires : goal.flag_lost-requires
flag_lost-requires c =
    subst Ascends (sym c.as_mut_slice.ensures.value) (kept_histories_go_on.ascends (book_of c.self.inside) c.self.inside.node c.self.invariant.keeps)

pub invariant_of-self : goal.invariant_of-self
invariant_of-self c =
    let lent = c.as_mut_slice in
    record {
      keeps = kept_histories_go_on.flags (book_of c.self.inside) _ c.self.inside.node c.self.invariant.keeps
          (flags_book c.args.self.now (book_of c.self.inside) c.self.view_is c.args.frame.now c.self.inside.sent lent.result.now c.flag_lost.new.sent
          c.flag_lost.result lent.ensures.value lent.ensures.len c.flag_lost.ensures).frames;
      reserved = c.self.invariant.reserved;
    }

pub returns-clause-ok : goal.returns-clause-ok
returns-clause-ok c =
    let lent = c.as_mut_slice in
    marked_ok c.args.self.now (book_of c.self.inside) c.self.view_is c.args.frame.now _ c.flag_lost.result
    (flags_now c.args.self.now (book_of c.self.inside) c.self.view_is c.args.frame.now c.self.inside.sent lent.result.now c.flag_lost.new.sent
    c.flag_lost.result lent.ensures.value lent.ensures.len c.flag_lost.ensures)

pub returns-clause-history : goal.returns-clause-history
returns-clause-history c = history_of _ _ _ (invariant_of-self c).keeps refl

pub returns-clause-not_sent : goal.returns-clause-not_sent
returns-clause-not_sent c =
    let lent = c.as_mut_slice in
    (flags_now c.args.self.now (book_of c.self.inside) c.self.view_is c.args.frame.now c.self.inside.sent lent.result.now c.flag_lost.new.sent
    c.flag_lost.result lent.ensures.value lent.ensures.len c.flag_lost.ensures).not_sent

pub returns-clause-already_lost : goal.returns-clause-already_lost
returns-clause-already_lost c =
    let lent = c.as_mut_slice in
    (flags_now c.args.self.now (book_of c.self.inside) c.self.view_is c.args.frame.now c.self.inside.sent lent.result.now c.flag_lost.new.sent
    c.flag_lost.result lent.ensures.value lent.ensures.len c.flag_lost.ensures).already_lost

pub returns-clause-allowed : goal.returns-clause-allowed
returns-clause-allowed c =
    let lent = c.as_mut_slice in
    (flags_now c.args.self.now (book_of c.self.inside) c.self.view_is c.args.frame.now c.self.inside.sent lent.result.now c.flag_lost.new.sent
    c.flag_lost.result lent.ensures.value lent.ensures.len c.flag_lost.ensures).allowed

pub returns-clause-err : goal.returns-clause-err
returns-clause-err c =
    let lent = c.as_mut_slice in
    marked_err c.args.self.now (book_of c.self.inside) c.self.view_is c.args.frame.now _ c.flag_lost.result
    (flags_now c.args.self.now (book_of c.self.inside) c.self.view_is c.args.frame.now c.self.inside.sent lent.result.now c.flag_lost.new.sent
    c.flag_lost.result lent.ensures.value lent.ensures.len c.flag_lost.ensures)
