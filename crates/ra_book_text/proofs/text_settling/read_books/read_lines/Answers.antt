use Rattle.std.proofs.Common.{◌≡◌, ◌≢◌, ◌+◌, [], ◌∷◌, ◌++◌, length, length-append, Err, refl, sym, ap, subst, arith}
use Rattle.std.proofs.lemmas.List.{nil_from_length}
use Rattle.std.proofs.lemmas.List.Elements.{All-nil}
use Rattle.ra_book_text.specs.Input.{HasNoFeed}
use Rattle.ra_book_text.specs.declared.text_settling.gathering.LineFault.{LineFault}
use Rattle.ra_book_text.specs.Gathering.{TakesLine}
use Rattle.ra_book_text.proofs.BookTexts.{at_first, line_more, all_read, line_wrong}
use Rattle.ra_book_text.proofs.text_settling.read_books.read_lines.Goals as goal

pub loop-turn-init : goal.loop-turn-init
loop-turn-init c = record {
  left = omega arith;
  so_far = λ whole first begins gathered. at_first whole first c.args.text.now c.args.gathered.now begins gathered;
}

pub returns-in_default : goal.returns-in_default
returns-in_default c whole first begins gathered =
    let rest = c.loop-turn.rest.now in
    let line = c.cut.result.0.now in
    let is : rest ≡ line = rw c.in_default.is at c.cut.ensures.whole in
    all_read whole rest c.loop-turn.turn (c.loop-turn.turn + 2) c.loop-turn.gathered (c.loop-turn.invariant.so_far whole first begins gathered)
    (subst HasNoFeed (sym is) c.cut.ensures.before) refl

pub loop-turn-preserved : goal.loop-turn-preserved
loop-turn-preserved c =
    let rest = c.loop-turn.rest.now in
    let line = c.cut.result.0.now in
    let after = c.in-Some.after.now in
    let is : rest ≡ line ++ 10 ∷ after = rw c.in-Some.is at c.cut.ensures.cut in
    record {
      left = omega (arith, c.loop-turn.invariant.left, ap length is, length-append line (10 ∷ after));
      so_far = λ whole first begins gathered.
          line_more whole rest line after c.loop-turn.turn (c.loop-turn.turn + 2) c.loop-turn.gathered c.take_line.new.self
          (c.loop-turn.invariant.so_far whole first begins gathered) is c.cut.ensures.before refl c.in-Ok.ensures;
    }

pub returns-in-Err : goal.returns-in-Err
returns-in-Err c whole first begins gathered =
    let rest = c.loop-turn.rest.now in
    let line = c.cut.result.0.now in
    let after = c.in-Some.after.now in
    let number = c.loop-turn.turn + 2 in
    let is : rest ≡ line ++ 10 ∷ after = rw c.in-Some.is at c.cut.ensures.cut in
    c.fault_at.ensures whole
    (λ why wrong. line_wrong whole rest line after c.loop-turn.turn number why c.loop-turn.gathered c.take_line.new.self
    (c.loop-turn.invariant.so_far whole first begins gathered) is c.cut.ensures.before refl
    (subst (λ (f : LineFault). TakesLine c.loop-turn.gathered number line c.take_line.new.self (Err f)) wrong (rw c.in-Err.is at c.take_line.ensures)))

pub returns : goal.returns
returns c whole first begins gathered =
    let rest = c.loop-turn.rest.now in
    let none : rest ≡ [] = nil_from_length rest (omega (arith, c.loop-turn.invariant.left)) in
    all_read whole rest c.loop-turn.turn (length c.args.text.now + 2) c.loop-turn.gathered (c.loop-turn.invariant.so_far whole first begins gathered)
    (subst HasNoFeed (sym none) (All-nil (λ byte. byte ≢ 10))) (omega arith)
