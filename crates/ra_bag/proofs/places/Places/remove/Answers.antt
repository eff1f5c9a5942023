use Rattle.std.proofs.Common.{Some, refl, sym, ap, ◌∙◌}
use Rattle.std.specs.Option.{is_some}
use Rattle.std.specs.VecDeque.{deque_items}
use Rattle.ra_bag.proofs.Told.{kept_same, loses_first}
use Rattle.ra_bag.proofs.places.Places.remove.Goals as goal

-- the next number comes first
pub returns-in_ok-get_mut-in-Some : goal.returns-in_ok-get_mut-in-Some
returns-in_ok-get_mut-in-Some c =
    let was = c.in_ok-get_mut-in-Some.ensures.value in
    let put = (c.get_mut.follows.holds c.replace.new.dest).3 (ap is_some (sym was)) in (
      refl,
      λ other numbers differ kept. kept_same deque_items _ _ _ _ numbers (put.2 other differ) (c.in-Some.ensures.others other differ) kept,
      λ numbers kept.
          loses_first deque_items _ _ _ _ numbers c.replace.result c.in-Some.next (sym was ∙ ap Some (sym c.replace.ensures.value)) (put.1 ∙ ap Some c.replace.ensures.after)
          c.in-Some.ensures.taken kept,
    )
