use Rattle.std.proofs.Common.{rules, ◌≡◌, ◌<◌, ◌-◌, List, length, get_or, subst, arith}
use Rattle.std.specs.List.{AllAdjacentBelow}
use Rattle.ra_deadlock.specs.declared.request.Request.{Request}
use Rattle.ra_deadlock.specs.Deadlock.{EndsAfter}
use Rattle.ra_deadlock.proofs.Circles.{none_found, circle_found}
use Rattle.ra_deadlock.proofs.search.deadlock_in.Goals as goal

pub returns-then-is_right : goal.returns-then-is_right
returns-then-is_right c =
    none_found c.args.requests.now c.in_ok-circle.circle.items (search rules) (c.in_ok-is_right.ensures c.if-is_right.true)

pub returns-then-is_circle : goal.returns-then-is_circle
returns-then-is_circle c =
    let value = c.deref-2.ensures.value in
    let tells = c.each_ends_after_the_next-is_circle.ensures in
    let some : 0 < length c.in_ok-circle.circle.items = subst (λ (xs : List Request). 0 < length xs) value (tells.some c.if-is_circle.true) in
    circle_found c.args.requests.now c.in_ok-circle.circle.items some (record {
      some = some;
      among = c.in_ok-circle.ensures;
      each = subst (λ (xs : List Request). AllAdjacentBelow EndsAfter xs (length xs)) value (tells.each c.if-is_circle.true);
      last = λ d. subst (λ (xs : List Request). EndsAfter (get_or xs (length xs - 1) d) (get_or xs 0 d)) value (tells.last c.if-is_circle.true d);
    })
