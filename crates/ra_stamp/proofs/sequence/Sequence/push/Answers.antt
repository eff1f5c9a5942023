use Rattle.std.proofs.Common.{◌≡◌, ◌-◌, true, Result, Ok, Err, ap, sym, ◌∙◌, arith}
use Rattle.std.specs.Prelude.{OnErr, is_err, vec_capacity}
use Rattle.std.proofs.lemmas.Bool.{false≢true}
use Rattle.ra_stamp.specs.Sequence.{Listed}
use Rattle.ra_stamp.proofs.sequence.Sequence.push.Goals as goal

on_err : {T E : Type 0} (result : Result T E) (P : Type 0) → is_err result ≡ true → OnErr result P → P
on_err (Ok x) P is holds = absurd (false≢true is)
on_err (Err e) P is holds = holds

-- ---- There was no room, and none was made

pub returns-then-is_err-clause-err : goal.returns-then-is_err-clause-err
returns-then-is_err-clause-err g c =
    let capacity = on_err c.reserve.result (vec_capacity c.reserve.new.self ≡ vec_capacity c.self.inside.items) (sym c.is_err.ensures.value ∙ c.if-is_err.true) c.reserve.ensures.err in
    (λ i. record { items = c.reserve.ensures.items i; spare = capacity i - c.reserve.ensures.len i }) ∙ c.self.view_is

pub returns-then-is_err-clause-succeeds : goal.returns-then-is_err-clause-succeeds
returns-then-is_err-clause-succeeds g c =
    let spare = ap (λ (s : Listed g.row.T.Denot). s.spare) c.self.view_is in
    λ room. absurd (omega (arith, spare, room))

pub returns-then-is_err-clause-spare : goal.returns-then-is_err-clause-spare
returns-then-is_err-clause-spare g c =
    let spare = ap (λ (s : Listed g.row.T.Denot). s.spare) c.self.view_is in
    λ room. absurd (omega (arith, spare, room))
