use Rattle.std.proofs.Common.{◌≡◌, ◌↔◌, ◌<◌, ◌≤◌, true, false, rules, refl, arith, inl, inr, nat_cmp, is_gt}
use Rattle.std.specs.Prelude.{IsTrue}
use Rattle.std.proofs.lemmas.Bool.{false≢true}
use Rattle.ra_stamp.specs.declared.stamp.Stamp.{Stamp}
use Rattle.ra_stamp.specs.Stamp.{IsEarlier}
use Rattle.ra_automaton.proofs.cases.compare.Goals as goal

higher_node : (own other : Stamp) → own.seq ≤ other.seq → other.seq ≤ own.seq → true ≡ is_gt (nat_cmp other.node own.node) → IsTrue true ↔ IsEarlier own other
higher_node own other low high after =
    let lt : own.node < other.node = search rules in
    (λ _. inr (omega arith, lt), λ _. refl)

lower_node : (own other : Stamp) → own.seq ≤ other.seq → other.seq ≤ own.seq → false ≡ is_gt (nat_cmp other.node own.node) → IsTrue false ↔ IsEarlier own other
lower_node own other low high before =
    let le : other.node ≤ own.node = search rules in
    (λ yes. absurd (false≢true yes), λ earlier. elim earlier [ inl less ↦ absurd (omega (arith, less)) | inr tie ↦ absurd (omega (arith, tie.1, le)) ])

pub returns-then-gt : goal.returns-then-gt
returns-then-gt c = higher_node c.args.own c.args.other c.if-other-own.false c.if-other-own-2.false c.if-gt.ensures

pub returns-else-gt : goal.returns-else-gt
returns-else-gt c = lower_node c.args.own c.args.other c.if-other-own.false c.if-other-own-2.false c.if-gt.ensures
