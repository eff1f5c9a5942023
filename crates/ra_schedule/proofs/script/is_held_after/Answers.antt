use Rattle.std.proofs.Common.{ℕ, refl, ◌≡◌, ◌≢◌, ◌++◌, ◌∷◌, [], List, ap, ◌∙◌}
use Rattle.std.specs.Cmp.{unsigned_Decides}
use Rattle.std.proofs.lemmas.Bool.{false≢true}
use Rattle.std.proofs.lemmas.Slice.Eq.{slice_eq-Decides}
use Rattle.ra_schedule.specs.declared.script.Op.{Op}
use Rattle.ra_schedule.specs.declared.script.Op.TheVariants.{Lock, Unlock}
use Rattle.ra_schedule.proofs.OpFaults.{one_kind, one_locked, one_unlocked}
use Rattle.ra_schedule.proofs.Held.{says_nothing, unlocked_last, locked_last, none_held}
use Rattle.ra_schedule.proofs.script.is_held_after.Goals as goal

pub returns-in-Unlock : goal.returns-in-Unlock
returns-in-Unlock c =
    let name = c.args.name.now in
    let same : c.in-Unlock.unlocked ≡ name = (slice_eq-Decides unsigned_Decides _ _ _ c.if-eq-2.ensures).0 refl in
    let last = c.in-Unlock.is ∙ ap (λ (n : List ℕ). Unlock n) same in
    let split = c.in-Some.ensures.cases.0 ∙ ap (λ (op : Op). c.in-Some.before.now ++ op ∷ []) last in
    let none = unlocked_last c.loop-last.rest.now c.in-Some.before.now name split in
    (λ yes. absurd (false≢true yes), λ held. absurd (none (c.loop-last.invariant.0 held)))

pub loop-last-preserved-in_default-last : goal.loop-last-preserved-in_default-last
loop-last-preserved-in_default-last c =
    let name = c.args.name.now in
    let other : c.in-Lock.locked ≢ name = λ e. false≢true ((slice_eq-Decides unsigned_Decides _ _ _ c.if-eq.ensures).1 e) in
    let says = says_nothing c.loop-last.rest.now c.in-Some.before.now c.in-Some.last.now name c.in-Some.ensures.cases.0
    (λ mode is. other (one_locked _ _ _ _ _ c.in-Lock.is is)) (λ is. one_kind _ _ _ _ c.in-Lock.is is) in
    (λ held. says.0 (c.loop-last.invariant.0 held), λ held. c.loop-last.invariant.1 (says.1 held))

pub loop-last-preserved : goal.loop-last-preserved
loop-last-preserved c =
    let name = c.args.name.now in
    let other : c.in-Unlock.unlocked ≢ name = λ e. false≢true ((slice_eq-Decides unsigned_Decides _ _ _ c.if-eq-2.ensures).1 e) in
    let says = says_nothing c.loop-last.rest.now c.in-Some.before.now c.in-Some.last.now name c.in-Some.ensures.cases.0
    (λ mode is. one_kind _ _ _ _ is c.in-Unlock.is) (λ is. other (one_unlocked _ _ _ c.in-Unlock.is is)) in
    (λ held. says.0 (c.loop-last.invariant.0 held), λ held. c.loop-last.invariant.1 (says.1 held))

pub returns-in-Lock : goal.returns-in-Lock
returns-in-Lock c =
    let name = c.args.name.now in
    let same : c.in-Lock.locked ≡ name = (slice_eq-Decides unsigned_Decides _ _ _ c.if-eq.ensures).0 refl in
    let last = c.in-Lock.is ∙ ap (λ (n : List ℕ). Lock n c.in-Lock.field-1) same in
    let split = c.in-Some.ensures.cases.0 ∙ ap (λ (op : Op). c.in-Some.before.now ++ op ∷ []) last in
    (λ yes. c.loop-last.invariant.1 (locked_last c.loop-last.rest.now c.in-Some.before.now name c.in-Lock.field-1 split), λ held. refl)

pub returns : goal.returns
returns c = (
  λ yes. absurd (false≢true yes),
  λ held. absurd (none_held c.loop-last.rest.now c.args.name.now c.in_default.ensures.cases (c.loop-last.invariant.0 held)),
)
