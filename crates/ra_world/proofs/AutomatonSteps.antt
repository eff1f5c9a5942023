-- What the steps of one automaton leave and change, whatever is under way.
use Rattle.std.proofs.Common.{◌≡◌, ◌≢◌, ◌⊎◌, ℕ, ◌+◌, ◌≤◌, max, Bool, cond, List, map, Some, None, refl, sym, ap, ◌∙◌, subst, arith, inl, inr}
use Rattle.std.specs.Prelude.{IsTrue}
use Rattle.std.specs.Ordering.{nat_cmp}
use Rattle.std.specs.Cmp.{nat_cmp_total}
use Rattle.std.specs.FinSet as set
use Rattle.std.specs.FinMap as finmap
use Rattle.ra_stamp.specs.declared.mode.Mode.{Mode}
use Rattle.ra_stamp.specs.declared.message.Message.{Message}
use Rattle.ra_stamp.specs.declared.message.Message.TheVariants.{Request, Reply}
use Rattle.ra_stamp.specs.Stamp.{IsEarlier}
use Rattle.ra_automaton.specs.declared.phase.Phase.{Phase}
use Rattle.ra_automaton.specs.declared.phase.Phase.TheVariants.{Idle, Waiting}
use Rattle.ra_automaton.specs.State.{State}
use Rattle.ra_automaton.specs.Steps.{others_of, later_of, Awaits, OwnGoesFirst, RequestStep, Defers, RepliesAtOnce, Enters, WaitsOn}
use Rattle.ra_automaton.proofs.Apart.{tied, untied}
use Rattle.ra_automaton.proofs.Consistent.{other_is_asked}
use Rattle.ra_automaton.proofs.Ending.{EndStep}
use Rattle.ra_world.proofs.Members.{remains, removed, nobody}
use Rattle.ra_world.proofs.Protocol.{IsNode, HasOwn, LetsPass, IsPlaced}

pub idle_has_none : (phase : Phase) (seq : ℕ) (mode : Mode) → phase ≡ Idle → HasOwn phase seq mode → ⊥
idle_has_none phase seq mode idle own = subst (λ (q : Phase). HasOwn q seq mode) idle own

pub idle_goes_last : (phase : Phase) (me x k : ℕ) (m : Mode) → phase ≡ Idle → OwnGoesFirst phase me x k m → ⊥
idle_goes_last phase me x k m idle first = subst (λ (q : Phase). OwnGoesFirst q me x k m) idle first

-- a node that awaits a REPLY has the request that it is to
pub awaits_has : (s : State) (x seq : ℕ) (mode : Mode) → Awaits s x seq mode → HasOwn s.phase seq mode
awaits_has s x seq mode awaits = subst (λ (q : Phase). HasOwn q seq mode) (sym awaits.waits) (refl, refl)

-- ---- A request begins

module _ (n : ℕ) (r : List ℕ) (p : ℕ) (old new : State) (placed : IsPlaced n r p old) (within : IsNode n p) (mode : Mode) (sends : List Message) (entered : Bool) (step : RequestStep old mode sends entered new) where
  pub requests_are : sends ≡ map (λ o. Request p o r mode (old.highest + 1)) (others_of p n)
  requests_are = step.sends_are ∙ (λ i. map (λ o. Request (placed.me_is i) o (placed.name_is i) mode (old.highest + 1)) (others_of (placed.me_is i) (placed.nodes_is i)))

  pub all_asked : (x : ℕ) → IsNode n x → x ≢ p → Awaits new x (old.highest + 1) mode × (new.deferred ≡ old.deferred) × (new.me ≡ old.me) × (new.highest ≡ old.highest + 1)
  all_asked x at apart = elim step.begins [
    | inl asks ↦ (
      record {
        waits = ap (λ (t : State). t.phase) asks.new_is;
        awaited = subst (λ (t : State). IsTrue (set.contains t.awaited x)) (sym asks.new_is)
            (other_is_asked old.me old.nodes x at.0 (subst (λ (k : ℕ). x ≤ k) (sym placed.nodes_is) at.1) (λ e. apart (e ∙ placed.me_is)));
      },
      ap (λ (t : State). t.deferred) asks.new_is,
      ap (λ (t : State). t.me) asks.new_is,
      ap (λ (t : State). t.highest) asks.new_is,
    )
    | inr alone ↦ absurd (only_one x p n at within (sym placed.nodes_is ∙ alone.alone) apart)
  ]
    where
      only_one : (x p n : ℕ) → IsNode n x → IsNode n p → n ≡ 1 → x ≢ p → ⊥
      only_one x p n at within one apart = apart (omega (arith, at.0, at.1, within.0, within.1, one))

  -- the own request that begins is later than all that were met
  pub passes_after_request : (x k : ℕ) (m : Mode) → LetsPass old x k m → LetsPass new x k m
  passes_after_request x k m pass = elim step.begins [
    | inl asks ↦ subst (λ (t : State). LetsPass t x k m) (sym asks.new_is) (record { reached = omega (arith, pass.reached); not_first = λ first. not_yet old.highest old.me x k pass.reached first.earlier })
    | inr alone ↦ subst (λ (t : State). LetsPass t x k m) (sym alone.new_is) (record { reached = omega (arith, pass.reached); not_first = λ first. not_yet old.highest old.me x k pass.reached first.earlier })
  ]
    where
      not_yet : (highest me other k : ℕ) → k ≤ highest → IsEarlier (record { seq = highest + 1; node = me }) (record { seq = k; node = other }) → ⊥
      not_yet highest me other k low earlier = elim earlier [ inl below ↦ omega (arith, low, below) | inr same ↦ omega (arith, low, same.0) ]

  pub own_after_request : (k : ℕ) (m : Mode) → HasOwn new.phase k m → (old.highest + 1 ≡ k) × (mode ≡ m)
  own_after_request k m own = elim step.begins [
    | inl asks ↦ subst (λ (t : State). HasOwn t.phase k m) asks.new_is own
    | inr alone ↦ subst (λ (t : State). HasOwn t.phase k m) alone.new_is own
  ]

  pub higher_after_request : old.highest ≤ new.highest
  higher_after_request = elim step.begins [
    | inl asks ↦ omega (arith, ap (λ (t : State). t.highest) asks.new_is)
    | inr alone ↦ omega (arith, ap (λ (t : State). t.highest) alone.new_is)
  ]

-- ---- The request of a node ends, by a leave or a withdrawal

module _ (n : ℕ) (r : List ℕ) (p : ℕ) (old new : State) (placed : IsPlaced n r p old) (sends : List Message) (step : EndStep old sends new) where
  pub replies_are : sends ≡ map (λ e. Reply p e.0 r e.1) (finmap.entries old.deferred)
  replies_are = step.sends_are ∙ (λ i. map (λ e. Reply (placed.me_is i) e.0 (placed.name_is i) e.1) (finmap.entries old.deferred))

  pub idle_after_end : new.phase ≡ Idle
  idle_after_end = step.idle

  pub none_deferred : (x : ℕ) → finmap.get new.deferred x ≡ None
  none_deferred x = ap (λ (d : finmap.FinMap nat_cmp ℕ). finmap.get d x) step.none_deferred ∙ finmap.get-empty nat_cmp x

  pub passes_after_end : (x k : ℕ) (m : Mode) → k ≤ old.highest → LetsPass new x k m
  passes_after_end x k m low =
      record { reached = omega (arith, low, step.highest_is); not_first = idle_goes_last new.phase new.me x k m step.idle }

-- ---- The highest number of a node rises, when it forgets names

abbrev pub higher_state : State → ℕ → State
higher_state s number = record s { highest = max s.highest number }

pub passes_higher : (s : State) (number x k : ℕ) (m : Mode) → LetsPass s x k m → LetsPass (higher_state s number) x k m
passes_higher s number x k m pass = record { reached = omega (arith, pass.reached); not_first = pass.not_first }

-- ---- A REQUEST comes

module _ (old new : State) (x seq : ℕ) (mode : Mode) (sends : List Message) (step : Defers old x seq mode sends new ⊎ RepliesAtOnce old x seq mode sends new) where
  pub phase_same : new.phase ≡ old.phase
  phase_same = elim step [ inl d ↦ ap (λ (t : State). t.phase) d.new_is | inr a ↦ ap (λ (t : State). t.phase) a.new_is ]

  me_same : new.me ≡ old.me
  me_same = elim step [ inl d ↦ ap (λ (t : State). t.me) d.new_is | inr a ↦ ap (λ (t : State). t.me) a.new_is ]

  pub awaited_same : new.awaited ≡ old.awaited
  awaited_same = elim step [ inl d ↦ ap (λ (t : State). t.awaited) d.new_is | inr a ↦ ap (λ (t : State). t.awaited) a.new_is ]

  pub highest_is : new.highest ≡ max old.highest seq
  highest_is = elim step [ inl d ↦ ap (λ (t : State). t.highest) d.new_is | inr a ↦ ap (λ (t : State). t.highest) a.new_is ]

  pub deferred_other : (y : ℕ) → y ≢ x → finmap.get new.deferred y ≡ finmap.get old.deferred y
  deferred_other y apart = elim step [
    | inl d ↦ ap (λ (t : State). finmap.get t.deferred y) d.new_is
        ∙ finmap.get-insert nat_cmp_total old.deferred x (later_of (finmap.get old.deferred x) seq) y
        ∙ ap (λ b. cond b (Some (later_of (finmap.get old.deferred x) seq)) (finmap.get old.deferred y)) (untied y x apart)
    | inr a ↦ ap (λ (t : State). finmap.get t.deferred y) a.new_is
  ]

  pub first_same : (y k : ℕ) (m : Mode) → OwnGoesFirst old.phase old.me y k m → OwnGoesFirst new.phase new.me y k m
  first_same y k m h = subst (λ (q : Phase). OwnGoesFirst q new.me y k m) (sym phase_same) (subst (λ (q : ℕ). OwnGoesFirst old.phase q y k m) (sym me_same) h)

  pub first_back : (y k : ℕ) (m : Mode) → OwnGoesFirst new.phase new.me y k m → OwnGoesFirst old.phase old.me y k m
  first_back y k m h = subst (λ (q : Phase). OwnGoesFirst q old.me y k m) phase_same (subst (λ (q : ℕ). OwnGoesFirst new.phase q y k m) me_same h)

  pub passes_after_receive : (y k : ℕ) (m : Mode) → LetsPass old y k m → LetsPass new y k m
  passes_after_receive y k m pass = record { reached = omega (arith, pass.reached, highest_is); not_first = λ h. pass.not_first (first_back y k m h) }

  -- the number that is deferred
  pub deferred_here : Defers old x seq mode sends new → finmap.get new.deferred x ≡ Some (later_of (finmap.get old.deferred x) seq)
  deferred_here d =
      ap (λ (t : State). finmap.get t.deferred x) d.new_is
      ∙ finmap.get-insert nat_cmp_total old.deferred x (later_of (finmap.get old.deferred x) seq) x
      ∙ ap (λ b. cond b (Some (later_of (finmap.get old.deferred x) seq)) (finmap.get old.deferred x)) (tied x x refl)

-- ---- A REPLY comes that is awaited

module _ (old new : State) (x seq : ℕ) (entered : Bool) (mode : Mode) (step : Enters old x seq mode entered new ⊎ WaitsOn old x seq mode entered new) where
  pub waited : Awaits old x seq mode
  waited = elim step [ inl enters ↦ enters.awaits | inr on ↦ on.awaits ]

  pub still_awaited : (y : ℕ) → y ≢ x → IsTrue (set.contains old.awaited y) → IsTrue (set.contains new.awaited y)
  still_awaited y other h = elim step [
    | inl enters ↦ absurd (nobody y (subst (λ (q : set.FinSet nat_cmp). IsTrue (set.contains q y)) enters.last (remains old.awaited x y other ∙ h)))
    | inr on ↦ subst (λ (t : State). IsTrue (set.contains t.awaited y)) (sym on.new_is) (remains old.awaited x y other ∙ h)
  ]

  -- and one that was not awaited is not
  pub was_awaited : (y : ℕ) → y ≢ x → IsTrue (set.contains new.awaited y) → IsTrue (set.contains old.awaited y)
  was_awaited y other h = elim step [
    | inl enters ↦ absurd (nobody y (subst (λ (t : State). IsTrue (set.contains t.awaited y)) enters.new_is h))
    | inr on ↦ sym (remains old.awaited x y other) ∙ subst (λ (t : State). IsTrue (set.contains t.awaited y)) on.new_is h
  ]

  pub not_awaited : IsTrue (set.contains new.awaited x) → ⊥
  not_awaited h = elim step [
    | inl enters ↦ nobody x (subst (λ (t : State). IsTrue (set.contains t.awaited x)) enters.new_is h)
    | inr on ↦ removed old.awaited x (subst (λ (t : State). IsTrue (set.contains t.awaited x)) on.new_is h)
  ]

  pub still_waits : (y k : ℕ) (m : Mode) → y ≢ x → Awaits old y k m → Awaits new y k m
  still_waits y k m other h = elim step [
    | inl enters ↦ absurd (nobody y (subst (λ (q : set.FinSet nat_cmp). IsTrue (set.contains q y)) enters.last (remains old.awaited x y other ∙ h.awaited)))
    | inr on ↦ record { waits = ap (λ (t : State). t.phase) on.new_is ∙ h.waits; awaited = still_awaited y other h.awaited }
  ]

  pub own_is : (k : ℕ) (m : Mode) → HasOwn new.phase k m → (seq ≡ k) × (mode ≡ m)
  own_is k m own = elim step [
    | inl enters ↦ subst (λ (t : State). HasOwn t.phase k m) enters.new_is own
    | inr on ↦ subst (λ (q : Phase). HasOwn q k m) on.awaits.waits (subst (λ (t : State). HasOwn t.phase k m) on.new_is own)
  ]

  pub own_was : (k : ℕ) (m : Mode) → HasOwn new.phase k m → HasOwn old.phase k m
  own_was k m own = subst (λ (q : Phase). HasOwn q k m) (sym waited.waits) (own_is k m own)

  -- one that waits on waited so
  pub waited_so : (y k : ℕ) (m : Mode) → y ≢ x → Awaits new y k m → Awaits old y k m
  waited_so y k m other h =
      let is = own_is k m (awaits_has new y k m h) in
      record { waits = waited.waits ∙ (λ i. Waiting (is.0 i) (is.1 i)); awaited = was_awaited y other h.awaited }

  pub first_as : (y k : ℕ) (m : Mode) → (OwnGoesFirst old.phase old.me y k m → OwnGoesFirst new.phase new.me y k m) × (OwnGoesFirst new.phase new.me y k m → OwnGoesFirst old.phase old.me y k m)
  first_as y k m = elim step [
    | inl enters ↦ (
      λ h. subst (λ (t : State). OwnGoesFirst t.phase t.me y k m) (sym enters.new_is) (subst (λ (q : Phase). OwnGoesFirst q old.me y k m) enters.awaits.waits h),
      λ h. subst (λ (q : Phase). OwnGoesFirst q old.me y k m) (sym enters.awaits.waits) (subst (λ (t : State). OwnGoesFirst t.phase t.me y k m) enters.new_is h),
    )
    | inr on ↦ (
      λ h. subst (λ (t : State). OwnGoesFirst t.phase t.me y k m) (sym on.new_is) h,
      λ h. subst (λ (t : State). OwnGoesFirst t.phase t.me y k m) on.new_is h,
    )
  ]

  pub same_rest : (new.deferred ≡ old.deferred) × (new.highest ≡ old.highest)
  same_rest = elim step [
    | inl enters ↦ (ap (λ (t : State). t.deferred) enters.new_is, ap (λ (t : State). t.highest) enters.new_is)
    | inr on ↦ (ap (λ (t : State). t.deferred) on.new_is, ap (λ (t : State). t.highest) on.new_is)
  ]

  pub passes_after_reply : (y k : ℕ) (m : Mode) → LetsPass old y k m → LetsPass new y k m
  passes_after_reply y k m pass = record { reached = omega (arith, pass.reached, same_rest.1); not_first = λ h. pass.not_first ((first_as y k m).1 h) }
