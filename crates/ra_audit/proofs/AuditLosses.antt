-- Losses that are put into the run of an auditor.
use Rattle.std.proofs.Common.{◌≡◌, ◌≢◌, ℕ, ◌+◌, ◌-◌, ◌<◌, ◌≤◌, ◌^◌, List, [], ◌∷◌, ◌++◌, map, length, get_or, take, drop, Option, Some, None, MatchOption, Err, Result, refl, sym, ap, ◌∙◌, subst, inl, inr, arith}
use Rattle.std.specs.Prelude.{All, Contains, slice_get}
use Rattle.std.specs.List.{range_with_len}
use Rattle.std.specs.List.Sorted.{IsPermutation}
use Rattle.std.proofs.lemmas.Bool.{cases_lt}
use Rattle.std.proofs.lemmas.Option.{none-some}
use Rattle.std.proofs.lemmas.List.{map-append, append-nil, append_assoc, length-append, length-map, nil_from_length, get_or_default, take-append-drop}
use Rattle.std.proofs.lemmas.List.Elements.{All-nil, All-cons, All-append, All-push, All-head, All-contains}
use Rattle.std.proofs.lemmas.List.Sorted.{IsPermutation-refl, IsPermutation-trans, IsPermutation-append, IsPermutation-append_comm}
use Rattle.ra_stamp.specs.declared.message.Message.{Message}
use Rattle.ra_stamp.specs.declared.entry.Mark.{Mark}
use Rattle.ra_stamp.specs.Message.{from_of}
use Rattle.ra_frame.specs.declared.frame.Frame.{Frame}
use Rattle.ra_world.specs.declared.error.StepError.{StepError}
use Rattle.ra_world.specs.declared.error.StepError.TheVariants as refusal
use Rattle.ra_world.specs.declared.step.Step.{Step}
use Rattle.ra_world.specs.declared.step.Step.TheVariants.{Ask, Leave, Cancel, Forget, Deliver, Lose, Repeat}
use Rattle.ra_world.specs.Traffic.{Move, IsUnderWay, lost_in, lost_by, repeated_by}
use Rattle.ra_world.specs.Run.{IsRun, happened_at}
use Rattle.ra_world.specs.World.{WorldState, HasCause, with_move}
use Rattle.ra_world.proofs.Moves.{fits_split}
use Rattle.ra_book.specs.History.{clock_of}
use Rattle.ra_audit.specs.declared.audit_error.AuditError.{AuditError}
use Rattle.ra_audit.specs.declared.audit_error.AuditError.TheVariants as audit
use Rattle.ra_audit.specs.Audit.{ProgressState, IsAudited, HasLost, Advances, PutsLosses, IsReached, NoneIsReached, IsNotLost, IsAhead, WasSentIn}
use Rattle.ra_audit.specs.AuditKeeping.{LossState, LooksAtFirst, AreLookedAt}
use Rattle.ra_audit.proofs.AuditSteps.{happened_more, repeated_more, lost_more, due_at, number_of}

-- ---- The step of a loss

module _ (w : WorldState) (message : Message) (sends : List Message) (marks : List Mark) where
  abbrev m : Move
  m = record { step = Lose message; sends = sends; marks = marks }

  marks_nothing : (new : WorldState) → new ≡ with_move w (Lose message) sends marks → IsRun new.count new.start new.moves → marks ≡ []
  marks_nothing new is run =
      let here : IsRun w.count w.start (w.moves ++ m ∷ []) = subst (λ (v : WorldState). IsRun v.count v.start v.moves) is run in
      (fits_split w.count [] w.moves (m ∷ []) here.each_fits).1.0.2

  advances_loss : (nodes : List ProgressState) (told : List Mark) → IsRun w.count w.start (w.moves ++ m ∷ []) → marks ≡ [] → IsAudited w nodes
      → Advances w nodes told (with_move w (Lose message) sends marks) nodes told
  advances_loss nodes told run none a = record {
    audited = record {
      count = a.count;
      run = run;
      numbers = a.numbers;
      events = λ k d low.
          let p = get_or nodes k d in
          happened_more p.node w.moves m ∙ append-nil (map (λ h. h.event) (happened_at p.node w.moves)) ∙ a.events k d low;
      unrepeated = repeated_more w.moves m ∙ append-nil (repeated_by w.moves) ∙ a.unrepeated;
    };
    count = refl;
    start = refl;
    moves = m ∷ [];
    goes_on = refl;
    told_are = sym (ap (λ (ms : List Mark). told ++ (ms ++ [])) none ∙ append-nil told);
    taken = refl;
    kept = refl;
  }

  pub advances_by_loss : (new : WorldState) → new ≡ with_move w (Lose message) sends marks → IsRun new.count new.start new.moves
      → (nodes : List ProgressState) (told : List Mark) → IsAudited w nodes → Advances w nodes told new nodes told
  advances_by_loss new is run nodes told a =
      let here : IsRun w.count w.start (w.moves ++ m ∷ []) = subst (λ (v : WorldState). IsRun v.count v.start v.moves) is run in
      subst (λ (v : WorldState). Advances w nodes told v nodes told) (sym is) (advances_loss nodes told here (marks_nothing new is run) a)

  pub lost_one_more : (new : WorldState) → new ≡ with_move w (Lose message) sends marks → lost_by new.moves ≡ lost_by w.moves ++ message ∷ []
  lost_one_more new is = ap (λ (v : WorldState). lost_by v.moves) is ∙ lost_more w.moves m

-- no more messages are lost than steps are made
lost_in_one : (step : Step) → length (lost_in step) ≤ 1
lost_in_one (Ask node client name mode) = omega arith
lost_in_one (Leave node client name) = omega arith
lost_in_one (Cancel node client name) = omega arith
lost_in_one (Forget node) = omega arith
lost_in_one (Deliver message) = omega arith
lost_in_one (Lose message) = omega arith
lost_in_one (Repeat message) = omega arith

pub few_lost : (moves : List Move) → length (lost_by moves) ≤ length moves
few_lost [] = omega arith
few_lost (m ∷ moves) = omega (arith, length-append (lost_in m.step) (lost_by moves), lost_in_one m.step, few_lost moves)

-- a loss that is refused other than for lack of memory is of a message that is not under way
pub not_under_way : (w : WorldState) (message : Message) (refused : StepError) → refused ≢ refusal.Memory
    → ((cause : StepError) → cause ≢ refusal.Memory → refused ≡ cause → HasCause w.count w.start w.moves (Lose message) cause)
    → IsUnderWay w.moves message → ⊥
not_under_way w message refusal.NoNode not_memory cause under = cause refusal.NoNode not_memory refl
not_under_way w message refusal.NotUnderWay not_memory cause under = cause refusal.NotUnderWay not_memory refl under
not_under_way w message (refusal.Node why) not_memory cause under = cause (refusal.Node why) not_memory refl
not_under_way w message refusal.Memory not_memory cause under = not_memory refl

-- ---- Losses that are put, or wait

pub lost_too : (moves moves' : List Move) (lost lost' : List Frame) (frame : Frame) → HasLost moves lost → lost_by moves' ≡ lost_by moves ++ frame.message ∷ []
    → lost' ≡ lost ++ frame ∷ [] → HasLost moves' lost'
lost_too moves moves' lost lost' frame has more lost_is =
    more
    ∙ ap (λ (ms : List Message). ms ++ frame.message ∷ []) has
    ∙ sym (map-append (λ (f : Frame). f.message) lost (frame ∷ []))
    ∙ ap (map (λ (f : Frame). f.message)) (sym lost_is)

-- one loss more can be counted
pub room_for_one : (moves moves' : List Move) (lost : List Frame) (message : Message) → HasLost moves lost → lost_by moves' ≡ lost_by moves ++ message ∷ []
    → length (lost_by moves') < 2 ^ 64 → length lost + 1 < 2 ^ 64
room_for_one moves moves' lost message has more few =
    let many : length (lost_by moves) ≡ length lost = ap (λ (ms : List Message). length ms) has ∙ length-map lost (λ (f : Frame). f.message) in
    let now : length (lost_by moves') ≡ length (lost_by moves) + 1 = ap (λ (ms : List Message). length ms) more ∙ length-append (lost_by moves) (message ∷ []) in
    omega (arith, many, now, few)

-- the first of these frames
pub first_is : (losing : List Frame) (frame : Frame) → Some frame ≡ slice_get losing 0 → take 1 losing ≡ frame ∷ []
first_is [] frame is = absurd (none-some frame (sym is))
first_is (f ∷ losing) frame is =
    let same : f ≡ frame = cc in
    ap (λ (x : Frame). x ∷ []) same

pub first_in : (losing : List Frame) (frame : Frame) → Some frame ≡ slice_get losing 0 → Contains losing frame
first_in [] frame is = absurd (none-some frame (sym is))
first_in (f ∷ losing) frame is =
    let same : f ≡ frame = cc in
    (0, omega arith, same)

pub puts_none : (nodes : List ProgressState) (losing lost : List Frame) → PutsLosses nodes losing lost losing lost
puts_none nodes losing lost = record {
  put = [];
  lost_are = sym (append-nil lost);
  same = IsPermutation-refl losing;
  reached = All-nil (IsReached nodes);
}

pub puts_further : (nodes : List ProgressState) (losing lost losing' lost' losing'' lost'' : List Frame) → PutsLosses nodes losing lost losing' lost'
    → PutsLosses nodes losing' lost' losing'' lost'' → PutsLosses nodes losing lost losing'' lost''
puts_further nodes losing lost losing' lost' losing'' lost'' a b = record {
  put = a.put ++ b.put;
  lost_are = b.lost_are ∙ ap (λ (fs : List Frame). fs ++ b.put) a.lost_are ∙ append_assoc lost a.put b.put;
  same = subst (IsPermutation losing) (sym (append_assoc a.put b.put losing''))
      (IsPermutation-trans losing (a.put ++ losing') (a.put ++ (b.put ++ losing'')) a.same
      (IsPermutation-append a.put a.put losing' (b.put ++ losing'') (IsPermutation-refl a.put) b.same));
  reached = All-append (IsReached nodes) a.put b.put a.reached b.reached;
}

pub puts_first : (nodes : List ProgressState) (old new : LossState) → LooksAtFirst nodes old new → PutsLosses nodes old.losing old.lost new.losing new.lost
puts_first nodes old new (inl here) =
    let parts : take 1 old.losing ++ new.losing ≡ old.losing = ap (λ (fs : List Frame). take 1 old.losing ++ fs) here.0.losing ∙ take-append-drop 1 old.losing in
    record {
      put = take 1 old.losing;
      lost_are = here.0.lost;
      same = subst (IsPermutation old.losing) (sym parts) (IsPermutation-refl old.losing);
      reached = here.1;
    }
puts_first nodes old new (inr here) = record {
  put = [];
  lost_are = here.0.lost ∙ sym (append-nil old.lost);
  same = subst (IsPermutation old.losing) (sym here.0.losing)
      (subst (λ (fs : List Frame). IsPermutation fs (drop 1 old.losing ++ take 1 old.losing)) (take-append-drop 1 old.losing)
      (IsPermutation-append_comm (take 1 old.losing) (drop 1 old.losing)));
  reached = All-nil (IsReached nodes);
}

pub noted_as : (nodes : List ProgressState) (old new : LossState) → LooksAtFirst nodes old new → new.noted ≡ old.noted
noted_as nodes old new (inl here) = here.0.noted
noted_as nodes old new (inr here) = here.0.noted

-- ---- All of them, one after the other

pub none_looked_at : (nodes : List ProgressState) (left : ℕ) (losing : List Frame) → left ≡ length losing → AreLookedAt nodes left losing
none_looked_at nodes left losing many = record {
  first = losing;
  others = [];
  losing_is = sym (append-nil losing);
  left_is = sym many;
  none = All-nil (λ (f : Frame). IsReached nodes f → ⊥);
}

-- another one was looked at
pub one_looked_at : (nodes : List ProgressState) (left : ℕ) (old new : LossState) → 0 < left → AreLookedAt nodes left old.losing → LooksAtFirst nodes old new → AreLookedAt nodes (left - 1) new.losing
one_looked_at nodes left old new some looked at = of looked.first looked.left_is looked.losing_is at
  where
    of : (first : List Frame) → length first ≡ left → old.losing ≡ first ++ looked.others → LooksAtFirst nodes old new → AreLookedAt nodes (left - 1) new.losing
    of [] many is at = absurd (omega (arith, many, some))
    of (f ∷ first) many is (inl here) = record {
      first = first;
      others = looked.others;
      losing_is = here.0.losing ∙ ap (drop 1) is;
      left_is = omega (arith, many);
      none = looked.none;
    }
    of (f ∷ first) many is (inr here) = record {
      first = first;
      others = looked.others ++ f ∷ [];
      losing_is = here.0.losing ∙ (λ j. drop 1 (is j) ++ take 1 (is j)) ∙ append_assoc first looked.others (f ∷ []);
      left_is = omega (arith, many);
      none =
          All-push (λ (x : Frame). IsReached nodes x → ⊥) looked.others f looked.none
          (All-head (λ (x : Frame). IsReached nodes x → ⊥) f [] (subst (λ (fs : List Frame). NoneIsReached nodes (take 1 fs)) is here.1));
    }

pub all_looked_at : (nodes : List ProgressState) (left : ℕ) (losing : List Frame) → left ≡ 0 → AreLookedAt nodes left losing → NoneIsReached nodes losing
all_looked_at nodes left losing none looked =
    let empty : looked.first ≡ [] = nil_from_length looked.first (looked.left_is ∙ none) in
    subst (NoneIsReached nodes) (sym (looked.losing_is ∙ ap (λ (fs : List Frame). fs ++ looked.others) empty)) looked.none

-- ---- What is left at the end

-- the first frame whose loss can't be put is ahead of its sender
pub ahead_of : (nodes : List ProgressState) (n : ℕ) (losing : List Frame) (frame : Frame) → map (λ p. p.node) nodes ≡ range_with_len 1 n → NoneIsReached nodes losing → Contains losing frame
    → IsAhead nodes losing frame
ahead_of nodes n losing frame numbers none there = record {
  is_losing = there;
  ahead = λ k d low is.
      let p = get_or nodes k d in
      let number : k + 1 ≡ from_of frame.message = sym (number_of nodes n k d numbers low) ∙ is in
      let at : p ≡ get_or nodes k p = get_or_default nodes k d p low in
      let not_reached : IsReached nodes frame → ⊥ = All-contains (λ (f : Frame). IsReached nodes f → ⊥) losing frame none there in
      elim (cases_lt (clock_of p.settled) frame.clock) [
        | inl below ↦ below
        | inr above ↦ absurd (not_reached (due_at nodes n k (from_of frame.message) frame.clock p numbers number low at above))
      ];
}

pub match_ahead : (nodes : List ProgressState) (n : ℕ) (losing : List Frame) (r : Option Frame) → map (λ p. p.node) nodes ≡ range_with_len 1 n → NoneIsReached nodes losing → r ≡ slice_get losing 0
    → MatchOption r (losing ≡ []) (IsAhead nodes losing)
match_ahead nodes n losing None numbers none is = empty losing is
  where
    empty : (losing : List Frame) → None ≡ slice_get losing 0 → losing ≡ []
    empty [] is = refl
    empty (f ∷ losing) is = absurd (none-some f is)
match_ahead nodes n losing (Some frame) numbers none is = ahead_of nodes n losing frame numbers none (first_in losing frame is)

-- ---- The frame that is not lost

pub not_lost : (w : WorldState) (nodes : List ProgressState) (losing losing' : List Frame) (frame found : Frame) → losing' ≡ losing → Some frame ≡ slice_get losing 0 → IsReached nodes frame
    → (found ≡ frame) × (IsUnderWay w.moves frame.message → WasSentIn nodes w.moves frame → ⊥) → IsNotLost w nodes losing' found
not_lost w nodes losing losing' frame found same is reached why =
    subst (IsNotLost w nodes losing') (sym why.0)
    (subst (λ (fs : List Frame). IsNotLost w nodes fs frame) (sym same)
    (record { is_losing = first_in losing frame is; reached = reached; misfit = why.1 }))

-- ---- One of them

pub some_first : (losing : List Frame) → 0 < length losing → None ≡ slice_get losing 0 → ⊥
some_first [] some is = absurd (omega (arith, some))
some_first (f ∷ losing) some is = none-some f is

pub first_reached : (nodes : List ProgressState) (losing : List Frame) (frame : Frame) → Some frame ≡ slice_get losing 0 → IsReached nodes frame → All (IsReached nodes) (take 1 losing)
first_reached nodes losing frame is reached =
    subst (All (IsReached nodes)) (sym (first_is losing frame is)) (All-cons (IsReached nodes) frame [] reached (All-nil (IsReached nodes)))

pub first_not_reached : (nodes : List ProgressState) (losing : List Frame) (frame : Frame) → Some frame ≡ slice_get losing 0 → (IsReached nodes frame → ⊥) → NoneIsReached nodes (take 1 losing)
first_not_reached nodes losing frame is not_reached =
    subst (NoneIsReached nodes) (sym (first_is losing frame is))
    (All-cons (λ (f : Frame). IsReached nodes f → ⊥) frame [] not_reached (All-nil (λ (f : Frame). IsReached nodes f → ⊥)))

pub some_left : (nodes : List ProgressState) (left : ℕ) (losing : List Frame) → AreLookedAt nodes left losing → 0 < left → 0 < length losing
some_left nodes left losing looked some =
    let many = ap (λ (fs : List Frame). length fs) looked.losing_is in
    omega (arith, many, length-append looked.first looked.others, looked.left_is, some)

-- ---- A loss that is refused

same_frame : (a b : Frame) → audit.NotLost a ≡ audit.NotLost b → a ≡ b
same_frame a b e = cc

pub same_error : (a b : AuditError) → ◌≡◌ {A = Result (Unit {0}) AuditError} (Err a) (Err b) → a ≡ b
same_error a b e = cc

memory_is_not_lost : (frame : Frame) → audit.Memory ≡ audit.NotLost frame → ⊥
memory_is_not_lost frame e = cc

pub loss_refused : (w new : WorldState) (nodes : List ProgressState) (frame found : Frame) (refused : StepError) (answer : AuditError) → new ≡ w
    → (refused ≡ refusal.Memory → answer ≡ audit.Memory) → (refused ≢ refusal.Memory → answer ≡ audit.NotLost frame)
    → ((cause : StepError) → cause ≢ refusal.Memory → refused ≡ cause → HasCause w.count w.start w.moves (Lose frame.message) cause)
    → answer ≡ audit.NotLost found → (found ≡ frame) × (IsUnderWay new.moves frame.message → WasSentIn nodes new.moves frame → ⊥)
loss_refused w new nodes frame found refused answer same memory other cause is =
    let not_memory : refused ≢ refusal.Memory = λ m. memory_is_not_lost found (sym (memory m) ∙ is) in (
      same_frame found frame (sym is ∙ other not_memory),
      λ under sent.
          not_under_way w frame.message refused not_memory cause (subst (λ (v : WorldState). IsUnderWay v.moves frame.message) same under),
    )

pub loss_unfit : (w : WorldState) (nodes : List ProgressState) (frame found : Frame) → (IsUnderWay w.moves frame.message → WasSentIn nodes w.moves frame → ⊥)
    → audit.NotLost frame ≡ audit.NotLost found → (found ≡ frame) × (IsUnderWay w.moves frame.message → WasSentIn nodes w.moves frame → ⊥)
loss_unfit w nodes frame found unfit is = (same_frame found frame (sym is), unfit)
