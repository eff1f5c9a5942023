-- Events with copies: which event a step means, and which frames came before it.
use Rattle.std.proofs.Common.{◌≡◌, ◌≢◌, ◌⊎◌, ℕ, ◌+◌, ◌≤◌, Bool, true, false, cond, List, [], ◌∷◌, ◌++◌, length, map, take, drop, get_or, refl, sym, ap, ◌∙◌, subst, arith, inl, inr}
use Rattle.std.specs.Prelude.{All, Contains}
use Rattle.std.specs.List.{flat_map}
use Rattle.std.proofs.lemmas.List.{length-append, map-append}
use Rattle.std.proofs.lemmas.List.Kept.{AllPairs-cons}
use Rattle.std.proofs.lemmas.List.Elements.{All-nil, All-cons, All-head, All-tail, All-append, All-weaker, Contains-append_left, Contains-append_right, Contains-append_cases}
use Rattle.ra_stamp.specs.declared.message.Message.{Message}
use Rattle.ra_frame.specs.declared.frame.Frame.{Frame}
use Rattle.ra_node.specs.Events.{Event}
use Rattle.ra_world.specs.declared.step.Step.{Step}
use Rattle.ra_world.specs.declared.step.Step.TheVariants.{Repeat}
use Rattle.ra_world.specs.Traffic.{taken_in, repeated_in, lost_in}
use Rattle.ra_world.specs.Run.{events_at}
use Rattle.ra_world.specs.Fitting.{TellsApart}
use Rattle.ra_world.proofs.Lists.{head_of, tail_of}
use Rattle.ra_world.proofs.Times.{times, times_append, there_once}
use Rattle.ra_book.specs.declared.book.event.BookKind.{BookKind}
use Rattle.ra_book.specs.declared.book.event.BookKind.TheVariants.{Ask, Leave, Cancel, Receive, Forget}
use Rattle.ra_book.specs.Settled.{Placed, frames_in, step_at, steps_of}
use Rattle.ra_book.specs.Repeats.{ComesBy, AreCopiesBefore, AreWithCopies, frames_by}
use Rattle.ra_book.proofs.Distinct.{AreDifferent, pairs_first, pairs_rest}
use Rattle.ra_book.proofs.Parts.{first, first_or_later, split}

abbrev step_for : Placed → Step
step_for p = step_at p.node p.event.kind

-- ---- Different frames with one message

-- the message occurs in the sent frames as often as different frames with it are among them
pub counted : (is : Message → Bool) (m : Message) → TellsApart is m → (fs sent : List Frame) → AreDifferent fs → All (λ f. f.message ≡ m) fs → All (Contains sent) fs
    → length fs ≤ times is (map (λ f. f.message) sent)
counted is m tells [] sent different same among = omega arith
counted is m tells (f ∷ fs) sent different same among =
    let at = All-head (Contains sent) f fs among in
    let before = take at.0 sent in
    let after = drop (at.0 + 1) sent in
    let messages : List Frame → List Message = map (λ f. f.message) in
    let parts : sent ≡ before ++ f ∷ after = split sent at.0 f at.1 (sym at.2) in
    let apart : All (λ g. f ≢ g) fs = pairs_first (λ a b. a ≢ b) f fs different in
    let others : All (Contains (before ++ after)) fs =
    λ k d low.
    left_out before f after (get_or fs k d) (apart k d low)
    (subst (λ (gs : List Frame). Contains gs (get_or fs k d)) parts (All-tail (Contains sent) f fs among k d low))
    in
    let fewer = counted is m tells fs (before ++ after) (pairs_rest (λ a b. a ≢ b) f fs different) (All-tail (λ f. f.message ≡ m) f fs same) others in
    let one = there_once is m (f.message ∷ []) tells (0, omega arith, All-head (λ f. f.message ≡ m) f fs same) in
    let whole = ap (times is) (ap messages parts ∙ map-append (λ f. f.message) before (f ∷ after)) ∙ times_append is (messages before) (f.message ∷ messages after) in
    let from_it = times_append is (f.message ∷ []) (messages after) in
    let rest = ap (times is) (map-append (λ f. f.message) before after) ∙ times_append is (messages before) (messages after) in
    omega (arith, fewer, one, whole, from_it, rest)
  where
    left_out : (before : List Frame) (f : Frame) (after : List Frame) (g : Frame) → f ≢ g → Contains (before ++ f ∷ after) g → Contains (before ++ after) g
    left_out before f after g apart at =
        elim (Contains-append_cases before (f ∷ after) g at) [
          | inl is ↦ Contains-append_left before after g is
          | inr from ↦ elim (first_or_later f after g from) [
            | inl same ↦ absurd (apart same)
            | inr is ↦ Contains-append_right before after g is
          ]
        ]

-- ---- The event of a step

-- different frames with this message, none of them this one, came by the events, and of the message no more were taken than
-- repeated and these
pub record Others (events : List Placed) (frame : Frame) (m : Message) (taken repeated : ℕ) : Type 0 where
  pub frames : List Frame
  pub different : AreDifferent frames
  pub apart : All (λ f. frame ≢ f) frames
  pub came : All (λ f. ComesBy events f × (f.message ≡ m)) frames
  pub enough : taken ≤ repeated + length frames

-- among these, the event that a step of the list with copies means, and what comes before it
pub record PlaceOf (placed : List Placed) (prefix : List Step) (step : Step) : Type 0 where
  pub before : List Placed
  pub this : Placed
  pub after : List Placed
  pub parts : placed ≡ before ++ this ∷ after
  -- the message that the step takes or repeats is the message of the frame that comes in the event
  pub touched : (m : Message) → Contains (taken_in step ++ repeated_in step) m → (frame : Frame) × Contains (frames_in this.event.kind) frame × (frame.message ≡ m)
  pub same_events : (i : ℕ) → flat_map (events_at i) prefix ≡ flat_map (events_at i) (steps_of before)
  pub others : (is : Message → Bool) (m : Message) → TellsApart is m → (frame : Frame) → Contains (frames_in this.event.kind) frame
      → Others before frame m (times is (flat_map taken_in prefix)) (times is (flat_map repeated_in prefix))

not_there : (xs : List Step) (x : Step) (ys : List Step) → xs ++ x ∷ ys ≡ [] → ⊥
not_there xs x ys e = omega (arith, ap length e, length-append xs (x ∷ ys))

one_only : (frame : Frame) (m : Message) → Contains (frame.message ∷ []) m → frame.message ≡ m
one_only frame m at = elim (first_or_later frame.message [] m at) [ inl same ↦ same | inr in_none ↦ absurd (omega (arith, in_none.1)) ]

touched_at : (i : ℕ) (kind : BookKind) (m : Message) → Contains (taken_in (step_at i kind) ++ repeated_in (step_at i kind)) m → (frame : Frame) × Contains (frames_in kind) frame × (frame.message ≡ m)
touched_at i (Ask client name mode) m at = absurd (omega (arith, at.1))
touched_at i (Leave client name) m at = absurd (omega (arith, at.1))
touched_at i (Cancel client name) m at = absurd (omega (arith, at.1))
touched_at i Forget m at = absurd (omega (arith, at.1))
touched_at i (Receive frame) m at = (frame, first frame [], one_only frame m at)

none_came : (frame : Frame) (m : Message) (taken repeated : ℕ) → taken ≡ 0 → Others [] frame m taken repeated
none_came frame m taken repeated none =
    record {
      frames = [];
      different = λ i j d low within. absurd (omega (arith, within));
      apart = All-nil _;
      came = All-nil _;
      enough = omega (arith, none);
    }

-- an event itself
here : (p : Placed) (placed : List Placed) (copies : List Step) → flat_map taken_in copies ≡ [] → ((i : ℕ) → flat_map (events_at i) copies ≡ []) → PlaceOf (p ∷ placed) copies (step_for p)
here p placed copies untaken silent =
    record {
      before = [];
      this = p;
      after = placed;
      parts = refl;
      touched = touched_at p.node p.event.kind;
      same_events = silent;
      others = λ is m tells frame at. none_came frame m _ _ (ap (times is) untaken);
    }

-- the copy before its step
copy_here : (p : Placed) (placed : List Placed) (frame : Frame) → p.event.kind ≡ Receive frame → PlaceOf (p ∷ placed) [] (Repeat frame.message)
copy_here p placed frame kind =
    record {
      before = [];
      this = p;
      after = placed;
      parts = refl;
      touched = λ m at. (frame, subst (λ (k : BookKind). Contains (frames_in k) frame) (sym kind) (first frame []), one_only frame m at);
      same_events = λ i. refl;
      others = λ is m tells frame at. none_came frame m _ _ refl;
    }

-- ---- An event before

came_later : (p : Placed) (events : List Placed) (m : Message) (fs : List Frame) → All (λ f. ComesBy events f × (f.message ≡ m)) fs → All (λ f. ComesBy (p ∷ events) f × (f.message ≡ m)) fs
came_later p events m fs came =
    All-weaker (λ f. ComesBy events f × (f.message ≡ m)) (λ f. ComesBy (p ∷ events) f × (f.message ≡ m))
    (λ f is. (Contains-append_right (frames_in p.event.kind) (frames_by events) f is.0, is.1)) fs came

comes_in : (placed before : List Placed) (this : Placed) (after : List Placed) (f : Frame) → placed ≡ before ++ this ∷ after → ComesBy before f ⊎ Contains (frames_in this.event.kind) f → ComesBy placed f
comes_in placed before this after f parts at =
    subst (λ (ps : List Placed). ComesBy ps f) (sym parts) (in_parts before at)
  where
    in_parts : (before : List Placed) → ComesBy before f ⊎ Contains (frames_in this.event.kind) f → ComesBy (before ++ this ∷ after) f
    in_parts [] (inl none) = absurd (omega (arith, none.1))
    in_parts [] (inr is) = Contains-append_left (frames_in this.event.kind) (frames_by after) f is
    in_parts (q ∷ before) (inl at) =
        elim (Contains-append_cases (frames_in q.event.kind) (frames_by before) f at) [
          | inl is ↦ Contains-append_left (frames_in q.event.kind) (frames_by (before ++ this ∷ after)) f is
          | inr is ↦ Contains-append_right (frames_in q.event.kind) (frames_by (before ++ this ∷ after)) f (in_parts before (inl is))
        ]
    in_parts (q ∷ before) (inr is) = Contains-append_right (frames_in q.event.kind) (frames_by (before ++ this ∷ after)) f (in_parts before (inr is))

-- an event that brings no frame that comes again: if it brings a frame with the message, the frame is one of the others
last_time : (is : Message → Bool) (m : Message) → TellsApart is m → (frame : Frame) (p : Placed) (placed before : List Placed) (taken repeated : ℕ)
    → ((f : Frame) → ComesBy before f → ComesBy placed f) → ComesBy placed frame → All (λ f. ComesBy placed f → ⊥) (frames_in p.event.kind) → Others before frame m taken repeated
    → Others (p ∷ before) frame m (times is (taken_in (step_for p)) + taken) (times is (repeated_in (step_for p)) + repeated)
last_time is m tells frame p placed before taken repeated among comes last others = by_kind p.event.kind refl
  where
    same_ones : (t r : ℕ) → t ≤ r + length others.frames → Others (p ∷ before) frame m t r
    same_ones t r enough =
        record {
          frames = others.frames;
          different = others.different;
          apart = others.apart;
          came = came_later p before m others.frames others.came;
          enough = enough;
        }

    one_more : (g : Frame) → p.event.kind ≡ Receive g → (b : Bool) → is g.message ≡ b → Others (p ∷ before) frame m (length (cond b (g.message ∷ []) []) + taken) (times is [] + repeated)
    one_more g kind false e = let enough = others.enough in same_ones _ _ (omega (arith, enough))
    one_more g kind true e =
        let never : ComesBy placed g → ⊥ = All-head (λ f. ComesBy placed f → ⊥) g [] (subst (λ (k : BookKind). All (λ f. ComesBy placed f → ⊥) (frames_in k)) kind last) in
        let enough = others.enough in
        record {
          frames = g ∷ others.frames;
          different =
              AllPairs-cons (λ a b. a ≢ b) g others.frames
              (All-weaker (λ f. ComesBy before f × (f.message ≡ m)) (λ f. g ≢ f) (λ f came same. never (subst (ComesBy placed) (sym same) (among f came.0))) others.frames others.came) others.different;
          apart = All-cons (λ f. frame ≢ f) g others.frames (λ same. never (subst (ComesBy placed) same comes)) others.apart;
          came =
              All-cons (λ f. ComesBy (p ∷ before) f × (f.message ≡ m)) g others.frames
              (Contains-append_left (frames_in p.event.kind) (frames_by before) g (subst (λ (k : BookKind). Contains (frames_in k) g) (sym kind) (first g [])), (tells g.message).0 e)
              (came_later p before m others.frames others.came);
          enough = omega (arith, enough);
        }

    by_kind : (kind : BookKind) → p.event.kind ≡ kind → Others (p ∷ before) frame m (times is (taken_in (step_at p.node kind)) + taken) (times is (repeated_in (step_at p.node kind)) + repeated)
    by_kind (Ask client name mode) same = let enough = others.enough in same_ones _ _ (omega (arith, enough))
    by_kind (Leave client name) same = let enough = others.enough in same_ones _ _ (omega (arith, enough))
    by_kind (Cancel client name) same = let enough = others.enough in same_ones _ _ (omega (arith, enough))
    by_kind Forget same = let enough = others.enough in same_ones _ _ (omega (arith, enough))
    by_kind (Receive g) same = one_more g same (is g.message) refl

after_one : (p : Placed) (placed : List Placed) (prefix : List Step) (step : Step) → All (λ f. ComesBy placed f → ⊥) (frames_in p.event.kind) → PlaceOf placed prefix step
    → PlaceOf (p ∷ placed) (step_for p ∷ prefix) step
after_one p placed prefix step last found =
    record {
      before = p ∷ found.before;
      this = found.this;
      after = found.after;
      parts = ap (λ (ps : List Placed). p ∷ ps) found.parts;
      touched = found.touched;
      same_events = λ i. ap (λ (es : List Event). events_at i (step_for p) ++ es) (found.same_events i);
      others = λ is m tells frame at.
          let in_placed : (f : Frame) → ComesBy found.before f ⊎ Contains (frames_in found.this.event.kind) f → ComesBy placed f =
          λ f. comes_in placed found.before found.this found.after f found.parts
          in
          let t = times is (flat_map taken_in prefix) in
          let r = times is (flat_map repeated_in prefix) in
          let more = last_time is m tells frame p placed found.before t r (λ f came. in_placed f (inl came)) (in_placed frame (inr at)) last (found.others is m tells frame at) in
          subst (λ (n : ℕ). Others (p ∷ found.before) frame m n (times is (repeated_in (step_for p) ++ flat_map repeated_in prefix))) (sym (times_append is (taken_in (step_for p)) (flat_map taken_in prefix)))
          (subst (λ (n : ℕ). Others (p ∷ found.before) frame m (times is (taken_in (step_for p)) + t) n) (sym (times_append is (repeated_in (step_for p)) (flat_map repeated_in prefix))) more);
    }

-- an event with its copy
after_copy : (p : Placed) (placed : List Placed) (prefix : List Step) (step : Step) (g : Frame) → p.event.kind ≡ Receive g → PlaceOf placed prefix step
    → PlaceOf (p ∷ placed) (Repeat g.message ∷ step_for p ∷ prefix) step
after_copy p placed prefix step g kind found =
    record {
      before = p ∷ found.before;
      this = found.this;
      after = found.after;
      parts = ap (λ (ps : List Placed). p ∷ ps) found.parts;
      touched = found.touched;
      same_events = λ i. ap (λ (es : List Event). events_at i (step_for p) ++ es) (found.same_events i);
      others = λ is m tells frame at.
          let others = found.others is m tells frame at in
          let takes : taken_in (step_for p) ≡ g.message ∷ [] = ap (λ (k : BookKind). taken_in (step_at p.node k)) kind in
          let one = ap (times is) takes in
          let all_taken = times_append is (taken_in (step_for p)) (flat_map taken_in prefix) in
          let all_repeated = times_append is (repeated_in (step_for p)) (flat_map repeated_in prefix) in
          let copy = times_append is (g.message ∷ []) (repeated_in (step_for p) ++ flat_map repeated_in prefix) in
          let enough = others.enough in
          record {
            frames = others.frames;
            different = others.different;
            apart = others.apart;
            came = came_later p found.before m others.frames others.came;
            enough = omega (arith, one, all_taken, all_repeated, copy, enough);
          };
    }

pub place_of : (placed : List Placed) (all prefix : List Step) (step : Step) (suffix : List Step) → AreWithCopies placed all → all ≡ prefix ++ step ∷ suffix → PlaceOf placed prefix step
place_of [] all prefix step suffix none e = absurd (not_there prefix step suffix (sym e ∙ none))
place_of (p ∷ placed) all prefix step suffix (copies, rest, are, before, more) e =
    by_copies before prefix (λ later. place_of placed rest later step suffix more) (sym are ∙ e)
  where
    by_copies : AreCopiesBefore p.event.kind placed copies → (prefix : List Step) → ((later : List Step) → rest ≡ later ++ step ∷ suffix → PlaceOf placed later step)
        → copies ++ step_for p ∷ rest ≡ prefix ++ step ∷ suffix → PlaceOf (p ∷ placed) prefix step
    by_copies (inl (last, no_copy)) [] go e =
        let same : step_for p ≡ step = head_of (sym (ap (λ (cs : List Step). cs ++ step_for p ∷ rest) no_copy) ∙ e) in
        subst (PlaceOf (p ∷ placed) []) same (here p placed [] refl (λ i. refl))
    by_copies (inl (last, no_copy)) (f ∷ prefix) go e =
        let whole : step_for p ∷ rest ≡ f ∷ prefix ++ step ∷ suffix = sym (ap (λ (cs : List Step). cs ++ step_for p ∷ rest) no_copy) ∙ e in
        subst (λ (x : Step). PlaceOf (p ∷ placed) (x ∷ prefix) step) (head_of whole) (after_one p placed prefix step last (go prefix (tail_of whole)))
    by_copies (inr (g, kind, later, copy)) [] go e =
        let same : Repeat g.message ≡ step = head_of (sym (ap (λ (cs : List Step). cs ++ step_for p ∷ rest) copy) ∙ e) in
        subst (PlaceOf (p ∷ placed) []) same (copy_here p placed g kind)
    by_copies (inr (g, kind, later, copy)) (f ∷ []) go e =
        let whole : Repeat g.message ∷ step_for p ∷ rest ≡ f ∷ step ∷ suffix = sym (ap (λ (cs : List Step). cs ++ step_for p ∷ rest) copy) ∙ e in
        subst (λ (x : Step). PlaceOf (p ∷ placed) (f ∷ []) x) (head_of (tail_of whole))
        (subst (λ (x : Step). PlaceOf (p ∷ placed) (x ∷ []) (step_for p)) (head_of whole) (here p placed (Repeat g.message ∷ []) refl (λ i. refl)))
    by_copies (inr (g, kind, later, copy)) (f ∷ h ∷ prefix) go e =
        let whole : Repeat g.message ∷ step_for p ∷ rest ≡ f ∷ h ∷ prefix ++ step ∷ suffix = sym (ap (λ (cs : List Step). cs ++ step_for p ∷ rest) copy) ∙ e in
        subst (λ (x : Step). PlaceOf (p ∷ placed) (x ∷ h ∷ prefix) step) (head_of whole)
        (subst (λ (x : Step). PlaceOf (p ∷ placed) (Repeat g.message ∷ x ∷ prefix) step) (head_of (tail_of whole))
        (after_copy p placed prefix step g kind (go prefix (tail_of (tail_of whole)))))

-- ---- What the copies leave as it is

pub events_with : (i : ℕ) (placed : List Placed) (all : List Step) → AreWithCopies placed all → flat_map (events_at i) all ≡ flat_map (events_at i) (steps_of placed)
events_with i [] all none = ap (flat_map (events_at i)) none
events_with i (p ∷ placed) all (copies, rest, are, before, more) =
    ap (flat_map (events_at i)) are ∙ by_copies before ∙ ap (λ (es : List Event). events_at i (step_for p) ++ es) (events_with i placed rest more)
  where
    by_copies : AreCopiesBefore p.event.kind placed copies → flat_map (events_at i) (copies ++ step_for p ∷ rest) ≡ events_at i (step_for p) ++ flat_map (events_at i) rest
    by_copies (inl (last, no_copy)) = ap (λ (cs : List Step). flat_map (events_at i) (cs ++ step_for p ∷ rest)) no_copy
    by_copies (inr (g, kind, later, copy)) = ap (λ (cs : List Step). flat_map (events_at i) (cs ++ step_for p ∷ rest)) copy

pub lost_with : (placed : List Placed) (all : List Step) → AreWithCopies placed all → flat_map lost_in all ≡ flat_map lost_in (steps_of placed)
lost_with [] all none = ap (flat_map lost_in) none
lost_with (p ∷ placed) all (copies, rest, are, before, more) =
    ap (flat_map lost_in) are ∙ by_copies before ∙ ap (λ (ms : List Message). lost_in (step_for p) ++ ms) (lost_with placed rest more)
  where
    by_copies : AreCopiesBefore p.event.kind placed copies → flat_map lost_in (copies ++ step_for p ∷ rest) ≡ lost_in (step_for p) ++ flat_map lost_in rest
    by_copies (inl (last, no_copy)) = ap (λ (cs : List Step). flat_map lost_in (cs ++ step_for p ∷ rest)) no_copy
    by_copies (inr (g, kind, later, copy)) = ap (λ (cs : List Step). flat_map lost_in (cs ++ step_for p ∷ rest)) copy

-- a step of the list with copies is an event's step, or a repeat
pub all_with : (P : Step → Type 0) → ((m : Message) → P (Repeat m)) → (placed : List Placed) (all : List Step) → AreWithCopies placed all → All P (steps_of placed) → All P all
all_with P copy [] all none each = subst (All P) (sym none) each
all_with P copy (p ∷ placed) all (copies, rest, are, before, more) each =
    subst (All P) (sym are)
    (All-append P copies (step_for p ∷ rest) (by_copies before)
    (All-cons P (step_for p) rest (All-head P (step_for p) (steps_of placed) each) (all_with P copy placed rest more (All-tail P (step_for p) (steps_of placed) each))))
  where
    by_copies : AreCopiesBefore p.event.kind placed copies → All P copies
    by_copies (inl (last, no_copy)) = subst (All P) (sym no_copy) (All-nil P)
    by_copies (inr (g, kind, later, is)) = subst (All P) (sym is) (All-cons P (Repeat g.message) [] (copy g.message) (All-nil P))
