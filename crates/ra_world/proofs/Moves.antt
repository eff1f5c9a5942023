-- Lists of moves: what the next move adds to them, at which node a step is an event, and which messages they lose or
-- repeat.
use Rattle.std.proofs.Common.{◌≡◌, ◌≢◌, ℕ, true, false, List, [], ◌∷◌, ◌++◌, map, refl, sym, ap, ◌∙◌, subst, append_assoc, arith, ◌+◌, ◌⊎◌, inl, inr}
use Rattle.std.specs.Prelude.{◌==◌, if◌then◌else◌}
use Rattle.std.proofs.lemmas.List.{append-nil}
use Rattle.std.proofs.lemmas.Bool.Decides.{nat_tests}
use Rattle.ra_stamp.specs.declared.message.Message.{Message}
use Rattle.ra_stamp.specs.declared.entry.Mark.{Mark}
use Rattle.ra_stamp.specs.declared.entry.Mark.TheVariants.{Requested, Entered, Left, Withdrawn}
use Rattle.ra_stamp.specs.Message.{to_of}
use Rattle.ra_node.specs.Events.{Event, Happening}
use Rattle.ra_node.specs.Events.{Event as acts}
use Rattle.ra_world.specs.declared.step.Step.{Step}
use Rattle.ra_world.specs.declared.step.Step.TheVariants.{Ask, Leave, Cancel, Deliver, Lose, Repeat, Forget}
use Rattle.ra_world.specs.Traffic.{Move, sent_by, put_in, put_by, taken_in, taken_by, lost_in, lost_by, repeated_in, repeated_by}
use Rattle.ra_world.specs.Run.{events_at, happened_at, marks_of, AreFit}
use Rattle.ra_world.specs.Quiet.{requests_in, withdrawn_in}
use Rattle.ra_automaton.proofs.Apart.{cases_same}
use Rattle.ra_world.proofs.Lists.{none_some}

-- ---- Lists of moves, one more at the end

pub sent_more : (ms : List Move) (m : Move) → sent_by (ms ++ m ∷ []) ≡ sent_by ms ++ m.sends
sent_more [] m = append-nil m.sends
sent_more (x ∷ ms) m = ap (λ (ys : List Message). x.sends ++ ys) (sent_more ms m) ∙ sym (append_assoc x.sends (sent_by ms) m.sends)

pub put_more : (ms : List Move) (m : Move) → put_by (ms ++ m ∷ []) ≡ put_by ms ++ put_in m
put_more [] m = append-nil (put_in m)
put_more (x ∷ ms) m = ap (λ (ys : List Message). put_in x ++ ys) (put_more ms m) ∙ sym (append_assoc (put_in x) (put_by ms) (put_in m))

-- if nothing was repeated, what was put under way is what was sent
pub put_is_sent : (ms : List Move) → repeated_by ms ≡ [] → put_by ms ≡ sent_by ms
put_is_sent [] e = refl
put_is_sent (x ∷ ms) e =
    let both = none_of_both (repeated_in x.step) (repeated_by ms) e in
    ap (λ (ys : List Message). (x.sends ++ ys) ++ put_by ms) both.0 ∙ ap (λ (ys : List Message). ys ++ put_by ms) (append-nil x.sends)
    ∙ ap (λ (ys : List Message). x.sends ++ ys) (put_is_sent ms both.1)
  where
    none_of_both : (xs ys : List Message) → xs ++ ys ≡ [] → (xs ≡ []) × (ys ≡ [])
    none_of_both [] ys e = (refl, e)
    none_of_both (x ∷ xs) ys e = absurd (none_some (sym e))

pub taken_more : (ms : List Move) (m : Move) → taken_by (ms ++ m ∷ []) ≡ taken_by ms ++ taken_in m.step
taken_more [] m = append-nil (taken_in m.step)
taken_more (x ∷ ms) m = ap (λ (ys : List Message). taken_in x.step ++ ys) (taken_more ms m) ∙ sym (append_assoc (taken_in x.step) (taken_by ms) (taken_in m.step))

pub marks_more : (ms : List Move) (m : Move) → marks_of (ms ++ m ∷ []) ≡ marks_of ms ++ m.marks
marks_more [] m = append-nil m.marks
marks_more (x ∷ ms) m = ap (λ (ys : List Mark). x.marks ++ ys) (marks_more ms m) ∙ sym (append_assoc x.marks (marks_of ms) m.marks)

pub lost_more : (ms : List Move) (m : Move) → lost_by (ms ++ m ∷ []) ≡ lost_by ms ++ lost_in m.step
lost_more [] m = append-nil (lost_in m.step)
lost_more (x ∷ ms) m = ap (λ (ys : List Message). lost_in x.step ++ ys) (lost_more ms m) ∙ sym (append_assoc (lost_in x.step) (lost_by ms) (lost_in m.step))

pub repeated_more : (ms : List Move) (m : Move) → repeated_by (ms ++ m ∷ []) ≡ repeated_by ms ++ repeated_in m.step
repeated_more [] m = append-nil (repeated_in m.step)
repeated_more (x ∷ ms) m = ap (λ (ys : List Message). repeated_in x.step ++ ys) (repeated_more ms m) ∙ sym (append_assoc (repeated_in x.step) (repeated_by ms) (repeated_in m.step))

-- what happened at a node by one move
abbrev pub happens : ℕ → Move → List Happening
happens i m = map (λ event. record { event = event; sends = m.sends; marks = m.marks }) (events_at i m.step)

pub happened_more : (i : ℕ) (ms : List Move) (m : Move) → happened_at i (ms ++ m ∷ []) ≡ happened_at i ms ++ happens i m
happened_more i [] m = append-nil (happens i m)
happened_more i (x ∷ ms) m = ap (λ (ys : List Happening). happens i x ++ ys) (happened_more i ms m) ∙ sym (append_assoc (happens i x) (happened_at i ms) (happens i m))

-- what fits in two parts
pub fits_split : (n : ℕ) (before prefix suffix : List Move) → AreFit n before (prefix ++ suffix) → AreFit n before prefix × AreFit n (before ++ prefix) suffix
fits_split n before [] suffix fit = (tt, subst (λ (ms : List Move). AreFit n ms suffix) (sym (append-nil before)) fit)
fits_split n before (m ∷ prefix) suffix fit =
    let rest = fits_split n (before ++ m ∷ []) prefix suffix fit.1 in
    ((fit.0, rest.0), subst (λ (ms : List Move). AreFit n ms suffix) (append_assoc before (m ∷ []) prefix) rest.1)

pub fits_join : (n : ℕ) (before prefix suffix : List Move) → AreFit n before prefix → AreFit n (before ++ prefix) suffix → AreFit n before (prefix ++ suffix)
fits_join n before [] suffix fit more = subst (λ (ms : List Move). AreFit n ms suffix) (append-nil before) more
fits_join n before (m ∷ prefix) suffix fit more =
    (fit.0, fits_join n (before ++ m ∷ []) prefix suffix fit.1 (subst (λ (ms : List Move). AreFit n ms suffix) (sym (append_assoc before (m ∷ []) prefix)) more))

-- ---- The node of an event

pub at_node : (p : ℕ) (event : Event) → (if p == p then event ∷ [] else []) ≡ event ∷ []
at_node p event = ap (λ b. if b then event ∷ [] else []) (is p)
  where
    is : (p : ℕ) → (p == p) ≡ true
    is p = grind (arith, nat_tests)

pub not_at : (p i : ℕ) (event : Event) → i ≢ p → (if p == i then event ∷ [] else []) ≡ []
not_at p i event apart = ap (λ b. if b then event ∷ [] else []) (is_not p i apart)
  where
    is_not : (p i : ℕ) → i ≢ p → (p == i) ≡ false
    is_not p i apart = grind (arith, nat_tests)

one_node : (node p i : ℕ) (e event : Event) → (if node == p then e ∷ [] else []) ≡ event ∷ [] → i ≢ p → (if node == i then e ∷ [] else []) ≡ []
one_node node p i e event here apart = elim (cases_same node p) [
  | inl same ↦ not_at node i e (λ k. apart (k ∙ same))
  | inr other ↦ absurd (none_some (sym (not_at node p e (λ k. other (sym k))) ∙ here))
]

-- a step is an event at one node at most
pub only_at : (p i : ℕ) (step : Step) (event : Event) → events_at p step ≡ event ∷ [] → i ≢ p → events_at i step ≡ []
only_at p i (Ask node client name mode) event here apart = one_node node p i (acts.Ask client name mode) event here apart
only_at p i (Leave node client name) event here apart = one_node node p i (acts.Leave client name) event here apart
only_at p i (Cancel node client name) event here apart = one_node node p i (acts.Cancel client name) event here apart
only_at p i (Deliver message) event here apart = one_node (to_of message) p i (acts.Receive message) event here apart
only_at p i (Lose message) event here apart = refl
only_at p i (Repeat message) event here apart = refl
only_at p i (Forget node) event here apart = one_node node p i acts.Forget event here apart

-- a step that is an event puts no copy under way
pub event_copies_nothing : (p : ℕ) (step : Step) (event : Event) → events_at p step ≡ event ∷ [] → repeated_in step ≡ []
event_copies_nothing p (Ask node client name mode) event here = refl
event_copies_nothing p (Leave node client name) event here = refl
event_copies_nothing p (Cancel node client name) event here = refl
event_copies_nothing p (Deliver message) event here = refl
event_copies_nothing p (Lose message) event here = refl
event_copies_nothing p (Repeat message) event here = absurd (none_some here)
event_copies_nothing p (Forget node) event here = refl

-- and loses nothing
pub event_loses_nothing : (p : ℕ) (step : Step) (event : Event) → events_at p step ≡ event ∷ [] → lost_in step ≡ []
event_loses_nothing p (Ask node client name mode) event here = refl
event_loses_nothing p (Leave node client name) event here = refl
event_loses_nothing p (Cancel node client name) event here = refl
event_loses_nothing p (Deliver message) event here = refl
event_loses_nothing p (Lose message) event here = absurd (none_some here)
event_loses_nothing p (Repeat message) event here = refl
event_loses_nothing p (Forget node) event here = refl

-- ---- Which messages may be lost or repeated, and whether requests may be withdrawn

-- messages are lost only if Lossy is so, and repeated only if Copied is so
abbrev pub AllowsStep : Type 0 → Type 0 → Step → Type 0
AllowsStep Lossy Copied (Ask node client name mode) = Unit {0}
AllowsStep Lossy Copied (Leave node client name) = Unit {0}
AllowsStep Lossy Copied (Cancel node client name) = Unit {0}
AllowsStep Lossy Copied (Deliver message) = Unit {0}
AllowsStep Lossy Copied (Lose message) = Lossy
AllowsStep Lossy Copied (Repeat message) = Copied
AllowsStep Lossy Copied (Forget node) = Unit {0}

-- and a request is withdrawn only if Copied is so, too
abbrev pub Allows : Type 0 → Type 0 → Step → List Mark → Type 0
Allows Lossy Copied step marks = AllowsStep Lossy Copied step × ((withdrawn_in marks ≡ 0) ⊎ Copied)

abbrev pub AllowsAll : Type 0 → Type 0 → List Move → Type 0
AllowsAll Lossy Copied [] = Unit {0}
AllowsAll Lossy Copied (move ∷ moves) = Allows Lossy Copied move.step move.marks × AllowsAll Lossy Copied moves

pub withdrawn_both : (xs ys : List Mark) → withdrawn_in (xs ++ ys) ≡ withdrawn_in xs + withdrawn_in ys
withdrawn_both [] ys = omega arith
withdrawn_both (Requested e ∷ xs) ys = withdrawn_both xs ys
withdrawn_both (Entered e ∷ xs) ys = withdrawn_both xs ys
withdrawn_both (Left e ∷ xs) ys = withdrawn_both xs ys
withdrawn_both (Withdrawn e ∷ xs) ys = omega (arith, withdrawn_both xs ys)

allows_one : {Lossy Copied : Type 0} (step : Step) (losses copies : List Message) → (lost_in step ++ losses ≡ []) ⊎ Lossy → (repeated_in step ++ copies ≡ []) ⊎ Copied
    → AllowsStep Lossy Copied step × ((losses ≡ []) ⊎ Lossy) × ((copies ≡ []) ⊎ Copied)
allows_one (Ask node client name mode) losses copies lost repeated = (tt, lost, repeated)
allows_one (Leave node client name) losses copies lost repeated = (tt, lost, repeated)
allows_one (Cancel node client name) losses copies lost repeated = (tt, lost, repeated)
allows_one (Deliver message) losses copies lost repeated = (tt, lost, repeated)
allows_one (Lose message) losses copies lost repeated = elim lost [ inl none ↦ absurd (none_some (sym none)) | inr lossy ↦ (lossy, inr lossy, repeated) ]
allows_one (Repeat message) losses copies lost repeated = elim repeated [ inl none ↦ absurd (none_some (sym none)) | inr copied ↦ (copied, lost, inr copied) ]
allows_one (Forget node) losses copies lost repeated = (tt, lost, repeated)

none_withdrawn : {Copied : Type 0} (here later : List Mark) → (withdrawn_in (here ++ later) ≡ 0) ⊎ Copied → ((withdrawn_in here ≡ 0) ⊎ Copied) × ((withdrawn_in later ≡ 0) ⊎ Copied)
none_withdrawn here later none = elim none [
  | inl zero ↦ (inl (omega (arith, zero, withdrawn_both here later)), inl (omega (arith, zero, withdrawn_both here later)))
  | inr copied ↦ (inr copied, inr copied)
]

pub allows_moves : {Lossy Copied : Type 0} (moves : List Move) → (lost_by moves ≡ []) ⊎ Lossy → (repeated_by moves ≡ []) ⊎ Copied → (withdrawn_in (marks_of moves) ≡ 0) ⊎ Copied → AllowsAll Lossy Copied moves
allows_moves [] lost repeated withdrawn = tt
allows_moves (move ∷ moves) lost repeated withdrawn =
    let one = allows_one move.step (lost_by moves) (repeated_by moves) lost repeated in
    let marks = none_withdrawn move.marks (marks_of moves) withdrawn in
    ((one.0, marks.0), allows_moves moves one.1 one.2 marks.1)

pub allows_more : (Lossy Copied : Type 0) (moves : List Move) (m : Move) → AllowsAll Lossy Copied moves → Allows Lossy Copied m.step m.marks → AllowsAll Lossy Copied (moves ++ m ∷ [])
allows_more Lossy Copied [] m before may = (may, tt)
allows_more Lossy Copied (x ∷ moves) m before may = (before.0, allows_more Lossy Copied moves m before.1 may)

-- all may be lost and repeated, and all requests withdrawn
pub allows_all : (moves : List Move) → AllowsAll (Unit {0}) (Unit {0}) moves
allows_all moves = allows_moves moves (inr tt) (inr tt) (inr tt)

-- ---- How many requests were made

pub requests_both : (xs ys : List Mark) → requests_in (xs ++ ys) ≡ requests_in xs + requests_in ys
requests_both [] ys = omega arith
requests_both (Requested e ∷ xs) ys = omega (arith, requests_both xs ys)
requests_both (Entered e ∷ xs) ys = requests_both xs ys
requests_both (Left e ∷ xs) ys = requests_both xs ys
requests_both (Withdrawn e ∷ xs) ys = requests_both xs ys
