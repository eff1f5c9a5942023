-- The frames that a node sent ascend by clock, as its events do.
use Rattle.std.proofs.Common.{◌≡◌, ℕ, zero, suc, ◌+◌, ◌<◌, ◌≤◌, List, [], ◌∷◌, ◌++◌, length, get_or, map, sym, ap, subst, arith}
use Rattle.std.specs.Prelude.{All}
use Rattle.std.specs.List.Sorted.{IsNonDecreasingBy}
use Rattle.std.proofs.lemmas.List.{get_or-map, length-map, length-append, get_or-append-add}
use Rattle.std.proofs.lemmas.List.Elements.{All-nil, All-cons, All-weaker}
use Rattle.ra_stamp.specs.declared.message.Message.{Message}
use Rattle.ra_frame.specs.declared.frame.Frame.{Frame}
use Rattle.ra_node.specs.Node.{NodeState}
use Rattle.ra_book.specs.declared.book.event.BookKind.{BookKind}
use Rattle.ra_book.specs.declared.book.event.BookKind.TheVariants.{Ask, Leave, Cancel, Receive, Forget}
use Rattle.ra_book.specs.declared.book.event.BookEvent.{BookEvent}
use Rattle.ra_book.specs.declared.book.sent.Sent.{Sent}
use Rattle.ra_book.specs.History.{Posting, IsHistory, AreClocked, clock_after, frames_at, frames_of}
use Rattle.ra_book.specs.Keeping.{Ascends}

pub later_clock : (clock : ℕ) (kind : BookKind) → clock < clock_after clock kind
later_clock clock (Ask client name mode) = omega arith
later_clock clock (Leave client name) = omega arith
later_clock clock (Cancel client name) = omega arith
later_clock clock Forget = omega arith
later_clock clock (Receive frame) = omega arith

-- from this clock on, the frames ascend
abbrev AscendFrom : ℕ → List Frame → Type 0
AscendFrom clock frames = All (λ f. clock ≤ f.clock) frames × IsNonDecreasingBy (λ f. f.clock) frames

ascend-cons : (frame : Frame) (frames : List Frame) → AscendFrom frame.clock frames → IsNonDecreasingBy (λ f. f.clock) (frame ∷ frames)
ascend-cons frame frames rest zero zero d le within = omega arith
ascend-cons frame frames rest zero (suc j) d le within = rest.0 j d (omega (arith, within))
ascend-cons frame frames rest (suc i) zero d le within = absurd (omega (arith, le))
ascend-cons frame frames rest (suc i) (suc j) d le within = rest.1 i j d (omega (arith, le)) (omega (arith, within))

-- the frames of an event have its clock
at_one_clock : (clock : ℕ) (sends : List Message) (frames : List Frame) → AscendFrom clock frames → AscendFrom clock (frames_at clock sends ++ frames)
at_one_clock clock [] frames rest = rest
at_one_clock clock (m ∷ ms) frames rest =
    let frame : Frame = record { clock = clock; message = m } in
    let after = at_one_clock clock ms frames rest in
    (All-cons (λ (f : Frame). clock ≤ f.clock) frame (frames_at clock ms ++ frames) (omega arith) after.0, ascend-cons frame (frames_at clock ms ++ frames) after)

all_ascend : (clock : ℕ) (postings : List Posting) → AreClocked clock (map (λ p. p.event) postings) → AscendFrom clock (frames_of postings)
all_ascend clock [] clocked = (All-nil (λ (f : Frame). clock ≤ f.clock), λ i j d le within. absurd (omega (arith, within)))
all_ascend clock (p ∷ ps) clocked =
    let here = at_one_clock p.event.clock p.sends (frames_of ps) (all_ascend p.event.clock ps clocked.2) in
    let later : clock ≤ p.event.clock = omega (arith, clocked.0, later_clock clock p.event.kind) in (
      All-weaker (λ (f : Frame). p.event.clock ≤ f.clock) (λ (f : Frame). clock ≤ f.clock) (λ f low. omega (arith, low, later)) (frames_of (p ∷ ps)) here.0,
      here.1,
    )

-- what is last of a list that ascends ascends
pub ascends_last : (first last : List Sent) → Ascends (first ++ last) → Ascends last
ascends_last first last whole i j d le within =
    let at : (k : ℕ) → (get_or (first ++ last) (length first + k) d).frame.clock ≡ (get_or last k d).frame.clock =
    λ k. ap (λ (s : Sent). s.frame.clock) (get_or-append-add first last k d)
    in
    omega (
      arith,
      whole (length first + i) (length first + j) d (omega (arith, le)) (omega (arith, within, length-append first last)),
      at i,
      at j,
    )

pub history_ascends : (me n start : ℕ) (events : List BookEvent) (sent : List Sent) (node : NodeState) → IsHistory me n start events sent node → Ascends sent
history_ascends me n start events sent node history i j d le within =
    let clocked : AreClocked 0 (map (λ p. p.event) history.postings) = subst (AreClocked 0) (sym history.events_are) history.clocked in
    let frames : IsNonDecreasingBy (λ (f : Frame). f.clock) (map (λ (s : Sent). s.frame) sent) =
    subst (IsNonDecreasingBy (λ (f : Frame). f.clock)) (sym history.sent_are) (all_ascend 0 history.postings clocked).1
    in
    let at : (k : ℕ) → k < length sent → (get_or (map (λ (s : Sent). s.frame) sent) k d.frame).clock ≡ (get_or sent k d).frame.clock =
    λ k low. ap (λ (f : Frame). f.clock) (get_or-map (λ (s : Sent). s.frame) sent k d d.frame low)
    in
    let before : i < length sent = omega (arith, le, within) in
    omega (arith, frames i j d.frame le (omega (arith, within, length-map sent (λ (s : Sent). s.frame))), at i before, at j within)
