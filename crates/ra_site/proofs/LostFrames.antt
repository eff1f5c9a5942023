-- The frames of a book that are flagged lost.
use Rattle.std.proofs.Common.{◌≡◌, ℕ, ◌+◌, ◌<◌, Bool, false, List, [], ◌∷◌, ◌++◌, map, length, get_or, take, refl, sym, ap, ◌∙◌, append_assoc}
use Rattle.std.specs.Prelude.{◌↔◌, Result, Ok, Err, IfOk, IsOk, OnOk, OnErr}
use Rattle.std.specs.List.{filter}
use Rattle.std.proofs.lemmas.List.{map-append, append-nil, take_more}
use Rattle.std.proofs.lemmas.List.Elements.{filter-append}
use Rattle.ra_stamp.specs.declared.entry.Mark.{Mark}
use Rattle.ra_frame.specs.declared.frame.Frame.{Frame}
use Rattle.ra_book.specs.declared.book.event.BookKind.{BookKind}
use Rattle.ra_book.specs.declared.book.sent.Sent.{Sent}
use Rattle.ra_book.specs.Book.{BookState, Adds, IsFirst, Loses, as_sent}
use Rattle.ra_site.specs.Losses.{lost_frames}

abbrev frame_in : Sent → Frame
frame_in s = s.frame

abbrev is_lost : Sent → Bool
is_lost s = s.lost

lost_in_both : (xs ys : List Sent) → lost_frames (xs ++ ys) ≡ lost_frames xs ++ lost_frames ys
lost_in_both xs ys = ap (map frame_in) (filter-append is_lost xs ys) ∙ map-append frame_in (filter is_lost xs) (filter is_lost ys)

-- another frame, lost or not
pub one_more_frame : (now new initial : List Frame) (sent : List Sent) (i : ℕ) (s : Sent) → i < length sent → get_or sent i s ≡ s
    → now ≡ initial ++ lost_frames (take i sent) → new ≡ now ++ lost_frames (s ∷ []) → new ≡ initial ++ lost_frames (take (i + 1) sent)
one_more_frame now new initial sent i s within at before here =
    here
    ∙ ap (λ (fs : List Frame). fs ++ lost_frames (s ∷ [])) before
    ∙ append_assoc initial (lost_frames (take i sent)) (lost_frames (s ∷ []))
    ∙ ap (λ (fs : List Frame). initial ++ fs)
    (sym (ap lost_frames (take_more sent i s within ∙ ap (λ (x : Sent). take i sent ++ x ∷ []) at) ∙ lost_in_both (take i sent) (s ∷ [])))

-- no frame is lost when it is sent
none_at_first : (frames : List Frame) → lost_frames (as_sent frames) ≡ []
none_at_first [] = refl
none_at_first (f ∷ fs) = none_at_first fs

-- an event loses no frame
pub event_loses_none : (old : BookState) (kind : BookKind) (frames : List Frame) (marks : List Mark) (new : BookState) → Adds old kind frames marks new
    → lost_frames new.sent ≡ lost_frames old.sent
event_loses_none old kind frames marks new adds =
    ap (λ (b : BookState). lost_frames b.sent) adds.new_is
    ∙ lost_in_both old.sent (as_sent frames)
    ∙ ap (λ (fs : List Frame). lost_frames old.sent ++ fs) (none_at_first frames)
    ∙ append-nil (lost_frames old.sent)

-- so if none was lost before, unless a flag says so, none is now
pub still_none : (old : BookState) (kind : BookKind) (frames : List Frame) (marks : List Mark) (new : BookState) → Adds old kind frames marks new
    → (may : Bool) → (may ≡ false → lost_frames old.sent ≡ []) → may ≡ false → lost_frames new.sent ≡ []
still_none old kind frames marks new adds may none not = event_loses_none old kind frames marks new adds ∙ none not

-- nor if the book is as before
pub none_as_before : (old new : BookState) → new ≡ old → (may : Bool) → (may ≡ false → lost_frames old.sent ≡ []) → may ≡ false → lost_frames new.sent ≡ []
none_as_before old new same may none not = ap (λ (b : BookState). lost_frames b.sent) same ∙ none not

-- nor after a call that adds an event or is refused
pub still_none_after : {P E : Type 0} (old new : BookState) (kind : BookKind) (answer : Result P E) (frames : P → List Frame) (marks : P → List Mark)
    → IfOk answer (λ p. Adds old kind (frames p) (marks p) new) → OnErr answer (new ≡ old)
    → (may : Bool) → (may ≡ false → lost_frames old.sent ≡ []) → may ≡ false → lost_frames new.sent ≡ []
still_none_after old new kind (Ok p) frames marks adds same may none not = still_none old kind (frames p) (marks p) new adds may none not
still_none_after old new kind (Err e) frames marks adds same may none not = none_as_before old new same may none not

if_ok : {T E : Type 0} (A : Type 0) (r : Result T E) → IsOk r → OnOk r A → A
if_ok A (Ok x) done h = h
if_ok A (Err e) done h = absurd cc

-- a frame that is among the sent ones and not flagged is flagged
pub flagged_by : {T E : Type 0} (old new : BookState) (frame : Frame) (r : Result T E) → IsOk r ↔ IsFirst old.sent frame false
    → OnOk r ((new ≡ record old { sent = new.sent }) × Loses old.sent frame new.sent) → IsFirst old.sent frame false → Loses old.sent frame new.sent
flagged_by old new frame r allowed ok first = (if_ok ((new ≡ record old { sent = new.sent }) × Loses old.sent frame new.sent) r (allowed.1 first) ok).1
