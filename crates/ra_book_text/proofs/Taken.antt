-- An event that a book takes.
use Rattle.std.proofs.Common.{◌≡◌, List, ℕ, Result, Ok, Err, refl, sym, subst}
use Rattle.std.specs.Prelude.{IfOk, IsErrAnd}
use Rattle.ra_frame.specs.declared.frame.Frame.{Frame}
use Rattle.ra_frame.specs.FrameText.{IsFrameText}
use Rattle.ra_book.specs.declared.error.BookError.{BookError}
use Rattle.ra_book.specs.declared.book.event.BookKind.{BookKind}
use Rattle.ra_book.specs.declared.book.event.BookKind.TheVariants.{Receive}
use Rattle.ra_book.specs.declared.book.event_effect.Posted.{Posted}
use Rattle.ra_automaton.specs.State.{IsForNode}
use Rattle.ra_book.specs.Book.{BookState, Adds, HasClock, HasHistory, ReadsFrame}
use Rattle.ra_book_text.specs.Gathering.{Comes, HasTaken}
use Rattle.ra_book_text.specs.Texts.{CanTake}

-- the frame that a book can read is the one that was written
pub can_read : (old : BookState) (frame : Frame) (bytes : List ℕ) → ((bytes : List ℕ) (a b : Frame) → IsFrameText bytes a → IsFrameText bytes b → a ≡ b)
    → IsFrameText bytes frame → ReadsFrame old bytes (λ f. IsForNode old.me old.nodes f.message × HasClock old (Receive f)) → CanTake old (Receive frame)
can_read old frame bytes one text h =
    let same : h.frame ≡ frame = one bytes h.frame frame h.text text in
    (h.no_fault, subst (λ (f : Frame). IsForNode old.me old.nodes f.message) same h.holds.0, subst (λ (f : Frame). HasClock old (Receive f)) same h.holds.1)

-- the frame that a book reads is the one that was written
pub received : (old new : BookState) (frame : Frame) (bytes : List ℕ) (r : Result Posted BookError)
    → ((bytes : List ℕ) (a b : Frame) → IsFrameText bytes a → IsFrameText bytes b → a ≡ b) → IsFrameText bytes frame
    → IfOk r (λ posted. (came : Frame) × IsFrameText bytes came × Adds old (Receive came) posted.frames.items posted.marks.items new)
    → HasHistory new → ((why : BookError) → r ≡ Err why → ⊥) → HasTaken old (Receive frame) new
received old new frame bytes (Err why) one text ok history not_err = absurd (not_err why refl)
received old new frame bytes (Ok posted) one text (came, came_text, adds) history not_err =
    subst (λ (f : Frame). HasTaken old (Receive f) new) (one bytes came frame came_text text) (_, _, adds.new_is, history)

-- a refusal that is passed on
pub refused_by : (old : BookState) (kind : BookKind) (new : BookState) (why : BookError) → Comes old kind new (Err why) → (r : Result (Unit {0}) BookError)
    → IsErrAnd r (λ x. x ≡ why) → Comes old kind new r
refused_by old kind new why h (Ok done) is = absurd is
refused_by old kind new why h (Err x) is = subst (λ (e : BookError). Comes old kind new (Err e)) (sym is) h
