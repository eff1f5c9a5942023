-- The events of a book that is read from its front.
use Rattle.std.proofs.Common.{◌≡◌, ℕ, ◌+◌, ◌-◌, ◌≤◌, List, [], ◌∷◌, ◌++◌, length, drop, take, None, refl, sym, ap, ◌∙◌, subst, arith, append_assoc, append-nil, length-append, length-drop, Result, Ok, Err, false}
use Rattle.std.specs.Prelude.{OnOk}
use Rattle.std.specs.Result.{is_err}
use Rattle.std.proofs.lemmas.Bool.{false≢true}
use Rattle.std.proofs.Math.ListN.{drop_of_length-le}
use Rattle.std.proofs.Math.Seq.{drop-append-add}
use Rattle.std.proofs.lemmas.List.{drop-drop, take_all}
use Rattle.ra_frame.specs.declared.frame.Frame.{Frame}
use Rattle.ra_trace.specs.Forms.{cut}
use Rattle.ra_trace.proofs.Cuts.{cut-only}
use Rattle.ra_book.specs.declared.book.event.BookKind.{BookKind}
use Rattle.ra_book.specs.Book.{BookState, with_event}
use Rattle.ra_host.specs.Running.{HasTaken}
use Rattle.ra_serve.specs.Events.{AreEvents, BeginsWith, HasMore}

-- the last of the events that a book has more
pub record LastMore (old : BookState) (kinds : List BookKind) (kind : BookKind) (new : BookState) : Type 0 where
  pub book : BookState
  pub clock : ℕ
  pub frames : List Frame
  pub before : HasMore old kinds book
  pub is : new ≡ with_event book clock kind frames

pub last_more : (old : BookState) (kinds : List BookKind) (kind : BookKind) (new : BookState) → HasMore old (kinds ++ kind ∷ []) new → LastMore old kinds kind new
last_more old [] kind new more = record { book = old; clock = more.0; frames = more.1; before = refl; is = more.2 }
last_more old (k ∷ kinds) kind new more =
    let l = last_more (with_event old more.0 k more.1) kinds kind new more.2 in
    record { book = l.book; clock = l.clock; frames = l.frames; before = (more.0, more.1, l.before); is = l.is }

-- what is read so far, and what is left
abbrev pub IsReadTo : List ℕ → ℕ → List BookKind → Type 0
IsReadTo text place done =
    (left : List BookKind) → AreEvents (drop place text) left → AreEvents text (done ++ left)

pub read_on : (text : List ℕ) (place : ℕ) (done : List BookKind) (kind : BookKind) (len : ℕ) → IsReadTo text place done → BeginsWith (drop place text) kind len → IsReadTo text (place + len) (done ++ kind ∷ [])
read_on text place done kind len read begins left are =
    let rest_is : begins.rest ≡ drop (place + len) text =
    sym (drop-append-add begins.line (10 ∷ begins.rest) 1)
    ∙ ap (drop (length begins.line + 1)) (sym (cut-only 10 (drop place text) (begins.line, begins.rest) begins.cut_is))
    ∙ drop-drop (length begins.line + 1) place text
    ∙ ap (λ (n : ℕ). drop (place + n) text) (sym begins.len_is) in
    let rest : AreEvents begins.rest left = subst (λ t. AreEvents t left) (sym rest_is) are in
    subst (AreEvents text) (sym (append_assoc done (kind ∷ []) left))
    (read (kind ∷ left) (begins.line, begins.rest, begins.cut_is, begins.is_event, rest))

-- the events up to this place are read and counted, and each turn took a byte or more
pub record Counting (events : List ℕ) (place turn nodes : ℕ) (counts : List ℕ) : Type 0 where
  pub within : place ≤ length events
  pub far : turn ≤ place
  pub done : List BookKind
  pub read : IsReadTo events place done
  pub counted : (old book : BookState) → old.nodes ≡ nodes → old.events ≡ [] → HasMore old done book → HasTaken book counts

-- what is left from a place on
pub rest_of : (text : List ℕ) (place : ℕ) → take (length text - place) (drop place text) ≡ drop place text
rest_of text place = take_all (length text - place) (drop place text) (omega (arith, length-drop place text))

-- the line of an event is within the text, and has a byte or more
pub ends_within : (text : List ℕ) (place : ℕ) (kind : BookKind) (len : ℕ) → place ≤ length text → BeginsWith (drop place text) kind len → place + len ≤ length text
ends_within text place kind len within begins =
    let cut_is : drop place text ≡ begins.line ++ 10 ∷ begins.rest = cut-only 10 (drop place text) (begins.line, begins.rest) begins.cut_is in
    let long : length (drop place text) ≡ length begins.line + length (10 ∷ begins.rest) = ap length cut_is ∙ length-append begins.line (10 ∷ begins.rest) in
    let left : length (drop place text) ≡ length text - place = length-drop place text in
    omega (arith, within, long, left, begins.len_is)

pub takes_some : (text : List ℕ) (kind : BookKind) (len : ℕ) → BeginsWith text kind len → 1 ≤ len
takes_some text kind len begins = omega (arith, begins.len_is)

pub when_ok : {T E : Type 0} (r : Result T E) (P : Type 0) → is_err r ≡ false → OnOk r P → P
when_ok (Ok x) P ok h = h
when_ok (Err e) P ok h = absurd (false≢true (sym ok))

-- one more event is read and counted
pub counts_on : (events : List ℕ) (place turn nodes : ℕ) (counts new : List ℕ) (kind : BookKind) (len : ℕ) → Counting events place turn nodes counts
    → BeginsWith (drop place events) kind len → ((book : BookState) (clock : ℕ) (frames : List Frame) → HasTaken book counts → HasTaken (with_event book clock kind frames) new)
    → Counting events (place + len) (turn + 1) nodes new
counts_on events place turn nodes counts new kind len inv begins adds =
    record {
      within = ends_within events place kind len inv.within begins;
      far = (let some = takes_some (drop place events) kind len begins in let far = inv.far in omega (arith, some, far));
      done = inv.done ++ kind ∷ [];
      read = read_on events place inv.done kind len inv.read begins;
      counted = λ old book same none more.
          let l = last_more old inv.done kind book more in
          subst (λ (b : BookState). HasTaken b new) (sym l.is) (adds l.book l.clock l.frames (inv.counted old l.book same none l.before));
    }

-- all events are read
pub all_read : (events : List ℕ) (place turn nodes : ℕ) (counts : List ℕ) (inv : Counting events place turn nodes counts) → cut 10 (drop place events) ≡ None → AreEvents events inv.done
all_read events place turn nodes counts inv none = subst (AreEvents events) (append-nil inv.done) (inv.read [] none)

pub at_end : (events : List ℕ) (place : ℕ) → length events ≤ place → cut 10 (drop place events) ≡ None
at_end events place past = ap (cut 10) (drop_of_length-le events past)
