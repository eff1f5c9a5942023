-- The first of the sent frames that is equal to one.
use Rattle.std.proofs.Common.{◌≡◌, ◌≢◌, ◌<◌, ℕ, zero, suc, Bool, true, false, List, [], ◌∷◌, ◌++◌, length, get_or, set, take, drop, map, All, Result, Ok, Err, refl, sym, ap, ◌∙◌, subst, arith, Vec, length-append, length-set}
use Rattle.std.specs.Prelude.{OnOk, OnErr}
use Rattle.std.specs.Vec.{with_items}
use Rattle.std.proofs.Math.Seq.{get_or-append_seam, map-set_same}
use Rattle.std.proofs.lemmas.List.{get_or-take, get_or_default, length-map, length-take-le, take-set, drop-set-lt, get_or-set_same, with_items_is}
use Rattle.ra_stamp.proofs.Places.{split_at}
use Rattle.ra_frame.specs.declared.frame.Frame.{Frame}
use Rattle.ra_book.specs.declared.error.MarkLostError.{MarkLostError}
use Rattle.ra_book.specs.declared.error.MarkLostError.TheVariants.{NotSent, AlreadyLost}
use Rattle.ra_book.specs.declared.book.sent.Sent.{Sent}
use Rattle.ra_book.specs.Book.{BookState, IsFirst, Loses}
use Rattle.ra_book.specs.Keeping.{IsFlagged}

-- if the frame is first
is_first : (xs : List Sent) (place : ℕ) (x : Sent) (frame : Frame) (lost : Bool) → place < length xs → x ≡ get_or xs place x
    → ((d : Sent) → (get_or xs place d).frame ≡ frame) → ((k : ℕ) (d : Sent) → k < place → (get_or xs k d).frame ≢ frame) → x.lost ≡ lost
    → IsFirst xs frame lost
is_first xs place x frame lost lt at found before flag =
    let frame_is : x.frame ≡ frame = ap (λ (s : Sent). s.frame) at ∙ found x in
    let s : Sent = record { frame = frame; lost = lost } in
    let is : x ≡ s = λ i. record { frame = frame_is i; lost = flag i } in
    record {
      prefix = take place xs;
      suffix = drop (suc place) xs;
      sent_is = split_at xs place s lt (get_or_default xs place s x lt ∙ sym at ∙ is);
      first = λ k d low e.
          let under : k < place = omega (arith, low, length-take-le place xs (omega (arith, lt))) in
          before k d under (ap (λ (s : Sent). s.frame) (sym (get_or-take place xs k d under)) ∙ e);
    }

-- two frames that are first are one
same_first : (prefix suffix : List Sent) (s : Sent) (place : ℕ) (x : Sent) (frame : Frame) → s.frame ≡ frame → All (λ (t : Sent). t.frame ≢ frame) prefix
    → x ≡ get_or (prefix ++ s ∷ suffix) place x → x.frame ≡ frame
    → ((k : ℕ) (d : Sent) → k < place → (get_or (prefix ++ s ∷ suffix) k d).frame ≢ frame) → x ≡ s
same_first [] suffix s zero x frame is others at found before = at
same_first [] suffix s (suc place) x frame is others at found before = absurd (before 0 s (omega arith) is)
same_first (f ∷ fs) suffix s zero x frame is others at found before = absurd (others 0 f (omega arith) (ap (λ (t : Sent). t.frame) (sym at) ∙ found))
same_first (f ∷ fs) suffix s (suc place) x frame is others at found before =
    same_first fs suffix s place x frame is (λ k d low. others (suc k) d (omega (arith, low))) at found (λ k d low. before (suc k) d (omega (arith, low)))

-- so it has one flag
flag_is : (xs : List Sent) (place : ℕ) (x : Sent) (frame : Frame) (lost : Bool) → x ≡ get_or xs place x
    → ((d : Sent) → (get_or xs place d).frame ≡ frame) → ((k : ℕ) (d : Sent) → k < place → (get_or xs k d).frame ≢ frame)
    → IsFirst xs frame lost → x.lost ≡ lost
flag_is xs place x frame lost at found before first =
    let s : Sent = record { frame = frame; lost = lost } in
    let frame_is : x.frame ≡ frame = ap (λ (t : Sent). t.frame) at ∙ found x in
    ap (λ (t : Sent). t.lost) (same_first first.prefix first.suffix s place x frame refl first.first
    (subst (λ (ys : List Sent). x ≡ get_or ys place x) first.sent_is at) frame_is
    (subst (λ (ys : List Sent). (k : ℕ) (d : Sent) → k < place → (get_or ys k d).frame ≢ frame) first.sent_is before))

-- a frame that is not among them is not first
none_first : (xs : List Sent) (frame : Frame) (lost : Bool) → All (λ (t : Sent). t.frame ≢ frame) xs → IsFirst xs frame lost → ⊥
none_first xs frame lost none first =
    let s : Sent = record { frame = frame; lost = lost } in
    let at = get_or-append_seam first.prefix s first.suffix s in
    let all : All (λ (t : Sent). t.frame ≢ frame) (first.prefix ++ s ∷ first.suffix) = subst (λ (ys : List Sent). All (λ (t : Sent). t.frame ≢ frame) ys) first.sent_is none in
    all (length first.prefix) s (omega (arith, length-append first.prefix (s ∷ first.suffix))) (ap (λ (t : Sent). t.frame) at)

-- its flag is set
loses : (xs : List Sent) (place : ℕ) (x : Sent) (frame : Frame) → place < length xs → x ≡ get_or xs place x
    → ((d : Sent) → (get_or xs place d).frame ≡ frame) → ((k : ℕ) (d : Sent) → k < place → (get_or xs k d).frame ≢ frame) → x.lost ≡ false
    → Loses xs frame (set xs place (record { frame = x.frame; lost = true }))
unfolding is_first
loses xs place x frame lt at found before flag =
    let frame_is : x.frame ≡ frame = ap (λ (t : Sent). t.frame) at ∙ found x in
    let s : Sent = record { frame = x.frame; lost = true } in
    let here = split_at (set xs place s) place s (omega (arith, length-set xs place s, lt)) (get_or-set_same xs place s s lt) in
    record {
      was = is_first xs place x frame false lt at found before flag;
      new_is = here ∙ (λ i. take-set xs place s i ++ record { frame = frame_is i; lost = true } ∷ drop-set-lt (suc place) xs place s (omega arith) i);
    }

-- the frames are the same
same_frames : (xs : List Sent) (place : ℕ) (x : Sent) → x ≡ get_or xs place x
    → map (λ (t : Sent). t.frame) (set xs place (record { frame = x.frame; lost = true })) ≡ map (λ (t : Sent). t.frame) xs
same_frames xs place x at = map-set_same (λ (t : Sent). t.frame) xs place (record { frame = x.frame; lost = true }) x (ap (λ (t : Sent). t.frame) at)

not_both : {b : Bool} → b ≡ true → b ≡ false → ⊥
not_both is not = absurd (cc)

-- ---- The outcome of flagging it

pub flags_none : (xs : List Sent) (frame : Frame) → All (λ (t : Sent). t.frame ≢ frame) xs → IsFlagged xs frame xs (Err NotSent)
flags_none xs frame none = record {
  ok = tt;
  not_sent = (λ _. none, λ _. refl);
  already_lost = (λ is. absurd (cc), λ first. absurd (none_first xs frame true none first));
  allowed = (λ is. absurd (cc), λ first. absurd (none_first xs frame false none first));
  err = refl;
  frames = refl;
}

module _ (xs : List Sent) (place : ℕ) (x : Sent) (frame : Frame) (lt : place < length xs) (at : x ≡ get_or xs place x)
    (found : (d : Sent) → (get_or xs place d).frame ≡ frame)
    (before : (k : ℕ) (d : Sent) → k < place → (get_or xs k d).frame ≢ frame)
  where
    there : All (λ (t : Sent). t.frame ≢ frame) xs → ⊥
    there none = none place x lt (found x)

    -- another read of the place has the same flag
    same_flag : {lost : Bool} (d : Sent) → (get_or xs place d).lost ≡ lost → x.lost ≡ lost
    same_flag d is = ap (λ (t : Sent). t.lost) (at ∙ get_or_default xs place x d lt) ∙ is

    pub flags_none_again : (d : Sent) → (get_or xs place d).lost ≡ true → IsFlagged xs frame xs (Err AlreadyLost)
    flags_none_again d is =
        let lost = same_flag d is in
        record {
          ok = tt;
          not_sent = (λ e. absurd (cc), λ none. absurd (there none));
          already_lost = (λ _. is_first xs place x frame true lt at found before lost, λ _. refl);
          allowed = (λ e. absurd (cc), λ first. absurd (not_both lost (flag_is xs place x frame false at found before first)));
          err = refl;
          frames = refl;
        }

    pub flags_it : (d : Sent) → (get_or xs place d).lost ≡ false
        → IsFlagged xs frame (set xs place (record { frame = (get_or xs place x).frame; lost = true })) (Ok tt)
    flags_it d is =
        let kept = same_flag d is in
        subst (λ (f : Frame). IsFlagged xs frame (set xs place (record { frame = f; lost = true })) (Ok tt)) (ap (λ (t : Sent). t.frame) at)
        (record {
          ok = loses xs place x frame lt at found before kept;
          not_sent = (λ e. absurd (cc), λ none. absurd (there none));
          already_lost = (λ e. absurd (cc), λ first. absurd (not_both (flag_is xs place x frame true at found before first) kept));
          allowed = (λ _. is_first xs place x frame false lt at found before kept, λ _. refl);
          err = tt;
          frames = same_frames xs place x at;
        })

-- ---- In a book

-- there are as many as before
as_many : (old : List Sent) (frame : Frame) (new : List Sent) (r : Result (Unit {0}) MarkLostError) → IsFlagged old frame new r → length new ≡ length old
as_many old frame new r flags =
    sym (length-map new (λ (t : Sent). t.frame)) ∙ ap length flags.frames ∙ length-map old (λ (t : Sent). t.frame)

-- the frames of a book are lent, and are in it again once one of them is flagged
module _ {A : Type 0} (now book : BookState) (is : book ≡ now) (frame : Frame) (sent : Vec Sent A) (lent flagged : List Sent) (r : Result (Unit {0}) MarkLostError)
    (lent_is : lent ≡ book.sent) (many : length lent ≡ sent.len) (flags : IsFlagged lent frame flagged r)
  where
    after : List Sent
    after = (with_items sent flagged).items

    after_is : after ≡ flagged
    unfolding after
    after_is = with_items_is sent flagged (as_many lent frame flagged r flags ∙ many)

    pub flags_book : IsFlagged book.sent frame (with_items sent flagged).items r
    unfolding after
    flags_book =
        subst (λ (xs : List Sent). IsFlagged xs frame after r) lent_is (subst (λ (ys : List Sent). IsFlagged lent frame ys r) (sym after_is) flags)

    pub flags_now : IsFlagged now.sent frame (with_items sent flagged).items r
    flags_now = subst (λ (b : BookState). IsFlagged b.sent frame (with_items sent flagged).items r) is flags_book

pub marked_ok : (now book : BookState) (is : book ≡ now) (frame : Frame) (sent : List Sent) (r : Result (Unit {0}) MarkLostError) → IsFlagged now.sent frame sent r
    → OnOk r ((record book { sent = sent } ≡ record now { sent = sent }) × Loses now.sent frame sent)
marked_ok now book is frame sent (Ok v) flags = ((λ i. record (is i) { sent = sent }), flags.ok)
marked_ok now book is frame sent (Err e) flags = tt

pub marked_err : (now book : BookState) (is : book ≡ now) (frame : Frame) (sent : List Sent) (r : Result (Unit {0}) MarkLostError) → IsFlagged now.sent frame sent r
    → OnErr r (record book { sent = sent } ≡ now)
marked_err now book is frame sent (Ok v) flags = tt
marked_err now book is frame sent (Err e) flags = λ i. record (is i) { sent = flags.err i }
