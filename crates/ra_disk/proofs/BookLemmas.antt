-- Each event keeps what holds of the file of a book.
use Rattle.std.proofs.Common.{◌≡◌, ◌≤◌, ℕ, List, [], ◌∷◌, ◌++◌, Result, Ok, Err, OnOk, Some, None, length, take, drop, min, max, refl, sym, ◌∙◌, ap, subst, arith, length-append, take-append-drop, append-nil, append_assoc}
use Rattle.std.proofs.lemmas.List.{take_at, take-take, take_all, take-append-le, length-take}
use Rattle.std.specs.Result.{result_err}
use Rattle.ra_disk.specs.Lines.{lines, whole, IsWhole, IsPrefixOf, AreAmong, AreFirst}
use Rattle.ra_disk.specs.Contents.{Contents, seen, on_disk, settled, appends, cuts, syncs, crashes, MayLeave}
use Rattle.ra_disk.specs.Book.{State, Event, file_of, cuts_torn, opens, step, steps, after, lines_in, given, IsReady, AreOfOpen, AreOfClosed}
use Rattle.ra_disk.specs.Book.State.{Closed, Open}
use Rattle.ra_disk.specs.Book.Event.{Opens, Cuts, Appends, Syncs, Crashes}
use Rattle.ra_disk.proofs.LineLemmas.{lines_of_front, lines_of_whole, whole_is_whole, take_whole, length-whole, lines_of_both, both_whole, whole_reaches, among_longer, among_both, among_front}

-- what holds of a file at every moment
pub record IsSound (f : Contents) : Type 0 where
  pub size : f.size ≤ length f.written
  pub kept : f.kept ≤ f.size
  -- what is on the disk is whole lines
  pub whole : IsWhole (on_disk f)

abbrev pub IsGood : State → Type 0
IsGood (Closed f) = IsSound f
IsGood (Open f) = IsSound f × IsReady f

-- what is on the disk of f is on the disk of g, too
pub record Keeps (f g : Contents) : Type 0 where
  pub more : f.kept ≤ g.kept
  pub same : take f.kept g.written ≡ on_disk f

keeps_itself : (f : Contents) → Keeps f f
keeps_itself f = record { more = omega arith; same = refl }

-- ---- Settled

take_own : (bytes : List ℕ) → take (length bytes) bytes ≡ bytes
take_own bytes = take_all (length bytes) bytes (omega arith)

settled_is_good : (bytes : List ℕ) → IsWhole bytes → IsSound (settled bytes) × IsReady (settled bytes)
settled_is_good bytes is = (
  record { size = omega arith; kept = omega arith; whole = subst IsWhole (sym (take_own bytes)) is },
  record { even = refl; whole = is },
)

pub seen_ready : (f : Contents) → IsReady f → seen f ≡ f.written
seen_ready f r = take_all f.size f.written (omega (arith, r.even))

-- ---- Openings

pub seen_cut : (f : Contents) → seen (cuts_torn f) ≡ whole (seen f)
seen_cut f =
    let short : length (whole (seen f)) ≤ f.size = omega (arith, length-whole (seen f), length-take f.size f.written) in
    sym (take-take (length (whole (seen f))) f.size f.written short) ∙ take_whole (seen f)

reaches : (f : Contents) → IsSound f → f.kept ≤ length (whole (seen f))
reaches f s = whole_reaches f.kept f.size f.written s.kept (omega (arith, s.kept, s.size)) s.whole

cut_kept : (f : Contents) → IsSound f → min (length (whole (seen f))) f.kept ≡ f.kept
cut_kept f s = omega (arith, reaches f s)

cut_is_sound : (f : Contents) → IsSound f → IsSound (cuts_torn f)
cut_is_sound f s =
    let same = cut_kept f s in
    record {
      size = omega (arith, length-whole (seen f), length-take f.size f.written);
      kept = omega (arith, same, reaches f s);
      whole = subst (λ (k : ℕ). IsWhole (take k f.written)) (sym same) s.whole;
    }

cut_keeps : (f : Contents) → IsSound f → Keeps f (cuts_torn f)
cut_keeps f s = record { more = omega (arith, cut_kept f s); same = refl }

pub seen_opened : (f : Contents) → seen (opens f) ≡ whole (seen f)
seen_opened f = take_own (seen (cuts_torn f)) ∙ seen_cut f

synced_is_good : (f : Contents) → IsWhole (seen f) → IsSound (syncs f) × IsReady (syncs f)
synced_is_good f is = settled_is_good (seen f) is

synced_keeps : (f : Contents) → IsSound f → Keeps f (syncs f)
synced_keeps f s = record {
  more = omega (arith, length-take f.size f.written, s.size, s.kept);
  same = take-take f.kept f.size f.written s.kept;
}

keeps_both : (f g h : Contents) → Keeps f g → Keeps g h → Keeps f h
keeps_both f g h a b = record {
  more = omega (arith, a.more, b.more);
  same = sym (take-take f.kept g.kept h.written a.more) ∙ ap (take f.kept) b.same ∙ take-take f.kept g.kept g.written a.more ∙ a.same;
}

opened_is_good : (f : Contents) → IsSound f → IsSound (opens f) × IsReady (opens f)
opened_is_good f s = synced_is_good (cuts_torn f) (subst IsWhole (sym (seen_cut f)) (whole_is_whole (seen f)))

opened_keeps : (f : Contents) → IsSound f → Keeps f (opens f)
opened_keeps f s = keeps_both f (cuts_torn f) (opens f) (cut_keeps f s) (synced_keeps (cuts_torn f) (cut_is_sound f s))

-- ---- Lines that are appended

appended_is_good : (text : List ℕ) (f : Contents) → IsWhole text → IsSound f × IsReady f → IsSound (appends text f) × IsReady (appends text f)
appended_is_good text f is h =
    let long = length-append f.written text in
    let below : f.kept ≤ length f.written = omega (arith, h.0.kept, h.0.size) in (
      record {
        size = omega arith;
        kept = omega (arith, long, below);
        whole = subst IsWhole (sym (take-append-le f.kept f.written text below)) h.0.whole;
      },
      record { even = refl; whole = both_whole f.written text h.1.whole is },
    )

appended_keeps : (text : List ℕ) (f : Contents) → IsSound f → Keeps f (appends text f)
appended_keeps text f s = record { more = omega arith; same = take-append-le f.kept f.written text (omega (arith, s.kept, s.size)) }

-- ---- Crashes

crashed_is_sound : (size : ℕ) (f : Contents) → IsSound f → IsSound (crashes size f)
crashed_is_sound size f s = record { size = omega (arith, s.kept, s.size); kept = omega arith; whole = s.whole }

crashed_keeps : (size : ℕ) (f : Contents) → Keeps f (crashes size f)
crashed_keeps size f = record { more = omega arith; same = refl }

-- ---- Each event

pub step_is_good : (event : Event) (s : State) → IsGood s → IsGood (step event s)
step_is_good Opens (Closed f) h = opened_is_good f h
step_is_good Opens (Open f) h = h
step_is_good Cuts (Closed f) h = cut_is_sound f h
step_is_good Cuts (Open f) h = h
step_is_good (Appends text is) (Closed f) h = h
step_is_good (Appends text is) (Open f) h = appended_is_good text f is h
step_is_good Syncs (Closed f) h = h
step_is_good Syncs (Open f) h = synced_is_good f (subst IsWhole (sym (seen_ready f h.1)) h.1.whole)
step_is_good (Crashes size) (Closed f) h = crashed_is_sound size f h
step_is_good (Crashes size) (Open f) h = crashed_is_sound size f h.0

pub after_is_good : (events : List Event) → IsGood (after events)
after_is_good [] = (settled_is_good [] refl).0
after_is_good (event ∷ earlier) = step_is_good event (after earlier) (after_is_good earlier)

sound_of : (s : State) → IsGood s → IsSound (file_of s)
sound_of (Closed f) h = h
sound_of (Open f) h = h.0

step_keeps : (event : Event) (s : State) → IsGood s → Keeps (file_of s) (file_of (step event s))
step_keeps Opens (Closed f) h = opened_keeps f h
step_keeps Opens (Open f) h = keeps_itself f
step_keeps Cuts (Closed f) h = cut_keeps f h
step_keeps Cuts (Open f) h = keeps_itself f
step_keeps (Appends text is) (Closed f) h = keeps_itself f
step_keeps (Appends text is) (Open f) h = appended_keeps text f h.0
step_keeps Syncs (Closed f) h = keeps_itself f
step_keeps Syncs (Open f) h = synced_keeps f h.0
step_keeps (Crashes size) (Closed f) h = crashed_keeps size f
step_keeps (Crashes size) (Open f) h = crashed_keeps size f

later_keeps : (later earlier : List Event) → Keeps (file_of (after earlier)) (file_of (after (later ++ earlier)))
later_keeps [] earlier = keeps_itself (file_of (after earlier))
later_keeps (event ∷ later) earlier =
    keeps_both (file_of (after earlier)) (file_of (after (later ++ earlier))) (file_of (after (event ∷ later ++ earlier)))
    (later_keeps later earlier) (step_keeps event (after (later ++ earlier)) (after_is_good (later ++ earlier)))

front_within : (k n : ℕ) (bytes : List ℕ) → k ≤ n → IsPrefixOf (take k bytes) (take n bytes)
front_within k n bytes le = (drop k (take n bytes), ap (λ (xs : List ℕ). xs ++ drop k (take n bytes)) (sym (take-take k n bytes le)) ∙ take-append-drop k (take n bytes))

pub stays : (earlier later : List Event) → IsPrefixOf (on_disk (file_of (after earlier))) (seen (file_of (after (later ++ earlier))))
stays earlier later =
    let f = file_of (after earlier) in
    let g = file_of (after (later ++ earlier)) in
    let keeps = later_keeps later earlier in
    let sound = sound_of (after (later ++ earlier)) (after_is_good (later ++ earlier)) in
    subst (λ (xs : List ℕ). IsPrefixOf xs (seen g)) keeps.same (front_within f.kept g.size g.written (omega (arith, keeps.more, sound.kept)))

-- ---- What an open book has

abbrev given_to : State → List (List ℕ) → Type 0
given_to s all = AreAmong (lines (file_of s).written) all

front_given : (n : ℕ) (bytes : List ℕ) (all : List (List ℕ)) → AreAmong (lines bytes) all → AreAmong (lines (take n bytes)) all
front_given n bytes all h =
    let front = lines_of_front n bytes in
    among_front (lines (take n bytes)) front.0 all (subst (λ (ls : List (List ℕ)). AreAmong ls all) front.1 h)

step_given : (event : Event) (s : State) (all : List (List ℕ)) → IsGood s → given_to s all → given_to (step event s) (all ++ lines_in event)
step_given Opens (Closed f) all g h = among_longer _ all [] (front_given (length (whole (seen f))) f.written all h)
step_given Opens (Open f) all g h = among_longer _ all [] h
step_given Cuts (Closed f) all g h = among_longer _ all [] h
step_given Cuts (Open f) all g h = among_longer _ all [] h
step_given (Appends text is) (Closed f) all g h = among_longer _ all (lines text) h
step_given (Appends text is) (Open f) all g h =
    subst (λ (ls : List (List ℕ)). AreAmong ls (all ++ lines text)) (sym (lines_of_both f.written text g.1.whole)) (among_both (lines f.written) all (lines text) h)
step_given Syncs (Closed f) all g h = among_longer _ all [] h
step_given Syncs (Open f) all g h = among_longer _ all [] (front_given f.size f.written all h)
step_given (Crashes size) (Closed f) all g h = among_longer _ all [] h
step_given (Crashes size) (Open f) all g h = among_longer _ all [] h

after_given : (events : List Event) → given_to (after events) (given events)
after_given [] = tt
after_given (event ∷ earlier) = step_given event (after earlier) (given earlier) (after_is_good earlier) (after_given earlier)

-- ---- The laws, of an open book

pub open_is_good : (events : List Event) (f : Contents) → after events ≡ Open f → IsSound f × IsReady f
open_is_good events f is = subst IsGood is (after_is_good events)

pub open_is_whole : (events : List Event) (f : Contents) → after events ≡ Open f → IsWhole (seen f)
open_is_whole events f is =
    let ready = (open_is_good events f is).1 in
    subst IsWhole (sym (seen_ready f ready)) ready.whole

pub open_was_given : (events : List Event) (f : Contents) → after events ≡ Open f → AreAmong (lines (seen f)) (given events)
open_was_given events f is = front_given f.size f.written (given events) (subst (λ (s : State). given_to s (given events)) is (after_given events))

pub all_synced : (events : List Event) (f : Contents) → after events ≡ Open f → on_disk (file_of (after (Syncs ∷ events))) ≡ seen f
all_synced events f is = ap (λ (s : State). on_disk (file_of (step Syncs s))) is ∙ take_own (seen f)

pub keeps_given : (events later : List Event) (before : Contents) → after events ≡ Open before → AreOfOpen later → (now : Contents) × (after (later ++ events) ≡ Open now) × (lines (seen now) ≡ lines (seen before) ++ given later)
keeps_given events [] before is h = (before, is, sym (append-nil (lines (seen before))))
keeps_given events (Opens ∷ later) before is h = absurd h
keeps_given events (Cuts ∷ later) before is h = absurd h
keeps_given events (Appends text are ∷ later) before is h =
    let s = keeps_given events later before is h in
    let f = s.0 in
    let ready = (open_is_good (later ++ events) f s.1).1 in (
      appends text f,
      ap (step (Appends text are)) s.1,
      ap lines (take_own (f.written ++ text))
          ∙ lines_of_both f.written text ready.whole
          ∙ ap (λ (ls : List (List ℕ)). ls ++ lines text) (ap lines (sym (seen_ready f ready)) ∙ s.2)
          ∙ append_assoc (lines (seen before)) (given later) (lines text),
    )
keeps_given events (Syncs ∷ later) before is h =
    let s = keeps_given events later before is h in (
      syncs s.0,
      ap (step Syncs) s.1,
      ap lines (take_own (seen s.0)) ∙ s.2 ∙ ap (λ (ls : List (List ℕ)). lines (seen before) ++ ls) (sym (append-nil (given later))),
    )
keeps_given events (Crashes size ∷ later) before is h = absurd h

pub opened_whole : (events : List Event) (f : Contents) → after events ≡ Closed f
    → (seen (file_of (after (Opens ∷ events))) ≡ whole (seen f)) × (on_disk (file_of (after (Opens ∷ events))) ≡ whole (seen f))
opened_whole events f is = (
  ap (λ (s : State). seen (file_of (step Opens s))) is ∙ seen_opened f,
  ap (λ (s : State). on_disk (file_of (step Opens s))) is ∙ seen_opened f,
)

-- ---- An open file

some_is_none : {X : Type 0} (x : X) → Some x ≡ None → ⊥
some_is_none x e = cc

pub ready_after_append : {E : Type 0} (old new : Contents) (text : List ℕ) (r : Result (Unit {0}) E) → IsReady old → IsWhole text → OnOk r (new ≡ appends text old) → result_err r ≡ None → IsReady new
ready_after_append old new text (Ok x) ready is ok none =
    subst IsReady (sym ok) (record { even = refl; whole = both_whole old.written text ready.whole is })
ready_after_append old new text (Err e) ready is ok none = absurd (some_is_none e none)

pub opened_is_ready : (f : Contents) → IsReady (opens f)
opened_is_ready f = (synced_is_good (cuts_torn f) (subst IsWhole (sym (seen_cut f)) (whole_is_whole (seen f)))).1

-- as the file is opened: it has this text, and is cut to this many bytes
pub within_file : (f : Contents) (text : List ℕ) (len : ℕ) → text ≡ seen f → len ≡ length (whole text) → len ≤ f.size
within_file f text len is same = omega (arith, same, length-whole text, ap length is, length-take f.size f.written)

pub cut_text : (f : Contents) (text : List ℕ) (len : ℕ) → text ≡ seen f → len ≡ length (whole text) → take len text ≡ whole (seen f)
cut_text f text len is same = ap (λ (n : ℕ). take n text) same ∙ take_whole text ∙ ap whole is

pub opened_is : (f g h k : Contents) (text : List ℕ) (len : ℕ) → g ≡ f → text ≡ seen f → len ≡ length (whole text) → h ≡ cuts len g → k ≡ syncs h → k ≡ opens f
opened_is f g h k text len read is same cut sync =
    sync ∙ ap syncs (cut ∙ ap (cuts len) read ∙ ap (λ (n : ℕ). cuts n f) (same ∙ ap length (ap whole is)))

-- ---- A comeback

opens_seen : (f : Contents) → opens f ≡ settled (whole (seen f))
opens_seen f = ap settled (seen_cut f)

pub opens_alone : (one other : Contents) → seen one ≡ seen other → opens one ≡ opens other
opens_alone one other same = opens_seen one ∙ ap (λ (xs : List ℕ). settled (whole xs)) same ∙ sym (opens_seen other)

-- while nobody has it open, what was written stays
record StillHas (f : Contents) (s : State) : Type 0 where
  pub file : Contents
  pub is : s ≡ Closed file
  pub written : file.written ≡ f.written
  pub kept : f.kept ≤ file.size

still_kept : (events later : List Event) (size : ℕ) (f : Contents) → after events ≡ Open f → f.kept ≤ (file_of (after (later ++ Crashes size ∷ events))).kept
still_kept events later size f is =
    subst (λ (s : State). (file_of s).kept ≤ (file_of (after (later ++ Crashes size ∷ events))).kept) is
    (keeps_both (file_of (after events)) (file_of (after (Crashes size ∷ events))) (file_of (after (later ++ Crashes size ∷ events)))
    (step_keeps (Crashes size) (after events) (after_is_good events)) (later_keeps later (Crashes size ∷ events))).more

kept_on : (events later : List Event) (size : ℕ) (f : Contents) → after events ≡ Open f → (s : StillHas f (after (later ++ Crashes size ∷ events))) → f.kept ≤ s.file.kept
kept_on events later size f is s = subst (λ (x : State). f.kept ≤ (file_of x).kept) s.is (still_kept events later size f is)

closed_has : (events later : List Event) (size : ℕ) (f : Contents) → after events ≡ Open f → AreOfClosed later → StillHas f (after (later ++ Crashes size ∷ events))
closed_has events [] size f is h = record {
  file = crashes size f;
  is = ap (step (Crashes size)) is;
  written = refl;
  kept = omega arith;
}
closed_has events (Opens ∷ later) size f is h = absurd h
closed_has events (Cuts ∷ later) size f is h =
    let s = closed_has events later size f is h in
    let sound = subst IsGood s.is (after_is_good (later ++ Crashes size ∷ events)) in
    let kept = kept_on events later size f is s in
    record {
      file = cuts_torn s.file;
      is = ap (step Cuts) s.is;
      written = s.written;
      kept = omega (arith, kept, reaches s.file sound);
    }
closed_has events (Appends text whole ∷ later) size f is h = absurd h
closed_has events (Syncs ∷ later) size f is h = absurd h
closed_has events (Crashes n ∷ later) size f is h =
    let s = closed_has events later size f is h in
    let kept = kept_on events later size f is s in
    record {
      file = crashes n s.file;
      is = ap (step (Crashes n)) s.is;
      written = s.written;
      kept = omega (arith, kept);
    }

first_of_front : (k n : ℕ) (text : List ℕ) → k ≤ n → AreFirst (lines (take k text)) (lines (take n text))
first_of_front k n text le =
    let front = lines_of_front k (take n text) in
    (front.0, ap (λ (xs : List ℕ). lines xs ++ front.0) (sym (take-take k n text le)) ∙ sym front.1)

open_file : (s t : Contents) → Open s ≡ Open t → s ≡ t
open_file s t e = ap file_of e

pub comes_back : (events later : List Event) (size : ℕ) (before now : Contents) → after events ≡ Open before → AreOfClosed later
    → after (Opens ∷ later ++ Crashes size ∷ events) ≡ Open now
    → AreFirst (lines (on_disk before)) (lines (seen now)) × AreFirst (lines (seen now)) (lines (seen before))
comes_back events later size before now is closed opened =
    let s = closed_has events later size before is closed in
    let found = take s.file.size before.written in
    let now_is : now ≡ opens s.file = sym (open_file (opens s.file) now (sym (ap (step Opens) s.is) ∙ opened)) in
    let seen_now : lines (seen now) ≡ lines found =
    ap (λ (f : Contents). lines (seen f)) now_is ∙ ap lines (seen_opened s.file) ∙ lines_of_whole (seen s.file)
    ∙ ap (λ (xs : List ℕ). lines (take s.file.size xs)) s.written in
    let ready = (open_is_good events before is).1 in
    let all = lines_of_front s.file.size before.written in (
      subst (AreFirst (lines (on_disk before))) (sym seen_now) (first_of_front before.kept s.file.size before.written s.kept),
      subst (λ (ls : List (List ℕ)). AreFirst ls (lines (seen before))) (sym seen_now)
          (all.0, sym all.1 ∙ ap lines (sym (seen_ready before ready))),
    )

-- ---- What a crash leaves

pub leaves_front : (f : Contents) (bytes : List ℕ) → MayLeave f bytes → IsPrefixOf (on_disk f) bytes × IsPrefixOf bytes f.written
leaves_front f bytes left =
    let g = crashes left.0 f in (
      subst (IsPrefixOf (on_disk f)) (sym left.1) (front_within f.kept g.size f.written (omega arith)),
      subst (λ (xs : List ℕ). IsPrefixOf xs f.written) (sym left.1) (drop g.size f.written, take-append-drop g.size f.written),
    )

pub leaves_each : (f : Contents) (bytes : List ℕ) → f.kept ≤ length f.written → IsPrefixOf (on_disk f) bytes → IsPrefixOf bytes f.written → MayLeave f bytes
leaves_each f bytes short disk front =
    let long : f.kept ≤ length bytes = omega (arith, ap length disk.1, length-append (on_disk f) disk.0, length-take f.kept f.written, short) in
    let within : length bytes ≤ length f.written = omega (arith, ap length front.1, length-append bytes front.0) in
    let size_is = max_is f.kept (length bytes) (length f.written) long within in (
      length bytes,
      sym (ap (λ (n : ℕ). take n f.written) size_is ∙ ap (take (length bytes)) (sym front.1) ∙ take_at bytes front.0 (length bytes) refl),
    )
  where
    max_is : (k n w : ℕ) → k ≤ n → n ≤ w → max k (min n w) ≡ n
    max_is k n w le le' = omega (arith, le, le')

pub goes_on : (earlier later : List Event) → steps later (after earlier) ≡ after (later ++ earlier)
goes_on earlier [] = refl
goes_on earlier (event ∷ later) = ap (step event) (goes_on earlier later)
