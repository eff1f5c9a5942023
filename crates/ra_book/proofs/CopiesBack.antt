-- Steps with copies, made from the last event on.
use Rattle.std.proofs.Common.{◌≡◌, ℕ, ◌+◌, ◌-◌, ◌<◌, ◌≤◌, List, [], ◌∷◌, ◌++◌, map, length, drop, get_or, reverse, true, false, BTreeSet, sym, ap, ◌∙◌, subst, refl, arith, inl, inr}
use Rattle.std.specs.Prelude.{All, Contains}
use Rattle.std.specs.BTreeSet as sorted
use Rattle.std.proofs.lemmas.List.{reverse-append, drop_all, drop_more}
use Rattle.std.proofs.lemmas.List.Elements.{All-nil, All-cons, Contains-push, Contains-push_cases, Contains-append_left}
use Rattle.ra_frame.specs.declared.frame.Frame.{Frame}
use Rattle.ra_world.specs.declared.step.Step.{Step}
use Rattle.ra_world.specs.declared.step.Step.TheVariants.{Repeat}
use Rattle.ra_book.specs.declared.book.event.BookKind.{BookKind}
use Rattle.ra_book.specs.declared.book.event.BookKind.TheVariants.{Ask, Leave, Cancel, Receive, Forget}
use Rattle.ra_book.specs.declared.settle_books.event_merge.PlacedEvent.{PlacedEvent}
use Rattle.ra_book.specs.EventMerge.{placed_at, all_placed_at}
use Rattle.ra_book.specs.Keys.{FrameKey, HasKeys, frame_key}
use Rattle.ra_book.specs.Settled.{Placed, frames_in, step_at}
use Rattle.ra_book.specs.Repeats.{ComesBy, AreWithCopies, frames_by}
use Rattle.ra_book.specs.SettlingParts.{HasCome}
use Rattle.ra_book.proofs.KeyOrders.{frame_cmp, frame_total, frame_exact, one_frame}
use Rattle.ra_book.proofs.KeySets.{no_keys, keys_more, said, denied, of_keys, to_keys}
use Rattle.ra_book.proofs.Parts.{first, later, first_or_later}

abbrev keys : List Placed → List FrameKey
keys placed = map (λ f. frame_key f) (frames_by placed)

-- ---- The set of what comes later

-- no frame comes by an event of another kind
pub none_by : (kind : BookKind) → ((f : Frame) → kind ≡ Receive f → ⊥) → frames_in kind ≡ []
none_by (Ask client name mode) other = refl
none_by (Leave client name) other = refl
none_by (Cancel client name) other = refl
none_by Forget other = refl
none_by (Receive f) other = absurd (other f refl)

pub come_same : (set : BTreeSet FrameKey) (p : Placed) (placed : List Placed) → frames_in p.event.kind ≡ [] → HasCome set placed → HasCome set (p ∷ placed)
come_same set p placed none has = subst (λ (fs : List Frame). HasKeys set (map (λ f. frame_key f) (fs ++ frames_by placed))) (sym none) has

pub come_more : (old new : BTreeSet FrameKey) (p : Placed) (placed : List Placed) (f : Frame) → p.event.kind ≡ Receive f → HasCome old placed
    → sorted.Updates frame_cmp old new (frame_key f) true → HasCome new (p ∷ placed)
come_more old new p placed f kind has put =
    let k = frame_key f in
    let more = keys_more frame_total frame_exact old new k (keys placed) has put in
    subst (λ (b : BookKind). HasKeys new (map (λ f. frame_key f) (frames_in b ++ frames_by placed))) (sym kind)
    (λ q. (
      λ is. elim (Contains-push_cases (keys placed) k q ((more q).0 is)) [
        | inl before ↦ later k (keys placed) q before
        | inr same ↦ subst (λ (x : FrameKey). Contains (k ∷ keys placed) x) same (first k (keys placed))
      ],
      λ is. (more q).1 (elim (first_or_later k (keys placed) q is) [
        | inl here ↦ subst (λ (x : FrameKey). Contains (keys placed ++ k ∷ []) x) here (Contains-push (keys placed) k)
        | inr after ↦ Contains-append_left (keys placed) (k ∷ []) q after
      ]),
    ))

-- what the set says of a frame
pub comes : (set : BTreeSet FrameKey) (placed : List Placed) (f : Frame) → HasCome set placed → sorted.contains frame_cmp set (frame_key f) ≡ true → ComesBy placed f
comes set placed f has is =
    of_keys frame_total frame_exact (λ f. frame_key f) one_frame (frames_by placed) f (said frame_total frame_exact set (keys placed) (frame_key f) has is)

pub comes_not : (set : BTreeSet FrameKey) (placed : List Placed) (f : Frame) → HasCome set placed → sorted.contains frame_cmp set (frame_key f) ≡ false → ComesBy placed f → ⊥
comes_not set placed f has is_not at =
    denied frame_total frame_exact set (keys placed) (frame_key f) has is_not (to_keys frame_total frame_exact (λ f. frame_key f) one_frame (frames_by placed) f at)

-- ---- One more event in front

abbrev step_for : Placed → Step
step_for p = step_at p.node p.event.kind

plain_in_front : (p : Placed) (placed : List Placed) (back : List Step) → All (λ f. ComesBy placed f → ⊥) (frames_in p.event.kind) → AreWithCopies placed (reverse back)
    → AreWithCopies (p ∷ placed) (reverse (back ++ step_for p ∷ []))
plain_in_front p placed back last has = ([], reverse back, reverse-append back (step_for p ∷ []), inl (last, refl), has)

pub none_in_front : (p : Placed) (placed : List Placed) (back : List Step) → frames_in p.event.kind ≡ [] → AreWithCopies placed (reverse back)
    → AreWithCopies (p ∷ placed) (reverse (back ++ step_for p ∷ []))
none_in_front p placed back none has = plain_in_front p placed back (subst (All (λ f. ComesBy placed f → ⊥)) (sym none) (All-nil (λ f. ComesBy placed f → ⊥))) has

pub last_in_front : (p : Placed) (placed : List Placed) (back : List Step) (f : Frame) → p.event.kind ≡ Receive f → (ComesBy placed f → ⊥) → AreWithCopies placed (reverse back)
    → AreWithCopies (p ∷ placed) (reverse (back ++ step_for p ∷ []))
last_in_front p placed back f kind last has =
    plain_in_front p placed back
    (subst (λ (b : BookKind). All (λ f. ComesBy placed f → ⊥) (frames_in b)) (sym kind) (All-cons (λ f. ComesBy placed f → ⊥) f [] last (All-nil (λ f. ComesBy placed f → ⊥)))) has

pub copy_in_front : (p : Placed) (placed : List Placed) (back : List Step) (f : Frame) → p.event.kind ≡ Receive f → ComesBy placed f → AreWithCopies placed (reverse back)
    → AreWithCopies (p ∷ placed) (reverse ((back ++ step_for p ∷ []) ++ Repeat f.message ∷ []))
copy_in_front p placed back f kind at has = (
  Repeat f.message ∷ [],
  reverse back,
  reverse-append (back ++ step_for p ∷ []) (Repeat f.message ∷ []) ∙ ap (λ (ss : List Step). Repeat f.message ∷ ss) (reverse-append back (step_for p ∷ [])),
  inr (f, kind, at, refl),
  has,
)

-- ---- From the last one on

-- the last `turn` events are done
abbrev pub AreDone : List PlacedEvent → ℕ → BTreeSet FrameKey → List Step → Type 0
AreDone events turn set back =
    HasCome set (all_placed_at (drop (length events - turn) events)) × AreWithCopies (all_placed_at (drop (length events - turn) events)) (reverse back)

pub none_done : (events : List PlacedEvent) (set : BTreeSet FrameKey) (back : List Step) → set.keys ≡ [] → back ≡ [] → AreDone events 0 set back
none_done events set back none is =
    let end : drop (length events - 0) events ≡ [] = drop_all (length events - 0) events (omega arith) in
    subst (λ (es : List PlacedEvent). HasCome set (all_placed_at es) × AreWithCopies (all_placed_at es) (reverse back)) (sym end) (no_keys set none, ap reverse is)

pub one_done : (events : List PlacedEvent) (turn place : ℕ) (one : PlacedEvent) (set : BTreeSet FrameKey) (back : List Step) → turn < length events → place ≡ length events - 1 - turn
    → one ≡ get_or events place one
    → HasCome set (placed_at one ∷ all_placed_at (drop (length events - turn) events)) × AreWithCopies (placed_at one ∷ all_placed_at (drop (length events - turn) events)) (reverse back)
    → AreDone events (turn + 1) set back
one_done events turn place one set back less at is done =
    let more : drop (length events - (turn + 1)) events ≡ one ∷ drop (length events - turn) events =
    ap (λ (k : ℕ). drop k events) (omega (arith, less, at)) ∙ drop_more events place one (omega (arith, less, at))
    ∙ (let next : place + 1 ≡ length events - turn = omega (arith, less, at) in λ j. sym is j ∷ drop (next j) events)
    in
    subst (λ (es : List PlacedEvent). HasCome set (all_placed_at es) × AreWithCopies (all_placed_at es) (reverse back)) (sym more) done

pub all_done : (events : List PlacedEvent) (turn : ℕ) (set : BTreeSet FrameKey) (back : List Step) → length events ≤ turn → AreDone events turn set back
    → AreWithCopies (all_placed_at events) (reverse back)
all_done events turn set back all done =
    let whole : length events - turn ≡ 0 = omega (arith, all) in
    subst (λ (k : ℕ). AreWithCopies (all_placed_at (drop k events)) (reverse back)) whole done.1
