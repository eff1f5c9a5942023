-- The frames that are kept, among all of the book.
use Rattle.std.proofs.Common.{◌≡◌, ◌⊎◌, inl, inr, ℕ, zero, suc, ◌+◌, ◌-◌, ◌<◌, ◌≤◌, Bool, true, false, ◌&&◌, cond, Some, None, List, [], ◌∷◌, length, map, drop, get_or, refl, sym, ap, ◌∙◌, arith}
use Rattle.std.specs.Prelude.{nat_le, nat_lt, slice_get}
use Rattle.std.proofs.lemmas.Bool.{cases_lt, leb-true, lt-ltb, ltb-true}
use Rattle.std.proofs.lemmas.Option.{none-some, same_Some, slice_get_cases}
use Rattle.ra_frame.specs.declared.frame.Frame.{Frame}
use Rattle.ra_link.specs.Link as rule
use Rattle.ra_book.specs.Pairs.{sent_to}
use Rattle.ra_host.specs.declared.links.Links.{Links}
use Rattle.ra_host.specs.declared.outbox.Outbox.{Outbox}
use Rattle.ra_host.specs.Host.{Host, IsOther}
use Rattle.ra_host.specs.Outgoing.{KeepsOf, Outgoing, frame_at, frame_for, outgoing_of}
use Rattle.ra_host.specs.Played.{PlayedState}
use Rattle.ra_host.specs.Ready.{AreOf}
use Rattle.ra_host.proofs.LinksHeld.{never_both}
use Rattle.ra_host.proofs.OutgoingKept.{not_below}

pub frame_of_box : (xs : List Outbox) (place : ℕ) (d : Outbox) (number : ℕ) → place < length xs → frame_at (outgoing_of (get_or xs place d)) number ≡ frame_for (map outgoing_of xs) place number
frame_of_box [] place d number within = absurd (omega (arith, within))
frame_of_box (x ∷ xs) zero d number within = refl
frame_of_box (x ∷ xs) (suc place) d number within = frame_of_box xs place d number (omega (arith, within))

pub no_frame : (xs : List Outbox) (place number : ℕ) → length xs ≤ place → None ≡ frame_for (map outgoing_of xs) place number
no_frame [] place number past = refl
no_frame (x ∷ xs) zero number past = absurd (omega (arith, past))
no_frame (x ∷ xs) (suc place) number past = no_frame xs place number (omega (arith, past))

frame_there : (os : List Outgoing) (k : ℕ) (o : Outgoing) (number : ℕ) → slice_get os k ≡ Some o → frame_for os k number ≡ frame_at o number
frame_there [] k o number is = absurd (none-some o is)
frame_there (x ∷ os) zero o number is = ap (λ (y : Outgoing). frame_at y number) (same_Some x o is)
frame_there (x ∷ os) (suc k) o number is = frame_there os k o number is

get_dropped : (fs : List Frame) (d k : ℕ) → slice_get (drop d fs) k ≡ slice_get fs (d + k)
get_dropped fs zero k = let same : k ≡ 0 + k = omega arith in ap (slice_get fs) same
get_dropped [] (suc d) k = refl
get_dropped (f ∷ fs) (suc d) k = let same : suc (d + k) ≡ suc d + k = omega arith in get_dropped fs d k ∙ ap (slice_get (f ∷ fs)) same

frame_kept : (o : Outgoing) (all : List Frame) (number : ℕ) (f : Frame) → KeepsOf o all → frame_at o number ≡ Some f → slice_get all (number - 1) ≡ Some f
frame_kept o all number f keeps is = by (cases_lt o.dropped number)
  where
    by : (o.dropped < number) ⊎ (number ≤ o.dropped) → slice_get all (number - 1) ≡ Some f
    by (inl low) =
        let place : number - 1 ≡ o.dropped + (number - o.dropped - 1) = omega (arith, low) in
        ap (slice_get all) place ∙ sym (get_dropped all o.dropped (number - o.dropped - 1)) ∙ ap (λ (fs : List Frame). slice_get fs (number - o.dropped - 1)) (sym keeps.frames)
        ∙ sym (ap (λ (b : Bool). cond b (slice_get o.frames (number - o.dropped - 1)) None) (lt-ltb o.dropped number low))
        ∙ is
    by (inr high) =
        absurd (none-some f (sym (ap (λ (b : Bool). cond b (slice_get o.frames (number - o.dropped - 1)) None) (not_below o.dropped number high)) ∙ is))

-- a frame that is kept is the one of the book with its number
pub said_is : (os : List Outgoing) (k : ℕ) (o : Outgoing) (all : List Frame) (number : ℕ) (f : Frame) → slice_get os k ≡ Some o → KeepsOf o all → frame_for os k number ≡ Some f
    → slice_get all (number - 1) ≡ Some f
said_is os k o all number f at keeps is = frame_kept o all number f keeps (sym (frame_there os k o number at) ∙ is)

and_left : (a b : Bool) → (a && b) ≡ true → a ≡ true
and_left true b is = refl
and_left false b is = is

and_right : (a b : Bool) → (a && b) ≡ true → b ≡ true
and_right true b is = is
and_right false b is = absurd (never_both (sym is))

-- a frame that is on the disk and not acknowledged is kept
pub kept_is : (links : Links) (p : PlayedState) (h : Host) (j number : ℕ) → AreOf links p h → IsOther h j → (h.links j).acknowledged < number → rule.may_say (h.links j) number ≡ true
    → (f : Frame) × (frame_for p.outgoing (j - 1) number ≡ Some f) × (slice_get (sent_to j h.book) (number - 1) ≡ Some f)
kept_is links p h j number are other more may =
    let l = h.links j in
    let all = sent_to j h.book in
    let kept = are.ready.book.each j other in
    let o = kept.0 in
    let goes = are.ready.each j o other kept.1 in
    let some = and_left (l.ready && nat_lt 0 number) (nat_le number l.sent) may in
    let first = ltb-true 0 number (and_right l.ready (nat_lt 0 number) some) in
    let last = leb-true number l.sent (and_right (l.ready && nat_lt 0 number) (nat_le number l.sent) may) in
    let sent = goes.sent in
    let made = goes.made in
    let length_is = kept.2.made in
    let dropped = goes.acknowledged in
    let low : o.dropped < number = omega (arith, more, dropped) in
    let place : number - 1 ≡ o.dropped + (number - o.dropped - 1) = omega (arith, low) in
    elim (slice_get_cases all (number - 1)).1 [
      | inl found ↦ (
        found.0,
        frame_there p.outgoing (j - 1) o number kept.1
            ∙ ap (λ (b : Bool). cond b (slice_get o.frames (number - o.dropped - 1)) None) (lt-ltb o.dropped number low)
            ∙ ap (λ (fs : List Frame). slice_get fs (number - o.dropped - 1)) kept.2.frames
            ∙ get_dropped all o.dropped (number - o.dropped - 1)
            ∙ ap (slice_get all) (sym place)
            ∙ found.2,
        found.2,
      )
      | inr past ↦ absurd (let out = past.0 in omega (arith, out, first, last, sent, made, length_is))
    ]
