-- Why a frame or an event is refused.
use Rattle.std.proofs.Common.{◌≡◌, ◌↔◌, Bool, true, false, length, refl, sym, ap, ◌∙◌}
use Rattle.std.specs.Prelude.{Result, Ok, Err, IsErrOf, IsOk, IsTrue, is_ok, ℕ}
use Rattle.ra_automaton.specs.State.{IsOtherNode}
use Rattle.ra_frame.specs.declared.frame.Frame.{Frame}
use Rattle.ra_link.specs.declared.link.Heard.{Heard}
use Rattle.ra_book.specs.declared.book.event.BookKind.{BookKind}
use Rattle.ra_host.specs.declared.error.EventError.{EventError}
use Rattle.ra_host.specs.declared.error.EventError.TheVariants.{NotNext, Full, Refused}
use Rattle.ra_host.specs.declared.error.NoHost.{NoHost}
use Rattle.ra_host.specs.declared.links.Links.{Links}
use Rattle.ra_host.specs.Full.{is_full}
use Rattle.ra_host.specs.Host.{Host}
use Rattle.ra_host.specs.Played.{PlayedState, RefusesEvent}
use Rattle.ra_host.specs.Ready.{IsNext}
use Rattle.ra_host.specs.Running.{AreLinksOf}
use Rattle.ra_host.proofs.LinksHeld.{never_both, other_to}

-- ---- Answers differ

abbrev is_not_next : EventError → Bool
is_not_next NotNext = true
is_not_next Full = false
is_not_next (Refused why) = false

abbrev is_for_full : EventError → Bool
is_for_full NotNext = false
is_for_full Full = true
is_for_full (Refused why) = false

abbrev says : {T : Type 0} → (EventError → Bool) → Result T EventError → Bool
says test (Ok x) = false
says test (Err why) = test why

pub ok_is_no_error : {T : Type 0} (x : T) (why : EventError) → IsErrOf (Ok x) why → ⊥
ok_is_no_error x why same = never_both (ap is_ok same)

pub not_next_is_not_full : {T : Type 0} → IsErrOf {T = T} (Err NotNext) Full → ⊥
not_next_is_not_full same = never_both (ap (says is_not_next) same)

-- ---- What the node refuses

pub is_no_order : {T : Type 0} (p : PlayedState) (kind : BookKind) (why : EventError) → RefusesEvent p kind why → IsErrOf {T = T} (Err why) NotNext → ⊥
is_no_order p kind NotNext refuses same = refuses
is_no_order p kind Full refuses same = never_both (ap (says is_for_full) same)
is_no_order p kind (Refused why) refuses same = never_both (sym (ap (says is_not_next) same))

pub full_exactly : {T : Type 0} (p : PlayedState) (kind : BookKind) (why : EventError) → RefusesEvent p kind why → IsErrOf {T = T} (Err why) Full ↔ IsTrue (is_full p.outgoing)
full_exactly p kind NotNext refuses = absurd refuses
full_exactly p kind Full refuses = (λ same. refuses, λ full. refl)
full_exactly p kind (Refused why) refuses =
    (λ same. absurd (never_both (sym (ap (says is_for_full) same))), λ full. absurd (never_both (sym full ∙ refuses.0)))

-- ---- Frames of no other host

pub no_host : (links : Links) (h : Host) (j start number : ℕ) (frame : Frame) (r : Result Heard NoHost) → AreLinksOf links h → IsOk r ↔ IsOtherNode links.me (length links.links.items) j
    → ((x : Heard) → r ≡ Ok x → ⊥) → IsNext h j start number frame → ⊥
no_host links h j start number frame (Ok x) are ok not next = not x refl
no_host links h j start number frame (Err e) are ok not next = never_both (sym (ok.1 (other_to links h j are next.0)))
