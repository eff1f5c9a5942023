-- The definitions that calls cite, as turns of the machine.
use Rattle.std.proofs.Common.{◌≡◌, ℕ, Bool, true, false, Option, Some, List, refl, sym, subst}
use Rattle.std.specs.Prelude.{slice_get}
use Rattle.ra_frame.specs.declared.frame.Frame.{Frame}
use Rattle.ra_host.specs.Host.{Host, IsOther, TakesFrame, is_taken}
use Rattle.ra_host.specs.Hosts.{Acts, Event, Hears, HearsIfSaid, Packet, Rests, TakesOrNot, Turn, Turns, TurnsIf}

pub when_up : (back : ℕ → List Packet) (h : Host) (e : Event) (t : Turn) → h.up ≡ true → Acts back h e t → Turns back h e t
when_up back h e t up acts = subst (λ (b : Bool). TurnsIf b back h e t) (sym up) acts

pub when_down : (back : ℕ → List Packet) (h : Host) (e : Event) (t : Turn) → h.up ≡ false → Rests h e t → Turns back h e t
when_down back h e t down rests = subst (λ (b : Bool). TurnsIf b back h e t) (sym down) rests

pub when_said : (back : ℕ → List Packet) (h : Host) (j which : ℕ) (p : Packet) (t : Turn) → h.up ≡ true → IsOther h j → slice_get (back j) which ≡ Some p → Hears h j p.message p.frame t
    → Turns back h (Event.Comes j which) t
when_said back h j which p t up other said hears =
    when_up back h (Event.Comes j which) t up (other, subst (λ (o : Option Packet). HearsIfSaid h j o t) (sym said) hears)

pub when_taken : (h new : Host) (j start number : ℕ) (frame : Frame) → is_taken h j start number frame ≡ true → TakesFrame h j start number frame new
    → TakesOrNot (is_taken h j start number frame) h j start number frame new
when_taken h new j start number frame is takes = subst (λ (b : Bool). TakesOrNot b h j start number frame new) (sym is) takes

pub when_passed : (h : Host) (j start number : ℕ) (frame : Frame) → is_taken h j start number frame ≡ false → TakesOrNot (is_taken h j start number frame) h j start number frame h
when_passed h j start number frame fails = subst (λ (b : Bool). TakesOrNot b h j start number frame h) (sym fails) refl
