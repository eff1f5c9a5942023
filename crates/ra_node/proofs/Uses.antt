-- What a resource's use tells of its state.
use Rattle.std.proofs.Common.{◌≡◌, ℕ, Option, Some, None, ap, refl}
use Rattle.std.specs.Prelude.{unwrap_or}
use Rattle.std.proofs.lemmas.Option.{none-some}
use Rattle.ra_stamp.specs.declared.entry.Entry.{Entry}
use Rattle.ra_stamp.specs.declared.mode.Mode.{Mode}
use Rattle.ra_automaton.specs.declared.phase.Phase.{Phase}
use Rattle.ra_automaton.specs.declared.phase.Phase.TheVariants.{Idle, Waiting, Inside}
use Rattle.ra_automaton.specs.State.{State}
use Rattle.ra_node.specs.Resource.{Resource, Use, use_in, use_of, held_entry, waiting_entry, holder_of, waiter_of}
use Rattle.ra_node.specs.Resource.Use.{Nobody, WaitsBy, HoldsBy}

pub some_is : {X : Type 0} (x y : X) → Some x ≡ Some y → x ≡ y
some_is x y e = ap (λ (o : Option _). unwrap_or o x) e

-- what is granted holds
pub granted_holds : (u : Use) (e : Entry) → held_entry u ≡ Some e → u ≡ HoldsBy e
granted_holds Nobody e is = absurd (none-some e is)
granted_holds (WaitsBy f) e is = absurd (none-some e is)
granted_holds (HoldsBy f) e is = ap (λ (x : Entry). HoldsBy x) (some_is f e is)

pub holder_holds : (r : Resource) (e : Entry) → holder_of r ≡ Some e → use_of r ≡ HoldsBy e
holder_holds r e is = granted_holds (use_of r) e is

-- what is requested waits
pub requested_waits_by : (u : Use) (e : Entry) → waiting_entry u ≡ Some e → u ≡ WaitsBy e
requested_waits_by Nobody e is = absurd (none-some e is)
requested_waits_by (WaitsBy f) e is = ap (λ (x : Entry). WaitsBy x) (some_is f e is)
requested_waits_by (HoldsBy f) e is = absurd (none-some e is)

pub waiter_waits : (r : Resource) (e : Entry) → waiter_of r ≡ Some e → use_of r ≡ WaitsBy e
waiter_waits r e is = requested_waits_by (use_of r) e is

-- if a request is granted, the node is inside
pub granted_inside : (s : State) (phase : Phase) (client : Option ℕ) (e : Entry) → held_entry (use_in s phase client) ≡ Some e → (seq : ℕ) × (mode : Mode) × (phase ≡ Inside seq mode)
granted_inside s Idle None e is = absurd (none-some e is)
granted_inside s Idle (Some client) e is = absurd (none-some e is)
granted_inside s (Waiting seq mode) None e is = absurd (none-some e is)
granted_inside s (Waiting seq mode) (Some client) e is = absurd (none-some e is)
granted_inside s (Inside seq mode) client e is = (seq, mode, refl)

-- if a request waits, the node waits
pub requested_waits : (s : State) (phase : Phase) (client : Option ℕ) (e : Entry) → waiting_entry (use_in s phase client) ≡ Some e → (seq : ℕ) × (mode : Mode) × (phase ≡ Waiting seq mode)
requested_waits s Idle None e is = absurd (none-some e is)
requested_waits s Idle (Some client) e is = absurd (none-some e is)
requested_waits s (Waiting seq mode) client e is = (seq, mode, refl)
requested_waits s (Inside seq mode) None e is = absurd (none-some e is)
requested_waits s (Inside seq mode) (Some client) e is = absurd (none-some e is)
