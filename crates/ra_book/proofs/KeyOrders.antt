-- Keys are in a total order, and different keys differ in it. Different requests, messages and frames have different
-- keys.
use Rattle.std.proofs.Common.{◌≡◌, ℕ, zero, suc, List, Ordering, refl, sym, ap, ◌∙◌}
use Rattle.std.specs.Ordering.{nat_cmp, ordering_then}
use Rattle.std.specs.Cmp.{IsTotalOrder, nat_cmp_total, on_total, then_total}
use Rattle.std.specs.Cmp.Lexicographic.{slice_cmp, nat_list_cmp_total}
use Rattle.std.proofs.lemmas.Map.Lookups.{CmpEqualImpliesEq, exact_unsigned, exact_bytes, exact_pairs}
use Rattle.ra_stamp.specs.declared.mode.Mode.{Mode}
use Rattle.ra_stamp.specs.declared.mode.Mode.TheVariants.{Shared, Exclusive, IntentShared, IntentExclusive, SharedIntentExclusive}
use Rattle.ra_stamp.specs.declared.entry.Entry.{Entry}
use Rattle.ra_stamp.specs.declared.message.Message.{Message}
use Rattle.ra_stamp.specs.declared.message.Message.TheVariants.{Request, Reply}
use Rattle.ra_frame.specs.declared.frame.Frame.{Frame}
use Rattle.ra_book.specs.Keys.{OrderKey, FrameKey, mode_number, entry_key, message_key, frame_key}

-- a pair of orders, one after the other
abbrev then : {A B : Type 0} → (A → A → Ordering) → (B → B → Ordering) → A × B → A × B → Ordering
then P Q x y = ordering_then (P x.0 y.0) (Q x.1 y.1)

abbrev Five : Type 0
Five = (((ℕ × ℕ) × ℕ) × ℕ) × List ℕ

exact_five : CmpEqualImpliesEq (then (then (then (then nat_cmp nat_cmp) nat_cmp) nat_cmp) (slice_cmp nat_cmp))
exact_five =
    exact_pairs (then (then (then nat_cmp nat_cmp) nat_cmp) nat_cmp) (slice_cmp nat_cmp)
    (exact_pairs (then (then nat_cmp nat_cmp) nat_cmp) nat_cmp
    (exact_pairs (then nat_cmp nat_cmp) nat_cmp
    (exact_pairs nat_cmp nat_cmp exact_unsigned exact_unsigned) exact_unsigned) exact_unsigned) exact_bytes

-- ---- Requests and messages

abbrev pub key_cmp : OrderKey → OrderKey → Ordering
key_cmp a b =
    ordering_then
    (ordering_then
    (ordering_then (ordering_then (nat_cmp a.0 b.0) (nat_cmp a.1 b.1)) (nat_cmp a.2 b.2))
    (nat_cmp a.3 b.3))
    (slice_cmp nat_cmp a.4 b.4)

pub key_total : IsTotalOrder key_cmp
key_total =
    then_total
    (then_total
    (then_total (then_total (on_total (λ k. k.0) nat_cmp_total) (on_total (λ k. k.1) nat_cmp_total)) (on_total (λ k. k.2) nat_cmp_total))
    (on_total (λ k. k.3) nat_cmp_total))
    (on_total (λ k. k.4) nat_list_cmp_total)

-- the parts of a key, taken together from the left
abbrev key_of : Five → OrderKey
key_of p = (p.0.0.0.0, p.0.0.0.1, p.0.0.1, p.0.1, p.1)

pub key_exact : CmpEqualImpliesEq key_cmp
key_exact a b h = ap key_of (exact_five ((((a.0, a.1), a.2), a.3), a.4) ((((b.0, b.1), b.2), b.3), b.4) h)

-- the mode of a number
abbrev mode_at : ℕ → Mode
mode_at zero = Shared
mode_at (suc zero) = Shared
mode_at (suc (suc zero)) = Exclusive
mode_at (suc (suc (suc zero))) = IntentShared
mode_at (suc (suc (suc (suc zero)))) = IntentExclusive
mode_at (suc (suc (suc (suc (suc number))))) = SharedIntentExclusive

mode_back : (mode : Mode) → mode_at (mode_number mode) ≡ mode
mode_back Shared = refl
mode_back Exclusive = refl
mode_back IntentShared = refl
mode_back IntentExclusive = refl
mode_back SharedIntentExclusive = refl

one_mode : (a b : Mode) → mode_number a ≡ mode_number b → a ≡ b
one_mode a b e = sym (mode_back a) ∙ (ap mode_at e ∙ mode_back b)

pub one_entry : (a b : Entry) → entry_key a ≡ entry_key b → a ≡ b
one_entry a b e =
    let mode = one_mode a.mode b.mode (ap (λ (k : OrderKey). k.3) e) in
    λ i. record {
      name = (e i).4;
      stamp = record { seq = (e i).0; node = (e i).1 };
      client = (e i).2;
      mode = mode i;
    }

no_reply : (mode : Mode) → mode_number mode ≡ 0 → ⊥
no_reply Shared e = cc
no_reply Exclusive e = cc
no_reply IntentShared e = cc
no_reply IntentExclusive e = cc
no_reply SharedIntentExclusive e = cc

pub one_message : (a b : Message) → message_key a ≡ message_key b → a ≡ b
one_message (Request from to name mode seq) (Request from' to' name' mode' seq') e =
    let same = one_mode mode mode' (ap (λ (k : OrderKey). k.3) e) in
    λ i. Request (e i).1 (e i).2 (e i).4 (same i) (e i).0
one_message (Request from to name mode seq) (Reply from' to' name' seq') e =
    absurd (no_reply mode (ap (λ (k : OrderKey). k.3) e))
one_message (Reply from to name seq) (Request from' to' name' mode' seq') e =
    absurd (no_reply mode' (sym (ap (λ (k : OrderKey). k.3) e)))
one_message (Reply from to name seq) (Reply from' to' name' seq') e = λ i. Reply (e i).1 (e i).2 (e i).4 (e i).0

-- ---- Frames

abbrev pub frame_cmp : FrameKey → FrameKey → Ordering
frame_cmp a b = ordering_then (nat_cmp a.0 b.0) (key_cmp a.1 b.1)

pub frame_total : IsTotalOrder frame_cmp
frame_total = then_total (on_total (λ k. k.0) nat_cmp_total) (on_total (λ k. k.1) key_total)

pub frame_exact : CmpEqualImpliesEq frame_cmp
frame_exact = exact_pairs nat_cmp key_cmp exact_unsigned key_exact

pub one_frame : (a b : Frame) → frame_key a ≡ frame_key b → a ≡ b
one_frame a b e =
    let message = one_message a.message b.message (ap (λ (k : FrameKey). k.1) e) in
    λ i. record { clock = (e i).0; message = message i }
