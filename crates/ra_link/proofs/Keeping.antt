-- What is on the disk of a host stays there in every event, if no book is put back.
use Rattle.std.proofs.Common.{◌≡◌, ◌≤◌, ℕ, List, [], ◌∷◌, ◌++◌, not, ◌&&◌, cond, length, take, max, refl, ap, Option, Some, None, arith}
use Rattle.std.specs.Prelude.{nat_lt}
use Rattle.std.specs.List.{slice_get}
use Rattle.std.proofs.lemmas.Bool.{cond_both}
use Rattle.std.proofs.lemmas.List.{take-take, take-append-le}
use Rattle.ra_link.specs.declared.message.Message.{Message}
use Rattle.ra_link.specs.declared.message.Message.TheVariants.{Hello, Welcome, Frame, Ack, Old}
use Rattle.ra_link.specs.Link.{greatest, hears_hello, hears_welcome, hears_frame, hears_ack, is_answer, is_above, is_next, is_ack, may_replay, replays, makes}
use Rattle.ra_link.specs.Pair.{Host, Packet, Event, silent, ends, linked, was_used, begins, hears, hears_packet, replays_book, makes_frame, crashes, acts, rests, turn}
use Rattle.ra_link.specs.Pair.Event.{Start, Connects, Comes, Replays, Makes, Syncs, Says_hello, Says_ack, Says_old, Says_frame, Crashes}
use Rattle.ra_link.proofs.Going.{IsBook}

pub record Keeps (x z : Host) : Type 0 where
  pub front : take x.sent_kept z.sent ≡ take x.sent_kept x.sent
  pub sent : x.sent_kept ≤ z.sent_kept
  pub taken : x.taken_kept ≤ z.taken_kept

keeps_same : (x z : Host) → z.sent ≡ x.sent → z.sent_kept ≡ x.sent_kept → z.taken_kept ≡ x.taken_kept → Keeps x z
keeps_same x z sent kept taken = record { front = ap (take x.sent_kept) sent; sent = omega (arith, kept); taken = omega (arith, taken) }

hears_keeps : (x : Host) (m : Message) (frame : List ℕ) → Keeps x (hears x m frame).host
hears_keeps x (Hello start question) frame = keeps_same x (linked x (hears_hello x.link start)) refl refl refl
hears_keeps x (Welcome asker question start kept) frame =
    let z = linked x (hears_welcome x.link asker question start kept) in
    cond_both (is_answer x.link asker question && is_above x.link kept) (ends x) (silent z) (λ t. Keeps x t.host)
    (λ _. keeps_same x (ends x).host refl refl refl) (λ _. keeps_same x z refl refl refl)
hears_keeps x (Frame start number) frame =
    let z : Host = record x { link = hears_frame x.link start number; taken = x.taken ++ frame ∷ [] } in
    cond_both (is_next x.link start number) (silent z) (silent x) (λ t. Keeps x t.host)
    (λ _. keeps_same x z refl refl refl) (λ _. keeps_same x x refl refl refl)
hears_keeps x (Ack start other kept) frame =
    let z = linked x (hears_ack x.link start other kept) in
    cond_both (is_ack x.link start other && is_above x.link kept) (ends x) (silent z) (λ t. Keeps x t.host)
    (λ _. keeps_same x (ends x).host refl refl refl) (λ _. keeps_same x z refl refl refl)
hears_keeps x (Old count) frame =
    cond_both (not x.link.ready && nat_lt x.link.taken count) (ends x) (silent x) (λ t. Keeps x t.host)
    (λ _. keeps_same x (ends x).host refl refl refl) (λ _. keeps_same x x refl refl refl)

packet_keeps : (x : Host) (p : Option Packet) → Keeps x (hears_packet x p).host
packet_keeps x None = keeps_same x x refl refl refl
packet_keeps x (Some p) = hears_keeps x p.message p.frame

replays_keeps : (x : Host) → Keeps x (replays_book x).host
replays_keeps x =
    let z = linked x (replays x.link (length x.sent)) in
    let may = may_replay x.link in
    cond_both (may && nat_lt (length x.sent) x.link.acknowledged) (ends x) (cond may (silent z) (silent x)) (λ t. Keeps x t.host)
    (λ _. keeps_same x (ends x).host refl refl refl)
    (λ _. cond_both may (silent z) (silent x) (λ t. Keeps x t.host) (λ _. keeps_same x z refl refl refl) (λ _. keeps_same x x refl refl refl))

makes_keeps : (x : Host) → IsBook x → (frame : List ℕ) → Keeps x (makes_frame x frame).host
makes_keeps x k frame =
    let z : Host = record x { link = makes x.link; sent = x.sent ++ frame ∷ [] } in
    cond_both (x.link.ready && nat_lt x.link.made greatest) (silent z) (silent x) (λ t. Keeps x t.host)
    (λ _. record { front = take-append-le x.sent_kept x.sent (frame ∷ []) k.sent; sent = omega arith; taken = omega arith })
    (λ _. keeps_same x x refl refl refl)

crashes_keeps : (x : Host) (sent taken : ℕ) → Keeps x (crashes x sent taken)
crashes_keeps x sent taken = record { front = take-take x.sent_kept (max sent x.sent_kept) x.sent (omega arith); sent = omega arith; taken = omega arith }

acts_keeps : (x : Host) (back : List Packet) → IsBook x → (e : Event) → Keeps x (acts back x e).host
acts_keeps x back k (Start nonce) = keeps_same x x refl refl refl
acts_keeps x back k Connects = keeps_same x (acts back x Connects).host refl refl refl
acts_keeps x back k (Comes which) = packet_keeps x (slice_get back which)
acts_keeps x back k Replays = replays_keeps x
acts_keeps x back k (Makes frame) = makes_keeps x k frame
acts_keeps x back k Syncs = record { front = refl; sent = k.sent; taken = k.taken }
acts_keeps x back k Says_hello = keeps_same x x refl refl refl
acts_keeps x back k Says_ack = keeps_same x x refl refl refl
acts_keeps x back k Says_old = keeps_same x x refl refl refl
acts_keeps x back k (Says_frame number) = keeps_same x x refl refl refl
acts_keeps x back k (Crashes sent taken) = crashes_keeps x sent taken

rests_keeps : (x : Host) → IsBook x → (e : Event) → Keeps x (rests x e).host
rests_keeps x k (Start nonce) =
    cond_both (was_used nonce x.starts) x (begins x nonce) (Keeps x) (λ _. keeps_same x x refl refl refl)
    (λ _. record { front = refl; sent = k.sent; taken = k.taken })
rests_keeps x k Connects = keeps_same x x refl refl refl
rests_keeps x k (Comes which) = keeps_same x x refl refl refl
rests_keeps x k Replays = keeps_same x x refl refl refl
rests_keeps x k (Makes frame) = keeps_same x x refl refl refl
rests_keeps x k Syncs = keeps_same x x refl refl refl
rests_keeps x k Says_hello = keeps_same x x refl refl refl
rests_keeps x k Says_ack = keeps_same x x refl refl refl
rests_keeps x k Says_old = keeps_same x x refl refl refl
rests_keeps x k (Says_frame number) = keeps_same x x refl refl refl
rests_keeps x k (Crashes sent taken) = crashes_keeps x sent taken

pub turn_keeps : (x : Host) (back : List Packet) → IsBook x → (e : Event) → Keeps x (turn back x e).host
turn_keeps x back k e = cond_both x.up (acts back x e) (rests x e) (λ t. Keeps x t.host) (λ _. acts_keeps x back k e) (λ _. rests_keeps x k e)
