-- The frames for another host that a host keeps.
use Rattle.std.specs.Prelude.{◌≡◌, ℕ, ◌+◌, ◌-◌, ◌<◌, ◌≤◌, zero, suc, Option, None, if◌then◌else◌, nat_lt, max, List, [], ◌∷◌, ◌++◌, length, drop, get_or, slice_get, refl}
use Rattle.std.specs.Coded.{Coded, code_by, coded×, coded_ℕ, coded_list}
use Rattle.std.specs.VecDeque.{deque_len, deque_capacity}
use Rattle.ra_stamp.specs.Message.{to_of}
use Rattle.ra_frame.specs.declared.frame.Frame.{Frame}
use Rattle.ra_link.specs.Link.{greatest}
use Rattle.ra_host.specs.declared.outbox.Outbox.{Outbox}

-- of the frames for a host: how many there are, how many of the first ones are not kept, and the others
pub record Outgoing : Type 0 where
  pub made : ℕ
  pub dropped : ℕ
  pub frames : List Frame

-- it is stored as its fields
abbrev pub outgoing_code : Coded Frame → Coded Outgoing
outgoing_code frame =
    code_by (ℕ × (ℕ × List Frame)) (coded× coded_ℕ (coded× coded_ℕ (coded_list frame)))
    (λ o. (o.made, (o.dropped, o.frames))) (λ p. record { made = p.0; dropped = p.1.0; frames = p.1.1 }) (λ _. refl)

-- what an outbox has, whatever its room
abbrev pub outgoing_of : Outbox → Outgoing
outgoing_of box = record { made = box.made; dropped = box.dropped; frames = box.frames.items }

-- these are all the frames for the host
pub record KeepsOf (o : Outgoing) (all : List Frame) : Type 0 where
  pub made : o.made ≡ length all
  pub frames : o.frames ≡ drop o.dropped all

-- there is no frame yet, and the first ones will not be kept, this many
abbrev pub none_of : ℕ → Outgoing
none_of dropped = record { made = 0; dropped = dropped; frames = [] }

-- there is one more frame, which is kept if it is none of the first
abbrev pub adds : Outgoing → Frame → Outgoing
adds o frame =
    record o {
      made = o.made + 1;
      frames = if nat_lt o.made o.dropped then o.frames else o.frames ++ frame ∷ [];
    }

-- this many of the first frames are not kept any more
abbrev pub drops : Outgoing → ℕ → Outgoing
drops o count = record o { dropped = max o.dropped count; frames = drop (count - o.dropped) o.frames }

-- the frame with this number, if it is kept
abbrev pub frame_at : Outgoing → ℕ → Option Frame
frame_at o number = if nat_lt o.dropped number then slice_get o.frames (number - o.dropped - 1) else None

-- the outbox has room for this many more frames, and as many numbers are left
pub record HasRoom (box : Outbox) (more : ℕ) : Type 0 where
  pub room : deque_len box.frames + more ≤ deque_capacity box.frames
  pub numbers : box.made + more ≤ greatest

-- each of the outboxes has it
abbrev pub HaveRoom : List Outbox → ℕ → Type 0
HaveRoom boxes more = (k : ℕ) (d : Outbox) → k < length boxes → HasRoom (get_or boxes k d) more

-- each of the outboxes has room, whatever numbers are left
abbrev pub HaveSpace : List Outbox → ℕ → Type 0
HaveSpace boxes more =
    (k : ℕ) (d : Outbox) → k < length boxes
    → deque_len (get_or boxes k d).frames + more ≤ deque_capacity (get_or boxes k d).frames

-- ---- Those for all hosts, by number

-- the frame is one for the host at this place
abbrev pub adds_at : List Outgoing → ℕ → Frame → List Outgoing
adds_at [] place frame = []
adds_at (o ∷ os) zero frame = adds o frame ∷ os
adds_at (o ∷ os) (suc place) frame = o ∷ adds_at os place frame

-- each of these frames is one for its receiver
abbrev pub posts : List Outgoing → List Frame → List Outgoing
posts os [] = os
posts os (f ∷ fs) = posts (adds_at os (to_of f.message - 1) f) fs

-- of the first frames for the host at this place, this many are not kept any more
abbrev pub drops_at : List Outgoing → ℕ → ℕ → List Outgoing
drops_at [] place count = []
drops_at (o ∷ os) zero count = drops o count ∷ os
drops_at (o ∷ os) (suc place) count = o ∷ drops_at os place count

-- the frame with this number for the host at this place, if it is kept
abbrev pub frame_for : List Outgoing → ℕ → ℕ → Option Frame
frame_for [] place number = None
frame_for (o ∷ os) zero number = frame_at o number
frame_for (o ∷ os) (suc place) number = frame_for os place number

-- how many frames there are for the host at this place
abbrev pub made_at : List Outgoing → ℕ → ℕ
made_at [] place = 0
made_at (o ∷ os) zero = o.made
made_at (o ∷ os) (suc place) = made_at os place
