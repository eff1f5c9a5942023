-- A list of numbers for each frame, of which no two are alike: what a frame is for a pair of hosts.
use Rattle.std.proofs.Common.{◌≡◌, ℕ, zero, suc, ◌==◌, cond, List, [], ◌∷◌, refl, sym, ap, ◌∙◌}
use Rattle.ra_stamp.specs.declared.mode.Mode.{Mode}
use Rattle.ra_stamp.specs.declared.mode.Mode.TheVariants.{Shared, Exclusive, IntentShared, IntentExclusive, SharedIntentExclusive}
use Rattle.ra_stamp.specs.declared.message.Message.{Message}
use Rattle.ra_stamp.specs.declared.message.Message.TheVariants.{Request, Reply}
use Rattle.ra_frame.specs.declared.frame.Frame.{Frame}
use Rattle.ra_frame.specs.FrameText.{mode_byte}

abbrev message_code : ℕ → Message → List ℕ
message_code clock (Request from to name mode seq) = 0 ∷ clock ∷ from ∷ to ∷ seq ∷ mode_byte mode ∷ name
message_code clock (Reply from to name seq) = 1 ∷ clock ∷ from ∷ to ∷ seq ∷ 0 ∷ name

abbrev pub code_of : Frame → List ℕ
code_of frame = message_code frame.clock frame.message

-- ---- It is read back

abbrev mode_at : ℕ → Mode
mode_at zero = Shared
mode_at (suc zero) = Exclusive
mode_at (suc (suc zero)) = IntentShared
mode_at (suc (suc (suc zero))) = IntentExclusive
mode_at (suc (suc (suc (suc n)))) = SharedIntentExclusive

abbrev frame_at : List ℕ → Frame
frame_at (kind ∷ clock ∷ from ∷ to ∷ seq ∷ mode ∷ name) =
    record { clock = clock; message = cond (kind == 0) (Request from to name (mode_at mode) seq) (Reply from to name seq) }
frame_at numbers = record { clock = 0; message = Reply 0 0 [] 0 }

read_back : (clock : ℕ) (message : Message) → frame_at (message_code clock message) ≡ record { clock = clock; message = message }
read_back clock (Request from to name Shared seq) = refl
read_back clock (Request from to name Exclusive seq) = refl
read_back clock (Request from to name IntentShared seq) = refl
read_back clock (Request from to name IntentExclusive seq) = refl
read_back clock (Request from to name SharedIntentExclusive seq) = refl
read_back clock (Reply from to name seq) = refl

pub same_code : (a b : Frame) → code_of a ≡ code_of b → a ≡ b
same_code a b same = sym (read_back a.clock a.message) ∙ ap frame_at same ∙ read_back b.clock b.message
