-- What `answer` makes of its input.
use Rattle.std.specs.Prelude.{◌≡◌, ◌≢◌, ℕ, ◌+◌, ◌≤◌, ◌<◌, ◌^◌, ◌⊎◌, max, Bool, List, [], ◌∷◌, ◌++◌, Some, Ok}
use Rattle.hex.specs.Hex.{decode_of, encode_lower}
use Rattle.ra_stamp.specs.declared.message.Message.{Message}
use Rattle.ra_stamp.specs.Message.{from_of, to_of, name_of}
use Rattle.ra_stamp.specs.Member.{IsMember}
use Rattle.ra_stamp.specs.NodeId.{IsNodeNumber}
use Rattle.ra_frame.specs.declared.frame.Frame.{Frame}
use Rattle.ra_frame.specs.FrameText.{IsFrameText, IsWrittenText}
use Rattle.ra_frame.specs.Faults.{first_fault}
use Rattle.ra_automaton.specs.State.{State, opening, IsForNode}
use Rattle.ra_automaton.specs.Steps.{ReceiveStep}
use Rattle.ra_cli.specs.declared.error.AnswerError.{AnswerError}
use Rattle.ra_cli.specs.declared.error.AnswerError.TheVariants as fault
use Rattle.ra_cli.specs.Line.{IsLine}

-- the input is a line of the hexadecimal digits of these bytes, in either case
abbrev pub Spells : List ℕ → List ℕ → Type 0
Spells input bytes = (digits : List ℕ) × IsLine input digits × (decode_of digits ≡ Ok bytes)

-- the input is a line of the hexadecimal digits of this frame's text, in either version
abbrev pub Carries : List ℕ → Frame → Type 0
Carries input frame = (bytes : List ℕ) × Spells input bytes × IsFrameText bytes frame

-- what an idle node that has met no number sends when a message about some resource comes, and whether it enters
abbrev pub Reacts : ℕ → ℕ → Message → List Message → Bool → Type 0
Reacts node nodes message sends entered =
    (after : State) × ReceiveStep (opening node nodes (name_of message) 0) message sends entered after

-- the sender is the node itself, or does not exist
abbrev pub IsStrange : ℕ → ℕ → Message → Type 0
IsStrange node nodes message = (to_of message ≡ node) × ((from_of message ≡ node) ⊎ (nodes < from_of message))

-- why a message is not taken: it is for another node, or its sender is strange, or memory runs out
abbrev pub IsUnwanted : ℕ → ℕ → Message → AnswerError → Type 0
IsUnwanted node nodes message why =
    ((why ≡ fault.WrongNode) × (to_of message ≢ node))
    ⊎ (((why ≡ fault.Stranger) × IsStrange node nodes message) ⊎ (why ≡ fault.Memory))

-- a node's clock after it has received a frame: the greater of its own clock and the frame's, plus 1 (L. Lamport,
-- CACM 21(7), 1978)
abbrev pub clock_after : ℕ → ℕ → ℕ
clock_after own received = max own received + 1

-- the output is a line for each message, in order: the hexadecimal digits of its frame as it is written, in lower case
abbrev pub AreLines : ℕ → List Message → List ℕ → Type 0
AreLines clock [] output = output ≡ []
AreLines clock (message ∷ messages) output =
    (text : List ℕ) × (rest : List ℕ) × IsWrittenText text (record { clock = clock; message = message })
    × (output ≡ encode_lower text ++ 10 ∷ rest) × AreLines clock messages rest

-- The output is the frames that an idle node sends when it receives the frame of the input. The node has met no number
-- before, and its clock was 0.
pub record IsAnswered (node nodes : ℕ) (input output : List ℕ) : Type 0 where
  pub frame : Frame
  pub sends : List Message
  pub entered : Bool
  pub member : IsMember node nodes
  pub carries : Carries input frame
  pub is_for : IsForNode node nodes frame.message
  pub clock_left : clock_after 0 frame.clock ≤ 2 ^ 62
  pub reacts : Reacts node nodes frame.message sends entered
  pub lines : AreLines (clock_after 0 frame.clock) sends output

-- when each refusal may come: its cause applies, and no earlier one does. `Memory` and faults of the reader and the
-- writer come from outside, but the writer fails only if there is something to write.
abbrev pub Refuses : ℕ → ℕ → List ℕ → AnswerError → Type 0
Refuses node nodes input fault.BadCount = IsNodeNumber nodes → ⊥
Refuses node nodes input fault.BadNode = IsNodeNumber nodes × (IsMember node nodes → ⊥)
Refuses node nodes input fault.Read = IsMember node nodes
Refuses node nodes input fault.Line = IsMember node nodes × ((line : List ℕ) → IsLine input line → ⊥)
Refuses node nodes input fault.Hex =
    IsMember node nodes × (digits : List ℕ) × IsLine input digits
    × ((bytes : List ℕ) → decode_of digits ≡ Ok bytes → ⊥)
Refuses node nodes input (fault.Frame wrong) =
    IsMember node nodes × (bytes : List ℕ) × Spells input bytes × (first_fault bytes ≡ Some wrong)
Refuses node nodes input fault.WrongNode =
    IsMember node nodes × (frame : Frame) × Carries input frame × (to_of frame.message ≢ node)
Refuses node nodes input fault.Stranger =
    IsMember node nodes × (frame : Frame) × Carries input frame × IsStrange node nodes frame.message
Refuses node nodes input fault.ClockFull =
    IsMember node nodes × (frame : Frame) × Carries input frame × IsForNode node nodes frame.message
    × (2 ^ 62 < clock_after 0 frame.clock)
Refuses node nodes input fault.Memory = IsMember node nodes
Refuses node nodes input fault.Write = (output : List ℕ) × IsAnswered node nodes input output × (output ≢ [])
