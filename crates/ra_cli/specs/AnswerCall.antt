-- What a call of `answer` does.
use Rattle.std.specs.Prelude.{◌≡◌, ◌≢◌, ◌⊎◌, ℕ, List, Result, Option, IfSome, IfErr, OnOk}
use Rattle.std.specs.Io.KnownBytes.{Consumes, Appends}
use Rattle.ra_automaton.specs.declared.error.ReceiveError.{ReceiveError}
use Rattle.ra_automaton.specs.declared.error.ReceiveError.TheVariants as receive
use Rattle.ra_cli.specs.declared.error.AnswerError.{AnswerError}
use Rattle.ra_cli.specs.declared.error.AnswerError.TheVariants as fault
use Rattle.ra_stamp.specs.Member.{IsMember}
use Rattle.ra_cli.specs.Answer.{IsAnswered, Refuses}
use Rattle.ra_cli.specs.InputOutput.{ReadsInput, WritesOutput}

-- the refusal of a frame whose message is not taken
abbrev pub of_receive : ReceiveError → AnswerError
of_receive receive.WrongNode = fault.WrongNode
of_receive receive.Stranger = fault.Stranger
of_receive receive.Memory = fault.Memory

-- the refusal is of what was read, or memory ran out: neither the reader nor the writer failed
abbrev pub IsOfInput : AnswerError → Type 0
IsOfInput why = (why ≢ fault.Read) × (why ≢ fault.Write)

-- What was read and written, or the cause of a refusal. The caller says what it means that the reader and the writer
-- stay as they were: two of the propositions are these.
pub record ComesTo {T : Type 0} (node nodes : ℕ) (old new before after : Option (List ℕ))
    (same_reader same_writer : Type 0)
    (result : Result T AnswerError) : Type 0 where
  -- what is read is a line of digits to its end, and only the answer to it is written
  pub ok : OnOk result (IfSome old
      (λ input. (output : List ℕ) × IsAnswered node nodes input output × Consumes old new input
      × Appends before after output))
  -- if the reader tells nothing of its input, a refusal still has a cause, and the node is one of the nodes
  pub cause : IfErr result (λ why. (input : List ℕ) × Refuses node nodes input why)
  pub member : OnOk result (IsMember node nodes)
  pub untouched : IfErr result (λ why. (why ≡ fault.BadCount) ⊎ (why ≡ fault.BadNode) → same_reader)
  pub reads : ReadsInput fault.Read 258 (Refuses node nodes) old new result
  pub writes : WritesOutput fault.Write (IsAnswered node nodes) old before after same_writer result
