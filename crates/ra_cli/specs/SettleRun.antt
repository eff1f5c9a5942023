-- What `ra settle` reads and prints, and its exit status.
use Rattle.std.specs.Prelude.{◌≡◌, ◌≢◌, ◌⊎◌, ℕ, ◌<◌, ◌≤◌, ◌^◌, List, [], ◌++◌, Option, codes, decimal, length, map}
use Rattle.std.specs.Io.KnownBytes.{Appends, Consumes, IsAtEnd}
use Rattle.ra_text.specs.Lines.{field}
use Rattle.ra_world.specs.Lines.{report_text}
use Rattle.ra_world.specs.Traffic.{Move}
use Rattle.ra_trace.specs.TraceText.{IsTrace}
use Rattle.ra_book_text.specs.declared.text_settling.settle_error.TextCause.{TextCause}
use Rattle.ra_book_text.specs.declared.text_settling.settle_error.TextCause.TheVariants as cause
use Rattle.ra_book_text.specs.declared.text_settling.SettledText.{SettledText}
use Rattle.ra_book_text.specs.Verdicts.{IsSettledText, IsWrong}
use Rattle.ra_text.specs.declared.error.ReadFault.{ReadFault}
use Rattle.ra_text.specs.declared.error.ReadFault.TheVariants as read
use Rattle.ra_cli.specs.declared.error.SettleFault.{SettleFault}
use Rattle.ra_cli.specs.declared.error.SettleFault.TheVariants as fault
use Rattle.ra_arguments.specs.declared.settle_arguments.SettleOutput.{SettleOutput}
use Rattle.ra_arguments.specs.declared.settle_arguments.SettleOutput.TheVariants.{Lines, Objects, Trace}
use Rattle.ra_arguments.specs.declared.settle_arguments.SettleTask.{SettleTask}
use Rattle.ra_json.specs.Settled.{report_lines}
use Rattle.ra_json.specs.Verdicts.{invalid_line}
use Rattle.ra_cli.specs.InputOutput.{StopsBefore}
use Rattle.ra_cli.specs.Refusals.{refused_line, settle_word}

-- what is printed of the settled run: the lines of its report, its trace, or the objects of its marks and totals
abbrev pub Prints : SettleOutput → SettledText → List ℕ → Type 0
Prints Lines text output = output ≡ report_text text.settled.report
Prints Trace text output = (moves : List Move) × (map (λ move. move.step) moves ≡ text.settled.steps.items)
    × IsTrace text.nodes text.start moves output
Prints Objects text output = output ≡ report_lines text.settled.report

-- the input is a text of books that settle, and this is printed of their run
abbrev pub Settles : SettleTask → (input output : List ℕ) → Type 0
Settles asked input output = (text : SettledText) × IsSettledText asked.repeats input text
    × Prints asked.printed text output

-- the word for why a text does not settle
abbrev pub text_cause_word : TextCause → List ℕ
text_cause_word cause.Line = codes "Line"
text_cause_word cause.Books = codes "Books"
text_cause_word cause.Refused = codes "Refused"
text_cause_word cause.NotSent = codes "NotSent"
text_cause_word cause.Twice = codes "Twice"

-- the line for a text that does not settle
abbrev pub unsettled_line : ℕ → TextCause → List ℕ
unsettled_line number why = codes "invalid" ++ field (decimal number) ++ field (text_cause_word why) ++ codes "\n"

-- what is printed of it: that line, or the line of its object
abbrev pub unsettled_in : SettleOutput → ℕ → TextCause → List ℕ
unsettled_in Lines number why = unsettled_line number why
unsettled_in Trace number why = unsettled_line number why
unsettled_in Objects number why = invalid_line number (text_cause_word why)

-- the input does not settle, and this says at which line and why
abbrev pub Contradicts : SettleTask → (input output : List ℕ) → Type 0
Contradicts asked input output =
    (number : ℕ) × (why : TextCause) × IsWrong asked.repeats input number why
    × (output ≡ unsettled_in asked.printed number why)

-- what an input that was read leads to, by the status
pub record TellsSettled (asked : SettleTask) (input : List ℕ) (before after : Option (List ℕ))
    (status : ℕ) : Type 0 where
  pub range : status ≤ 3
  pub done : status ≡ 0 → (output : List ℕ) × Settles asked input output × Appends before after output
  pub unfinished : status ≡ 3 → (output : List ℕ) × Contradicts asked input output × Appends before after output
  pub refused : status ≡ 2 → Appends before after (refused_line (codes "Memory"))
  -- only a prefix of one of these was written
  pub broken : status ≡ 1 → (prefix : List ℕ) × (rest : List ℕ) × (rest ≢ []) × Appends before after prefix
      × (Settles asked input (prefix ++ rest) ⊎ Contradicts asked input (prefix ++ rest)
      ⊎ (prefix ++ rest ≡ refused_line (codes "Memory")))

-- the input was read to its end, and has at most as many bytes as a text may
pub record ReadsBooks (old new : Option (List ℕ)) (input : List ℕ) : Type 0 where
  pub taken : Consumes old new input
  pub ended : IsAtEnd new
  pub short : length input ≤ 2 ^ 30

-- the refusal of a text that was not read
abbrev pub of_unread : ReadFault → SettleFault
of_unread read.Read = fault.Read
of_unread read.Memory = fault.Memory

-- why books are not settled: a text is too long if it has more than 1,073,741,824 bytes, and the reader fails only
-- before it gave more than that
abbrev pub RefusesBooks : (old new : Option (List ℕ)) → SettleFault → Type 0
RefusesBooks old new fault.Read = StopsBefore 1073741825 old new
RefusesBooks old new fault.Limit = (input : List ℕ) × Consumes old new input × (2 ^ 30 < length input)
RefusesBooks old new fault.Memory = Unit {0}

-- Status 0: the input is a text of books that settle, and exactly the report or the trace of their run was written.
-- Status 3: it is no such text, and exactly the line that says so, with the place and the cause, was written. Status 2:
-- it is too long, or memory ran out, and the line that says so was written. Status 1: the reader failed, and the line
-- that says so was written; or the writer failed, and only a prefix of what is printed was written.
pub record ServesSettle (asked : SettleTask) (old new before after : Option (List ℕ)) (status : ℕ) : Type 0 where
  pub range : status ≤ 3
  pub done : status ≡ 0
      → (input : List ℕ) × (output : List ℕ) × ReadsBooks old new input × Settles asked input output
      × Appends before after output
  pub unfinished : status ≡ 3
      → (input : List ℕ) × (output : List ℕ) × ReadsBooks old new input × Contradicts asked input output
      × Appends before after output
  pub refused : status ≡ 2 → Appends before after (refused_line (codes "Memory"))
      ⊎ (Appends before after (refused_line (codes "Limit")) × RefusesBooks old new fault.Limit)
  pub broken : status ≡ 1 → (RefusesBooks old new fault.Read × Appends before after (codes "refused Read\n"))
      ⊎ ((prefix : List ℕ) × (rest : List ℕ) × (rest ≢ []) × Appends before after prefix
      × (((input : List ℕ) × ReadsBooks old new input
      × (Settles asked input (prefix ++ rest) ⊎ Contradicts asked input (prefix ++ rest)))
      ⊎ ((why : SettleFault) × RefusesBooks old new why × (prefix ++ rest ≡ refused_line (settle_word why)))))
