-- Which comparisons put a REQUEST after the node's own request, and which answers follow from them.
use Rattle.std.specs.Prelude.{Bool, true, false, ◌&&◌, cond, IsTrue}
use Rattle.ra_stamp.specs.declared.mode.Mode.{Mode}
use Rattle.ra_stamp.specs.Mode.{conflicts, Conflict}
use Rattle.ra_automaton.specs.declared.cases.Answer.{Answer}
use Rattle.ra_automaton.specs.declared.cases.Answer.TheVariants.{Defer, Reply}
use Rattle.ra_automaton.specs.declared.cases.Comparison.{Comparison}
use Rattle.ra_automaton.specs.declared.cases.Comparison.TheVariants.{LowerNumber, LowerNode}
use Rattle.ra_automaton.specs.declared.cases.Comparison.TheVariants.{HigherNode, HigherNumber}

-- whether the REQUEST is after the node's own request: by its number, or by its node if the numbers are equal
abbrev pub is_later : Comparison → Bool
is_later LowerNumber = false
is_later LowerNode = false
is_later HigherNode = true
is_later HigherNumber = true

-- the answer in a table's row: the REPLY is deferred exactly if the modes conflict and the REQUEST is after the own
-- request
abbrev pub answer_of : Mode → Mode → Comparison → Answer
answer_of own wanted comparison = cond (conflicts own wanted && is_later comparison) Defer Reply

-- the same as a fact about an answer
abbrev pub IsAnswer : Mode → Mode → Comparison → Answer → Type 0
IsAnswer own wanted comparison Defer = Conflict own wanted × IsTrue (is_later comparison)
IsAnswer own wanted comparison Reply = Conflict own wanted → IsTrue (is_later comparison) → ⊥
