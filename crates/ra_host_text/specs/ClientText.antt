-- What clients say to their host, and what it answers, as text.
use Rattle.std.specs.Prelude.{◌≡◌, ℕ, List, [], ◌++◌, Option, Some, None, codes, decimal}
use Rattle.ra_stamp.specs.Mode.{mode_word}
use Rattle.ra_stamp.specs.Name.{IsName}
use Rattle.ra_stamp.specs.NodeId.{IsNodeNumber}
use Rattle.ra_text.specs.Lines.{field}
use Rattle.ra_host_text.specs.HostText.{IsCount}
use Rattle.ra_host_text.specs.Wait.{IsWait}
use Rattle.ra_host_text.specs.declared.answer.Answer.{Answer}
use Rattle.ra_host_text.specs.declared.answer.Answer.TheVariants.{Granted, Timeout, Unlocked, Refused}
use Rattle.ra_host_text.specs.declared.answer.Refusal.{Refusal}
use Rattle.ra_host_text.specs.declared.answer.Refusal.TheVariants.{Busy, Exhausted, Limit, NotHeld}
use Rattle.ra_host_text.specs.declared.client_line.ClientLine.{ClientLine}
use Rattle.ra_host_text.specs.declared.client_line.ClientLine.TheVariants.{Lock, Unlock, Status}

-- ---- What clients say

abbrev pub IsWaitIn : Option ℕ → Type 0
IsWaitIn None = Unit {0}
IsWaitIn (Some milliseconds) = IsWait milliseconds

-- for how long a client waits, if it says so
abbrev pub within_text : Option ℕ → List ℕ
within_text None = []
within_text (Some milliseconds) = codes " within" ++ field (decimal milliseconds)

-- how it is spelled
abbrev pub client_text : ClientLine → List ℕ
client_text (Lock name mode within) = codes "lock" ++ field name ++ field (mode_word mode) ++ within_text within
client_text (Unlock name) = codes "unlock" ++ field name
client_text Status = codes "status"

-- its fields are in their ranges
abbrev pub IsClientInRange : ClientLine → Type 0
IsClientInRange (Lock name mode within) = IsName name × IsWaitIn within
IsClientInRange (Unlock name) = IsName name
IsClientInRange Status = Unit {0}

-- the line is that a client says this
abbrev pub IsClientLine : List ℕ → ClientLine → Type 0
IsClientLine line said = IsClientInRange said × (line ≡ client_text said)

-- ---- Answers

abbrev pub refusal_word : Refusal → List ℕ
refusal_word Busy = codes "Busy"
refusal_word Exhausted = codes "Exhausted"
refusal_word Limit = codes "Limit"
refusal_word NotHeld = codes "NotHeld"

-- how it is spelled
abbrev pub answer_text : Answer → List ℕ
answer_text (Granted name seq node) = codes "granted" ++ field name ++ field (decimal seq) ++ field (decimal node)
answer_text (Timeout name) = codes "timeout" ++ field name
answer_text (Unlocked name) = codes "unlocked" ++ field name
answer_text (Refused name why) = codes "refused" ++ field name ++ field (refusal_word why)

-- its fields are in their ranges
abbrev pub IsAnswerInRange : Answer → Type 0
IsAnswerInRange (Granted name seq node) = IsName name × IsCount seq × IsNodeNumber node
IsAnswerInRange (Timeout name) = IsName name
IsAnswerInRange (Unlocked name) = IsName name
IsAnswerInRange (Refused name why) = IsName name

-- the line is this answer
abbrev pub IsAnswer : List ℕ → Answer → Type 0
IsAnswer line answer = IsAnswerInRange answer × (line ≡ answer_text answer)
