-- The laws of modes, stamps and equal values. A proof names them, and no code calls them.
use Rattle.std.proofs.Common.{◌≡◌, ◌↔◌, ◌⊎◌, ap, sym, arith, rules}
use Rattle.std.specs.Prelude.{IsTrue}
use Rattle.std.proofs.lemmas.Bool.{true≢false}
use Rattle.std.proofs.lemmas.Grind.{common_steps}
use Rattle.ra_stamp.specs.declared.entry.Entry.{Entry}
use Rattle.ra_stamp.specs.declared.entry.Mark.{Mark}
use Rattle.ra_stamp.specs.declared.entry.Mark.TheVariants.{Requested, Entered, Left, Withdrawn}
use Rattle.ra_stamp.specs.declared.message.Message.{Message}
use Rattle.ra_stamp.specs.declared.mode.Mode.{Mode}
use Rattle.ra_stamp.specs.declared.stamp.Stamp.{Stamp}
use Rattle.ra_stamp.specs.contracts.entry.EntryPartialEq.TheImpl as entries
use Rattle.ra_stamp.specs.contracts.entry.MarkPartialEq.TheImpl as marks
use Rattle.ra_stamp.specs.contracts.message.MessagePartialEq.TheImpl as messages
use Rattle.ra_stamp.specs.Mode.{compatible, Conflict}
use Rattle.ra_stamp.specs.Stamp.{IsEarlier}

-- whether two modes conflict does not depend on their order
pub conflict_flips : (a b : Mode) → Conflict a b → Conflict b a
unfolding compatible
conflict_flips a b conflict = grind (arith, conflict)

-- of two different stamps one is earlier
pub one_is_earlier : (a b : Stamp) → IsEarlier a b ⊎ ((a ≡ b) ⊎ IsEarlier b a)
one_is_earlier a b = grind (arith, common_steps)

-- messages that compare as equal are the same
pub same_messages : (a b : Message) → IsTrue (messages.ghosts.eq a b) ↔ (a ≡ b)
same_messages a b = search rules

-- entries, likewise
pub same_entries : (a b : Entry) → IsTrue (entries.ghosts.eq a b) ↔ (a ≡ b)
same_entries a b = search rules

-- marks are the same if their words are, and their entries
pub same_marks : (a b : Mark) → IsTrue (marks.ghosts.eq a b) ↔ (a ≡ b)
same_marks (Requested a) (Requested b) = (λ h. ap Requested ((same_entries a b).0 h), λ h. (same_entries a b).1 (cc))
same_marks (Requested a) (Entered b) = (λ h. absurd (true≢false (sym h)), λ h. cc)
same_marks (Requested a) (Left b) = (λ h. absurd (true≢false (sym h)), λ h. cc)
same_marks (Requested a) (Withdrawn b) = (λ h. absurd (true≢false (sym h)), λ h. cc)
same_marks (Entered a) (Requested b) = (λ h. absurd (true≢false (sym h)), λ h. cc)
same_marks (Entered a) (Entered b) = (λ h. ap Entered ((same_entries a b).0 h), λ h. (same_entries a b).1 (cc))
same_marks (Entered a) (Left b) = (λ h. absurd (true≢false (sym h)), λ h. cc)
same_marks (Entered a) (Withdrawn b) = (λ h. absurd (true≢false (sym h)), λ h. cc)
same_marks (Left a) (Requested b) = (λ h. absurd (true≢false (sym h)), λ h. cc)
same_marks (Left a) (Entered b) = (λ h. absurd (true≢false (sym h)), λ h. cc)
same_marks (Left a) (Left b) = (λ h. ap Left ((same_entries a b).0 h), λ h. (same_entries a b).1 (cc))
same_marks (Left a) (Withdrawn b) = (λ h. absurd (true≢false (sym h)), λ h. cc)
same_marks (Withdrawn a) (Requested b) = (λ h. absurd (true≢false (sym h)), λ h. cc)
same_marks (Withdrawn a) (Entered b) = (λ h. absurd (true≢false (sym h)), λ h. cc)
same_marks (Withdrawn a) (Left b) = (λ h. absurd (true≢false (sym h)), λ h. cc)
same_marks (Withdrawn a) (Withdrawn b) = (λ h. ap Withdrawn ((same_entries a b).0 h), λ h. (same_entries a b).1 (cc))
