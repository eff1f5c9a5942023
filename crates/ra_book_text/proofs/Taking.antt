-- A line that is an event, at a node and its clock.
use Rattle.std.proofs.Common.{◌≡◌, ℕ, inl, inr, List, refl}
use Rattle.ra_node.specs.declared.outcome.Outcome.{Outcome}
use Rattle.ra_book.specs.declared.book.event.BookKind.{BookKind}
use Rattle.ra_book.specs.declared.error.BookError.{BookError}
use Rattle.ra_book.specs.Timed.{Timed, Takes, Refuses}
use Rattle.ra_book_text.specs.declared.answering.line_refusal.Refusal.TheVariants as refusal
use Rattle.ra_book_text.specs.BookText.{AllowsKind, IsEvent, IsEventIn}
use Rattle.ra_book_text.specs.declared.next_line.book_version.BookVersion.{BookVersion}
use Rattle.ra_book_text.specs.Answers.{Reacts, Stays}

-- a line that is an event that the node takes, and one that it does not
pub reacts : (version : BookVersion) (old new : Timed) (text : List ℕ) (kind : BookKind) (outcome : Outcome) → IsEventIn version text kind
    → Takes old kind outcome.sends.items outcome.marks.items new → Reacts version old text outcome.sends.items outcome.marks.items new
reacts version old new text kind outcome is takes = record { kind = kind; is_event = is; takes = takes }

pub stays : (version : BookVersion) (old new : Timed) (text : List ℕ) (kind : BookKind) (why : BookError) → IsEventIn version text kind → (new ≡ old) × Refuses old kind why
    → Stays version old text new (refusal.Event why)
stays version old new text kind why is refuses = record { cause = inr (inr (kind, why, refl, is, refuses.1)); new_is = refuses.0 }

-- an event that a book of this version does not have
pub too_new : (version : BookVersion) (old : Timed) (text : List ℕ) (kind : BookKind) → IsEvent text kind → (AllowsKind version kind → ⊥) → Stays version old text old refusal.Line
too_new version old text kind is not = record { cause = inr (inl (refl, (kind, is, not))); new_is = refl }
