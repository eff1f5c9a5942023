-- What was written when `ra node` ended by a fault.
use Rattle.std.proofs.Common.{◌≡◌, ◌⊎◌, ℕ, zero, suc, ◌≤◌, List, [], ◌++◌, Option, Err, refl, sym, subst, inl, inr, codes, arith}
use Rattle.std.proofs.KnownBytes.{Appends-trans}
use Rattle.std.proofs.lemmas.List.{append-nil}
use Rattle.std.specs.Io.KnownBytes.{Appends}
use Rattle.ra_book_text.specs.Book.{IsOwed, IsWritten}
use Rattle.ra_book_text.specs.declared.error.BookFault.TheVariants.{Read, Write}
use Rattle.ra_cli.specs.declared.refusal_lines.CommandRefusal.TheVariants.{Node}
use Rattle.ra_cli.specs.NodeRun.{ServesNode}
use Rattle.ra_cli.specs.Refusals.{IsOfWriter}
use Rattle.ra_cli.specs.Statuses.{IsSaid, PrintsRefusal}

-- the line of a reader that failed was written, or as much of it as the writer took
module _ (before after : Option (List ℕ)) (Unwritten : Type 0) (status : ℕ) (printed : PrintsRefusal (Node Read) before after Unwritten status) where
  status_1 : status ≡ 1
  status_1 = by_number status printed.not_done printed.range (λ two. (printed.refused two).0 refl)
    where
      by_number : (n : ℕ) → 1 ≤ n → n ≤ 2 → (n ≡ 2 → ⊥) → n ≡ 1
      by_number zero least most other = absurd (omega arith)
      by_number (suc zero) least most other = refl
      by_number (suc (suc zero)) least most other = absurd (other refl)
      by_number (suc (suc (suc n))) least most other = absurd (omega arith)

  said_of : IsOfWriter (Node Read) ⊎ ((IsOfWriter (Node Read) → ⊥) × IsSaid (Node Read) before after)
      → (said : List ℕ) × (rest : List ℕ) × (codes "refused Read\n" ≡ said ++ rest) × Appends before after said
  said_of (inl writer) = absurd cc
  said_of (inr (other, inl (reader, all))) = (codes "refused Read\n", [], sym (append-nil (codes "refused Read\n")), all)
  said_of (inr (other, inr (said, rest, parts, left, some))) = (said, rest, parts, some)

  unread : (status ≡ 1) × ((said : List ℕ) × (rest : List ℕ) × (codes "refused Read\n" ≡ said ++ rest) × Appends before after said)
  unread = (status_1, said_of (printed.broken status_1))

-- the reader failed, and that was said
pub failed_reader : (old new before between after : Option (List ℕ)) (Unwritten : Type 0) (status : ℕ)
    → (answers : List ℕ) × IsOwed old new answers (Err Read) × IsWritten before between answers (Err Read)
    → PrintsRefusal (Node Read) between after Unwritten status → ServesNode old new before after status
failed_reader old new before between after Unwritten status (answers, owed, told) printed =
    let (one, (said, rest, parts, more)) = unread between after Unwritten status printed in
    (answers, Err Read, owed, (said, rest, parts, Appends-trans before between after answers said told more), one)

-- the writer failed, and nothing was written after that
pub failed_writer : (old new before between after : Option (List ℕ)) (Unwritten : Type 0) (status : ℕ)
    → (answers : List ℕ) × IsOwed old new answers (Err Write) × IsWritten before between answers (Err Write)
    → PrintsRefusal (Node Write) between after Unwritten status → (Unwritten → after ≡ between) → ServesNode old new before after status
failed_writer old new before between after Unwritten status (answers, owed, (prefix, rest, parts, some)) printed stays =
    let (one, unwritten) = printed.unwritten refl in
    (answers, Err Write, owed, (prefix, rest, parts, subst (λ (o : Option (List ℕ)). Appends before o prefix) (sym (stays unwritten)) some), one)
