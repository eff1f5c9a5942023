-- What a refusal comes to, and a text that is written, as the statuses tell it.
use Rattle.std.proofs.Common.{◌≡◌, ◌⊎◌, ℕ, zero, suc, ◌≤◌, List, Option, refl, sym, ap, subst, ◌∙◌, inl, inr, codes, arith}
use Rattle.std.specs.Io.KnownBytes.{Appends}
use Rattle.ra_script.specs.declared.error.PerformError.{PerformError}
use Rattle.ra_draw.specs.declared.error.DrawError.{DrawError}
use Rattle.ra_book_text.specs.declared.error.BookFault.{BookFault}
use Rattle.ra_trace.specs.declared.error.TraceError.{TraceError}
use Rattle.ra_arguments.specs.declared.command_line.CommandFault.{CommandFault}
use Rattle.ra_cli.specs.declared.error.AnswerError.{AnswerError}
use Rattle.ra_cli.specs.declared.error.RunScriptError.{RunScriptError}
use Rattle.ra_cli.specs.declared.error.SettleFault.{SettleFault}
use Rattle.ra_cli.specs.declared.refusal_lines.CommandRefusal.{CommandRefusal}
use Rattle.ra_cli.specs.declared.refusal_lines.CommandRefusal.TheVariants.{Command, Answer, Choices, Perform, Check, Draw, Cluster, Survey, Settle, Node}
use Rattle.ra_cli.specs.InputOutput.{BreaksOff}
use Rattle.ra_cli.specs.Refusals.{IsOfReader, IsOfWriter, command_word, refused_line, word_of}
use Rattle.ra_cli.specs.Statuses.{IsSaid, PrintsRefusal, Writes}
use Rattle.ra_cli.proofs.Numbers.{broken_at_least_1, broken_at_most_2, broken_not_2}

-- ---- Who failed

pub line_of_reader : (refusal : CommandRefusal) → IsOfReader refusal → refused_line (word_of refusal) ≡ codes "refused Read\n"
line_of_reader (Command why) is = absurd is
line_of_reader (Answer why) is = ap (λ (w : AnswerError). refused_line (word_of (Answer w))) is
line_of_reader (Choices why) is = absurd is
line_of_reader (Perform why) is = ap (λ (w : PerformError). refused_line (word_of (Perform w))) is
line_of_reader (Check why) is = ap (λ (w : TraceError). refused_line (word_of (Check w))) is
line_of_reader (Draw why) is = ap (λ (w : DrawError). refused_line (word_of (Draw w))) is
line_of_reader (Cluster why) is = ap (λ (w : RunScriptError). refused_line (word_of (Cluster w))) is
line_of_reader (Survey why) is = ap (λ (w : RunScriptError). refused_line (word_of (Survey w))) is
line_of_reader (Settle why) is = ap (λ (w : SettleFault). refused_line (word_of (Settle w))) is
line_of_reader (Node why) is = ap (λ (w : BookFault). refused_line (word_of (Node w))) is

-- ---- The outcome of a refusal

-- nothing is written after the writer failed
pub of_writer : (refusal : CommandRefusal) (before after : Option (List ℕ)) (Unwritten : Type 0) (status : ℕ) → status ≡ 1 → IsOfWriter refusal → Unwritten
    → PrintsRefusal refusal before after Unwritten status
of_writer refusal before after Unwritten status one writer unwritten = record {
  range = broken_at_most_2 status one;
  not_done = broken_at_least_1 status one;
  unwritten = λ _. (one, unwritten);
  refused = λ two. broken_not_2 status one two;
  broken = λ _. inl writer;
}

-- its line is written, or a prefix of it, if the reader failed
pub of_reader : (refusal : CommandRefusal) (line : List ℕ) (before after : Option (List ℕ)) (Unwritten : Type 0) (result status : ℕ) → status ≡ result
    → line ≡ refused_line (word_of refusal) → IsOfReader refusal → (IsOfWriter refusal → ⊥) → Writes line 1 before after result
    → PrintsRefusal refusal before after Unwritten status
of_reader refusal line before after Unwritten result status same is reader other writes = record {
  range = broken_at_most_2 status one;
  not_done = broken_at_least_1 status one;
  unwritten = λ writer. absurd (other writer);
  refused = λ two. broken_not_2 status one two;
  broken = λ _. inr (other, said writes);
}
  where
    is_one : Writes line 1 before after result → result ≡ 1
    is_one (inl all) = all.0
    is_one (inr part) = part.0

    one : status ≡ 1
    one = same ∙ is_one writes

    said : Writes line 1 before after result → IsSaid refusal before after
    said (inl (_, all)) = inl (reader, subst (Appends before after) is all)
    said (inr (_, (prefix, rest, parts, left, some))) = inr (prefix, rest, sym is ∙ parts, left, some)

-- and if neither failed
pub of_others : (refusal : CommandRefusal) (line : List ℕ) (before after : Option (List ℕ)) (Unwritten : Type 0) (result status : ℕ) → status ≡ result
    → line ≡ refused_line (word_of refusal) → (IsOfReader refusal → ⊥) → (IsOfWriter refusal → ⊥) → Writes line 2 before after result
    → PrintsRefusal refusal before after Unwritten status
of_others refusal line before after Unwritten result status same is no_reader no_writer (inl (two, all)) = record {
  range = omega (arith, same, two);
  not_done = omega (arith, same, two);
  unwritten = λ writer. absurd (no_writer writer);
  refused = λ _. (no_reader, no_writer, subst (Appends before after) is all);
  broken = λ one. absurd (omega (arith, same, two, one));
}
of_others refusal line before after Unwritten result status same is no_reader no_writer (inr (one, (prefix, rest, parts, left, some))) = record {
  range = omega (arith, same, one);
  not_done = omega (arith, same, one);
  unwritten = λ writer. absurd (no_writer writer);
  refused = λ two. absurd (omega (arith, same, one, two));
  broken = λ _. inr (no_writer, inr (prefix, rest, sym is ∙ parts, left, some));
}

-- ---- What is written

-- a text is written under another name, and its status returned under another
pub writes_as : (text shown : List ℕ) (wanted : ℕ) (before after : Option (List ℕ)) (result status : ℕ) → status ≡ result → shown ≡ text
    → Writes shown wanted before after result → Writes text wanted before after status
writes_as text shown wanted before after result status same is writes =
    subst (λ (s : ℕ). Writes text wanted before after s) (sym same) (subst (λ (t : List ℕ). Writes t wanted before after result) is writes)

-- the line that says why nothing is asked for
pub said_why : (fault : CommandFault) (before after : Option (List ℕ)) (Unwritten : Type 0) (status : ℕ)
    → PrintsRefusal (Command fault) before after Unwritten status → Writes (refused_line (command_word fault)) 2 before after status
said_why fault before after Unwritten status printed = by_status (one_or_two status printed.not_done printed.range)
  where
    one_or_two : (n : ℕ) → 1 ≤ n → n ≤ 2 → (n ≡ 1) ⊎ (n ≡ 2)
    one_or_two zero least most = absurd (omega arith)
    one_or_two (suc zero) least most = inl refl
    one_or_two (suc (suc zero)) least most = inr refl
    one_or_two (suc (suc (suc n))) least most = absurd (omega arith)

    of_one : IsOfWriter (Command fault) ⊎ ((IsOfWriter (Command fault) → ⊥) × IsSaid (Command fault) before after)
        → BreaksOff (refused_line (command_word fault)) before after
    of_one (inl writer) = absurd writer
    of_one (inr (other, inl (reader, all))) = absurd reader
    of_one (inr (other, inr breaks)) = breaks

    by_status : (status ≡ 1) ⊎ (status ≡ 2) → Writes (refused_line (command_word fault)) 2 before after status
    by_status (inl one) = inr (one, of_one (printed.broken one))
    by_status (inr two) = inl (two, (printed.refused two).2)
