-- The outcome of a task, by its status.
use Rattle.std.proofs.Common.{◌≡◌, ℕ, ◌⊎◌, List, Option, subst, sym, inl, inr}
use Rattle.std.specs.Prelude.{IfSome}
use Rattle.std.specs.Io.KnownBytes.{Appends}
use Rattle.ra_arguments.specs.declared.command_line.Task.{Task}
use Rattle.ra_cli.specs.declared.refusal_lines.CommandRefusal.{CommandRefusal}
use Rattle.ra_cli.specs.InputOutput.{BreaksOff}
use Rattle.ra_cli.specs.Refusals.{IsOfReader, IsOfWriter, refused_line, word_of}
use Rattle.ra_cli.specs.Statuses.{IsSaid, PrintsRefusal, Writes}
use Rattle.ra_cli.specs.Tasks.{Does, IsBrokenBy, IsCauseFor, IsCutBy, IsDoneBy, IsLeftBy, IsPrintedBy, IsRefusedBy}
use Rattle.ra_cli.proofs.ClusterRuns.{of_known}
use Rattle.ra_cli.proofs.Numbers.{at_most_3, none_of_done, none_of_3, done_at_most_3, left_at_most_3, broken_at_most_3, done_not_1, done_not_2, done_not_3, left_not_0, left_not_1, left_not_2, broken_not_0, broken_not_2, broken_not_3}
use Rattle.ra_cli.proofs.Statuses.{line_of_reader}

module _ (asked : Task) (old new before after : Option (List ℕ)) (status : ℕ) where
  pub if_done : status ≡ 0 → IsDoneBy asked old new before after → Does asked old new before after status
  if_done zero did = record {
    range = done_at_most_3 status zero;
    done = λ _. did;
    unfinished = λ three. done_not_3 status zero three;
    refused = λ two. done_not_2 status zero two;
    broken = λ one. done_not_1 status zero one;
  }

  pub if_left : status ≡ 3 → IsLeftBy asked old new before after → Does asked old new before after status
  if_left three left = record {
    range = left_at_most_3 status three;
    done = λ zero. left_not_0 status three zero;
    unfinished = λ _. left;
    refused = λ two. left_not_2 status three two;
    broken = λ one. left_not_1 status three one;
  }

  -- the writer took a prefix of what is printed of the input
  if_cut : status ≡ 1 → IfSome old (λ input. IsCutBy asked input before after) → Does asked old new before after status
  if_cut one cut = record {
    range = broken_at_most_3 status one;
    done = λ zero. broken_not_0 status one zero;
    unfinished = λ three. broken_not_3 status one three;
    refused = λ two. broken_not_2 status one two;
    broken = λ _. inr (inr cut);
  }

  if_prefix : (text : List ℕ) → IfSome old (λ input. IsPrintedBy asked input text) → BreaksOff text before after
      → IfSome old (λ input. IsCutBy asked input before after)
  if_prefix text printed breaks =
      of_known old (λ input. IsPrintedBy asked input text) (λ input. IsCutBy asked input before after) (λ input is. (text, is, breaks)) printed

  -- a text was to be written that says what was done
  pub if_shown : (text : List ℕ) → Writes text 0 before after status → (Appends before after text → IsDoneBy asked old new before after)
      → IfSome old (λ input. IsPrintedBy asked input text) → Does asked old new before after status
  if_shown text (inl (zero, all)) did printed = if_done zero (did all)
  if_shown text (inr (one, breaks)) did printed = if_cut one (if_prefix text printed breaks)

  -- a text was to be written that says what is left to do, or what is wrong with the input
  pub if_denied : (text : List ℕ) → Writes text 3 before after status → (Appends before after text → IsLeftBy asked old new before after)
      → IfSome old (λ input. IsPrintedBy asked input text) → Does asked old new before after status
  if_denied text (inl (three, all)) left printed = if_left three (left all)
  if_denied text (inr (one, breaks)) left printed = if_cut one (if_prefix text printed breaks)

  -- a verdict was to be written, that the input is valid or not
  pub if_judged : (text : List ℕ) (wanted : ℕ) (Valid Invalid : Type 0) → ((wanted ≡ 0) × Valid) ⊎ ((wanted ≡ 3) × Invalid)
      → Writes text wanted before after status
      → (Valid → Appends before after text → IsDoneBy asked old new before after)
      → (Invalid → Appends before after text → IsLeftBy asked old new before after)
      → IfSome old (λ input. IsPrintedBy asked input text) → Does asked old new before after status
  if_judged text wanted Valid Invalid (inl (zero, valid)) writes did left printed =
      if_shown text (subst (λ (w : ℕ). Writes text w before after status) zero writes) (did valid) printed
  if_judged text wanted Valid Invalid (inr (three, invalid)) writes did left printed =
      if_denied text (subst (λ (w : ℕ). Writes text w before after status) three writes) (left invalid) printed

  -- the line of a refusal, or a prefix of it
  if_said : (why : CommandRefusal) → IsCauseFor asked old new why → (IsOfWriter why → ⊥) → IsSaid why before after
      → IsBrokenBy asked old new before after
  if_said why cause other (inl (reader, all)) = inl (why, reader, cause, subst (Appends before after) (line_of_reader why reader) all)
  if_said why cause other (inr breaks) = inr (inl (why, other, cause, breaks))

  -- it was refused, after `between` was written
  module _ (between : Option (List ℕ)) (why : CommandRefusal) (Unwritten : Type 0) (printed : PrintsRefusal why between after Unwritten status)
      (stays : Unwritten → after ≡ between) (same : (IsOfWriter why → ⊥) → between ≡ before)
      (fails : IsOfWriter why → IfSome old (λ input. IsCutBy asked input before between)) (cause : IsCauseFor asked old new why) where
    of_two : (IsOfReader why → ⊥) × (IsOfWriter why → ⊥) × Appends between after (refused_line (word_of why)) → IsRefusedBy asked old new before after
    of_two h = (why, h.0, h.1, subst (λ (o : Option (List ℕ)). Appends o after (refused_line (word_of why))) (same h.1) h.2, cause)

    of_one : status ≡ 1 → IsOfWriter why ⊎ ((IsOfWriter why → ⊥) × IsSaid why between after) → IsBrokenBy asked old new before after
    of_one one (inl writer) =
        let unwritten = (printed.unwritten writer).1 in
        inr (inr (subst (λ (o : Option (List ℕ)). IfSome old (λ input. IsCutBy asked input before o)) (sym (stays unwritten)) (fails writer)))
    of_one one (inr (other, says)) = if_said why cause other (subst (λ (o : Option (List ℕ)). IsSaid why o after) (same other) says)

    pub if_refused : Does asked old new before after status
    if_refused = record {
      range = at_most_3 status printed.range;
      done = λ zero. none_of_done status printed.not_done zero;
      unfinished = λ three. none_of_3 status printed.range three;
      refused = λ two. of_two (printed.refused two);
      broken = λ one. of_one one (printed.broken one);
    }

  -- it was refused before anything was written, and not because the writer failed
  pub if_refused_at_once : (why : CommandRefusal) (Unwritten : Type 0) → PrintsRefusal why before after Unwritten status → (IsOfWriter why → ⊥)
      → IsCauseFor asked old new why → Does asked old new before after status
  if_refused_at_once why Unwritten printed never cause = record {
    range = at_most_3 status printed.range;
    done = λ zero. none_of_done status printed.not_done zero;
    unfinished = λ three. none_of_3 status printed.range three;
    refused = λ two. (why, (printed.refused two).0, (printed.refused two).1, (printed.refused two).2, cause);
    broken = λ one. of_one (printed.broken one);
  }
    where
      of_one : IsOfWriter why ⊎ ((IsOfWriter why → ⊥) × IsSaid why before after) → IsBrokenBy asked old new before after
      of_one (inl writer) = absurd (never writer)
      of_one (inr (other, says)) = if_said why cause other says
