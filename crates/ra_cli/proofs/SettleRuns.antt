-- What it means for the statuses that books were settled, or not.
use Rattle.std.proofs.Common.{◌≡◌, ◌≢◌, ◌⊎◌, ℕ, ◌≤◌, List, [], ◌++◌, length, Option, inl, inr, refl, sym, subst, codes, arith}
use Rattle.std.specs.Io.KnownBytes.{Appends}
use Rattle.ra_text.specs.Input.{Reads}
use Rattle.ra_text.specs.declared.error.ReadFault.{ReadFault}
use Rattle.ra_text.specs.declared.error.ReadFault.TheVariants as read
use Rattle.ra_cli.specs.InputOutput.{StopsBefore}
use Rattle.ra_cli.specs.declared.error.SettleFault.{SettleFault}
use Rattle.ra_cli.specs.declared.error.SettleFault.TheVariants as fault
use Rattle.ra_arguments.specs.declared.settle_arguments.SettleTask.{SettleTask}
use Rattle.ra_cli.specs.declared.refusal_lines.CommandRefusal.TheVariants.{Settle}
use Rattle.ra_cli.specs.Refusals.{IsOfWriter, refused_line, settle_word}
use Rattle.ra_cli.specs.SettleRun.{Contradicts, ReadsBooks, RefusesBooks, ServesSettle, Settles, TellsSettled, of_unread}
use Rattle.ra_cli.specs.Statuses.{IsSaid, PrintsRefusal, Writes}

-- the outcome of an input that was not read to its end: the status is 1 if the reader failed, and otherwise 2, or 1 if
-- the writer failed
pub record RefusesInput (why : SettleFault) (before after : Option (List ℕ)) (status : ℕ) : Type 0 where
  pub range : (1 ≤ status) × (status ≤ 2)
  pub refused : status ≡ 2 → (why ≢ fault.Read) × Appends before after (refused_line (settle_word why))
  pub broken : status ≡ 1 → ((why ≡ fault.Read) × Appends before after (codes "refused Read\n"))
      ⊎ ((prefix : List ℕ) × (rest : List ℕ) × (rest ≢ []) × Appends before after prefix × (prefix ++ rest ≡ refused_line (settle_word why)))

-- what `refuse` says of a refusal of the input
module _ (why : SettleFault) (before after : Option (List ℕ)) (Unwritten : Type 0) (status : ℕ)
    (printed : PrintsRefusal (Settle why) before after Unwritten status) where
  of_said : IsOfWriter (Settle why) ⊎ ((IsOfWriter (Settle why) → ⊥) × IsSaid (Settle why) before after)
      → ((why ≡ fault.Read) × Appends before after (codes "refused Read\n"))
      ⊎ ((prefix : List ℕ) × (rest : List ℕ) × (rest ≢ []) × Appends before after prefix × (prefix ++ rest ≡ refused_line (settle_word why)))
  of_said (inl writer) = absurd writer
  of_said (inr (other, inl (reader, all))) =
      inl (reader, subst (λ (w : SettleFault). Appends before after (refused_line (settle_word w))) reader all)
  of_said (inr (other, inr (prefix, rest, is, left, some))) = inr (prefix, rest, left, some, sym is)

  pub refuses : RefusesInput why before after status
  refuses = record {
    range = (printed.not_done, printed.range);
    refused = λ is. ((printed.refused is).0, (printed.refused is).2);
    broken = λ is. of_said (printed.broken is);
  }

-- why the text was not read
pub of_fault : (old new : Option (List ℕ)) (why : ReadFault) → (why ≡ read.Read → StopsBefore 1073741825 old new) → RefusesBooks old new (of_unread why)
of_fault old new read.Read stops = stops refl
of_fault old new read.Memory stops = tt

-- that memory ran out
pub no_memory : (asked : SettleTask) (input : List ℕ) (before after : Option (List ℕ)) (status : ℕ) → RefusesInput fault.Memory before after status
    → TellsSettled asked input before after status
no_memory asked input before after status h = record {
  range = omega (arith, h.range.1);
  done = λ is. absurd (omega (arith, is, h.range.0));
  unfinished = λ is. absurd (omega (arith, is, h.range.1));
  refused = λ is. (h.refused is).1;
  broken = λ is. of_broken (h.broken is);
}
  where
    of_broken : ((fault.Memory ≡ fault.Read) × Appends before after (codes "refused Read\n"))
        ⊎ ((prefix : List ℕ) × (rest : List ℕ) × (rest ≢ []) × Appends before after prefix × (prefix ++ rest ≡ refused_line (codes "Memory")))
        → (prefix : List ℕ) × (rest : List ℕ) × (rest ≢ []) × Appends before after prefix
        × (Settles asked input (prefix ++ rest) ⊎ Contradicts asked input (prefix ++ rest) ⊎ (prefix ++ rest ≡ refused_line (codes "Memory")))
    of_broken (inl read) = absurd (let clash = read.0 in cc)
    of_broken (inr (prefix, rest, left, some, is)) = (prefix, rest, left, some, inr (inr is))

-- ---- A text that is written, or from which the writer takes a prefix

pub shown : (asked : SettleTask) (input output : List ℕ) (before after : Option (List ℕ)) (status : ℕ) → Settles asked input output
    → Writes output 0 before after status → TellsSettled asked input before after status
shown asked input output before after status is (inl (zero, all)) = record {
  range = omega (arith, zero);
  done = λ _. (output, is, all);
  unfinished = λ three. absurd (omega (arith, zero, three));
  refused = λ two. absurd (omega (arith, zero, two));
  broken = λ one. absurd (omega (arith, zero, one));
}
shown asked input output before after status is (inr (one, (prefix, rest, parts, left, some))) = record {
  range = omega (arith, one);
  done = λ zero. absurd (omega (arith, zero, one));
  unfinished = λ three. absurd (omega (arith, one, three));
  refused = λ two. absurd (omega (arith, one, two));
  broken = λ _. (prefix, rest, left, some, inl (subst (Settles asked input) parts is));
}

pub contradicted : (asked : SettleTask) (input output : List ℕ) (before after : Option (List ℕ)) (status : ℕ) → Contradicts asked input output
    → Writes output 3 before after status → TellsSettled asked input before after status
contradicted asked input output before after status is (inl (three, all)) = record {
  range = omega (arith, three);
  done = λ zero. absurd (omega (arith, three, zero));
  unfinished = λ _. (output, is, all);
  refused = λ two. absurd (omega (arith, three, two));
  broken = λ one. absurd (omega (arith, three, one));
}
contradicted asked input output before after status is (inr (one, (prefix, rest, parts, left, some))) = record {
  range = omega (arith, one);
  done = λ zero. absurd (omega (arith, zero, one));
  unfinished = λ three. absurd (omega (arith, one, three));
  refused = λ two. absurd (omega (arith, one, two));
  broken = λ _. (prefix, rest, left, some, inr (inl (subst (Contradicts asked input) parts is)));
}

-- ---- With what was read

pub served : (asked : SettleTask) (input : List ℕ) (old new before after : Option (List ℕ)) (status : ℕ) → Reads old new 1073741825 input → length input ≤ 1073741824
    → TellsSettled asked input before after status → ServesSettle asked old new before after status
served asked input old new before after status reads short h = record {
  range = h.range;
  done = λ is. let (output, settles, all) = h.done is in (input, output, read, settles, all);
  unfinished = λ is. let (output, wrong, all) = h.unfinished is in (input, output, read, wrong, all);
  refused = λ is. inl (h.refused is);
  broken = λ is. inr (of_broken (h.broken is));
}
  where
    read : ReadsBooks old new input
    read = record { taken = reads.taken; ended = reads.ended (omega (arith, short)); short = short }

    of_broken : (prefix : List ℕ) × (rest : List ℕ) × (rest ≢ []) × Appends before after prefix
        × (Settles asked input (prefix ++ rest) ⊎ Contradicts asked input (prefix ++ rest) ⊎ (prefix ++ rest ≡ refused_line (codes "Memory")))
        → (prefix : List ℕ) × (rest : List ℕ) × (rest ≢ []) × Appends before after prefix
        × (((text : List ℕ) × ReadsBooks old new text × (Settles asked text (prefix ++ rest) ⊎ Contradicts asked text (prefix ++ rest)))
        ⊎ ((w : SettleFault) × RefusesBooks old new w × (prefix ++ rest ≡ refused_line (settle_word w))))
    of_broken (prefix, rest, left, some, inl settles) = (prefix, rest, left, some, inl (input, read, inl settles))
    of_broken (prefix, rest, left, some, inr (inl wrong)) = (prefix, rest, left, some, inl (input, read, inr wrong))
    of_broken (prefix, rest, left, some, inr (inr is)) = (prefix, rest, left, some, inr (fault.Memory, tt, is))

-- or without: it was not all read
pub unread : (asked : SettleTask) (why : SettleFault) (old new before after : Option (List ℕ)) (status : ℕ) → RefusesInput why before after status
    → RefusesBooks old new why → ServesSettle asked old new before after status
unread asked why old new before after status h cause = record {
  range = omega (arith, h.range.1);
  done = λ is. absurd (omega (arith, is, h.range.0));
  unfinished = λ is. absurd (omega (arith, is, h.range.1));
  refused = λ is. by_fault why (h.refused is) cause;
  broken = λ is. of_broken (h.broken is);
}
  where
    by_fault : (w : SettleFault) → (w ≢ fault.Read) × Appends before after (refused_line (settle_word w)) → RefusesBooks old new w
        → Appends before after (refused_line (codes "Memory")) ⊎ (Appends before after (refused_line (codes "Limit")) × RefusesBooks old new fault.Limit)
    by_fault fault.Read (other, all) long = absurd (other refl)
    by_fault fault.Limit (other, all) long = inr (all, long)
    by_fault fault.Memory (other, all) long = inl all

    of_broken : ((why ≡ fault.Read) × Appends before after (codes "refused Read\n"))
        ⊎ ((prefix : List ℕ) × (rest : List ℕ) × (rest ≢ []) × Appends before after prefix × (prefix ++ rest ≡ refused_line (settle_word why)))
        → (RefusesBooks old new fault.Read × Appends before after (codes "refused Read\n"))
        ⊎ ((prefix : List ℕ) × (rest : List ℕ) × (rest ≢ []) × Appends before after prefix
        × (((input : List ℕ) × ReadsBooks old new input × (Settles asked input (prefix ++ rest) ⊎ Contradicts asked input (prefix ++ rest)))
        ⊎ ((w : SettleFault) × RefusesBooks old new w × (prefix ++ rest ≡ refused_line (settle_word w)))))
    of_broken (inl (is, all)) = inl (subst (RefusesBooks old new) is cause, all)
    of_broken (inr (prefix, rest, left, some, is)) = inr (prefix, rest, left, some, inr (why, cause, is))
