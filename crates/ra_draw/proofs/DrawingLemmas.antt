-- Why an attempt to draw does what `DrawsPart` says, for each way in which it ends.
use Rattle.std.proofs.Common.{◌≡◌, ◌≢◌, ◌≤◌, ℕ, List, [], ◌∷◌, ◌++◌, Option, Some, None, Result, Ok, Err, length, length-append, refl, sym, ap, inl, inr, arith}
use Rattle.std.specs.Io.KnownBytes.{Appends, Consumes}
use Rattle.std.proofs.lemmas.List.{append-nil}
use Rattle.ra_trace.specs.declared.error.TraceError.{TraceError}
use Rattle.ra_trace.specs.declared.error.TraceError.TheVariants as trace
use Rattle.ra_draw.specs.declared.error.DrawError.{DrawError}
use Rattle.ra_draw.specs.declared.error.DrawError.TheVariants.{Read, Limit, NoLines, TooLong, Memory, Write}
use Rattle.ra_text.specs.declared.drawn_part.Part.{Part}
use Rattle.ra_draw.specs.Drawing.{DrawsPart, IsInput, IsOfPart, of_trace}
use Rattle.ra_draw.specs.PictureSteps.{IsUnread, IsUnwritten}

-- a text that may be read is not too long for a check of it, which took this part
pub too_long : (text body rest : List ℕ) (byte : ℕ) (new : Option (List ℕ)) → length text ≤ 16777216 → length (body ++ rest) ≡ 16777216
    → Consumes (Some text) new (body ++ (rest ++ byte ∷ [])) → ⊥
too_long text body rest byte None few is from = from
too_long text body rest byte (Some left) few is from =
    let whole : length text ≡ length ((body ++ (rest ++ byte ∷ [])) ++ left) = ap length from in
    let counted = simp length-append at whole in
    let said = simp length-append at is in
    omega (arith, counted, said, few)

-- nothing was written
pub appends_nothing : (contents : Option (List ℕ)) → Appends contents contents []
appends_nothing None = tt
appends_nothing (Some written) = sym (append-nil written)

read_apart : IsOfPart Read → ⊥
read_apart (inl (lines, is)) = cc
read_apart (inr is) = cc

limit_apart : IsOfPart Limit → ⊥
limit_apart (inl (lines, is)) = cc
limit_apart (inr is) = cc

memory_apart : IsOfPart Memory → ⊥
memory_apart (inl (lines, is)) = cc
memory_apart (inr is) = cc

write_apart : IsOfPart Write → ⊥
write_apart (inl (lines, is)) = cc
write_apart (inr is) = cc

module _ {V Why : Type 0} (IsVerdictOn : List ℕ → V → Type 0) (valid_of : ℕ → ℕ → V) (invalid_of : ℕ → Why → V)
    (Shows : Part → List ℕ → Option (List ℕ) → Option (List ℕ) → V → Type 0) (part : Part) (old new before after : Option (List ℕ))
    (Untouched : Type 0) (kept : List ℕ) where
  abbrev Drawn : Result V DrawError → Type 0
  Drawn = DrawsPart IsVerdictOn valid_of invalid_of Shows part old new before after Untouched kept

  -- a refusal that is not about the part and not the writer's
  plain : (fault : DrawError) → (IsOfPart fault → ⊥) → fault ≢ Write → Untouched
      → ((taken : List ℕ) × (length taken ≤ 16777217) × Consumes old new taken)
      → (fault ≡ Read → (taken : List ℕ) × (length taken ≤ 16777216) × Consumes old new taken)
      → (fault ≡ Limit → (taken : List ℕ) × (length taken ≡ 16777217) × Consumes old new taken) → Drawn (Err fault)
  plain fault apart not_write same taken failed limit = record {
    ok = tt;
    invalid = λ line why e. absurd cc;
    text = tt;
    failed = λ e. failed cc;
    limit = λ e. limit cc;
    unfit = λ of. absurd (apart of);
    at_most = taken;
    unwritten = λ other. same;
    prefix = λ e. absurd (not_write cc);
  }

  -- the text was not read
  pub unread : Untouched → (fault : DrawError) → IsUnread old new fault → Drawn (Err fault)
  unread same Read (taken, few, from) =
      plain Read read_apart (λ e. cc) same (taken, omega (arith, few), from) (λ e. (taken, few, from)) (λ e. absurd cc)
  unread same Limit (taken, many, from) =
      plain Limit limit_apart (λ e. cc) same (taken, omega (arith, many), from) (λ e. absurd cc) (λ e. (taken, many, from))
  unread same (NoLines lines) h = absurd h
  unread same TooLong h = absurd h
  unread same Memory h = plain Memory memory_apart (λ e. cc) same h (λ e. absurd cc) (λ e. absurd cc)
  unread same Write h = absurd h

  module _ (input : List ℕ) (whole : IsInput old new input) where
    -- memory ran out once the text was read
    no_memory : Untouched → Drawn (Err Memory)
    no_memory same = unread same Memory (input, omega (arith, whole.at_most), whole.reads.taken)

    -- the text was not judged
    pub unjudged : Untouched → (fault : TraceError) → fault ≢ trace.Limit → Drawn (Err (of_trace fault))
    unjudged same trace.Read short = unread same Read (input, whole.at_most, whole.reads.taken)
    unjudged same trace.Limit short = absurd (short refl)
    unjudged same trace.Memory short = no_memory same

    module _ (m n : ℕ) (is : IsVerdictOn input (valid_of m n)) where
      -- the picture was not written
      pub undrawn : (fault : DrawError) → IsUnwritten part input before after Untouched fault → Drawn (Err fault)
      undrawn Read h = absurd h
      undrawn Limit h = absurd h
      undrawn (NoLines lines) (counted, none, same) = record {
        ok = tt;
        invalid = λ line why e. absurd cc;
        text = tt;
        failed = λ e. absurd cc;
        limit = λ e. absurd cc;
        unfit = λ of. (input, m, n, whole, is, inl (ap NoLines counted, none));
        at_most = (input, omega (arith, whole.at_most), whole.reads.taken);
        unwritten = λ other. same;
        prefix = λ e. absurd cc;
      }
      undrawn TooLong (long, same) = record {
        ok = tt;
        invalid = λ line why e. absurd cc;
        text = tt;
        failed = λ e. absurd cc;
        limit = λ e. absurd cc;
        unfit = λ of. (input, m, n, whole, is, inr (refl, long));
        at_most = (input, omega (arith, whole.at_most), whole.reads.taken);
        unwritten = λ other. same;
        prefix = λ e. absurd cc;
      }
      undrawn Memory same = no_memory same
      undrawn Write (drawable, prefix, rest, picture, left, appends) = record {
        ok = tt;
        invalid = λ line why e. absurd cc;
        text = tt;
        failed = λ e. absurd cc;
        limit = λ e. absurd cc;
        unfit = λ of. absurd (write_apart of);
        at_most = (input, omega (arith, whole.at_most), whole.reads.taken);
        unwritten = λ other. absurd (other refl);
        prefix = λ e. (input, m, n, prefix, rest, whole, is, drawable, picture, left, appends);
      }

  -- the text was judged, and drawn if it is of the kind
  pub judged : (verdict : V) → IsInput old new kept → IsVerdictOn kept verdict → Shows part kept before after verdict
      → ((line : ℕ) (why : Why) → verdict ≡ invalid_of line why → Untouched) → Drawn (Ok verdict)
  judged verdict whole is shown same = record {
    ok = (kept, whole, is, shown);
    invalid = λ line why e. same line why cc;
    text = (whole, is);
    failed = λ e. absurd cc;
    limit = λ e. absurd cc;
    unfit = tt;
    at_most = (kept, omega (arith, whole.at_most), whole.reads.taken);
    unwritten = tt;
    prefix = λ e. absurd cc;
  }
