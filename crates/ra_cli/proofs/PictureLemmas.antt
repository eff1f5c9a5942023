-- What `ra draw` prints, told of the input: what was read to its end is all of it.
use Rattle.std.proofs.Common.{◌≡◌, ◌≢◌, ◌≤◌, ℕ, List, [], ◌++◌, length, Option, Some, None, Result, Ok, Err, String, Global, string_bytes, refl, sym, ap, subst, ◌∙◌, inl, inr, arith}
use Rattle.std.specs.Prelude.{IfSome, IfOk, IfErr, MatchOption}
use Rattle.std.specs.Io.KnownBytes.{Appends, Consumes}
use Rattle.std.proofs.lemmas.List.{append-nil}
use Rattle.ra_draw.specs.declared.error.DrawError.{DrawError}
use Rattle.ra_draw.specs.declared.error.DrawError.TheVariants.{Limit, Memory, NoLines, Read, TooLong, Write}
use Rattle.ra_text.specs.declared.drawn_part.Part.{Part}
use Rattle.ra_draw.specs.Drawing.{IsDrawable, IsInput, IsOfPart, IsUnfit}
use Rattle.ra_draw.specs.Pictures.{IsPicture}
use Rattle.ra_cli.specs.Pictures.{Attempts, IsOfKind, SaysWhyNot, Shows}
use Rattle.ra_cli.specs.InputOutput.{StopsBefore}
use Rattle.ra_cli.specs.Tasks.{IsCutBy, IsPrintedBy}
use Rattle.ra_arguments.specs.declared.command_line.Task.TheVariants as task
use Rattle.ra_cli.specs.declared.commands.draw_command.Denial.{Denial}
use Rattle.ra_arguments.specs.declared.command_line.input_kind.InputKind.{InputKind}

pub same_input : (input taken : List ℕ) (new : Option (List ℕ)) → IsInput (Some input) new taken → input ≡ taken
same_input input taken None h = absurd h.reads.taken
same_input input taken (Some rest) h =
    let nothing : rest ≡ [] = h.reads.ended (omega (arith, h.at_most)) in
    h.reads.taken ∙ (ap (λ (xs : List ℕ). taken ++ xs) nothing ∙ append-nil taken)

-- what is known of what was read to its end is known of the input
pub of_input : (P : List ℕ → Type 0) (input taken : List ℕ) (new : Option (List ℕ)) → IsInput (Some input) new taken → P taken → P input
of_input P input taken new read = subst P (sym (same_input input taken new read))

-- a picture from which the writer took a prefix
pub of_picture : (kind : InputKind) (part : Part) (old new before after : Option (List ℕ))
    → ((input prefix rest : List ℕ) × IsInput old new input × IsOfKind kind input × IsDrawable part input × IsPicture part input (prefix ++ rest) × (rest ≢ [])
    × Appends before after prefix)
    → IfSome old (λ input. IsCutBy (task.Draw kind part) input before after)
of_picture kind part None new before after h = tt
of_picture kind part (Some input) new before after (taken, prefix, rest, read, is, drawable, picture, left, some) =
    let whole = of_input (IsOfKind kind) input taken new read is in
    let fits = of_input (IsDrawable part) input taken new read drawable in
    let same = of_input (λ (xs : List ℕ). IsPicture part xs (prefix ++ rest)) input taken new read picture in
    (prefix ++ rest, inl (whole, fits, same), (prefix, rest, refl, left, some))

-- the line that says why there is no picture
pub of_denied : (kind : InputKind) (part : Part) (old new : Option (List ℕ)) (text taken : List ℕ)
    → IsInput old new taken → SaysWhyNot kind taken text → IfSome old (λ input. IsPrintedBy (task.Draw kind part) input text)
of_denied kind part None new text taken read is = tt
of_denied kind part (Some input) new text taken read is =
    inr (of_input (λ (xs : List ℕ). SaysWhyNot kind xs text) input taken new read is)

-- how much was read before the reader failed
pub fewer : (old new : Option (List ℕ)) → ((taken : List ℕ) × (length taken ≤ 16777216) × Consumes old new taken) → StopsBefore 16777217 old new
fewer old new (taken, few, takes) = (taken, omega (arith, few), takes)

-- a lack of memory is not about the part
memory_apart : (fault : DrawError) → fault ≡ Memory → IsOfPart fault → ⊥
memory_apart fault is (inl (lines, e)) = let clash : Memory ≡ NoLines lines = cc in cc
memory_apart fault is (inr e) = let clash : Memory ≡ TooLong = cc in cc

-- an attempt that is denied by this line, or was to be
pub denies : {Fault : Type 0} (kind : InputKind) (part : Part) (old new before after : Option (List ℕ)) (Untouched : Type 0) (text : Result (String Global) Fault)
    (line input : List ℕ) (result : Result (Option Denial) DrawError) → IfOk text (λ t. string_bytes t ≡ line)
    → IfOk result (λ denial. MatchOption denial ⊥ (λ d. text ≡ Ok d.line)) → IfErr result (λ fault. fault ≡ Memory)
    → IsInput old new input → SaysWhyNot kind input line → Untouched → Attempts kind part old new before after Untouched result
denies kind part old new before after Untouched text line input (Ok None) says made lacking read why same = absurd made
denies kind part old new before after Untouched text line input (Ok (Some denial)) says made lacking read why same =
    let is : string_bytes denial.line ≡ line = subst (λ r. IfOk r (λ t. string_bytes t ≡ line)) made says in
    record {
      ok = (input, read, (subst (SaysWhyNot kind input) (sym is) why, same));
      unwritten = tt;
      failed = λ e. absurd cc;
      limit = λ e. absurd cc;
      unfit = tt;
      prefix = λ e. absurd cc;
    }
denies kind part old new before after Untouched text line input (Err fault) says made lacking read why same = record {
  ok = tt;
  unwritten = λ other. same;
  failed = λ e. absurd cc;
  limit = λ e. absurd cc;
  unfit = λ of. absurd (memory_apart fault lacking of);
  prefix = λ e. absurd cc;
}

-- an attempt that draws a picture
pub shows : (kind : InputKind) (part : Part) (old new before after : Option (List ℕ)) (Untouched : Type 0) (input : List ℕ) → IsInput old new input
    → Shows kind part input before after → Attempts kind part old new before after Untouched (Ok None)
shows kind part old new before after Untouched input read drawn = record {
  ok = (input, read, drawn);
  unwritten = tt;
  failed = λ e. absurd cc;
  limit = λ e. absurd cc;
  unfit = tt;
  prefix = λ e. absurd cc;
}

-- an attempt that is refused
pub refuses : (kind : InputKind) (part : Part) (old new before after : Option (List ℕ)) (Untouched : Type 0) (fault : DrawError)
    → (fault ≢ Write → Untouched)
    → (fault ≡ Read → StopsBefore 16777217 old new) → (fault ≡ Limit → (taken : List ℕ) × (length taken ≡ 16777217) × Consumes old new taken)
    → (IsOfPart fault → (input : List ℕ) × IsInput old new input × IsOfKind kind input × IsUnfit part input fault)
    → (fault ≡ Write → (input prefix rest : List ℕ) × IsInput old new input × IsOfKind kind input
    × IsDrawable part input × IsPicture part input (prefix ++ rest) × (rest ≢ []) × Appends before after prefix)
    → Attempts kind part old new before after Untouched (Err fault)
refuses kind part old new before after Untouched fault unwritten failed limit unfit broken = record {
  ok = tt;
  unwritten = unwritten;
  failed = λ e. failed cc;
  limit = λ e. limit cc;
  unfit = unfit;
  prefix = λ e. broken cc;
}
