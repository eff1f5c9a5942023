-- What holds of the bytes that were read holds of the whole input: if 65,537 bytes were read, the input is no script.
use Rattle.std.proofs.Common.{◌≡◌, ◌≢◌, ◌⊎◌, ℕ, ◌≤◌, Bool, List, [], ◌∷◌, ◌++◌, length, Option, Some, None, Ok, Err, refl, sym, ap, subst, ◌∙◌, arith, inl, inr}
use Rattle.std.specs.Prelude.{IfSome, if◌then◌else◌, ok_or, not}
use Rattle.std.specs.Str.{is_utf8}
use Rattle.std.specs.Io.KnownBytes.{Consumes}
use Rattle.std.proofs.lemmas.Bool.{cases_lt, lt-ltb}
use Rattle.std.proofs.lemmas.List.{append-nil, length-append}
use Rattle.toml.specs.Parse.{parse_document}
use Rattle.ra_text.specs.Input.{Reads}
use Rattle.ra_text.specs.declared.error.ReadFault.{ReadFault}
use Rattle.ra_text.specs.declared.error.ReadFault.TheVariants as read
use Rattle.ra_schedule.specs.declared.choice.Policy.{Policy}
use Rattle.ra_schedule.specs.Script.{ScriptState}
use Rattle.ra_script.specs.declared.output_kind.OutputKind.{OutputKind}
use Rattle.ra_script.specs.declared.output_kind.OutputKind.TheVariants.{Lines, Trace, TraceWithSends, Choices, Shrunk, State}
use Rattle.ra_script.specs.declared.error.ScriptError.{ScriptError}
use Rattle.ra_script.specs.declared.error.ScriptError.TheVariants.{Limit, Toml, Shape}
use Rattle.ra_script.specs.declared.error.ScriptError.TheVariants as script
use Rattle.ra_script.specs.declared.error.PerformError.{PerformError}
use Rattle.ra_script.specs.declared.error.PerformError.TheVariants as fault
use Rattle.ra_script.specs.Document.{document_of}
use Rattle.ra_script.specs.Faults.{IsRefusal, of_read, of_script}
use Rattle.ra_script.specs.ScriptText.{result_and_then, script_in, script_of}
use Rattle.ra_script.specs.Performed.{IsPerformedAs, RefusesAs}

long_is_refused : (text : List ℕ) → 65537 ≤ length text → script_of text ≡ Err Limit
long_is_refused text long =
    ap (λ (b : Bool). result_and_then script_in (result_and_then (λ tree. ok_or (document_of tree) Shape)
    (if b then Err Limit else if not (is_utf8 text) then Err Toml else ok_or (parse_document text) Toml)))
    (lt-ltb 65536 (length text) (omega arith))

no_long_script : (text : List ℕ) (script : ScriptState) → 65537 ≤ length text → script_of text ≡ Ok script → ⊥
no_long_script text script long is = let not : script_of text ≡ Err Limit = long_is_refused text long in absurd cc

-- all of the input was read, or 65,537 bytes of it
record IsRead (input taken : List ℕ) (new : Option (List ℕ)) : Type 0 where
  how : ((input ≡ taken) × (new ≡ Some [])) ⊎ ((65537 ≤ length taken) × (65537 ≤ length input))

is_read : (input rest taken : List ℕ) → Reads (Some input) (Some rest) 65537 taken → IsRead input taken (Some rest)
is_read input rest taken h =
    elim (cases_lt (length taken) 65537) [
      | inl short ↦
          let nothing : rest ≡ [] = h.ended short in
          record { how = inl (h.taken ∙ (ap (λ (xs : List ℕ). taken ++ xs) nothing ∙ append-nil taken), ap Some nothing) }
      | inr long ↦ record { how = inr (long, omega (arith, ap length h.taken, length-append taken rest)) }
    ]

too_long : (format : OutputKind) (policy : Policy) (taken input : List ℕ) (why : PerformError) → why ≢ fault.Write → 65537 ≤ length taken → 65537 ≤ length input
    → RefusesAs format policy taken why → RefusesAs format policy input why
too_long format policy taken input fault.Read early t i h = h
too_long format policy taken input (fault.Script why) early t i h = (h.0, long_is_refused input i ∙ sym (long_is_refused taken t) ∙ h.1)
too_long format policy taken input (fault.Drive cause) early t i (script, moves, is, follows, stops) = absurd (no_long_script taken script t is)
too_long Lines policy taken input fault.Choice early t i h = absurd h
too_long Trace policy taken input fault.Choice early t i h = absurd h
too_long TraceWithSends policy taken input fault.Choice early t i h = absurd h
too_long State policy taken input fault.Choice early t i h = absurd h
too_long Choices policy taken input fault.Choice early t i h = absurd (no_long_script taken h.script t h.script_is)
too_long Shrunk policy taken input fault.Choice early t i h = absurd (no_long_script taken h.script t h.script_is)
too_long format policy taken input fault.Memory early t i h = h
too_long format policy taken input fault.Write early t i h = absurd (early refl)

-- a refusal of what was read is one of the input
pub refuses_input : (old new : Option (List ℕ)) (format : OutputKind) (policy : Policy) (taken : List ℕ) (why : PerformError) → why ≢ fault.Write
    → Reads old new 65537 taken → RefusesAs format policy taken why → IfSome old (λ input. RefusesAs format policy input why)
refuses_input None new format policy taken why early h r = tt
refuses_input (Some input) None format policy taken why early h r = absurd h.taken
refuses_input (Some input) (Some rest) format policy taken why early h r =
    elim (is_read input rest taken h).how [
      | inl whole ↦ subst (λ (xs : List ℕ). RefusesAs format policy xs why) (sym whole.0) r
      | inr long ↦ too_long format policy taken input why early long.0 long.1 r
    ]

-- the outcome of what was read is the outcome of the input, and nothing of the input is left
pub performs_input : (old new : Option (List ℕ)) (format : OutputKind) (policy : Policy) (taken output : List ℕ) (finished : Bool) → Reads old new 65537 taken
    → IsPerformedAs format policy taken output finished → IfSome old (λ input. IsPerformedAs format policy input output finished × Consumes old new input)
performs_input None new format policy taken output finished h r = tt
performs_input (Some input) None format policy taken output finished h r = absurd h.taken
performs_input (Some input) (Some rest) format policy taken output finished h r =
    elim (is_read input rest taken h).how [
      | inl whole ↦ (
        subst (λ (xs : List ℕ). IsPerformedAs format policy xs output finished) (sym whole.0) r,
        subst (λ (xs : List ℕ). Consumes (Some input) (Some rest) xs) (sym whole.0) h.taken,
      )
      | inr long ↦ absurd (no_long_script taken r.script long.0 r.script_is)
    ]

-- a fact on the known bytes leads to another one
pub of_known : (old : Option (List ℕ)) (P Q : List ℕ → Type 0) → ((input : List ℕ) → P input → Q input) → IfSome old P → IfSome old Q
of_known None P Q f h = tt
of_known (Some input) P Q f h = f input h

-- a list with an end that is left
pub not_nil : (bytes prefix suffix : List ℕ) → bytes ≡ prefix ++ suffix → suffix ≢ [] → bytes ≢ []
not_nil bytes [] suffix e left nothing = left (sym e ∙ nothing)
not_nil bytes (x ∷ xs) suffix e left nothing = absurd cc

-- a reader that failed, and memory that ran out while it was read
pub read_refuses : (old : Option (List ℕ)) (format : OutputKind) (policy : Policy) (why : ReadFault) → IfSome old (λ input. RefusesAs format policy input (of_read why))
read_refuses None format policy why = tt
read_refuses (Some input) format policy read.Read = tt
read_refuses (Some input) format policy read.Memory = tt

pub read_cause : (format : OutputKind) (policy : Policy) (why : ReadFault) → RefusesAs format policy [] (of_read why)
read_cause format policy read.Read = tt
read_cause format policy read.Memory = tt

pub read_early : (why : ReadFault) → of_read why ≢ fault.Write
read_early read.Read e = absurd cc
read_early read.Memory e = absurd cc

pub read_failed : (why : ReadFault) → of_read why ≡ fault.Read → why ≡ read.Read
read_failed read.Read e = refl
read_failed read.Memory e = absurd cc

-- a text that is not a script
pub script_refuses : (format : OutputKind) (policy : Policy) (input : List ℕ) (why : ScriptError) → IsRefusal (script_of input) why
    → RefusesAs format policy input (of_script why)
script_refuses format policy input script.Memory is = tt
script_refuses format policy input script.Toml (inl is) = ((λ e. absurd cc), is)
script_refuses format policy input script.Shape (inl is) = ((λ e. absurd cc), is)
script_refuses format policy input script.Nodes (inl is) = ((λ e. absurd cc), is)
script_refuses format policy input script.Clients (inl is) = ((λ e. absurd cc), is)
script_refuses format policy input script.Op (inl is) = ((λ e. absurd cc), is)
script_refuses format policy input script.NotHeld (inl is) = ((λ e. absurd cc), is)
script_refuses format policy input script.AlreadyHeld (inl is) = ((λ e. absurd cc), is)
script_refuses format policy input script.Limit (inl is) = ((λ e. absurd cc), is)
script_refuses format policy input script.Toml (inr is) = absurd cc
script_refuses format policy input script.Shape (inr is) = absurd cc
script_refuses format policy input script.Nodes (inr is) = absurd cc
script_refuses format policy input script.Clients (inr is) = absurd cc
script_refuses format policy input script.Op (inr is) = absurd cc
script_refuses format policy input script.NotHeld (inr is) = absurd cc
script_refuses format policy input script.AlreadyHeld (inr is) = absurd cc
script_refuses format policy input script.Limit (inr is) = absurd cc

script_or_memory : (why : ScriptError) → (of_script why ≡ fault.Script why) ⊎ (of_script why ≡ fault.Memory)
script_or_memory script.Toml = inl refl
script_or_memory script.Shape = inl refl
script_or_memory script.Nodes = inl refl
script_or_memory script.Clients = inl refl
script_or_memory script.Op = inl refl
script_or_memory script.NotHeld = inl refl
script_or_memory script.AlreadyHeld = inl refl
script_or_memory script.Limit = inl refl
script_or_memory script.Memory = inr refl

pub script_early : (why : ScriptError) → of_script why ≢ fault.Write
script_early why e = elim (script_or_memory why) [ inl is ↦ absurd cc | inr is ↦ absurd cc ]

pub script_read : (why : ScriptError) → of_script why ≢ fault.Read
script_read why e = elim (script_or_memory why) [ inl is ↦ absurd cc | inr is ↦ absurd cc ]
