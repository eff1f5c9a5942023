-- What holds of the bytes that were read holds of the whole input: if 65,537 bytes were read, the input is no script.
use Rattle.std.proofs.Common.{◌≡◌, ℕ, ◌≤◌, Bool, true, false, List, length, Option, Some, None, Ok, Err, refl, sym, ap, subst, ◌∙◌, arith, inl, inr}
use Rattle.std.specs.Prelude.{IfSome, if◌then◌else◌, ok_or}
use Rattle.std.specs.Io.KnownBytes.{Consumes}
use Rattle.std.proofs.lemmas.Bool.{lt-ltb}
use Rattle.ra_text.specs.Input.{Reads}
use Rattle.ra_schedule.specs.Script.{ScriptState}
use Rattle.ra_script.specs.declared.error.ScriptError.{ScriptError}
use Rattle.ra_script.specs.declared.error.ScriptError.TheVariants.{Limit, Shape}
use Rattle.ra_script.specs.declared.error.ScriptError.TheVariants as script
use Rattle.ra_script.specs.Faults.{IsRefusal}
use Rattle.ra_script.specs.Document.{document_of}
use Rattle.ra_script.specs.ScriptText.{result_and_then, script_in, tree_of, script_of}
use Rattle.ra_cli.specs.declared.error.RunScriptError.{RunScriptError}
use Rattle.ra_cli.specs.declared.error.RunScriptError.TheVariants as fault
use Rattle.ra_cli.specs.ClusterRun.{RefusesRun, of_script}
use Rattle.ra_cli.proofs.Inputs.{is_read}

-- the part before an `else`
before_else : {X : Type 0} (test : Bool) (x y : X) → test ≡ true → (if test then x else y) ≡ x
before_else true x y h = refl
before_else false x y h = absurd cc

long_is_refused : (text : List ℕ) → 65537 ≤ length text → script_of text ≡ Err Limit
long_is_refused text long =
    let tree : tree_of text ≡ Err Limit = before_else _ (Err Limit) _ (lt-ltb 65536 (length text) (omega arith)) in
    ap (λ t. result_and_then script_in (result_and_then (λ members. ok_or (document_of members) Shape) t)) tree

no_long_script : (text : List ℕ) (script : ScriptState) → 65537 ≤ length text → script_of text ≡ Ok script → ⊥
no_long_script text script long is = let not : script_of text ≡ Err Limit = long_is_refused text long in absurd cc

too_long : (taken input : List ℕ) (why : RunScriptError) → 65537 ≤ length taken → 65537 ≤ length input
    → RefusesRun taken why → RefusesRun input why
too_long taken input fault.Read t i h = h
too_long taken input (fault.Script why) t i h = (h.0, long_is_refused input i ∙ sym (long_is_refused taken t) ∙ h.1)
too_long taken input (fault.Cluster why) t i (script, is, stops) = absurd (no_long_script taken script t is)
too_long taken input fault.Choice t i h = h
too_long taken input fault.Memory t i h = h

-- a refusal of what was read is one of the input
pub refuses_script : (old new : Option (List ℕ)) (taken : List ℕ) (why : RunScriptError) → Reads old new 65537 taken → RefusesRun taken why → IfSome old (λ input. RefusesRun input why)
refuses_script None new taken why h r = tt
refuses_script (Some input) None taken why h r = absurd h.taken
refuses_script (Some input) (Some rest) taken why h r =
    elim (is_read 65537 input rest taken h).how [
      | inl whole ↦ subst (λ (xs : List ℕ). RefusesRun xs why) (sym whole.0) r
      | inr long ↦ too_long taken input why long.0 long.1 r
    ]

-- a script that was read is the input's, and nothing of the input is left
pub reads_script : (old new : Option (List ℕ)) (taken : List ℕ) (script : ScriptState) → Reads old new 65537 taken → script_of taken ≡ Ok script
    → IfSome old (λ input. (script_of input ≡ Ok script) × Consumes old new input)
reads_script None new taken script h is = tt
reads_script (Some input) None taken script h is = absurd h.taken
reads_script (Some input) (Some rest) taken script h is =
    elim (is_read 65537 input rest taken h).how [
      | inl whole ↦ (
        subst (λ (xs : List ℕ). script_of xs ≡ Ok script) (sym whole.0) is,
        subst (λ (xs : List ℕ). Consumes (Some input) (Some rest) xs) (sym whole.0) h.taken,
      )
      | inr long ↦ absurd (no_long_script taken script long.0 is)
    ]

-- a text that is no script is refused for that
pub refuses_text : (text : List ℕ) (why : ScriptError) → IsRefusal (script_of text) why → RefusesRun text (of_script why)
refuses_text text script.Toml h = elim h [ inl is ↦ (λ e. absurd cc, is) | inr e ↦ absurd cc ]
refuses_text text script.Shape h = elim h [ inl is ↦ (λ e. absurd cc, is) | inr e ↦ absurd cc ]
refuses_text text script.Nodes h = elim h [ inl is ↦ (λ e. absurd cc, is) | inr e ↦ absurd cc ]
refuses_text text script.Clients h = elim h [ inl is ↦ (λ e. absurd cc, is) | inr e ↦ absurd cc ]
refuses_text text script.Op h = elim h [ inl is ↦ (λ e. absurd cc, is) | inr e ↦ absurd cc ]
refuses_text text script.NotHeld h = elim h [ inl is ↦ (λ e. absurd cc, is) | inr e ↦ absurd cc ]
refuses_text text script.AlreadyHeld h = elim h [ inl is ↦ (λ e. absurd cc, is) | inr e ↦ absurd cc ]
refuses_text text script.Limit h = elim h [ inl is ↦ (λ e. absurd cc, is) | inr e ↦ absurd cc ]
refuses_text text script.Memory h = tt
