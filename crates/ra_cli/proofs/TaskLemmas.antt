-- Why a task is refused, and what the writer took of what it prints.
use Rattle.std.proofs.Common.{◌≡◌, ◌≢◌, ◌⊎◌, ℕ, List, [], ◌++◌, Bool, Option, Some, None, Err, Bor, refl, inl, inr}
use Rattle.std.specs.Prelude.{IfSome, IsSome}
use Rattle.std.specs.Io.KnownBytes.{Appends}
use Rattle.ra_stamp.specs.Member.{IsMember}
use Rattle.ra_schedule.specs.ChoicesText.{choices_of}
use Rattle.ra_schedule.specs.declared.error.ChoicesError.{ChoicesError}
use Rattle.ra_schedule.specs.declared.error.ChoicesError.TheVariants.{Choice, Memory}
use Rattle.ra_schedule.specs.declared.choice.Policy.{Policy}
use Rattle.ra_script.specs.declared.output_kind.OutputKind.{OutputKind}
use Rattle.ra_script.specs.Performed.{IsPerformedAs}
use Rattle.ra_draw.specs.declared.error.DrawError.{DrawError}
use Rattle.ra_draw.specs.declared.error.DrawError.TheVariants as draw
use Rattle.ra_text.specs.declared.drawn_part.Part.{Part}
use Rattle.ra_arguments.specs.Named.{IsNamed}
use Rattle.ra_arguments.specs.declared.command_line.PolicyName.{PolicyName}
use Rattle.ra_arguments.specs.declared.command_line.Task.TheVariants as task
use Rattle.ra_arguments.specs.declared.command_line.input_kind.InputKind.{InputKind}
use Rattle.ra_cli.specs.declared.error.AnswerError.{AnswerError}
use Rattle.ra_cli.specs.declared.error.AnswerError.TheVariants as answer
use Rattle.ra_cli.specs.Answer.{IsAnswered, Refuses}
use Rattle.ra_cli.specs.Pictures.{Attempts, RefusesPart}
use Rattle.ra_cli.specs.Tasks.{IsCutBy}
use Rattle.ra_cli.proofs.ClusterRuns.{of_known}

-- ---- Refusals

pub choices_cause : (choices : List ℕ) (fault : ChoicesError) → ((fault ≡ Choice) × (choices_of choices ≡ None)) ⊎ (fault ≡ Memory) → fault ≡ Choice
    → choices_of choices ≡ None
choices_cause choices fault (inl (is, none)) choice = none
choices_cause choices fault (inr memory) choice = absurd cc

-- what is not none is some
pub is_some : {X : Type 0} (o : Option X) → (o ≡ None → ⊥) → IsSome o
is_some None other = absurd (other refl)
is_some (Some x) other = refl

-- numbers of no node are refused before anything is read
pub no_node : (node nodes : ℕ) (input : List ℕ) (fault : AnswerError) → (IsMember node nodes → ⊥) → Refuses node nodes input fault
    → (fault ≡ answer.BadCount) ⊎ (fault ≡ answer.BadNode)
no_node node nodes input answer.BadCount none refuses = inl refl
no_node node nodes input answer.BadNode none refuses = inr refl
no_node node nodes input answer.Read none refuses = absurd (none refuses)
no_node node nodes input answer.Line none refuses = absurd (none refuses.0)
no_node node nodes input answer.Hex none refuses = absurd (none refuses.0)
no_node node nodes input (answer.Frame wrong) none refuses = absurd (none refuses.0)
no_node node nodes input answer.WrongNode none refuses = absurd (none refuses.0)
no_node node nodes input answer.Stranger none refuses = absurd (none refuses.0)
no_node node nodes input answer.ClockFull none refuses = absurd (none refuses.0)
no_node node nodes input answer.Memory none refuses = absurd (none refuses)
no_node node nodes input answer.Write none (output, answered, some) = absurd (none answered.member)

-- why a part is not drawn
pub of_part : (kind : InputKind) (part : Part) (old new before after : Option (List ℕ)) (Untouched : Type 0) (fault : DrawError)
    → Attempts kind part old new before after Untouched (Err fault) → RefusesPart kind part old new fault
of_part kind part old new before after Untouched draw.Read h = h.failed refl
of_part kind part old new before after Untouched draw.Limit h = h.limit refl
of_part kind part old new before after Untouched (draw.NoLines lines) h = h.unfit (inl (lines, refl))
of_part kind part old new before after Untouched draw.TooLong h = h.unfit (inr refl)
of_part kind part old new before after Untouched draw.Memory h = tt
of_part kind part old new before after Untouched draw.Write h = tt

-- ---- A text from which the writer took a prefix

pub of_answered : (node nodes : ℕ) (old before after : Option (List ℕ))
    → IfSome old (λ input. (prefix rest : List ℕ) × IsAnswered node nodes input (prefix ++ rest) × (rest ≢ []) × Appends before after prefix)
    → IfSome old (λ input. IsCutBy (task.Answer node nodes) input before after)
of_answered node nodes old before after =
    of_known old (λ input. (prefix rest : List ℕ) × IsAnswered node nodes input (prefix ++ rest) × (rest ≢ []) × Appends before after prefix)
    (λ input. IsCutBy (task.Answer node nodes) input before after)
    (λ input (prefix, rest, answered, left, some). (prefix ++ rest, answered, (prefix, rest, refl, left, some)))

pub of_performed : (name : PolicyName) (choices : Bor (List ℕ)) (format : OutputKind) (policy : Policy) (old before after : Option (List ℕ))
    → IsNamed name choices.now policy
    → IfSome old (λ input. (prefix rest : List ℕ) × (finished : Bool) × IsPerformedAs format policy input (prefix ++ rest) finished × (rest ≢ [])
    × Appends before after prefix)
    → IfSome old (λ input. IsCutBy (task.Sim name choices format) input before after)
of_performed name choices format policy old before after named =
    of_known old (λ input. (prefix rest : List ℕ) × (finished : Bool) × IsPerformedAs format policy input (prefix ++ rest) finished × (rest ≢ [])
    × Appends before after prefix) (λ input. IsCutBy (task.Sim name choices format) input before after)
    (λ input (prefix, rest, finished, prints, left, some). (prefix ++ rest, (policy, finished, named, prints), (prefix, rest, refl, left, some)))
