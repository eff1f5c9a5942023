-- What `ra sim` does.
use Rattle.std.specs.Prelude.{ℕ, List, Bool, Option, IfSome}
use Rattle.std.specs.Io.KnownBytes.{Consumes, Appends}
use Rattle.ra_schedule.specs.declared.choice.Policy.{Policy}
use Rattle.ra_script.specs.declared.output_kind.OutputKind.{OutputKind}
use Rattle.ra_script.specs.Performed.{IsPerformedAs}

-- If the input is known, it is a script that was performed under this policy, finished or not. It was read to its end,
-- and exactly what it led to was written, in this format. If it is not known, such a script still exists.
abbrev pub PerformsBy : Policy → OutputKind → (old new before after : Option (List ℕ)) → Bool → Type 0
PerformsBy policy format old new before after finished =
    IfSome old (λ input. (output : List ℕ) × IsPerformedAs format policy input output finished
    × Consumes old new input × Appends before after output)
    × ((input output : List ℕ) × IsPerformedAs format policy input output finished × Appends before after output)
