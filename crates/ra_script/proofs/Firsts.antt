-- What is said of the first run that comes to an end when it is not written.
use Rattle.std.proofs.Common.{◌≡◌, Result, Ok, Err, sym, ◌∙◌}
use Rattle.std.specs.Prelude.{IsErrOf}
use Rattle.ra_schedule.specs.declared.error.ChoicesError.{ChoicesError}
use Rattle.ra_schedule.specs.declared.error.ChoicesError.TheVariants.{Choice, Memory}

pub not_a_choice : {T P : Type 0} (result : Result T ChoicesError) (fault : ChoicesError) → result ≡ Err fault → fault ≡ Memory → IsErrOf result Choice → P
not_a_choice result fault is memory of =
    let ends : Err fault ≡ Err Choice = sym is ∙ of in
    let same : fault ≡ Choice = cc in
    absurd (let clash : Memory ≡ Choice = sym memory ∙ same in cc)

-- a run that is written is not refused
pub not_refused : {T P : Type 0} (value : T) (why : ChoicesError) → IsErrOf (Ok value) why → P
not_refused value why of = absurd cc

pub choice_is_not_memory : {T P : Type 0} → IsErrOf {T = T} (Err Choice) Memory → P
choice_is_not_memory of = absurd cc

pub memory_is_not_choice : {T P : Type 0} → IsErrOf {T = T} (Err Memory) Choice → P
memory_is_not_choice of = absurd cc
