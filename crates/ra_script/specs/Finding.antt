-- The first run of a script that comes to a given end.
use Rattle.std.specs.Prelude.{◌≡◌, ℕ, List, Bool, Option, Some, None, Ok}
use Rattle.ra_schedule.specs.declared.surveys.chances.Chances.{Chances}
use Rattle.ra_schedule.specs.declared.surveys.first_seed.Ending.{Ending}
use Rattle.ra_schedule.specs.Faults.{FaultRates}
use Rattle.ra_schedule.specs.Finding.{IsFirstSeed}
use Rattle.ra_schedule.specs.Script.{ScriptState}
use Rattle.ra_schedule.specs.Survey.{chance}
use Rattle.ra_schedule.specs.Telling.{Told, TellsSeeds, tried}
use Rattle.ra_script.specs.declared.output_kind.OutputKind.{OutputKind}
use Rattle.ra_script.specs.Performed.{IsPerformedAs, Unwritten, turn_limit}
use Rattle.ra_script.specs.ScriptText.{script_of}

-- the text shows in this format the run of the script of the input by the least of these seeds that brings it to this
-- end; `finished` says whether that run is finished
pub record IsFirstRun (format : OutputKind) (faults : Option FaultRates) (ending : Ending) (first last : ℕ)
    (input text : List ℕ) (finished : Bool) : Type 0 where
  pub script : ScriptState
  pub script_is : script_of input ≡ Ok script
  pub seed : ℕ
  pub seed_is : IsFirstSeed script faults turn_limit ending first last (Some seed)
  pub performed : IsPerformedAs format (chance faults seed) input text finished

-- none of these seeds brings the script of the input to this end
pub record NoneEndsSo (faults : Option FaultRates) (ending : Ending) (first last : ℕ) (input : List ℕ) : Type 0 where
  pub script : ScriptState
  pub script_is : script_of input ≡ Ok script
  pub none : IsFirstSeed script faults turn_limit ending first last None

-- the choices of the run by the least of these seeds that brings the script of the input to this end are to be written,
-- and one of them has no word
pub record IsFirstUnwritten (format : OutputKind) (faults : Option FaultRates) (ending : Ending) (first last : ℕ)
    (input : List ℕ) : Type 0 where
  pub script : ScriptState
  pub script_is : script_of input ≡ Ok script
  pub seed : ℕ
  pub seed_is : IsFirstSeed script faults turn_limit ending first last (Some seed)
  pub unwritten : Unwritten format (chance faults seed) input

-- this is the least of the seeds that brings the script to this end, or none does; the observer learned of each seed up
-- to it, or of all
pub record TellsUpTo (script : ScriptState) (chances : Chances) (ending : Ending) (found : Option ℕ)
    (old new : Option (List Told)) : Type 0 where
  pub first : IsFirstSeed script chances.faults turn_limit ending chances.seeds.first chances.seeds.last found
  pub told : TellsSeeds script chances.faults turn_limit chances.seeds.first
      (tried chances.seeds.first chances.seeds.last found) old new
