-- Which refusal becomes which.
use Rattle.std.specs.Prelude.{◌≡◌, ◌⊎◌, Result, Err}
use Rattle.ra_schedule.specs.declared.error.NewScriptError.{NewScriptError}
use Rattle.ra_schedule.specs.declared.error.NewScriptError.TheVariants as new
use Rattle.ra_schedule.specs.declared.error.AddClientError.{AddClientError}
use Rattle.ra_schedule.specs.declared.error.AddClientError.TheVariants as client
use Rattle.ra_schedule.specs.declared.error.AddOpError.{AddOpError}
use Rattle.ra_schedule.specs.declared.error.AddOpError.TheVariants as op
use Rattle.ra_script.specs.declared.error.ScriptError.{ScriptError}
use Rattle.ra_script.specs.declared.error.ScriptError.TheVariants as fault
use Rattle.ra_text.specs.declared.error.ReadFault.{ReadFault}
use Rattle.ra_text.specs.declared.error.ReadFault.TheVariants as read
use Rattle.ra_schedule.specs.declared.error.DriveError.{DriveError}
use Rattle.ra_schedule.specs.declared.error.DriveError.TheVariants as drive
use Rattle.ra_schedule.specs.declared.error.ChoicesError.{ChoicesError}
use Rattle.ra_schedule.specs.declared.error.ChoicesError.TheVariants as choices
use Rattle.ra_script.specs.declared.error.PerformError.{PerformError}
use Rattle.ra_script.specs.declared.error.PerformError.TheVariants as perform

-- the refusal of a script that has no client yet
abbrev pub of_new : NewScriptError → ScriptError
of_new new.Nodes = fault.Nodes
of_new new.Memory = fault.Memory

-- the refusal of a client
abbrev pub of_client : AddClientError → ScriptError
of_client client.Clients = fault.Clients
of_client client.Memory = fault.Memory

-- the refusal of an operation
abbrev pub of_op : AddOpError → ScriptError
of_op op.Clients = fault.Clients
of_op op.Limit = fault.Limit
of_op op.NotHeld = fault.NotHeld
of_op op.AlreadyHeld = fault.AlreadyHeld
of_op op.Memory = fault.Memory

-- the refusal that an outcome calls for, or `Memory`, which may come instead
abbrev pub IsRefusal : {T : Type 0} → Result T ScriptError → ScriptError → Type 0
IsRefusal outcome why = (outcome ≡ Err why) ⊎ (why ≡ fault.Memory)

-- the refusal of an input that was not read
abbrev pub of_read : ReadFault → PerformError
of_read read.Read = perform.Read
of_read read.Memory = perform.Memory

-- the refusal of a text that is not a script
abbrev pub of_script : ScriptError → PerformError
of_script fault.Toml = perform.Script fault.Toml
of_script fault.Shape = perform.Script fault.Shape
of_script fault.Nodes = perform.Script fault.Nodes
of_script fault.Clients = perform.Script fault.Clients
of_script fault.Op = perform.Script fault.Op
of_script fault.NotHeld = perform.Script fault.NotHeld
of_script fault.AlreadyHeld = perform.Script fault.AlreadyHeld
of_script fault.Limit = perform.Script fault.Limit
of_script fault.Memory = perform.Memory

-- the refusal of a policy that could not go on
abbrev pub of_drive : DriveError → PerformError
of_drive drive.TurnLimit = perform.Drive drive.TurnLimit
of_drive drive.BadPlace = perform.Drive drive.BadPlace
of_drive drive.NotEnabled = perform.Drive drive.NotEnabled
of_drive drive.Memory = perform.Memory

-- the refusal of choices that cannot be written
abbrev pub of_choices : ChoicesError → PerformError
of_choices choices.Choice = perform.Choice
of_choices choices.Memory = perform.Memory
