-- What a script's text says, seen from the script.
use Rattle.std.specs.Prelude.{◌≡◌, ℕ, ◌≤◌, pos, List, length, map, Some, All}
use Rattle.std.specs.Str.{IsUtf8}
use Rattle.toml.specs.Data.{Members}
use Rattle.toml.specs.Parse.{parse_document}
use Rattle.ra_stamp.specs.Name.{IsName}
use Rattle.ra_schedule.specs.Script.{ScriptClient, ScriptState, IsScript}
use Rattle.ra_script.specs.Document.{ClientTable, Document, document_of}
use Rattle.ra_script.specs.Operation.{spelling, name_in}

-- a client as it is written
abbrev pub written_client : ScriptClient → ClientTable
written_client client = record { node = pos client.node; ops = map spelling client.ops }

-- a script as it is written
abbrev pub written : ScriptState → Document
written script = record { nodes = pos script.nodes; clients = map written_client script.clients }

-- each operation of the client has a valid name
abbrev pub IsNamed : ScriptClient → Type 0
IsNamed client = All (λ op. IsName (name_in op)) client.ops

-- the text is a document of this script
pub record Means (text : List ℕ) (script : ScriptState) : Type 0 where
  pub tree : Members
  pub short : length text ≤ 65536
  pub utf8 : IsUtf8 text
  pub parsed : parse_document text ≡ Some tree
  pub shape : document_of tree ≡ Some (written script)
  pub some : 1 ≤ length script.clients
  pub named : All IsNamed script.clients
  pub valid : IsScript script
