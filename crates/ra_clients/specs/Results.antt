-- Whom to tell what the node answers.
use Rattle.std.specs.Prelude.{ℕ, Option, Some, None}
use Rattle.ra_clients.specs.declared.results.Told.{Told}
use Rattle.ra_clients.specs.declared.results.Told.TheVariants.{Nobody, Client}

-- whom to tell if the client waited and has this connection
abbrev pub told_by : Option ℕ → Told
told_by None = Nobody
told_by (Some client) = Client client
