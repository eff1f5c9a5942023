-- What some arguments are.
use Rattle.std.specs.Prelude.{◌≡◌, ℕ, ◌⊎◌, List, [], ◌∷◌, codes}

-- the argument is `--help` or `-h`, or `--version` or `-V`
abbrev pub IsHelpArgument : List ℕ → Type 0
IsHelpArgument argument = (argument ≡ codes "--help") ⊎ (argument ≡ codes "-h") ⊎ (argument ≡ codes "--version")
    ⊎ (argument ≡ codes "-V")

-- the arguments are the program's name and `sim`
abbrev pub AreSimArguments : (arguments : List (List ℕ)) → Type 0
AreSimArguments arguments = (name : List ℕ) × (arguments ≡ name ∷ codes "sim" ∷ [])

-- the arguments are the program's name and `node`
abbrev pub AreNodeArguments : (arguments : List (List ℕ)) → Type 0
AreNodeArguments arguments = (name : List ℕ) × (arguments ≡ name ∷ codes "node" ∷ [])
