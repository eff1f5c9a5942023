-- What is always so of the tables of clients.
use Rattle.std.specs.Prelude.{◌≡◌, ◌≢◌, ℕ, Bool, true, false, ◌&&◌, not, List, [], ◌∷◌, Option, Some, None}
use Rattle.std.specs.BTreeMap.{BTreeMap}
use Rattle.std.specs.BTreeSet.{BTreeSet, contains}
use Rattle.std.specs.Ordering.{nat_cmp}
use Rattle.ra_clients.specs.declared.uses.NameUse.{NameUse}
use Rattle.ra_clients.specs.declared.table.Client.{Client}
use Rattle.ra_clients.specs.declared.numbers.Numbers.{Numbers}
use Rattle.ra_clients.specs.Uses.{use_of, until_of}
use Rattle.ra_clients.specs.NumberUse.{is_used, is_before, AreSameNumbers, GivesBack}
use Rattle.ra_clients.specs.Times.{End, ends_at, is_end}
use Rattle.ra_clients.specs.Table.{uses_at, connection_at, is_had}
use Rattle.ra_clients.specs.AtNode.{AreOnce}

abbrev pub end_if_some : Option NameUse → Option ℕ
end_if_some None = None
end_if_some (Some u) = until_of u.standing

-- when the client gives the name up, if it waits for it and does
abbrev pub end_of : List ℕ → List NameUse → Option ℕ
end_of name uses = end_if_some (use_of name uses)

-- whether the client has names and no connection
abbrev pub is_alone : Option ℕ → List NameUse → Bool
is_alone (Some connection) uses = false
is_alone None [] = false
is_alone None (u ∷ us) = true

-- A number is used if a client has it. No client has a name twice. Each time at which a client gives up is kept. A
-- client with names and no connection is leaving, or is of before the start.
pub record IsInStep (clients : BTreeMap ℕ Client) (numbers : Numbers) (ends : BTreeSet End) (leaving : BTreeSet ℕ)
    (k : ℕ) : Type 0 where
  pub used : is_used numbers k ≡ is_had (connection_at clients k) (uses_at clients k)
  pub once : AreOnce (uses_at clients k)
  pub gives_up : (time : ℕ) (name : List ℕ) → ends_at ends time k name ≡ is_end time (end_of name (uses_at clients k))
  pub leaves : contains nat_cmp leaving k
      ≡ (is_alone (connection_at clients k) (uses_at clients k) && not (is_before numbers k))
  pub before : is_before numbers k ≡ true → connection_at clients k ≡ None

abbrev pub AreInStep : BTreeMap ℕ Client → Numbers → BTreeSet End → BTreeSet ℕ → Type 0
AreInStep clients numbers ends leaving = (k : ℕ) → IsInStep clients numbers ends leaving k

-- The number is free now, if its client leaves nothing, and the client is not among those that leave.
abbrev pub Frees : Bool → Numbers → BTreeSet ℕ → ℕ → Numbers → BTreeSet ℕ → Type 0
Frees false old leaving number new left =
    AreSameNumbers old new × ((k : ℕ) → contains nat_cmp left k ≡ contains nat_cmp leaving k)
Frees true old leaving number new left =
    GivesBack old number new × (contains nat_cmp left number ≡ false)
    × ((k : ℕ) → k ≢ number → contains nat_cmp left k ≡ contains nat_cmp leaving k)

-- The client with this number has no connection any more: if it has names, it is among those that leave, and otherwise
-- the number is free.
abbrev pub PartsNumber : Bool → Numbers → BTreeSet ℕ → ℕ → Numbers → BTreeSet ℕ → Type 0
PartsNumber true old leaving number new left =
    AreSameNumbers old new × (contains nat_cmp left number ≡ true)
    × ((k : ℕ) → k ≢ number → contains nat_cmp left k ≡ contains nat_cmp leaving k)
PartsNumber false old leaving number new left =
    GivesBack old number new × ((k : ℕ) → contains nat_cmp left k ≡ contains nat_cmp leaving k)
