-- The clients by the numbers by which the book knows them.
use Rattle.std.specs.Prelude.{◌≡◌, ◌≢◌, ℕ, Bool, true, false, List, [], ◌∷◌, Option, Some, None}
use Rattle.std.specs.BTreeMap.{BTreeMap, get}
use Rattle.std.specs.Ordering.{nat_cmp}
use Rattle.ra_clients.specs.declared.uses.NameUse.{NameUse}
use Rattle.ra_clients.specs.declared.table.Client.{Client}

abbrev pub uses_if_some : Option Client → List NameUse
uses_if_some None = []
uses_if_some (Some client) = client.uses.items

abbrev pub connection_if_some : Option Client → Option ℕ
connection_if_some None = None
connection_if_some (Some client) = client.connection

-- the names of the client with this number, and its connection
abbrev pub uses_at : BTreeMap ℕ Client → ℕ → List NameUse
uses_at clients number = uses_if_some (get nat_cmp clients number)

abbrev pub connection_at : BTreeMap ℕ Client → ℕ → Option ℕ
connection_at clients number = connection_if_some (get nat_cmp clients number)

-- whether a client with this connection and these names has a number: it has either
abbrev pub is_had : Option ℕ → List NameUse → Bool
is_had (Some connection) uses = true
is_had None [] = false
is_had None (u ∷ us) = true

-- the names of one client change to these, and nothing else
pub record Changes (old : BTreeMap ℕ Client) (number : ℕ) (uses : List NameUse) (new : BTreeMap ℕ Client) : Type 0 where
  pub here : uses_at new number ≡ uses
  pub others : (k : ℕ) → k ≢ number → uses_at new k ≡ uses_at old k
  pub connections : (k : ℕ) → connection_at new k ≡ connection_at old k

-- the client with this number has no connection any more
pub record Disconnects (old : BTreeMap ℕ Client) (number : ℕ) (new : BTreeMap ℕ Client) : Type 0 where
  pub here : connection_at new number ≡ None
  pub others : (k : ℕ) → k ≢ number → connection_at new k ≡ connection_at old k
  pub uses : (k : ℕ) → uses_at new k ≡ uses_at old k

-- a client with this connection gets the number, and has one name
pub record Joins (old : BTreeMap ℕ Client) (number : ℕ) (connection : Option ℕ) (use_now : NameUse)
    (new : BTreeMap ℕ Client) : Type 0 where
  pub uses : uses_at new number ≡ use_now ∷ []
  pub connection_is : connection_at new number ≡ connection
  pub others : (k : ℕ) → k ≢ number → uses_at new k ≡ uses_at old k
  pub connections : (k : ℕ) → k ≢ number → connection_at new k ≡ connection_at old k

-- each number is that of a client with the same names and the same connection
pub record AreSameClients (old new : BTreeMap ℕ Client) : Type 0 where
  pub uses : (k : ℕ) → uses_at new k ≡ uses_at old k
  pub connections : (k : ℕ) → connection_at new k ≡ connection_at old k
