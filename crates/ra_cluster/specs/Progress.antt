-- Which clients of a cluster of threads can go on, by the books.
use Rattle.std.specs.Prelude.{◌≡◌, ◌⊎◌, ℕ, List, ◌∷◌, ◌++◌, map, Contains}
use Rattle.ra_stamp.specs.declared.mode.Mode.{Mode}
use Rattle.ra_node.specs.Node.{NodeState, opening_node}
use Rattle.ra_node.specs.Events.{Happening, NodeEvents}
use Rattle.ra_schedule.specs.LockOrder.{IsBelow}
use Rattle.ra_schedule.specs.Orderly.{HoldsName, WaitsForName, IsInOrder}
use Rattle.ra_book.specs.declared.book.event.BookEvent.{BookEvent}
use Rattle.ra_book.specs.declared.book.event.BookKind.TheVariants.{Ask}
use Rattle.ra_book.specs.History.{node_event}
use Rattle.ra_book.specs.Book.{BookState, whole_events, LeadsTo}

-- the node of this book was this node after these events
abbrev pub WasAfter : BookState → List BookEvent → NodeState → Type 0
WasAfter book events node = (happened : List Happening)
    × (map (λ h. h.event) happened ≡ map (λ e. node_event e.kind) events)
    × NodeEvents (opening_node book.me book.nodes book.start) happened node

-- whenever a client of this node asked for a name, it waited for nothing, and each name that it held was below that one
abbrev pub TakesNamesInOrder : BookState → Type 0
TakesNamesInOrder book = (before after : List BookEvent) (clock client : ℕ) (name : List ℕ) (mode : Mode)
    (node : NodeState)
    → whole_events book ≡ before ++ record { clock = clock; kind = Ask client name mode } ∷ after
    → WasAfter book before node
    → IsInOrder node client name

-- some client of these books can go on: it waits for nothing, and it holds this name or one above it
pub record SomeoneCanGoOn (books : List BookState) (name : List ℕ) : Type 0 where
  pub book : BookState
  pub among : Contains books book
  pub node : NodeState
  pub leads : LeadsTo book node
  pub client : ℕ
  pub held : List ℕ
  pub holds : HoldsName node client held
  pub not_below : (held ≡ name) ⊎ IsBelow name held
  pub free : (other : List ℕ) → WaitsForName node client other → ⊥

-- some client of these books holds this name, and each client that holds it waits for nothing or for names above it
pub record IsHeldInOrder (books : List BookState) (name : List ℕ) : Type 0 where
  pub book : BookState
  pub among : Contains books book
  pub node : NodeState
  pub leads : LeadsTo book node
  pub client : ℕ
  pub holds : HoldsName node client name
  pub ascends : (book' : BookState) (node' : NodeState) (holder : ℕ) (other : List ℕ) → Contains books book'
      → LeadsTo book' node' → HoldsName node' holder name → WaitsForName node' holder other → IsBelow name other
