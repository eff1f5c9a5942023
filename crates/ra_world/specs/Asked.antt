-- Which clients asked, and which were granted a name; how many times clients asked, and how many times they cancelled.
use Rattle.std.specs.Prelude.{◌≡◌, ℕ, ◌+◌, List, [], ◌∷◌, Contains, map}
use Rattle.ra_stamp.specs.declared.entry.Entry.{Entry}
use Rattle.ra_stamp.specs.declared.entry.Mark.{Mark}
use Rattle.ra_stamp.specs.declared.entry.Mark.TheVariants.{Entered}
use Rattle.ra_stamp.specs.declared.mode.Mode.{Mode}
use Rattle.ra_world.specs.declared.step.Step.{Step}
use Rattle.ra_world.specs.declared.step.Step.TheVariants.{Ask, Leave, Cancel, Deliver, Lose, Repeat, Forget}
use Rattle.ra_world.specs.Traffic.{Move}

-- the client asks for the name at this node in one of these moves
abbrev pub AsksIn : List Move → ℕ → ℕ → List ℕ → Type 0
AsksIn moves node client name = (mode : Mode) × Contains (map (λ move. move.step) moves) (Ask node client name mode)

-- the client is granted the name at this node by one of these marks
pub record IsGrantedIn (marks : List Mark) (node client : ℕ) (name : List ℕ) : Type 0 where
  pub entry : Entry
  pub enters : Contains marks (Entered entry)
  pub node_is : entry.stamp.node ≡ node
  pub client_is : entry.client ≡ client
  pub name_is : entry.name ≡ name

-- 1 if the step is an ask, and otherwise 0
abbrev pub asks_in : Step → ℕ
asks_in (Ask node client name mode) = 1
asks_in (Leave node client name) = 0
asks_in (Cancel node client name) = 0
asks_in (Deliver message) = 0
asks_in (Lose message) = 0
asks_in (Repeat message) = 0
asks_in (Forget node) = 0

-- how many of these steps are asks
abbrev pub asks_by : List Move → ℕ
asks_by [] = 0
asks_by (move ∷ moves) = asks_in move.step + asks_by moves

-- 1 if the step is a cancel, and otherwise 0
abbrev pub cancels_in : Step → ℕ
cancels_in (Ask node client name mode) = 0
cancels_in (Leave node client name) = 0
cancels_in (Cancel node client name) = 1
cancels_in (Deliver message) = 0
cancels_in (Lose message) = 0
cancels_in (Repeat message) = 0
cancels_in (Forget node) = 0

-- how many of these steps are cancels
abbrev pub cancels_by : List Move → ℕ
cancels_by [] = 0
cancels_by (move ∷ moves) = cancels_in move.step + cancels_by moves
