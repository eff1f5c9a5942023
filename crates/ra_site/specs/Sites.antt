-- The sites of a cluster as contracts see them.
use Rattle.std.specs.Prelude.{◌≡◌, ℕ, ◌≤◌, Bool, List, length, map}
use Rattle.std.specs.List.{range_with_len}
use Rattle.ra_book.specs.Book.{BookState, HasHistory, IsWhole}

-- the number of the site's node, and whether an auditor takes what happens at it
pub record SiteState : Type 0 where
  pub node : ℕ
  pub audited : Bool

-- the site of the node with this number, audited or not
abbrev pub site_at : Bool → ℕ → SiteState
site_at audited node = record { node = node; audited = audited }

-- the sites of nodes 1 to n, in order, all audited or none
abbrev pub sites_to : ℕ → Bool → List SiteState
sites_to n audited = map (site_at audited) (range_with_len 1 n)

-- the numbers of the sites' nodes
abbrev pub numbers_of : List SiteState → List ℕ
numbers_of sites = map (λ site. site.node) sites

-- these are the sites of nodes 1 to n, in order, and the node of this one is among them
pub record AreSitesWith (site : SiteState) (sites : List SiteState) : Type 0 where
  pub in_order : numbers_of sites ≡ range_with_len 1 (length sites)
  pub member : site.node ≤ length sites

-- a whole book of this node, one of this many, from this start, with its history
pub record IsWholeBookOf (me nodes start : ℕ) (book : BookState) : Type 0 where
  pub me_is : book.me ≡ me
  pub nodes_are : book.nodes ≡ nodes
  pub start_is : book.start ≡ start
  pub whole : IsWhole book
  pub history : HasHistory book
