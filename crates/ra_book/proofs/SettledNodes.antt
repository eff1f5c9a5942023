-- The nodes of a settled run are the books' nodes.
use Rattle.std.proofs.Common.{ℕ, ◌<◌, List, [], length, get_or, None, sym, subst, arith}
use Rattle.std.specs.Prelude.{All}
use Rattle.ra_stamp.specs.NodeId.{IsNodeNumber}
use Rattle.ra_node.specs.Node.{NodeState, opening_node}
use Rattle.ra_node.specs.Events.{NodeEvents}
use Rattle.ra_world.specs.Traffic.{Move}
use Rattle.ra_world.specs.Run.{EndsWith, happened_at}
use Rattle.ra_book.specs.Book.{BookState, nothing_taken, HasHistory}
use Rattle.ra_book.specs.Settled.{IsCluster, start_of}
use Rattle.ra_book.proofs.Merging.{number_at}

abbrev pub nobody : BookState
nobody = record { me = 0; nodes = 0; start = 0; taken = nothing_taken; events = []; sent = []; fault = None }

abbrev pub book_at : List BookState → ℕ → BookState
book_at books k = get_or books k nobody

module _ (books : List BookState) (cluster : IsCluster books) where
  pub few : All HasHistory books → IsNodeNumber (length books)
  few histories = subst IsNodeNumber (cluster.one_count 0 nobody (omega (arith, cluster.some))) (histories 0 nobody (omega (arith, cluster.some))).count

  -- what happened at a node leads from the opening node of its book
  pub book_ends : (moves : List Move) (nodes : ℕ → NodeState) → EndsWith (length books) (start_of books) moves nodes → (k : ℕ) → k < length books
      → NodeEvents (opening_node (book_at books k).me (book_at books k).nodes (book_at books k).start) (happened_at (book_at books k).me moves) (nodes (book_at books k).me)
  book_ends moves nodes ends k within =
      let b = book_at books k in
      let me = number_at books cluster k nobody within in
      subst (λ (s : ℕ). NodeEvents (opening_node b.me b.nodes s) (happened_at b.me moves) (nodes b.me)) (sym (cluster.one_start k nobody within))
      (subst (λ (m : ℕ). NodeEvents (opening_node b.me m (start_of books)) (happened_at b.me moves) (nodes b.me)) (sym (cluster.one_count k nobody within))
      (ends b.me (omega (arith, me)) (omega (arith, me, within))))
