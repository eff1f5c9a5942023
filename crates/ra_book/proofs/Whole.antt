-- Books from which nothing was taken: their events and frames are the whole history.
use Rattle.std.proofs.Common.{◌≡◌, ◌≤◌, List, ◌++◌, get_or, sym, ap, subst}
use Rattle.std.specs.Prelude.{All}
use Rattle.ra_stamp.specs.NodeId.{IsNodeNumber}
use Rattle.ra_stamp.specs.declared.entry.Mark.{Mark}
use Rattle.ra_node.specs.Node.{NodeState}
use Rattle.ra_book.specs.History.{IsHistory}
use Rattle.ra_book.specs.Book.{BookState, TakenState, whole_events, LeadsTo, IsWhole, HasHistory}
use Rattle.ra_book.specs.Settled.{IsCluster, HasMark, marks_in}
use Rattle.std.specs.Prelude.{Contains}

-- the history of a book from which nothing was taken
pub record HasWholeHistory (book : BookState) : Type 0 where
  pub count : IsNodeNumber book.nodes
  pub member : (1 ≤ book.me) × (book.me ≤ book.nodes)
  pub node : NodeState
  pub leads : IsHistory book.me book.nodes book.start book.events book.sent node

pub whole_events_are : (book : BookState) → IsWhole book → whole_events book ≡ book.events
whole_events_are book whole = ap (λ (t : TakenState). t.events ++ book.events) whole

pub whole_leads : (book : BookState) → IsWhole book → (node : NodeState) → LeadsTo book node → IsHistory book.me book.nodes book.start book.events book.sent node
whole_leads book whole node leads =
    subst (λ (t : TakenState). IsHistory book.me book.nodes book.start (t.events ++ book.events) (t.sent ++ book.sent) node) whole leads

pub whole_history : (book : BookState) → IsWhole book → HasHistory book → HasWholeHistory book
whole_history book whole history = record {
  count = history.count;
  member = history.member;
  node = history.node;
  leads = whole_leads book whole history.node history.leads;
}

pub whole_histories : (books : List BookState) → IsCluster books → All HasHistory books → All HasWholeHistory books
whole_histories books cluster histories k d low = whole_history (get_or books k d) (cluster.whole k d low) (histories k d low)

-- a mark of such a book, by its whole history
abbrev pub WholeMark : BookState → Mark → Type 0
WholeMark book mark =
    (node : NodeState) × (leads : IsHistory book.me book.nodes book.start book.events book.sent node)
    × Contains (marks_in leads.postings) mark

abbrev MarkOf : BookState → TakenState → Mark → Type 0
MarkOf book t mark =
    (node : NodeState) × (leads : IsHistory book.me book.nodes book.start (t.events ++ book.events) (t.sent ++ book.sent) node)
    × Contains (marks_in leads.postings) mark

pub whole_mark : (book : BookState) → IsWhole book → (mark : Mark) → HasMark book mark → WholeMark book mark
whole_mark book whole mark has = subst (λ (t : TakenState). MarkOf book t mark) whole has

pub mark_of_whole : (book : BookState) → IsWhole book → (mark : Mark) → WholeMark book mark → HasMark book mark
mark_of_whole book whole mark has = subst (λ (t : TakenState). MarkOf book t mark) (sym whole) has
