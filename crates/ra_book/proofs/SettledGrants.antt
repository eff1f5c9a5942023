-- What a settled run grants was granted at its node.
use Rattle.std.proofs.Common.{◌≡◌, ℕ, ◌-◌, ◌<◌, ◌≤◌, List, [], ◌++◌, length, sym, ◌∙◌, subst, arith}
use Rattle.std.specs.Prelude.{All, Contains}
use Rattle.std.proofs.lemmas.List.{get_or_default}
use Rattle.std.proofs.lemmas.List.Elements.{All-contains}
use Rattle.ra_stamp.specs.declared.entry.Entry.{Entry}
use Rattle.ra_stamp.specs.declared.entry.Mark.{Mark}
use Rattle.ra_stamp.specs.declared.entry.Mark.TheVariants.{Entered}
use Rattle.ra_stamp.specs.declared.message.Message.{Message}
use Rattle.ra_stamp.specs.Message.{from_of, to_of}
use Rattle.ra_stamp.specs.NodeId.{IsNodeNumber}
use Rattle.ra_stamp.specs.Mark.{entry_of_mark}
use Rattle.ra_automaton.specs.State.{IsOtherNode}
use Rattle.ra_node.specs.Node.{NodeState, opening_node, IsConsistentNode}
use Rattle.ra_node.specs.Events.{Event, name_of_event, NodeEvent, NodeEvents, IsForThisNode}
use Rattle.ra_node.specs.Carried.{IsMark}
use Rattle.ra_world.specs.Traffic.{Move, IsUnderWay}
use Rattle.ra_world.specs.Run.{IsRun, happened_at, marks_of}
use Rattle.ra_book.specs.declared.book.event.BookEvent.{BookEvent}
use Rattle.ra_book.specs.declared.book.sent.Sent.{Sent}
use Rattle.ra_book.specs.History.{IsHistory, Posting}
use Rattle.ra_book.specs.Book.{BookState, IsWhole, HasHistory}
use Rattle.ra_book.specs.Settled.{IsCluster, IsSettledRun, IsGranted, HasMark, marks_in, start_of}
use Rattle.ra_book.proofs.Merging.{number_at}
use Rattle.ra_book.proofs.SettledNodes.{nobody, book_at, few as numbered, book_ends}
use Rattle.ra_book.proofs.NodeMarks.{marks_by, Fit, made_at, made_there, own_marks, marks_posted, happened_here, history_by}
use Rattle.ra_book.proofs.Whole.{HasWholeHistory, whole_history, whole_mark, mark_of_whole}

-- the laws of the crates below, as far as this rests on them
pub record GrantLaws : Type 0 where
  pub prefixes : (n start : ℕ) (prefix rest : List Move) → IsRun n start (prefix ++ rest) → IsRun n start prefix
  pub goes : (n start : ℕ) (moves : List Move) (message : Message) → IsNodeNumber n → IsRun n start moves → IsUnderWay moves message
      → ((1 ≤ to_of message) × (to_of message ≤ n)) × IsOtherNode (to_of message) n (from_of message)
  pub opens : (me nodes start : ℕ) → IsNodeNumber nodes → (1 ≤ me) × (me ≤ nodes) → IsConsistentNode (opening_node me nodes start)
  pub keeps : (old new : NodeState) (event : Event) (sends : List Message) (marks : List Mark) → IsConsistentNode old → IsForThisNode old event → NodeEvent old event sends marks new → IsConsistentNode new
  pub makes : (old new : NodeState) (event : Event) (sends : List Message) (marks : List Mark) → IsConsistentNode old → IsForThisNode old event → NodeEvent old event sends marks new
      → All (IsMark old.me (name_of_event event)) marks
  pub stays : (old new : NodeState) (event : Event) (sends : List Message) (marks : List Mark) → NodeEvent old event sends marks new → (new.me ≡ old.me) × (new.nodes ≡ old.nodes) × (old.start ≤ new.start)
  pub one_history : (me n start : ℕ) (events : List BookEvent) (sent sent' : List Sent) (a b : NodeState)
      → (left : IsHistory me n start events sent a) → (right : IsHistory me n start events sent' b) → left.postings ≡ right.postings

module _ (laws : GrantLaws) (books : List BookState) (moves : List Move) (entry : Entry) (cluster : IsCluster books) (histories : All HasHistory books) (settled : IsSettledRun books moves) where
  abbrev n : ℕ
  n = length books

  abbrev start : ℕ
  start = start_of books

  few : IsNodeNumber n
  few = numbered books cluster histories

  -- the book of a node has the marks that a settled run makes there
  module _ (k : ℕ) (within : k < n) where
    abbrev b : BookState
    b = book_at books k

    whole : IsWhole b
    whole = cluster.whole k nobody within

    history : HasWholeHistory b
    history = whole_history b whole (histories k nobody within)

    ends : NodeEvents (opening_node b.me b.nodes b.start) (happened_at b.me moves) (settled.run.ends.0 b.me)
    ends = book_ends books cluster moves settled.run.ends.0 settled.run.ends.1 k within

    marks_kept : (mark : Mark) → Contains (marks_by (happened_at b.me moves)) mark → Contains (marks_in history.leads.postings) mark
    marks_kept mark is =
        let fit : Fit b.events (happened_at b.me moves) = settled.events k nobody within in
        let other = history_by b history (happened_at b.me moves) (settled.run.ends.0 b.me) fit ends in
        let same = laws.one_history b.me b.nodes b.start b.events b.sent _ history.node (settled.run.ends.0 b.me) history.leads other.0 ∙ other.1 in
        subst (λ (ps : List Posting). Contains (marks_in ps) mark) (sym same) (subst (λ (ms : List Mark). Contains ms mark) (sym (marks_posted b.events (happened_at b.me moves) fit)) is)

    marks_made : (mark : Mark) → HasMark b mark → Contains (marks_by (happened_at b.me moves)) mark
    marks_made mark has =
        let by_whole = whole_mark b whole mark has in
        let node = by_whole.0 in
        let leads = by_whole.1 in
        let is = by_whole.2 in
        let fit : Fit b.events (happened_at b.me moves) = settled.events k nobody within in
        let other = history_by b history (happened_at b.me moves) (settled.run.ends.0 b.me) fit ends in
        let same = laws.one_history b.me b.nodes b.start b.events b.sent _ node (settled.run.ends.0 b.me) leads other.0 ∙ other.1 in
        subst (λ (ms : List Mark). Contains ms mark) (marks_posted b.events (happened_at b.me moves) fit) (subst (λ (ps : List Posting). Contains (marks_in ps) mark) same is)

    marks_own : All (λ m. (entry_of_mark m).stamp.node ≡ b.me) (marks_by (happened_at b.me moves))
    marks_own =
        own_marks laws.keeps laws.makes laws.stays (happened_at b.me moves) (opening_node b.me b.nodes b.start) (settled.run.ends.0 b.me)
        (laws.opens b.me b.nodes b.start history.count history.member) (happened_here b history (happened_at b.me moves) (settled.events k nobody within)) ends

  pub granted_there : Contains (marks_of moves) (Entered entry) → IsGranted books entry
  granted_there is =
      let found =
      made_at n start (laws.prefixes n start) (λ moves message run under. (laws.goes n start moves message few run under).0) (Entered entry) moves [] settled.run settled.run.each_fits is
      in
      let k = found.0 - 1 in
      let within : k < n = omega (arith, found.1.0, found.1.1) in
      let me : (book_at books k).me ≡ found.0 = number_at books cluster k nobody within ∙ omega (arith, found.1.0) in
      let here = subst (λ (i : ℕ). Contains (marks_by (happened_at i moves)) (Entered entry)) (sym me) found.2 in
      let own : entry.stamp.node ≡ (book_at books k).me =
      All-contains (λ m. (entry_of_mark m).stamp.node ≡ (book_at books k).me) (marks_by (happened_at (book_at books k).me moves)) (Entered entry) (marks_own k within) here
      in (
        k,
        book_at books k,
        within,
        get_or_default books k (book_at books k) nobody within,
        (
          sym own,
          mark_of_whole (book_at books k) (whole k within) (Entered entry) ((history k within).node, (history k within).leads, marks_kept k within (Entered entry) here),
        ),
      )

  pub entered_then : IsGranted books entry → Contains (marks_of moves) (Entered entry)
  entered_then (k, book, low, at, has) =
      let same : book ≡ book_at books k = sym (get_or_default books k nobody book low ∙ at) in
      made_there (book_at books k).me moves (Entered entry) (marks_made k low (Entered entry) (subst (λ (x : BookState). HasMark x (Entered entry)) same has.1))
