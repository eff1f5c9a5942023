-- A grant that a book gave is in the book: the mark that its last event made is in its history, and names its node.
use Rattle.std.proofs.Common.{◌≡◌, ℕ, ◌≤◌, List, [], ◌∷◌, ◌++◌, map, refl, sym, ap, ◌∙◌, subst, append_assoc}
use Rattle.std.specs.Prelude.{All, Contains, Option, Some, None, IfSome}
use Rattle.std.proofs.lemmas.List.{map-append}
use Rattle.std.proofs.lemmas.List.Elements.{All-contains, All-contains_itself, All-weaker, Contains-append_left, Contains-append_right, Contains-push}
use Rattle.std.proofs.lemmas.List.Concat.{flat_map-append}
use Rattle.ra_stamp.specs.declared.entry.Mark.{Mark}
use Rattle.ra_stamp.specs.declared.entry.Mark.TheVariants.{Entered}
use Rattle.ra_stamp.specs.declared.message.Message.{Message}
use Rattle.ra_stamp.specs.Mark.{entry_of_mark}
use Rattle.ra_stamp.specs.NodeId.{IsNodeNumber}
use Rattle.ra_frame.specs.declared.frame.Frame.{Frame}
use Rattle.ra_node.specs.Node.{NodeState, opening_node, IsConsistentNode}
use Rattle.ra_node.specs.Events.{Event, Happening, name_of_event, NodeEvent, NodeEvents, IsForThisNode, AreForThisNode}
use Rattle.ra_node.specs.Carried.{IsMark}
use Rattle.ra_book.specs.declared.book.event.BookEvent.{BookEvent}
use Rattle.ra_book.specs.declared.book.event.BookKind.{BookKind}
use Rattle.ra_book.specs.declared.book.grant.Grant.{Grant}
use Rattle.ra_book.specs.declared.book.sent.Sent.{Sent}
use Rattle.ra_book.specs.History.{IsHistory, Posting, happening_of, node_event, frames_of}
use Rattle.ra_book.specs.Book.{BookState, HasHistory, LeadsTo, Adds, with_event, next_clock, whole_events, whole_sent, as_sent}
use Rattle.ra_book.specs.Settled.{HasMark, marks_in}
use Rattle.ra_book.proofs.NodeMarks.{for_next}
use Rattle.ra_site.specs.ClientGrant.{Gives, Giver, WasGiven}

-- what the law rests on
pub record GivingLaws : Type 0 where
  pub consistent : (me nodes start : ℕ) (new : NodeState) (happened : List Happening) → IsNodeNumber nodes → (1 ≤ me) × (me ≤ nodes)
      → AreForThisNode (opening_node me nodes start) happened → NodeEvents (opening_node me nodes start) happened new → IsConsistentNode new
  pub stays : (old new : NodeState) (happened : List Happening) → NodeEvents old happened new
      → (new.me ≡ old.me) × (new.nodes ≡ old.nodes) × (old.start ≤ new.start)
  pub makes : (old new : NodeState) (event : Event) (sends : List Message) (marks : List Mark) → IsConsistentNode old → IsForThisNode old event
      → NodeEvent old event sends marks new → All (IsMark old.me (name_of_event event)) marks
  pub one_event : (old a b : NodeState) (event : Event) (sends sends' : List Message) (marks marks' : List Mark)
      → NodeEvent old event sends marks a → NodeEvent old event sends' marks' b → (sends ≡ sends') × (marks ≡ marks') × (a ≡ b)
  pub splits : (prefix rest : List Happening) (a c : NodeState) → NodeEvents a (prefix ++ rest) c
      → (b : NodeState) × NodeEvents a prefix b × NodeEvents b rest c
  pub one_node : (me n start : ℕ) (events : List BookEvent) (sent sent' : List Sent) (a b : NodeState)
      → IsHistory me n start events sent a → IsHistory me n start events sent' b → a ≡ b

head_of : {X : Type 0} {x y : X} {xs ys : List X} → x ∷ xs ≡ y ∷ ys → x ≡ y
head_of e = cc

tail_of : {X : Type 0} {x y : X} {xs ys : List X} → x ∷ xs ≡ y ∷ ys → xs ≡ ys
tail_of e = cc

-- the last one of postings, and those before it
record Last (postings : List Posting) (events : List BookEvent) (event : BookEvent) : Type 0 where
  pub before : List Posting
  pub last : Posting
  pub postings_are : postings ≡ before ++ last ∷ []
  pub before_are : map (λ p. p.event) before ≡ events
  pub last_is : last.event ≡ event

none_left : (postings : List Posting) → map (λ p. p.event) postings ≡ [] → postings ≡ []
none_left [] is = refl
none_left (p ∷ postings) is = absurd cc

split_last : (postings : List Posting) (events : List BookEvent) (event : BookEvent) → map (λ p. p.event) postings ≡ events ++ event ∷ [] → Last postings events event
split_last [] [] event is = absurd cc
split_last [] (e ∷ events) event is = absurd cc
split_last (p ∷ postings) [] event is = record {
  before = [];
  last = p;
  postings_are = ap (λ (ps : List Posting). p ∷ ps) (none_left postings (tail_of is));
  before_are = refl;
  last_is = head_of is;
}
split_last (p ∷ postings) (e ∷ events) event is =
    let rest = split_last postings events event (tail_of is) in
    record {
      before = p ∷ rest.before;
      last = rest.last;
      postings_are = ap (λ (ps : List Posting). p ∷ ps) rest.postings_are;
      before_are = (λ i. head_of is i ∷ rest.before_are i);
      last_is = rest.last_is;
    }

first_all : {X : Type 0} (P : X → Type 0) (xs ys : List X) → All P (xs ++ ys) → All P xs
first_all P xs ys all = All-weaker (Contains xs) P (λ x is. All-contains P (xs ++ ys) x all (Contains-append_left xs ys x is)) xs (All-contains_itself xs)

as_they_were : (frames : List Frame) → map (λ s. s.frame) (as_sent frames) ≡ frames
as_they_were [] = refl
as_they_were (f ∷ frames) = ap (λ (fs : List Frame). f ∷ fs) (as_they_were frames)

module _ (laws : GivingLaws) (old : BookState) (kind : BookKind) (frames : List Frame) (marks : List Mark) (new : BookState) (adds : Adds old kind frames marks new) (history : HasHistory new) where
  abbrev event : BookEvent
  event = record { clock = next_clock old kind; kind = kind }

  abbrev book : BookState
  book = with_event old (next_clock old kind) kind frames

  abbrev opening : NodeState
  opening = opening_node old.me old.nodes old.start

  here : HasHistory book
  here = subst HasHistory adds.new_is history

  last : Last here.leads.postings (whole_events old) event
  last = split_last here.leads.postings (whole_events old) event (here.leads.events_are ∙ sym (append_assoc old.taken.events old.events (event ∷ [])))

  happened_are : map happening_of here.leads.postings ≡ map happening_of last.before ++ happening_of last.last ∷ []
  happened_are = ap (map happening_of) last.postings_are ∙ map-append happening_of last.before (last.last ∷ [])

  all_here : AreForThisNode opening (map happening_of last.before ++ happening_of last.last ∷ [])
  all_here = subst (AreForThisNode opening) happened_are here.leads.for_this_node

  parts : (b : NodeState) × NodeEvents opening (map happening_of last.before) b × NodeEvents b (happening_of last.last ∷ []) here.node
  parts = laws.splits (map happening_of last.before) (happening_of last.last ∷ []) opening here.node (subst (λ (hs : List Happening). NodeEvents opening hs here.node) happened_are here.leads.leads)

  -- the node before the event, by the history up to it
  same_node : parts.0 ≡ adds.before
  same_node =
      laws.one_node old.me old.nodes old.start (whole_events old) (as_sent (frames_of last.before)) _ parts.0 adds.before
      (record {
        clocked = adds.leads.clocked;
        postings = last.before;
        events_are = last.before_are;
        for_this_node = first_all (λ h. IsForThisNode opening h.event) (map happening_of last.before) (happening_of last.last ∷ []) all_here;
        leads = parts.1;
        sent_are = as_they_were (frames_of last.before);
      })
      adds.leads

  -- the event that brings the history to its node
  made : NodeEvent adds.before (node_event kind) last.last.sends last.last.marks parts.2.0
  made =
      let as_event : node_event last.last.event.kind ≡ node_event kind = ap (λ (e : BookEvent). node_event e.kind) last.last_is in
      subst (λ (e : Event). NodeEvent adds.before e last.last.sends last.last.marks parts.2.0) as_event
      (subst (λ (n : NodeState). NodeEvent n (node_event last.last.event.kind) last.last.sends last.last.marks parts.2.0) same_node parts.2.1)

  marks_are : marks ≡ last.last.marks
  marks_are = (laws.one_event adds.before adds.after parts.2.0 (node_event kind) adds.sends last.last.sends marks last.last.marks adds.event made).1

  pub consistent_before : IsConsistentNode adds.before
  consistent_before = laws.consistent old.me old.nodes old.start adds.before (map happening_of adds.leads.postings) here.count here.member adds.leads.for_this_node adds.leads.leads

  -- and the node to which the book leads is the one after the event
  pub made_after : (after : NodeState) → LeadsTo new after → (sends : List Message) × (made : List Mark) × NodeEvent adds.before (node_event kind) sends made after
  made_after after leads =
      let same : here.node ≡ after = laws.one_node old.me old.nodes old.start (whole_events book) (whole_sent book) (whole_sent book) here.node after here.leads (subst (λ (b : BookState). LeadsTo b after) adds.new_is leads) in
      (last.last.sends, last.last.marks, subst (λ (n : NodeState). NodeEvent adds.before (node_event kind) last.last.sends last.last.marks n) (sym parts.2.2 ∙ same) made)

  -- the node and the mark of an event are of the same number
  pub is_own : (mark : Mark) → Contains marks mark → (entry_of_mark mark).stamp.node ≡ new.me
  is_own mark is =
      let same = laws.stays opening adds.before (map happening_of adds.leads.postings) adds.leads.leads in
      let for_last : IsForThisNode opening (node_event last.last.event.kind) =
      All-contains (λ h. IsForThisNode opening h.event) (map happening_of last.before ++ happening_of last.last ∷ []) (happening_of last.last) all_here
      (Contains-push (map happening_of last.before) (happening_of last.last))
      in
      let for_this : IsForThisNode opening (node_event kind) = subst (λ (e : BookEvent). IsForThisNode opening (node_event e.kind)) last.last_is for_last in
      let made = laws.makes adds.before adds.after (node_event kind) adds.sends marks consistent_before (for_next opening adds.before (node_event kind) same.0 same.1 for_this) adds.event in
      (All-contains (IsMark adds.before.me (name_of_event (node_event kind))) marks mark made is).node_is ∙ same.0 ∙ sym (ap (λ (b : BookState). b.me) adds.new_is)

  pub is_there : (mark : Mark) → Contains marks mark → HasMark new mark
  is_there mark is = subst (λ (b : BookState). HasMark b mark) (sym adds.new_is) (
    here.node,
    here.leads,
    subst (λ (ps : List Posting). Contains (marks_in ps) mark) (sym last.postings_are)
        (subst (λ (ms : List Mark). Contains ms mark) (sym (flat_map-append (λ (p : Posting). p.marks) last.before (last.last ∷ [])))
        (Contains-append_right (marks_in last.before) (last.last.marks ++ []) mark
        (Contains-append_left last.last.marks [] mark (subst (λ (ms : List Mark). Contains ms mark) marks_are is)))),
  )

pub is_in_book : GivingLaws → (grant : Grant) → (giver : Giver grant) → (giver.book.me ≡ grant.entry.stamp.node) × HasMark giver.book (Entered grant.entry)
is_in_book laws grant giver =
    let by = giver.gives in (
      sym (is_own laws giver.before by.kind by.frames by.marks giver.book by.adds giver.history (Entered grant.entry) by.entered),
      is_there laws giver.before by.kind by.frames by.marks giver.book by.adds giver.history (Entered grant.entry) by.entered,
    )

-- ---- What a book gives

-- an event of a book that made the mark of a grant gives it
module _ (old : BookState) (kind : BookKind) (frames : List Frame) (marks : List Mark) (new : BookState) (adds : Adds old kind frames marks new) where
  pub gives : (grant : Grant) → Contains marks (Entered grant.entry) → Gives old new grant
  gives grant is = record { kind = kind; frames = frames; marks = marks; adds = adds; entered = is }

  pub given : HasHistory new → (grant : Grant) → Contains marks (Entered grant.entry) → WasGiven grant
  given history grant is = ∣ record { before = old; book = new; gives = gives grant is; history = history } ∣₁

  -- so the grant that somebody is told about is given
  pub told_is_given : {T : Type 0} (told : Option (T × Grant)) (before after : BookState) → before ≡ old → after ≡ new
      → IfSome told (λ t. Contains marks (Entered t.1.entry)) → IfSome told (λ t. Gives before after t.1)
  told_is_given None before after is_old is_new is = tt
  told_is_given (Some t) before after is_old is_new is =
      subst (λ (b : BookState). Gives b after t.1) (sym is_old) (subst (λ (b : BookState). Gives old b t.1) (sym is_new) (gives t.1 is))
