-- The lines that a node accepted, and a node that is handed them again.
use Rattle.std.proofs.Common.{◌≡◌, ◌⊎◌, ℕ, true, List, [], ◌∷◌, ◌++◌, inl, inr, refl, sym, ap, subst, ◌∙◌, flat_map, codes, append_assoc, arith}
use Rattle.std.proofs.lemmas.List.{append_cancel_left}
use Rattle.std.specs.List.{list_all}
use Rattle.std.specs.Prelude.{nat_lt}
use Rattle.ra_stamp.specs.declared.entry.Mark.{Mark}
use Rattle.ra_stamp.specs.declared.entry.Mark.TheVariants.{Requested, Entered, Left, Withdrawn}
use Rattle.ra_stamp.specs.declared.message.Message.{Message}
use Rattle.ra_frame.specs.declared.error.FrameError.{FrameError}
use Rattle.ra_frame.specs.declared.error.FrameError.TheVariants as fault
use Rattle.ra_frame.specs.Words as frame
use Rattle.ra_node.specs.Node.{NodeState}
use Rattle.ra_text.specs.Lines.{field, mark_line}
use Rattle.ra_book.specs.EventChecks.{MayTake, NodeRefuses}
use Rattle.ra_book.specs.declared.book.event.BookKind.{BookKind}
use Rattle.ra_book.specs.declared.book.event.BookKind.TheVariants.{Ask, Leave, Cancel, Forget, Receive}
use Rattle.ra_book.specs.declared.error.BookError.{BookError}
use Rattle.ra_book.specs.declared.error.BookError.TheVariants as error
use Rattle.ra_book_text.specs.declared.answering.line_refusal.Refusal.{Refusal}
use Rattle.ra_book_text.specs.declared.answering.line_refusal.Refusal.TheVariants as refusal
use Rattle.ra_book_text.specs.BookText.{AllowsKind, IsEvent, IsUnread}
use Rattle.ra_book_text.specs.declared.next_line.book_version.BookVersion.{BookVersion}
use Rattle.ra_book_text.specs.Input.{HasNoFeed}
use Rattle.ra_book.specs.Timed.{Refuses, Takes, Timed}
use Rattle.ra_book_text.specs.Answers.{Accepts, Answered, AnswersEach, AreSends, Denies, event_word, kept_of, lines_of, refused_line, text_of, word_of}
use Rattle.ra_book_text.specs.Answers.Answered.{Accepted, Refused}
use Rattle.ra_book_text.specs.Laws.{IsCutShort}
use Rattle.ra_node.proofs.Possible.{cancel_was_allowed}
use Rattle.ra_book_text.proofs.OneReading.{feed_once, head_of, tail_of}
use Rattle.ra_book_text.proofs.WrittenLines.{word}

-- ---- The lines that were accepted are accepted again

pub kept_again : (version : BookVersion) (old new : Timed) (all : List Answered) → AnswersEach version old all new → AnswersEach version old (kept_of all) new
kept_again version old new [] h = h
kept_again version old new (Accepted line answer ∷ all) h = (h.0, h.1, kept_again version h.0 new all h.2)
kept_again version old new (Refused line answer ∷ all) h = kept_again version old new all h.1

-- nothing was accepted
none_kept : (version : BookVersion) (old new : Timed) (all : List Answered) → AnswersEach version old all new → [] ≡ lines_of (kept_of all) → (kept_of all ≡ []) × (new ≡ old)
none_kept version old new [] h is = (refl, h)
none_kept version old new (Accepted line answer ∷ all) h is = absurd cc
none_kept version old new (Refused line answer ∷ all) h is = none_kept version old new all h.1 is

-- the first line that was accepted, and what comes after it
record FirstKept (version : BookVersion) (old new : Timed) (all : List Answered) (line : List ℕ) (lines : List (List ℕ)) : Type 0 where
  answer : List ℕ
  next : Timed
  others : List Answered
  accepts : Accepts version old line answer next
  kept_is : kept_of all ≡ Accepted line answer ∷ kept_of others
  later : AnswersEach version next others new
  lines_are : lines ≡ lines_of (kept_of others)

first_kept : (version : BookVersion) (old new : Timed) (all : List Answered) (line : List ℕ) (lines : List (List ℕ)) → AnswersEach version old all new → line ∷ lines ≡ lines_of (kept_of all)
    → FirstKept version old new all line lines
first_kept version old new [] line lines h is = absurd cc
first_kept version old new (Accepted own answer ∷ all) line lines h is =
    let same : own ≡ line = sym (head_of is) in
    record {
      answer = answer;
      next = h.0;
      others = all;
      accepts = subst (λ (l : List ℕ). Accepts version old l answer h.0) same h.1;
      kept_is = λ i. Accepted (same i) answer ∷ kept_of all;
      later = h.2;
      lines_are = tail_of is;
    }
first_kept version old new (Refused own answer ∷ all) line lines h is =
    let first = first_kept version old new all line lines h.1 is in
    record {
      answer = first.answer;
      next = first.next;
      others = first.others;
      accepts = first.accepts;
      kept_is = first.kept_is;
      later = first.later;
      lines_are = first.lines_are;
    }

-- ---- The two answers that a line may have

-- the answer to a line that is refused is one line
frame_word : (fault : FrameError) → list_all (nat_lt 10) (codes "refused" ++ field (frame.word_of fault)) ≡ true
frame_word fault.Short = refl
frame_word fault.Version = refl
frame_word fault.Kind = refl
frame_word fault.From = refl
frame_word fault.To = refl
frame_word fault.SameNode = refl
frame_word fault.Mode = refl
frame_word fault.Seq = refl
frame_word fault.Clock = refl
frame_word fault.NameLength = refl
frame_word fault.NameByte = refl
frame_word fault.Trailing = refl

event_word_is : (why : BookError) → list_all (nat_lt 10) (codes "refused" ++ field (event_word why)) ≡ true
event_word_is (error.Frame fault) = frame_word fault
event_word_is error.Failed = refl
event_word_is error.Busy = refl
event_word_is error.Exhausted = refl
event_word_is error.NotHeld = refl
event_word_is error.NotWaiting = refl
event_word_is error.WrongNode = refl
event_word_is error.Stranger = refl
event_word_is error.ClockFull = refl
event_word_is error.Memory = refl

refusal_word : (why : Refusal) → list_all (nat_lt 10) (codes "refused" ++ field (word_of why)) ≡ true
refusal_word refusal.Line = refl
refusal_word refusal.Hex = refl
refusal_word (refusal.Frame fault) = frame_word fault
refusal_word (refusal.Event why) = event_word_is why

no_feed_in_word : (why : Refusal) → HasNoFeed (codes "refused" ++ field (word_of why))
no_feed_in_word why = word (codes "refused" ++ field (word_of why)) (refusal_word why)

one_refusal : (why other : Refusal) (x y : List ℕ) → refused_line why ++ x ≡ refused_line other ++ y → (refused_line why ≡ refused_line other) × (x ≡ y)
one_refusal why other x y is =
    let same = feed_once (codes "refused" ++ field (word_of why)) (codes "refused" ++ field (word_of other)) x y (no_feed_in_word why) (no_feed_in_word other)
    (sym (append_assoc (codes "refused" ++ field (word_of why)) (codes "\n") x) ∙ is ∙ append_assoc (codes "refused" ++ field (word_of other)) (codes "\n") y) in
    (ap (λ (t : List ℕ). t ++ codes "\n") same.0, same.1)

-- and it is not one of the answers to an accepted line
marks_apart : (marks : List Mark) (why : Refusal) (x y : List ℕ) → (flat_map mark_line marks ++ codes "ok\n") ++ x ≡ refused_line why ++ y → ⊥
marks_apart [] why x y is = let first : 111 ≡ 114 = head_of is in omega (arith, first)
marks_apart (Requested entry ∷ marks) why x y is =
    let third : 113 ≡ 102 = head_of (tail_of (tail_of is)) in
    omega (arith, third)
marks_apart (Entered entry ∷ marks) why x y is = let first : 101 ≡ 114 = head_of is in omega (arith, first)
marks_apart (Left entry ∷ marks) why x y is = let first : 108 ≡ 114 = head_of is in omega (arith, first)
marks_apart (Withdrawn entry ∷ marks) why x y is = let first : 119 ≡ 114 = head_of is in omega (arith, first)

apart : (clock : ℕ) (sends : List Message) (marks : List Mark) (sent : List ℕ) (why : Refusal) (x y : List ℕ) → AreSends clock sends sent
    → (sent ++ flat_map mark_line marks ++ codes "ok\n") ++ x ≡ refused_line why ++ y → ⊥
apart clock [] marks sent why x y h is =
    marks_apart marks why x y (ap (λ (t : List ℕ). (t ++ flat_map mark_line marks ++ codes "ok\n") ++ x) (sym h) ∙ is)
apart clock (m ∷ sends) marks sent why x y h is =
    let wrong = ap (λ (t : List ℕ). (t ++ flat_map mark_line marks ++ codes "ok\n") ++ x) (sym h.3) ∙ is in
    let first : 115 ≡ 114 = head_of wrong in
    omega (arith, first)

never_both : (version : BookVersion) (old next at : Timed) (line answer other refused : List ℕ) (x y : List ℕ) → Accepts version old line answer next → Denies version at other refused at
    → answer ++ x ≡ refused ++ y → ⊥
never_both version old next at line answer other refused x y g h is =
    apart next.clock g.sends g.marks g.posted.sent h.why x y g.posted.sends_are
    (ap (λ (t : List ℕ). t ++ x) (sym g.posted.text_is) ∙ is ∙ ap (λ (t : List ℕ). t ++ y) h.text_is)

-- ---- A line that is accepted can only be refused for lack of memory

may_take : (old : Timed) (kind : BookKind) (sends : List Message) (marks : List Mark) (new : Timed) → Takes old kind sends marks new → MayTake old.node kind
may_take old (Ask client name mode) sends marks new takes = takes.event.turn.0
may_take old (Leave client name) sends marks new takes =
    elim takes.event.turn [
      | inl nobody ↦ (nobody.entry, nobody.ends.holds)
      | inr one ↦ (one.entry, one.ends.holds)
    ]
may_take old (Cancel client name) sends marks new takes = cancel_was_allowed old.node client name (sends, marks, new.node, takes.event)
may_take old Forget sends marks new takes = tt
may_take old (Receive frame) sends marks new takes = takes.for_this_node

not_refused : (node : NodeState) (kind : BookKind) (why : BookError) → MayTake node kind → NodeRefuses node kind why → ⊥
not_refused node (Ask client name mode) why may (inl busy) = may.not_busy busy.1
not_refused node (Ask client name mode) why may (inr used) = let few = may.number_left in omega (arith, few, used.2)
not_refused node (Leave client name) why may refused = refused.1 may.0 may.1
not_refused node (Cancel client name) why may refused = refused.1 may
not_refused node Forget why may refused = refused
not_refused node (Receive frame) why may (inl other) = other.1 may.to
not_refused node (Receive frame) why may (inr stranger) =
    elim stranger.2 [
      | inl own ↦ may.from.other own
      | inr above ↦ let last = may.from.last in omega (arith, last, above)
    ]

-- ---- The laws

module _ (one_answer : (version : BookVersion) (old a b : Timed) (line text other : List ℕ) → Accepts version old line text a → Accepts version old line other b → (text ≡ other) × (a ≡ b)) where
  -- nodes that have accepted the same lines gave the same answers to them
  pub same_kept : (version : BookVersion) (old a b : Timed) (all other : List Answered) → AnswersEach version old all a → AnswersEach version old other b → lines_of (kept_of all) ≡ lines_of (kept_of other)
      → (kept_of all ≡ kept_of other) × (a ≡ b)
  same_kept version old a b [] other g h is = let none = none_kept version old b other h is in (sym none.0, g ∙ sym none.1)
  same_kept version old a b (Accepted line answer ∷ all) other g h is =
      let first = first_kept version old b other line (lines_of (kept_of all)) h is in
      let one = one_answer version old g.0 first.next line answer first.answer g.1 first.accepts in
      let rest = same_kept version first.next a b all first.others (subst (λ (at : Timed). AnswersEach version at all a) one.1 g.2) first.later first.lines_are in
      ((λ i. Accepted line (one.0 i) ∷ rest.0 i) ∙ sym first.kept_is, rest.1)
  same_kept version old a b (Refused line answer ∷ all) other g h is = same_kept version old a b all other g.1 h is

  -- the answers tell which lines were accepted
  pub told : (version : BookVersion) (old a b : Timed) (all other : List Answered) → AnswersEach version old all a → AnswersEach version old other b → lines_of all ≡ lines_of other
      → text_of all ≡ text_of other → (all ≡ other) × (a ≡ b)
  told version old a b [] [] g h lines text = (refl, g ∙ sym h)
  told version old a b [] (Accepted m y ∷ other) g h lines text = absurd cc
  told version old a b [] (Refused m y ∷ other) g h lines text = absurd cc
  told version old a b (Accepted l x ∷ all) [] g h lines text = absurd cc
  told version old a b (Refused l x ∷ all) [] g h lines text = absurd cc
  told version old a b (Accepted l x ∷ all) (Accepted m y ∷ other) g h lines text =
      let line : l ≡ m = head_of lines in
      let one = one_answer version old g.0 h.0 m x y (subst (λ (k : List ℕ). Accepts version old k x g.0) line g.1) h.1 in
      let more = append_cancel_left y (text_of all) (text_of other) (ap (λ (t : List ℕ). t ++ text_of all) (sym one.0) ∙ text) in
      let rest = told version h.0 a b all other (subst (λ (at : Timed). AnswersEach version at all a) one.1 g.2) h.2 (tail_of lines) more in
      (λ i. Accepted (line i) (one.0 i) ∷ rest.0 i, rest.1)
  told version old a b (Accepted l x ∷ all) (Refused m y ∷ other) g h lines text =
      absurd (never_both version old g.0 old l x m y (text_of all) (text_of other) g.1 h.0 text)
  told version old a b (Refused l x ∷ all) (Accepted m y ∷ other) g h lines text =
      absurd (never_both version old h.0 old m y l x (text_of other) (text_of all) h.1 g.0 (sym text))
  told version old a b (Refused l x ∷ all) (Refused m y ∷ other) g h lines text =
      let line : l ≡ m = head_of lines in
      let same = one_refusal g.0.why h.0.why (text_of all) (text_of other)
      (ap (λ (t : List ℕ). t ++ text_of all) (sym g.0.text_is) ∙ text ∙ ap (λ (t : List ℕ). t ++ text_of other) h.0.text_is) in
      let answer : x ≡ y = g.0.text_is ∙ same.0 ∙ sym h.0.text_is in
      let rest = told version old a b all other g.1 h.1 (tail_of lines) same.1 in
      (λ i. Refused (line i) (answer i) ∷ rest.0 i, rest.1)

module _
    (event : (line : List ℕ) (a b : BookKind) → IsEvent line a → IsEvent line b → a ≡ b)
    (is_read : (line : List ℕ) (kind : BookKind) (why : Refusal) → IsEvent line kind → IsUnread line why → ⊥)
    (one_answer : (version : BookVersion) (old a b : Timed) (line text other : List ℕ) → Accepts version old line text a → Accepts version old line other b → (text ≡ other) × (a ≡ b))
  where
    only_memory : (version : BookVersion) (old new : Timed) (line answer refused : List ℕ) → Accepts version old line answer new → Denies version old line refused old
        → refused ≡ refused_line (refusal.Event error.Memory)
    only_memory version old new line answer refused g h =
        elim h.stays.cause [
          | inl unread ↦ absurd (is_read line g.reacts.kind h.why g.reacts.is_event.1 unread)
          | inr (inl new) ↦ absurd (new.1.2 (subst (AllowsKind version) (event line g.reacts.kind new.1.0 g.reacts.is_event.1 new.1.1) g.reacts.is_event.0))
          | inr (inr taken) ↦
              let same : taken.0 ≡ g.reacts.kind = event line taken.0 g.reacts.kind taken.3.1 g.reacts.is_event.1 in
              let refuses = subst (λ (k : BookKind). Refuses old k taken.1) same taken.4 in
              elim refuses [
                | inl node ↦ absurd (not_refused old.node g.reacts.kind taken.1 (may_take old g.reacts.kind g.sends g.marks new g.reacts.takes) node)
                | inr (inl full) ↦
                    let low = g.reacts.takes.has_clock in
                    let is = g.reacts.takes.clock_is in
                    let no : ⊥ = omega (arith, full.2, low, is) in absurd no
                | inr (inr memory) ↦ h.text_is ∙ ap refused_line taken.2 ∙ ap (λ (e : BookError). refused_line (refusal.Event e)) memory.0
              ]
        ]

    -- a node that is handed the kept lines answers as before, or memory runs out
    pub again : (version : BookVersion) (old a b : Timed) (all others : List Answered) → AnswersEach version old all a → AnswersEach version old others b → lines_of others ≡ lines_of (kept_of all)
        → ((others ≡ kept_of all) × (b ≡ a)) ⊎ IsCutShort (kept_of all) others
    again version old a b [] [] g h is = inl (refl, h ∙ sym g)
    again version old a b [] (Accepted m y ∷ others) g h is = absurd cc
    again version old a b [] (Refused m y ∷ others) g h is = absurd cc
    again version old a b (Refused l x ∷ all) others g h is = again version old a b all others g.1 h is
    again version old a b (Accepted l x ∷ all) [] g h is = absurd cc
    again version old a b (Accepted l x ∷ all) (Accepted m y ∷ others) g h is =
        let line : m ≡ l = head_of is in
        let one = one_answer version old h.0 g.0 l y x (subst (λ (k : List ℕ). Accepts version old k y h.0) line h.1) g.1 in
        elim (again version g.0 a b all others g.2 (subst (λ (at : Timed). AnswersEach version at others b) one.1 h.2) (tail_of is)) [
          | inl same ↦ inl (λ i. Accepted (line i) (one.0 i) ∷ same.0 i, same.1)
          | inr cut ↦ inr (record {
            before = Accepted l x ∷ cut.before;
            line = cut.line;
            answer = cut.answer;
            left = cut.left;
            others = cut.others;
            kept_is = ap (λ (k : List Answered). Accepted l x ∷ k) cut.kept_is;
            again_is = λ i. Accepted (line i) (one.0 i) ∷ cut.again_is i;
          })
        ]
    again version old a b (Accepted l x ∷ all) (Refused m y ∷ others) g h is =
        let line : m ≡ l = head_of is in
        let why = only_memory version old g.0 l x y g.1 (subst (λ (k : List ℕ). Denies version old k y old) line h.0) in
        inr (record {
          before = [];
          line = l;
          answer = x;
          left = kept_of all;
          others = others;
          kept_is = refl;
          again_is = λ i. Refused (line i) (why i) ∷ others;
        })
