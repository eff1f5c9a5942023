-- What a line says, and how it is answered if it is accepted.
use Rattle.std.proofs.Common.{◌≡◌, ℕ, List, [], ◌∷◌, ◌++◌, Some, None, Ok, refl, sym, ap, subst, ◌∙◌, flat_map, codes}
use Rattle.hex.specs.Hex.{decode_of}
use Rattle.ra_stamp.specs.Message.{to_of}
use Rattle.ra_stamp.specs.declared.entry.Mark.{Mark}
use Rattle.ra_stamp.specs.declared.message.Message.{Message}
use Rattle.ra_frame.specs.declared.frame.Frame.{Frame}
use Rattle.ra_frame.specs.declared.format.Format.{Format}
use Rattle.ra_frame.specs.declared.format.Format.TheVariants.{V2}
use Rattle.ra_frame.specs.FrameText.{IsFrameText, IsFrameTextOf}
use Rattle.ra_frame.specs.Faults.{first_fault}
use Rattle.ra_text.specs.Lines.{mark_line}
use Rattle.ra_node.specs.Node.{NodeState}
use Rattle.ra_node.specs.Events.{Event, NodeEvent}
use Rattle.ra_book.specs.declared.book.event.BookKind.{BookKind}
use Rattle.ra_book.specs.declared.book.event.BookKind.TheVariants as kinds
use Rattle.ra_book.specs.History.{node_event, clock_after}
use Rattle.ra_book_text.specs.declared.answering.line_refusal.Refusal.{Refusal}
use Rattle.ra_book_text.specs.declared.answering.line_refusal.Refusal.TheVariants as refusal
use Rattle.ra_book_text.specs.BookText.{Form, HasForm, IsEvent, IsFrameOf, IsUnread}
use Rattle.ra_book_text.specs.BookText.Form.{Ask, Leave, Cancel, Forget, Receive}
use Rattle.ra_book_text.specs.declared.next_line.book_version.BookVersion.{BookVersion}
use Rattle.ra_book_text.specs.Answers.{AreSends, Accepts, send_line}
use Rattle.ra_book.specs.Timed.{Timed}
use Rattle.ra_book_text.proofs.Forms.{ask_once, leave_once, cancel_once, receive_once, ask_no_leave, ask_no_cancel, ask_no_forget, ask_no_receive, leave_no_cancel, leave_no_forget, leave_no_receive, cancel_no_forget, cancel_no_receive, receive_no_forget}

abbrev pub OneFrame : Type 0
OneFrame = (bytes : List ℕ) (a b : Frame) → IsFrameText bytes a → IsFrameText bytes b → a ≡ b

abbrev pub OneText : Type 0
OneText = (format : Format) (a b : List ℕ) (frame : Frame) → IsFrameTextOf format a frame → IsFrameTextOf format b frame → a ≡ b

-- a line is one event
pub one_event : OneFrame → (line : List ℕ) (a b : BookKind) → IsEvent line a → IsEvent line b → a ≡ b
one_event law line (kinds.Ask c n m) (kinds.Ask d o p) g h = ask_once line c d n o m p g h
one_event law line (kinds.Ask c n m) (kinds.Leave d o) g h = absurd (ask_no_leave line c d n o m g h)
one_event law line (kinds.Ask c n m) (kinds.Cancel d o) g h = absurd (ask_no_cancel line c d n o m g h)
one_event law line (kinds.Ask c n m) kinds.Forget g h = absurd (ask_no_forget line c n m g h)
one_event law line (kinds.Ask c n m) (kinds.Receive f) g (digits, form, frame) = absurd (ask_no_receive line c n digits m g form)
one_event law line (kinds.Leave c n) (kinds.Ask d o p) g h = absurd (ask_no_leave line d c o n p h g)
one_event law line (kinds.Leave c n) (kinds.Leave d o) g h = leave_once line c d n o g h
one_event law line (kinds.Leave c n) (kinds.Cancel d o) g h = absurd (leave_no_cancel line c d n o g h)
one_event law line (kinds.Leave c n) kinds.Forget g h = absurd (leave_no_forget line c n g h)
one_event law line (kinds.Leave c n) (kinds.Receive f) g (digits, form, frame) = absurd (leave_no_receive line c n digits g form)
one_event law line (kinds.Cancel c n) (kinds.Ask d o p) g h = absurd (ask_no_cancel line d c o n p h g)
one_event law line (kinds.Cancel c n) (kinds.Leave d o) g h = absurd (leave_no_cancel line d c o n h g)
one_event law line (kinds.Cancel c n) (kinds.Cancel d o) g h = cancel_once line c d n o g h
one_event law line (kinds.Cancel c n) kinds.Forget g h = absurd (cancel_no_forget line c n g h)
one_event law line (kinds.Cancel c n) (kinds.Receive f) g (digits, form, frame) = absurd (cancel_no_receive line c n digits g form)
one_event law line kinds.Forget (kinds.Ask d o p) g h = absurd (ask_no_forget line d o p h g)
one_event law line kinds.Forget (kinds.Leave d o) g h = absurd (leave_no_forget line d o h g)
one_event law line kinds.Forget (kinds.Cancel d o) g h = absurd (cancel_no_forget line d o h g)
one_event law line kinds.Forget kinds.Forget g h = refl
one_event law line kinds.Forget (kinds.Receive f) g (digits, form, frame) = absurd (receive_no_forget line digits form g)
one_event law line (kinds.Receive f) (kinds.Cancel d o) (digits, form, frame) h = absurd (cancel_no_receive line d o digits h form)
one_event law line (kinds.Receive f) kinds.Forget (digits, form, frame) h = absurd (receive_no_forget line digits form h)
one_event law line (kinds.Receive f) (kinds.Ask d o p) (digits, form, frame) h = absurd (ask_no_receive line d o digits p h form)
one_event law line (kinds.Receive f) (kinds.Leave d o) (digits, form, frame) h = absurd (leave_no_receive line d o digits h form)
one_event law line (kinds.Receive f) (kinds.Receive e) (digits, form, (bytes, has, is)) (digits', form', (bytes', has', is')) =
    let same : Ok bytes ≡ Ok bytes' = sym has ∙ (ap decode_of (receive_once line digits digits' form form') ∙ has') in
    let one : bytes ≡ bytes' = cc in
    ap kinds.Receive (law bytes' f e (subst (λ (bs : List ℕ). IsFrameText bs f) one is) is')

-- the event of a line that has digits is the arrival of a frame that they spell
its_digits : (line : List ℕ) (kind : BookKind) (digits : List ℕ) → IsEvent line kind → HasForm line (Receive digits) → (frame : Frame) × IsFrameOf digits frame
its_digits line (kinds.Ask c n m) digits g form = absurd (ask_no_receive line c n digits m g form)
its_digits line (kinds.Leave c n) digits g form = absurd (leave_no_receive line c n digits g form)
its_digits line (kinds.Cancel c n) digits g form = absurd (cancel_no_receive line c n digits g form)
its_digits line kinds.Forget digits g form = absurd (receive_no_forget line digits form g)
its_digits line (kinds.Receive f) digits (own, form', frame) form = (f, subst (λ (ds : List ℕ). IsFrameOf ds f) (receive_once line own digits form' form) frame)

its_form : (line : List ℕ) (kind : BookKind) → IsEvent line kind → (form : Form) × HasForm line form
its_form line (kinds.Ask c n m) h = (Ask c n m, h)
its_form line (kinds.Leave c n) h = (Leave c n, h)
its_form line (kinds.Cancel c n) h = (Cancel c n, h)
its_form line kinds.Forget h = (Forget, h)
its_form line (kinds.Receive f) (digits, form, frame) = (Receive digits, form)

abbrev pub NoFault : Type 0
NoFault = (bytes : List ℕ) (frame : Frame) → IsFrameText bytes frame → first_fault bytes ≡ None

-- a line that is an event is not unread
pub event_is_read : NoFault → (line : List ℕ) (kind : BookKind) (why : Refusal) → IsEvent line kind → IsUnread line why → ⊥
event_is_read law line kind refusal.Line h none = let (form, has) = its_form line kind h in none form has
event_is_read law line kind refusal.Hex h (digits, form, none) =
    let (frame, (bytes, has, text)) = its_digits line kind digits h form in
    none bytes has
event_is_read law line kind (refusal.Frame fault) h (digits, form, (others, has', wrong)) =
    let (frame, (bytes, has, text)) = its_digits line kind digits h form in
    let same : Ok bytes ≡ Ok others = sym has ∙ has' in
    let one : bytes ≡ others = cc in
    let both : None ≡ Some fault = sym (law bytes frame text) ∙ (ap first_fault one ∙ wrong) in
    absurd cc
event_is_read law line kind (refusal.Event cause) h none = absurd none

-- what is sent has one text
one_sends : OneText → (clock : ℕ) (sends : List Message) (a b : List ℕ) → AreSends clock sends a → AreSends clock sends b → a ≡ b
one_sends law clock [] a b g h = g ∙ sym h
one_sends law clock (m ∷ ms) a b g h =
    let bytes = law V2 g.0 h.0 (record { clock = clock; message = m }) g.2 h.2 in
    let rest = one_sends law clock ms g.1 h.1 g.4 h.4 in
    g.3 ∙ (ap (λ (bs : List ℕ). send_line (to_of m) bs ++ g.1) bytes ∙ (ap (λ (t : List ℕ). send_line (to_of m) h.0 ++ t) rest ∙ sym h.3))

module _
    (frames : OneFrame) (texts : OneText)
    (events : (old a b : NodeState) (event : Event) (sends sends' : List Message) (marks marks' : List Mark)
    → NodeEvent old event sends marks a → NodeEvent old event sends' marks' b → (sends ≡ sends') × (marks ≡ marks') × (a ≡ b))
  where
    same_timed : (a b : Timed) → a.node ≡ b.node → a.clock ≡ b.clock → a ≡ b
    same_timed a b n c = λ i. record { node = n i; clock = c i }

    pub one_answer : (version : BookVersion) (old a b : Timed) (line text other : List ℕ) → Accepts version old line text a → Accepts version old line other b → (text ≡ other) × (a ≡ b)
    one_answer version old a b line text other g h =
        let kind = one_event frames line g.reacts.kind h.reacts.kind g.reacts.is_event.1 h.reacts.is_event.1 in
        let event = events old.node a.node b.node (node_event h.reacts.kind) g.sends h.sends g.marks h.marks
        (subst (λ (k : BookKind). NodeEvent old.node (node_event k) g.sends g.marks a.node) kind g.reacts.takes.event) h.reacts.takes.event in
        let clock : a.clock ≡ b.clock = g.reacts.takes.clock_is ∙ (ap (clock_after old.clock) kind ∙ sym h.reacts.takes.clock_is) in
        let sent = one_sends texts b.clock h.sends g.posted.sent h.posted.sent
        (subst (λ (ms : List Message). AreSends b.clock ms g.posted.sent) event.0 (subst (λ (c : ℕ). AreSends c g.sends g.posted.sent) clock g.posted.sends_are)) h.posted.sends_are in (
          g.posted.text_is ∙ (ap (λ (t : List ℕ). t ++ flat_map mark_line g.marks ++ codes "ok\n") sent
              ∙ (ap (λ (ms : List Mark). h.posted.sent ++ flat_map mark_line ms ++ codes "ok\n") event.1 ∙ sym h.posted.text_is)),
          same_timed a b event.2 clock,
        )
