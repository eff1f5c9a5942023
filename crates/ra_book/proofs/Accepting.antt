-- What a book answers to bytes.
use Rattle.std.proofs.Common.{◌≡◌, ◌≢◌, ◌↔◌, ◌⊎◌, ℕ, ◌<◌, ◌≤◌, ◌^◌, Some, None, List, Result, Ok, Err, refl, sym, ap, ◌∙◌, subst, inl, inr, arith}
use Rattle.std.specs.Prelude.{IfOk, IfErr, IsErrAnd, IsErrOf, IsOkUnless, IsSome}
use Rattle.ra_stamp.specs.Message.{from_of, to_of}
use Rattle.ra_automaton.specs.declared.error.ReceiveError.{ReceiveError}
use Rattle.ra_automaton.specs.declared.error.ReceiveError.TheVariants as receive
use Rattle.ra_frame.specs.declared.error.FrameError.{FrameError}
use Rattle.ra_frame.specs.declared.frame.Frame.{Frame as OneFrame}
use Rattle.ra_frame.specs.Faults.{first_fault}
use Rattle.ra_frame.specs.Fits.{Fits}
use Rattle.ra_frame.specs.FrameText.{IsFrameText}
use Rattle.ra_automaton.specs.State.{IsForNode}
use Rattle.ra_node.specs.Node.{NodeState, IsConsistentNode}
use Rattle.ra_book.specs.declared.error.BookError.{BookError}
use Rattle.ra_book.specs.declared.error.BookError.TheVariants.{Failed, Frame, Busy, Exhausted, NotHeld, NotWaiting, WrongNode, Stranger, ClockFull, Memory}
use Rattle.ra_book.specs.declared.book.event.BookKind.TheVariants.{Receive}
use Rattle.ra_book.specs.History.{clock_after, clock_of}
use Rattle.ra_book.specs.Book.{BookState, whole_events, HasClock, ReadsFrame}
use Rattle.ra_book.specs.EventChecks.{IsRefusedAfter, IsRefusedWithClock}
use Rattle.ra_book.specs.Refused.{refusal_of_receive}
use Rattle.ra_book.specs.Keeping.{HasNextClock, AnswersReceive, IsRead, IsFrameFor, IsAccepted, NotAccepted}
use Rattle.ra_book.proofs.Running.{has_fault, has_next, passed, passed_allowed, other}

-- ---- Bytes that are decoded

module _ (me nodes clock : ℕ) (bytes : List ℕ) where
  -- what is known of the bytes once they are decoded
  module _ (r : Result OneFrame FrameError) (only : (f : OneFrame) → IsFrameText bytes f → r ≡ Ok f)
      (fault : (e : FrameError) → IsErrOf r e ↔ (first_fault bytes ≡ Some e))
    where
      one_text : (a b : OneFrame) → IsFrameText bytes a → IsFrameText bytes b → a ≡ b
      one_text a b is is' = let left = only a is in let right = only b is' in cc

      no_fault : (f : OneFrame) (e : FrameError) → IsFrameText bytes f → first_fault bytes ≡ Some e → ⊥
      no_fault f e is has = let left = only f is in let right = (fault e).1 has in absurd (cc)

      pub not_accepted : (e : BookError) → NotAccepted me nodes clock bytes e → IsAccepted me nodes clock bytes (Err e)
      not_accepted e why = record { accepted = tt; refused = why; one_text = one_text; no_fault = no_fault }

-- a frame that the node does not take, or that no clock is left for
pub not_taken : (node : NodeState) (clock : ℕ) (bytes : List ℕ) (f : OneFrame) → IsFrameText bytes f → Fits f → (why : BookError) → why ≢ Memory
    → IsRefusedAfter node clock (Receive f) why → NotAccepted node.me node.nodes clock bytes why
not_taken node clock bytes f text fits why other (inl (inl wrong)) =
    subst (NotAccepted node.me node.nodes clock bytes) (sym wrong.0) (f, text, wrong.1)
not_taken node clock bytes f text fits why other (inl (inr stranger)) =
    subst (NotAccepted node.me node.nodes clock bytes) (sym stranger.0) (f, text, stranger.1, stranger.2)
not_taken node clock bytes f text fits why other (inr (inl full)) =
    subst (NotAccepted node.me node.nodes clock bytes) (sym full.0) (f, record { text = text; for_it = full.1; fits = fits }, full.2)
not_taken node clock bytes f text fits why other (inr (inr memory)) = absurd (other memory.0)

-- ---- An answer

-- the node that reads the bytes is the node of the book
pub accepted_by : (node : NodeState) (book now : BookState) (clock : ℕ) (bytes : List ℕ) (r : Result (OneFrame × ℕ) BookError)
    → (node.me ≡ book.me) × (node.nodes ≡ book.nodes) × IsConsistentNode node → book ≡ now
    → IsAccepted node.me node.nodes clock bytes r → IsAccepted now.me now.nodes clock bytes r
accepted_by node book now clock bytes r same is accepted =
    subst (λ (b : BookState). IsAccepted b.me b.nodes clock bytes r) is
    (subst (λ (n : ℕ). IsAccepted book.me n clock bytes r) same.1 (subst (λ (m : ℕ). IsAccepted m node.nodes clock bytes r) same.0 accepted))

-- a frame for the node is for the book
pub for_book : (book now : BookState) (node : NodeState) (f : OneFrame) → (node.me ≡ book.me) × (node.nodes ≡ book.nodes) × IsConsistentNode node → book ≡ now
    → IsForNode node.me node.nodes f.message → IsForNode now.me now.nodes f.message
for_book book now node f same is for_it =
    subst (λ (b : BookState). IsForNode b.me b.nodes f.message) is
    (subst (λ (n : ℕ). IsForNode book.me n f.message) same.1 (subst (λ (m : ℕ). IsForNode m node.nodes f.message) same.0 for_it))

no_stranger : (me nodes : ℕ) (f : OneFrame) → IsForNode me nodes f.message → (from_of f.message ≡ me) ⊎ (nodes < from_of f.message) → ⊥
no_stranger me nodes f for_it why =
    elim why [
      | inl same ↦ for_it.from.other same
      | inr above ↦ omega (arith, above, for_it.from.last)
    ]

module _ (book : BookState) (bytes : List ℕ) where
  pub receive_failed : {T : Type 0} → IsSome book.fault → AnswersReceive {T = T} book bytes (Err Failed)
  receive_failed some = record {
    failed = (λ _. some, λ _. refl);
    frame = λ fault. (λ is. absurd (cc), λ h. absurd (has_fault book.fault some h.0));
    wrong_node = (λ is. absurd (cc), λ h. absurd (has_fault book.fault some h.no_fault));
    stranger = (λ is. absurd (cc), λ h. absurd (has_fault book.fault some h.no_fault));
    clock_full = (λ is. absurd (cc), λ h. absurd (has_fault book.fault some h.no_fault));
    allowed = (λ is. absurd (cc), λ h. absurd (has_fault book.fault some h.no_fault));
  }

  module _ (none : book.fault ≡ None) (clock : ℕ) (clock_is : clock ≡ clock_of (whole_events book)) (r : Result (OneFrame × ℕ) BookError)
      (accepts : IsAccepted book.me book.nodes clock bytes r)
    where
      -- the accepted frame is the one about which this is said
      module _ {P : OneFrame → Type 0} (f : OneFrame) (text : IsFrameText bytes f) where
        reads_it : P f → ReadsFrame book bytes P
        reads_it p = record { no_fault = none; frame = f; text = text; holds = p }

        is_read : ReadsFrame book bytes P → P f
        is_read h = subst P (accepts.one_text h.frame f h.text text) h.holds

      no_failure : {T : Type 0} {answer : Result T BookError} → (IsErrOf answer Failed → ⊥) → IsErrOf answer Failed ↔ IsSome book.fault
      no_failure other = (λ is. absurd (other is), λ some. absurd (has_fault book.fault some none))

      by_answer : (answer : Result (OneFrame × ℕ) BookError) → IfOk answer (λ h. IsFrameFor book.me book.nodes bytes h.0 × (h.1 ≡ clock_after clock (Receive h.0)) × (h.1 ≤ 2 ^ 62))
          → IfErr answer (NotAccepted book.me book.nodes clock bytes) → AnswersReceive book bytes answer
      by_answer (Ok h) accepted refused =
          let f = h.0 in
          let is = accepted.0 in
          let has : HasClock book (Receive f) = has_next book clock (Receive f) clock_is (Ok h.1) (accepted.1, accepted.2) in
          record {
            failed = no_failure (λ e. absurd (cc));
            frame = λ fault. (λ e. absurd (cc), λ found. absurd (accepts.no_fault f fault is.text found.1));
            wrong_node = (λ e. absurd (cc), λ said. absurd ((is_read f is.text said) is.for_it.to));
            stranger = (λ e. absurd (cc), λ said. absurd (no_stranger book.me book.nodes f is.for_it (is_read f is.text said).1));
            clock_full = (λ e. absurd (cc), λ said. absurd ((is_read f is.text said).1 has));
            allowed = (λ _. reads_it f is.text (is.for_it, has), λ _. tt);
          }
      by_answer (Err Failed) accepted refused = absurd refused
      by_answer (Err (Frame fault)) accepted refused = record {
        failed = no_failure (λ e. absurd (cc));
        frame = λ fault'. (
          λ e. (none, let same : fault ≡ fault' = cc in refused ∙ ap Some same),
          λ has. let found : Some fault ≡ Some fault' = sym refused ∙ has.1 in let same : fault ≡ fault' = cc in ap (λ (f : FrameError). Err (Frame f)) same,
        );
        wrong_node = (λ e. absurd (cc), λ said. absurd (accepts.no_fault said.frame fault said.text refused));
        stranger = (λ e. absurd (cc), λ said. absurd (accepts.no_fault said.frame fault said.text refused));
        clock_full = (λ e. absurd (cc), λ said. absurd (accepts.no_fault said.frame fault said.text refused));
        allowed = (λ e. absurd (cc), λ said. absurd (accepts.no_fault said.frame fault said.text refused));
      }
      by_answer (Err Busy) accepted refused = absurd refused
      by_answer (Err Exhausted) accepted refused = absurd refused
      by_answer (Err NotHeld) accepted refused = absurd refused
      by_answer (Err NotWaiting) accepted refused = absurd refused
      by_answer (Err WrongNode) accepted refused =
          let f = refused.0 in
          let text = refused.1 in
          record {
            failed = no_failure (λ e. absurd (cc));
            frame = λ fault. (λ e. absurd (cc), λ found. absurd (accepts.no_fault f fault text found.1));
            wrong_node = (λ _. reads_it f text refused.2, λ _. refl);
            stranger = (λ e. absurd (cc), λ said. absurd (refused.2 (is_read f text said).0));
            clock_full = (λ e. absurd (cc), λ said. absurd (refused.2 (is_read f text said).0.to));
            allowed = (λ e. absurd (cc), λ said. absurd (refused.2 (is_read f text said).0.to));
          }
      by_answer (Err Stranger) accepted refused =
          let f = refused.0 in
          let text = refused.1 in
          record {
            failed = no_failure (λ e. absurd (cc));
            frame = λ fault. (λ e. absurd (cc), λ found. absurd (accepts.no_fault f fault text found.1));
            wrong_node = (λ e. absurd (cc), λ said. absurd ((is_read f text said) refused.2));
            stranger = (λ _. reads_it f text (refused.2, refused.3), λ _. refl);
            clock_full = (λ e. absurd (cc), λ said. absurd (no_stranger book.me book.nodes f (is_read f text said).0 refused.3));
            allowed = (λ e. absurd (cc), λ said. absurd (no_stranger book.me book.nodes f (is_read f text said).0 refused.3));
          }
      by_answer (Err ClockFull) accepted refused =
          let f = refused.0 in
          let is = refused.1 in
          let full = (has_next book clock (Receive f) clock_is (Err ClockFull) (refl, refused.2)).1 in
          record {
            failed = no_failure (λ e. absurd (cc));
            frame = λ fault. (λ e. absurd (cc), λ found. absurd (accepts.no_fault f fault is.text found.1));
            wrong_node = (λ e. absurd (cc), λ said. absurd ((is_read f is.text said) is.for_it.to));
            stranger = (λ e. absurd (cc), λ said. absurd (no_stranger book.me book.nodes f is.for_it (is_read f is.text said).1));
            clock_full = (λ _. reads_it f is.text (is.for_it, full), λ _. refl);
            allowed = (λ e. absurd (cc), λ said. absurd (full (is_read f is.text said).1));
          }
      by_answer (Err Memory) accepted refused = absurd refused

      pub receive_answers : AnswersReceive book bytes r
      receive_answers = by_answer r accepts.accepted accepts.refused

  pub receive_passed : {T S : Type 0} (e : BookError) → AnswersReceive {T = T} book bytes (Err e)
      → (r : Result S BookError) → IsErrAnd r (λ x. x ≡ e) → AnswersReceive book bytes r
  receive_passed {T} {S} e answers (Ok v) h = absurd h
  receive_passed {T} {S} e answers (Err x) h = record {
    failed = passed x e Failed h answers.failed;
    frame = λ fault. passed x e (Frame fault) h (answers.frame fault);
    wrong_node = passed x e WrongNode h answers.wrong_node;
    stranger = passed x e Stranger h answers.stranger;
    clock_full = passed x e ClockFull h answers.clock_full;
    allowed = passed_allowed T S x e Memory h answers.allowed;
  }

  pub receive_added : {T S : Type 0} (v : T) → AnswersReceive book bytes (Ok v)
      → (r : Result S BookError) → IsOkUnless r Memory → AnswersReceive book bytes r
  receive_added v answers r h = record {
    failed = other v r Failed h (λ is. absurd (cc)) answers.failed;
    frame = λ fault. other v r (Frame fault) h (λ is. absurd (cc)) (answers.frame fault);
    wrong_node = other v r WrongNode h (λ is. absurd (cc)) answers.wrong_node;
    stranger = other v r Stranger h (λ is. absurd (cc)) answers.stranger;
    clock_full = other v r ClockFull h (λ is. absurd (cc)) answers.clock_full;
    allowed = (λ _. answers.allowed.0 tt, λ _. h);
  }

-- ---- Bytes that were read as a frame, if a clock is left for it

-- what was decoded is the one frame of the bytes
pub one_frame : (bytes : List ℕ) (r : Result OneFrame FrameError) (f : OneFrame) → r ≡ Ok f → IsFrameText bytes f → Fits f
    → ((g : OneFrame) → IsFrameText bytes g → r ≡ Ok g) → ((e : FrameError) → IsErrOf r e ↔ (first_fault bytes ≡ Some e)) → IsRead bytes f
one_frame bytes r f is text fits only fault = record {
  text = text;
  only = λ g said. let left = only g said in cc;
  no_fault = λ e has. let left = (fault e).1 has in absurd (cc);
  fits = fits;
}

module _ (node : NodeState) (book now : BookState) (bytes : List ℕ) (none : now.fault ≡ None) (f : OneFrame) (read : IsRead bytes f)
    (same : (node.me ≡ book.me) × (node.nodes ≡ book.nodes) × IsConsistentNode node) (is : book ≡ now) (next : ℕ) (has : HasNextClock now (Receive f) next)
  where
    abbrev latest : ℕ
    latest = clock_of (whole_events now)

    answered : (r : Result (OneFrame × ℕ) BookError)
        → IfOk r (λ h. IsFrameFor node.me node.nodes bytes h.0 × (h.1 ≡ clock_after latest (Receive h.0)) × (h.1 ≤ 2 ^ 62))
        → IfErr r (NotAccepted node.me node.nodes latest bytes) → AnswersReceive now bytes r
    answered r for_it refused =
        receive_answers now bytes none latest refl r
        (accepted_by node book now latest bytes r same is
        (record {
          accepted = for_it;
          refused = refused;
          one_text = λ a b said said'. read.only a said ∙ sym (read.only b said');
          no_fault = λ g fault said found. read.no_fault fault found;
        }))

    -- it is for the node
    pub frame_taken : {T : Type 0} (r : Result T BookError) → IsOkUnless r Memory → IsForNode node.me node.nodes f.message → AnswersReceive now bytes r
    frame_taken r h for_it =
        let is_for : IsFrameFor node.me node.nodes bytes f = record { text = read.text; for_it = for_it; fits = read.fits } in
        let low : next ≤ 2 ^ 62 = subst (λ (k : ℕ). k ≤ 2 ^ 62) (sym has.clock_is) has.has_clock in
        receive_added now bytes (f, next) (answered (Ok (f, next)) (is_for, has.clock_is, low) tt) r h

    frame_refused : {T : Type 0} (why : BookError) → NotAccepted node.me node.nodes latest bytes why → (r : Result T BookError) → IsErrAnd r (λ x. x ≡ why)
        → AnswersReceive now bytes r
    frame_refused why not r h = receive_passed now bytes why (answered (Err why) tt not) r h

    memory_alone : {T : Type 0} (r : Result T BookError) → IsErrAnd r (λ x. x ≡ Memory) → IsOkUnless r Memory
    memory_alone (Ok v) h = tt
    memory_alone (Err x) h = h

    -- the node refuses it
    pub node_refuses : {S T : Type 0} (e : ReceiveError) → IsErrOf {T = S} (Err e) receive.WrongNode ↔ (to_of f.message ≢ node.me)
        → IsErrOf {T = S} (Err e) receive.Stranger ↔ ((to_of f.message ≡ node.me) × ((from_of f.message ≡ node.me) ⊎ (node.nodes < from_of f.message)))
        → IsOkUnless {T = S} (Err e) receive.Memory ↔ IsForNode node.me node.nodes f.message
        → (r : Result T BookError) → IsErrAnd r (λ x. x ≡ refusal_of_receive e) → AnswersReceive now bytes r
    node_refuses receive.WrongNode wrong stranger allowed r h = frame_refused WrongNode (f, read.text, wrong.0 refl) r h
    node_refuses receive.Stranger wrong stranger allowed r h = let s = stranger.0 refl in frame_refused Stranger (f, read.text, s.0, s.1) r h
    node_refuses receive.Memory wrong stranger allowed r h = frame_taken r (memory_alone r h) (allowed.0 refl)

    -- there is no room for it
    pub without_room : {T : Type 0} (why : BookError) → IsRefusedWithClock node (Receive f) why → AnswersReceive {T = T} now bytes (Err why)
    without_room why (inl (inl wrong)) = frame_refused WrongNode (f, read.text, wrong.1) (Err why) wrong.0
    without_room why (inl (inr stranger)) = frame_refused Stranger (f, read.text, stranger.1, stranger.2) (Err why) stranger.0
    without_room why (inr memory) = frame_taken (Err why) memory.0 memory.1

-- no clock is left, so memory is not the cause
pub not_for_memory : (node : NodeState) (clock : ℕ) (f : OneFrame) (why : BookError) → IsRefusedAfter node clock (Receive f) why → 2 ^ 62 < clock_after clock (Receive f)
    → why ≢ Memory
not_for_memory node clock f why (inl (inl wrong)) full is = let apart = sym wrong.0 ∙ is in absurd (cc)
not_for_memory node clock f why (inl (inr stranger)) full is = let apart = sym stranger.0 ∙ is in absurd (cc)
not_for_memory node clock f why (inr (inl late)) full is = let apart = sym late.0 ∙ is in absurd (cc)
not_for_memory node clock f why (inr (inr memory)) full is = omega (arith, full, memory.2)
