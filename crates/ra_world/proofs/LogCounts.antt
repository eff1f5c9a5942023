-- What a log counts of its moves.
use Rattle.std.proofs.Common.{arith, ◌≡◌, ℕ, ◌+◌, ◌<◌, ◌≤◌, List, [], ◌∷◌, ◌++◌, length, get_or, take, refl, ap, sym, ◌∙◌, subst}
use Rattle.std.proofs.lemmas.List.{append-nil, append_assoc, length-append, length-take, take_more}
use Rattle.ra_stamp.specs.declared.entry.Entry.{Entry}
use Rattle.ra_stamp.specs.declared.entry.Mark.{Mark}
use Rattle.ra_stamp.specs.declared.entry.Mark.TheVariants.{Requested, Entered, Left, Withdrawn}
use Rattle.ra_node.specs.declared.outcome.Outcome.{Outcome}
use Rattle.ra_world.specs.declared.step.Step.{Step}
use Rattle.ra_world.specs.declared.step.Step.TheVariants.{Ask, Leave, Cancel, Deliver, Lose, Repeat, Forget}
use Rattle.ra_world.specs.Traffic.{Move, sent_by, lost_by, lost_in, repeated_by, repeated_in}
use Rattle.ra_world.specs.Run.{marks_of}
use Rattle.ra_world.specs.Quiet.{requests_in, withdrawn_in}
use Rattle.ra_world.specs.StepLog.{AreCounted, move_of, moves_of}
use Rattle.ra_world.proofs.Moves.{marks_more, sent_more, withdrawn_both}

pub requests_in-append : (a b : List Mark) → requests_in (a ++ b) ≡ requests_in a + requests_in b
requests_in-append [] b = omega arith
requests_in-append (Requested e ∷ a) b = omega (arith, requests_in-append a b)
requests_in-append (Entered e ∷ a) b = requests_in-append a b
requests_in-append (Left e ∷ a) b = requests_in-append a b
requests_in-append (Withdrawn e ∷ a) b = requests_in-append a b

-- each withdrawal has a mark
pub withdrawn_in_le : (marks : List Mark) → withdrawn_in marks ≤ length marks
withdrawn_in_le [] = omega arith
withdrawn_in_le (Requested e ∷ marks) = omega (arith, withdrawn_in_le marks)
withdrawn_in_le (Entered e ∷ marks) = omega (arith, withdrawn_in_le marks)
withdrawn_in_le (Left e ∷ marks) = omega (arith, withdrawn_in_le marks)
withdrawn_in_le (Withdrawn e ∷ marks) = omega (arith, withdrawn_in_le marks)

-- each request has a mark
pub requests_in_le : (marks : List Mark) → requests_in marks ≤ length marks
requests_in_le [] = omega arith
requests_in_le (Requested e ∷ marks) = omega (arith, requests_in_le marks)
requests_in_le (Entered e ∷ marks) = omega (arith, requests_in_le marks)
requests_in_le (Left e ∷ marks) = omega (arith, requests_in_le marks)
requests_in_le (Withdrawn e ∷ marks) = omega (arith, requests_in_le marks)

pub lost_by-append : (a b : List Move) → lost_by (a ++ b) ≡ lost_by a ++ lost_by b
lost_by-append [] b = refl
lost_by-append (x ∷ a) b = ap (λ ms. lost_in x.step ++ ms) (lost_by-append a b) ∙ sym (append_assoc (lost_in x.step) (lost_by a) (lost_by b))

pub lost_in_le : (s : Step) → length (lost_in s) ≤ 1
lost_in_le (Ask node client name mode) = omega arith
lost_in_le (Leave node client name) = omega arith
lost_in_le (Cancel node client name) = omega arith
lost_in_le (Deliver message) = omega arith
lost_in_le (Lose message) = omega arith
lost_in_le (Repeat message) = omega arith
lost_in_le (Forget node) = omega arith

-- each loss is a step
pub lost_by_le : (moves : List Move) → length (lost_by moves) ≤ length moves
lost_by_le [] = omega arith
lost_by_le (x ∷ moves) = omega (arith, length-append (lost_in x.step) (lost_by moves), lost_in_le x.step, lost_by_le moves)

pub repeated_by-append : (a b : List Move) → repeated_by (a ++ b) ≡ repeated_by a ++ repeated_by b
repeated_by-append [] b = refl
repeated_by-append (x ∷ a) b = ap (λ ms. repeated_in x.step ++ ms) (repeated_by-append a b) ∙ sym (append_assoc (repeated_in x.step) (repeated_by a) (repeated_by b))

pub repeated_in_le : (s : Step) → length (repeated_in s) ≤ 1
repeated_in_le (Ask node client name mode) = omega arith
repeated_in_le (Leave node client name) = omega arith
repeated_in_le (Cancel node client name) = omega arith
repeated_in_le (Deliver message) = omega arith
repeated_in_le (Lose message) = omega arith
repeated_in_le (Repeat message) = omega arith
repeated_in_le (Forget node) = omega arith

-- and so is each repeat
pub repeated_by_le : (moves : List Move) → length (repeated_by moves) ≤ length moves
repeated_by_le [] = omega arith
repeated_by_le (x ∷ moves) = omega (arith, length-append (repeated_in x.step) (repeated_by moves), repeated_in_le x.step, repeated_by_le moves)

-- a mark is a request, a withdrawal or neither
pub one_request : (mark : Mark) (e : Entry) → mark ≡ Requested e → (requests_in (mark ∷ []) ≡ 1) × (withdrawn_in (mark ∷ []) ≡ 0)
one_request mark e is = (ap (λ (m : Mark). requests_in (m ∷ [])) is, ap (λ (m : Mark). withdrawn_in (m ∷ [])) is)

pub one_withdrawal : (mark : Mark) (e : Entry) → mark ≡ Withdrawn e → (requests_in (mark ∷ []) ≡ 0) × (withdrawn_in (mark ∷ []) ≡ 1)
one_withdrawal mark e is = (ap (λ (m : Mark). requests_in (m ∷ [])) is, ap (λ (m : Mark). withdrawn_in (m ∷ [])) is)

pub neither : (mark : Mark) → ((e : Entry) → mark ≡ Requested e → ⊥) → ((e : Entry) → mark ≡ Withdrawn e → ⊥) → (requests_in (mark ∷ []) ≡ 0) × (withdrawn_in (mark ∷ []) ≡ 0)
neither (Requested e) none kept = absurd (none e refl)
neither (Entered e) none kept = (refl, refl)
neither (Left e) none kept = (refl, refl)
neither (Withdrawn e) none kept = absurd (kept e refl)

-- one more mark
pub requests_in-take : (marks : List Mark) (i : ℕ) (mark : Mark) → i < length marks → mark ≡ get_or marks i mark
    → requests_in (take (i + 1) marks) ≡ requests_in (take i marks) + requests_in (mark ∷ [])
requests_in-take marks i mark low is =
    ap requests_in (take_more marks i mark low)
    ∙ requests_in-append (take i marks) (get_or marks i mark ∷ [])
    ∙ ap (λ m. requests_in (take i marks) + requests_in (m ∷ [])) (sym is)

-- one more mark
pub withdrawn_in-take : (marks : List Mark) (i : ℕ) (mark : Mark) → i < length marks → mark ≡ get_or marks i mark
    → withdrawn_in (take (i + 1) marks) ≡ withdrawn_in (take i marks) + withdrawn_in (mark ∷ [])
withdrawn_in-take marks i mark low is =
    ap withdrawn_in (take_more marks i mark low)
    ∙ withdrawn_both (take i marks) (get_or marks i mark ∷ [])
    ∙ ap (λ m. withdrawn_in (take i marks) + withdrawn_in (m ∷ [])) (sym is)

pub withdrawn_in-take-le : (marks : List Mark) (i : ℕ) → withdrawn_in (take i marks) ≤ length marks
withdrawn_in-take-le marks i = omega (arith, withdrawn_in_le (take i marks), length-take i marks)

-- this many marks have no more requests
pub requests_in-take-le : (marks : List Mark) (i : ℕ) → requests_in (take i marks) ≤ length marks
requests_in-take-le marks i = omega (arith, requests_in_le (take i marks), length-take i marks)

-- no more losses, nor repeats, than steps
pub lost-le : (keeps : ℕ) (moves : List Move) (steps : ℕ) (marks : List Mark) (sent requests lost repeated withdrawn : ℕ)
    → AreCounted keeps moves steps marks sent requests lost repeated withdrawn → lost ≤ steps
lost-le keeps moves steps marks sent requests lost repeated withdrawn h = omega (arith, h.lost_are, lost_by_le moves, h.steps_are)

pub repeated-le : (keeps : ℕ) (moves : List Move) (steps : ℕ) (marks : List Mark) (sent requests lost repeated withdrawn : ℕ)
    → AreCounted keeps moves steps marks sent requests lost repeated withdrawn → repeated ≤ steps
repeated-le keeps moves steps marks sent requests lost repeated withdrawn h = omega (arith, h.repeated_are, repeated_by_le moves, h.steps_are)

-- one more step with its outcome
pub made_more : (made : List (Step × Outcome)) (one : Step × Outcome) → moves_of (made ++ one ∷ []) ≡ moves_of made ++ move_of one ∷ []
made_more [] one = refl
made_more (x ∷ made) one = ap (λ (ms : List Move). move_of x ∷ ms) (made_more made one)

pub counted_more : (keeps : ℕ) (moves : List Move) (steps : ℕ) (marks marks' : List Mark) (sent requests lost repeated withdrawn : ℕ) (move : Move)
    → AreCounted keeps moves steps marks sent requests lost repeated withdrawn → length move.sends ≤ 18446744073709551615
    → requests_in move.marks ≤ 18446744073709551615 → withdrawn_in move.marks ≤ 18446744073709551615 → (keeps ≡ 1 → marks' ≡ marks ++ move.marks)
    → AreCounted keeps (moves ++ move ∷ []) (steps + 1) marks' (sent + length move.sends) (requests + requests_in move.marks)
    (lost + length (lost_in move.step)) (repeated + length (repeated_in move.step)) (withdrawn + withdrawn_in move.marks)
counted_more keeps moves steps marks marks' sent requests lost repeated withdrawn move h few fewer fewest added =
    let one : List Move = move ∷ [] in
    record {
      steps_are = omega (arith, h.steps_are, length-append moves one);
      marks_are = λ kept. added kept ∙ ap (λ (ms : List Mark). ms ++ move.marks) (h.marks_are kept) ∙ sym (marks_more moves move);
      sent_is = ap (λ n. n + length move.sends) h.sent_is ∙ sym (length-append (sent_by moves) move.sends) ∙ ap length (sym (sent_more moves move));
      sent_fits = omega (arith, h.sent_fits, few);
      requests_are =
          ap (λ n. n + requests_in move.marks) h.requests_are ∙ sym (requests_in-append (marks_of moves) move.marks) ∙ ap requests_in (sym (marks_more moves move));
      requests_fit = omega (arith, h.requests_fit, fewer);
      withdrawn_are = ap (λ n. n + withdrawn_in move.marks) h.withdrawn_are ∙ sym (withdrawn_both (marks_of moves) move.marks) ∙ ap withdrawn_in (sym (marks_more moves move));
      withdrawn_fit = omega (arith, h.withdrawn_fit, fewest);
      lost_are =
          ap (λ n. n + length (lost_in move.step)) h.lost_are
          ∙ ap (λ xs. length (lost_by moves) + length xs) (sym (append-nil (lost_in move.step)))
          ∙ sym (length-append (lost_by moves) (lost_by one))
          ∙ ap length (sym (lost_by-append moves one));
      repeated_are =
          ap (λ n. n + length (repeated_in move.step)) h.repeated_are
          ∙ ap (λ xs. length (repeated_by moves) + length xs) (sym (append-nil (repeated_in move.step)))
          ∙ sym (length-append (repeated_by moves) (repeated_by one))
          ∙ ap length (sym (repeated_by-append moves one));
    }

-- the same, of what is equal to it
pub pushed : (keeps : ℕ) (made made' : List (Step × Outcome)) (steps steps' : ℕ) (marks marks' : List Mark) (sent s requests r lost k repeated c withdrawn w : ℕ)
    (step : Step) (outcome : Outcome) → AreCounted keeps (moves_of made) steps marks sent requests lost repeated withdrawn
    → length outcome.sends.items ≤ 18446744073709551615 → requests_in outcome.marks.items ≤ 18446744073709551615 → withdrawn_in outcome.marks.items ≤ 18446744073709551615
    → made' ≡ made ++ (step, outcome) ∷ [] → steps' ≡ steps + 1 → (keeps ≡ 1 → marks' ≡ marks ++ outcome.marks.items)
    → s ≡ length outcome.sends.items → r ≡ requests_in outcome.marks.items → k ≡ length (lost_in step) → c ≡ length (repeated_in step) → w ≡ withdrawn_in outcome.marks.items
    → AreCounted keeps (moves_of made') steps' marks' (sent + s) (requests + r) (lost + k) (repeated + c) (withdrawn + w)
pushed keeps made made' steps steps' marks marks' sent s requests r lost k repeated c withdrawn w step outcome h few fewer fewest em es ek is ir il ic iw =
    let moves : moves_of made' ≡ moves_of made ++ move_of (step, outcome) ∷ [] = ap moves_of em ∙ made_more made (step, outcome) in
    let more = counted_more keeps (moves_of made) steps marks marks' sent requests lost repeated withdrawn (move_of (step, outcome)) h few fewer fewest ek in
    subst (λ (ms : List Move). AreCounted keeps ms steps' marks' (sent + s) (requests + r) (lost + k) (repeated + c) (withdrawn + w)) (sym moves)
    (subst (λ (n : ℕ). AreCounted keeps (moves_of made ++ move_of (step, outcome) ∷ []) n marks' (sent + s) (requests + r) (lost + k) (repeated + c) (withdrawn + w)) (sym es)
    (subst (λ (n : ℕ). AreCounted keeps (moves_of made ++ move_of (step, outcome) ∷ []) (steps + 1) marks' (sent + n) (requests + r) (lost + k) (repeated + c) (withdrawn + w)) (sym is)
    (subst (λ (n : ℕ). AreCounted keeps (moves_of made ++ move_of (step, outcome) ∷ []) (steps + 1) marks' (sent + length outcome.sends.items) (requests + n) (lost + k) (repeated + c) (withdrawn + w)) (sym ir)
    (subst (λ (n : ℕ). AreCounted keeps (moves_of made ++ move_of (step, outcome) ∷ []) (steps + 1) marks' (sent + length outcome.sends.items) (requests + requests_in outcome.marks.items) (lost + n) (repeated + c) (withdrawn + w)) (sym il)
    (subst (λ (n : ℕ). AreCounted keeps (moves_of made ++ move_of (step, outcome) ∷ []) (steps + 1) marks' (sent + length outcome.sends.items) (requests + requests_in outcome.marks.items) (lost + length (lost_in step)) (repeated + n) (withdrawn + w)) (sym ic)
    (subst (λ (n : ℕ). AreCounted keeps (moves_of made ++ move_of (step, outcome) ∷ []) (steps + 1) marks' (sent + length outcome.sends.items) (requests + requests_in outcome.marks.items) (lost + length (lost_in step)) (repeated + length (repeated_in step)) (withdrawn + n)) (sym iw) more))))))
