-- Which clients wait after one more move, and how many steps each client has made.
use Rattle.std.proofs.Common.{◌≡◌, ◌⊎◌, ℕ, ◌+◌, false, List, [], ◌∷◌, ◌++◌, All, refl, sym, ap, ◌∙◌, subst, append_assoc, arith, inl, inr}
use Rattle.std.proofs.lemmas.Bool.{false≢true}
use Rattle.std.proofs.lemmas.List.Elements.{All-append, All-same, All-nil, All-push}
use Rattle.std.proofs.lemmas.List.Elements as elements
use Rattle.ra_stamp.specs.declared.entry.Entry.{Entry}
use Rattle.ra_stamp.specs.declared.entry.Mark.{Mark}
use Rattle.ra_stamp.specs.declared.entry.Mark.TheVariants.{Requested, Entered, Left, Withdrawn}
use Rattle.ra_world.specs.declared.step.Step.{Step}
use Rattle.ra_world.specs.Traffic.{Move}
use Rattle.ra_world.specs.Run.{marks_of}
use Rattle.ra_world.proofs.Moves.{marks_more}
use Rattle.ra_schedule.specs.declared.driver.client_progress.Progress.{Progress}
use Rattle.ra_schedule.specs.Schedule.{steps_of, steps_in, steps_by, Asks, Enters, IsWaiting}
use Rattle.ra_schedule.specs.Progress.{IsProgress, IsAfterMarks, IsProgressAfter}
use Rattle.ra_schedule.proofs.Lists.{split_last}

pub steps_by-append : (client : ℕ) (xs ys : List Step) → steps_by client (xs ++ ys) ≡ steps_by client xs + steps_by client ys
steps_by-append client [] ys = omega arith
steps_by-append client (x ∷ xs) ys = let more = steps_by-append client xs ys in omega arith

pub steps_of-append : (xs ys : List Move) → steps_of (xs ++ ys) ≡ steps_of xs ++ steps_of ys
steps_of-append [] ys = refl
steps_of-append (x ∷ xs) ys = ap (λ (zs : List Step). x.step ∷ zs) (steps_of-append xs ys)

pub steps_by-more : (client : ℕ) (moves : List Move) (move : Move)
    → steps_by client (steps_of (moves ++ move ∷ [])) ≡ steps_by client (steps_of moves) + steps_in client move.step
steps_by-more client moves move =
    let all = ap (steps_by client) (steps_of-append moves (move ∷ [])) in
    let parts = steps_by-append client (steps_of moves) (move.step ∷ []) in
    omega arith

-- no mark of these says that the client entered
abbrev NoneEnters : ℕ → List Mark → Type 0
NoneEnters client marks = All (λ mark. Enters client mark → ⊥) marks

left_part : (client : ℕ) (xs ys : List Mark) → NoneEnters client (xs ++ ys) → NoneEnters client xs
left_part client [] ys all = All-nil (λ mark. Enters client mark → ⊥)
left_part client (x ∷ xs) ys all =
    elements.All-cons (λ mark. Enters client mark → ⊥) x xs (elements.All-head (λ mark. Enters client mark → ⊥) x (xs ++ ys) all)
    (left_part client xs ys (elements.All-tail (λ mark. Enters client mark → ⊥) x (xs ++ ys) all))

right_part : (client : ℕ) (xs ys : List Mark) → NoneEnters client (xs ++ ys) → NoneEnters client ys
right_part client [] ys all = all
right_part client (x ∷ xs) ys all = right_part client xs ys (elements.All-tail (λ mark. Enters client mark → ⊥) x (xs ++ ys) all)

-- a client waits after one more move if none of its marks says that it entered, and it asks in the move or waited
-- before
pub waits_on : (client : ℕ) (moves : List Move) (move : Move) → NoneEnters client move.marks
    → Asks client move.step ⊎ IsWaiting client moves → IsWaiting client (moves ++ move ∷ [])
waits_on client moves move none (inl asks) =
    (moves, [], move, refl, asks, All-same (λ mark. Enters client mark → ⊥) (marks_of (move ∷ [])) move.marks (marks_more [] move) none)
waits_on client moves move none (inr (before, after, ask, is, asks, silent)) = (
  before,
  after ++ move ∷ [],
  ask,
  ap (λ (ms : List Move). ms ++ move ∷ []) is ∙ append_assoc before (ask ∷ after) (move ∷ []),
  asks,
  All-same (λ mark. Enters client mark → ⊥) (marks_of ((ask ∷ after) ++ move ∷ [])) (marks_of (ask ∷ after) ++ move.marks) (marks_more (ask ∷ after) move)
      (All-append (λ mark. Enters client mark → ⊥) (marks_of (ask ∷ after)) move.marks silent none),
)

pub waited : (client : ℕ) (moves : List Move) (move : Move) → IsWaiting client (moves ++ move ∷ [])
    → NoneEnters client move.marks × (Asks client move.step ⊎ IsWaiting client moves)
waited client moves move (before, after, ask, is, asks, silent) =
    elim (split_last moves move before after ask is) [
      | inl h ↦
          let this : ask ≡ move = h.1 in
          let last : marks_of (ask ∷ after) ≡ move.marks = ap (λ (ms : List Move). marks_of (ask ∷ ms)) h.2 ∙ marks_more [] ask ∙ ap (λ (m : Move). m.marks) this in (
            subst (NoneEnters client) last silent,
            inl (subst (λ (m : Move). Asks client m.step) this asks),
          )
      | inr h ↦
          let parts : marks_of (ask ∷ after) ≡ marks_of (ask ∷ h.0) ++ move.marks =
          ap (λ (ms : List Move). marks_of (ask ∷ ms)) h.1 ∙ marks_more (ask ∷ h.0) move in
          let both = subst (NoneEnters client) parts silent in (
            right_part client (marks_of (ask ∷ h.0)) move.marks both,
            inr (before, h.0, ask, h.2, asks, left_part client (marks_of (ask ∷ h.0)) move.marks both),
          )
    ]

pub nobody_waits : (client : ℕ) → IsWaiting client [] → ⊥
nobody_waits client ([], after, ask, is, asks, silent) = absurd cc
nobody_waits client (m ∷ before, after, ask, is, asks, silent) = absurd cc

-- the place of a client goes on with a move
pub goes_on : (client : ℕ) (moves : List Move) (move : Move) (old new : Progress) → IsProgress client moves old
    → IsProgressAfter move client old new → IsProgress client (moves ++ move ∷ []) new
goes_on client moves move old new stood (between, step, marks) =
    record {
      done = let more = steps_by-more client moves move in let a = stood.done in let b = step.done in let c = marks.done in omega arith;
      waiting = (
        λ waits. let h = marks.waiting.0 waits in
            waits_on client moves move h.1 (elim (step.waiting.0 h.0) [
              | inl asks ↦ inl asks
              | inr before ↦ inr (stood.waiting.0 before)
            ]),
        λ waits. let h = waited client moves move waits in
            marks.waiting.1 (
              step.waiting.1 (elim h.1 [
                | inl asks ↦ inl asks
                | inr before ↦ inr (stood.waiting.1 before)
              ]),
              h.0,
            ),
      );
    }

-- ---- Marks, one after the other

pub no_marks : (client : ℕ) (old : Progress) → IsAfterMarks client [] old old
no_marks client old = record { done = refl; waiting = (λ h. (h, All-nil (λ mark. Enters client mark → ⊥)), λ h. h.0) }

pub other_mark : (client : ℕ) (marks : List Mark) (mark : Mark) (old new : Progress) → (Enters client mark → ⊥)
    → IsAfterMarks client marks old new → IsAfterMarks client (marks ++ mark ∷ []) old new
other_mark client marks mark old new not after =
    record {
      done = after.done;
      waiting = (
        λ h. let so = after.waiting.0 h in (so.0, All-push (λ m. Enters client m → ⊥) marks mark so.1 not),
        λ h. after.waiting.1 (h.0, left_part client marks (mark ∷ []) h.1),
      );
    }

pub own_mark : (client : ℕ) (marks : List Mark) (mark : Mark) (old between new : Progress) → Enters client mark
    → IsAfterMarks client marks old between → new ≡ record between { waiting = false } → IsAfterMarks client (marks ++ mark ∷ []) old new
own_mark client marks mark old between new enters after is =
    let done : new.done ≡ between.done = ap (λ (p : Progress). p.done) is in
    let free : new.waiting ≡ false = ap (λ (p : Progress). p.waiting) is in
    record {
      done = done ∙ after.done;
      waiting = (
        λ h. absurd (false≢true (sym free ∙ h)),
        λ h. absurd (elements.All-head (λ m. Enters client m → ⊥) mark [] (right_part client marks (mark ∷ []) h.1) enters),
      );
    }

-- a mark that is no Entered does not say that any client entered
pub no_entry : (client : ℕ) (mark : Mark) → ((entry : Entry) → mark ≡ Entered entry → ⊥) → Enters client mark → ⊥
no_entry client (Requested entry) not h = h
no_entry client (Entered entry) not h = not entry refl
no_entry client (Left entry) not h = h
no_entry client (Withdrawn entry) not h = h
