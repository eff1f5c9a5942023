-- The choices of a policy, kept one after the other, make its run again.
use Rattle.std.proofs.Common.{◌≡◌, ℕ, zero, suc, ◌+◌, Some, List, [], ◌∷◌, ◌++◌, length, slice_get, refl, sym, ap, ◌∙◌, subst, inl, inr}
use Rattle.std.proofs.lemmas.List as lists
use Rattle.ra_stamp.specs.Sequence.{Listed as Listing}
use Rattle.ra_world.specs.Traffic.{Move}
use Rattle.ra_schedule.specs.declared.choice.Choice.{Choice}
use Rattle.ra_schedule.specs.declared.choice.Policy.{Policy}
use Rattle.ra_schedule.specs.Script.{ScriptState}
use Rattle.ra_schedule.specs.Schedule.{StandsFor, Picks, Follows}
use Rattle.ra_schedule.specs.Listing.{AreChoicesBy, AreChoicesOf}
use Rattle.ra_schedule.proofs.Lists.{split_last}

at_its_end : {X : Type 0} (xs : List X) (x : X) → slice_get (xs ++ x ∷ []) (length xs) ≡ Some x
at_its_end [] x = refl
at_its_end (y ∷ xs) x = at_its_end xs x

still_there : {X : Type 0} (xs ys : List X) (k : ℕ) (x : X) → slice_get xs k ≡ Some x → slice_get (xs ++ ys) k ≡ Some x
still_there [] ys k x e = absurd cc
still_there (y ∷ xs) ys zero x e = e
still_there (y ∷ xs) ys (suc k) x e = still_there xs ys k x e

not_past : {X : Type 0} (xs : List X) (x : X) → slice_get xs (length xs) ≡ Some x → ⊥
not_past [] x e = cc
not_past (y ∷ xs) x e = not_past xs x e

-- before the first move there is none
pub no_choices : (script : ScriptState) (policy : Policy) (choices : List Choice) (moves : List Move) → choices ≡ [] → moves ≡ []
    → AreChoicesBy script policy choices moves
no_choices script policy choices moves none no_moves = record {
  one_each = ap length none ∙ sym (ap length no_moves);
  each = λ before after move is. absurd (nothing before after move (sym no_moves ∙ is));
}
  where
    nothing : (before after : List Move) (move : Move) → [] ≡ before ++ move ∷ after → ⊥
    nothing [] after move is = cc
    nothing (x ∷ before) after move is = cc

-- another choice and its move
pub choices_more : (script : ScriptState) (policy : Policy) (choices new : List Choice) (moves next : List Move) (move : Move) (choice : Choice)
    → AreChoicesBy script policy choices moves → Picks script policy moves choice → StandsFor script moves choice move.step
    → new ≡ choices ++ choice ∷ [] → next ≡ moves ++ move ∷ [] → AreChoicesBy script policy new next
choices_more script policy choices new moves next move choice by picks means kept is = record {
  one_each =
      ap length kept ∙ lists.length-append choices (choice ∷ []) ∙ ap (λ (n : ℕ). n + 1) by.one_each
      ∙ sym (ap length is ∙ lists.length-append moves (move ∷ []));
  each = λ before after this split. elim (split_last moves move before after this (sym is ∙ split)) [
    | inl h ↦ (
      choice,
      ap (λ (cs : List Choice). slice_get cs (length before)) kept
          ∙ ap (slice_get (choices ++ choice ∷ [])) (ap length h.0 ∙ sym by.one_each) ∙ at_its_end choices choice,
      subst (λ (ms : List Move). Picks script policy ms choice) (sym h.0) picks,
      subst (λ (m : Move). StandsFor script before choice m.step) (sym h.1)
          (subst (λ (ms : List Move). StandsFor script ms choice move.step) (sym h.0) means),
    )
    | inr h ↦
        let (chosen, at, picked, stands) = by.each before h.0 this h.2 in (
          chosen,
          ap (λ (cs : List Choice). slice_get cs (length before)) kept ∙ still_there choices (choice ∷ []) (length before) chosen at,
          picked,
          stands,
        )
  ];
}

-- listed, they make the moves again, and then no choice is left
pub made_again : (script : ScriptState) (policy : Policy) (choices : Listing Choice) (moves : List Move)
    → Follows script policy moves → AreChoicesBy script policy choices.items moves → AreChoicesOf script choices moves
made_again script policy choices moves follows by = (
  record {
    run = follows.run;
    each = λ before after move is. let (choice, at, picks, means) = by.each before after move is in (choice, at, means);
  },
  λ choice picks. not_past choices.items choice (ap (slice_get choices.items) by.one_each ∙ picks),
)
