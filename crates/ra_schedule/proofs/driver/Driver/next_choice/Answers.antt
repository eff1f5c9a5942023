use Rattle.std.proofs.Common.{List, ap, refl, sym, ◌∙◌, length, subst}
use Rattle.ra_schedule.specs.declared.driver.client_progress.Progress.{Progress}
use Rattle.ra_schedule.specs.Progress.{Tracks, WaitOrAreDone}
use Rattle.ra_schedule.proofs.Turns.{chosen_by, none_left}
use Rattle.ra_schedule.proofs.driver.Driver.next_choice.Goals as goal

pub first_free-self-requires-clause-alike : goal.first_free-self-requires-clause-alike
first_free-self-requires-clause-alike c = ap length c.deref.ensures.value ∙ c.requires.driven.tracks.length_is

pub first_free-self-requires-clause-stuck : goal.first_free-self-requires-clause-stuck
first_free-self-requires-clause-stuck c =
    subst (λ (list : List Progress). WaitOrAreDone c.args.script.now list c.args.self.now.first) (sym c.deref.ensures.value) c.requires.driven.stuck

pub pick-requires-clause-tracked : goal.pick-requires-clause-tracked
pick-requires-clause-tracked c = subst (Tracks c.args.script.now c.args.world.now) (sym c.deref-2.ensures.value) c.requires.driven.tracks

pub pick-requires-clause-stuck : goal.pick-requires-clause-stuck
pick-requires-clause-stuck c =
    subst (λ (list : List Progress). WaitOrAreDone c.args.script.now list c.first_free-self.result) (c.deref.ensures.value ∙ sym c.deref-2.ensures.value) c.first_free-self.ensures

pub pick-requires-clause-random : goal.pick-requires-clause-random
pick-requires-clause-random c = c.requires.driven.random

pub pick-requires-clause-drawn : goal.pick-requires-clause-drawn
pick-requires-clause-drawn c = c.requires.drawn

pub returns-clause-some : goal.returns-clause-some
returns-clause-some c =
    chosen_by c.args.script.now c.args.policy.now c.args.world.now c.args.self.now _ c.requires refl refl refl refl
    (subst (λ (list : List Progress). WaitOrAreDone c.args.script.now list c.first_free-self.result) c.deref.ensures.value c.first_free-self.ensures)
    c.pick.ensures.random c.pick.result c.pick.ensures.some c.pick.ensures.meaning c.pick.ensures.drawn

pub returns-clause-none : goal.returns-clause-none
returns-clause-none c none =
    none_left c.args.script.now c.args.policy.now c.args.world.now c.args.self.now _ c.requires refl refl refl refl (c.pick.ensures.none none)
