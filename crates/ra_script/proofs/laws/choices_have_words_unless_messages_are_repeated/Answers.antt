use Rattle.std.proofs.Common.{◌≡◌, ℕ, List, []}
use Rattle.ra_world.specs.Traffic.{Move, repeated_by}
use Rattle.ra_schedule.specs.declared.choice.Policy.{Policy}
use Rattle.ra_schedule.specs.Schedule.{Follows, RepeatsNothing}
use Rattle.ra_schedule.specs.Script.{ScriptState}
use Rattle.ra_script.specs.declared.output_kind.OutputKind.{OutputKind}
use Rattle.ra_script.specs.declared.output_kind.OutputKind.TheVariants.{Lines, Trace, TraceWithSends, Choices, Shrunk, State}
use Rattle.ra_script.specs.Performed.{Unwritten}
use Rattle.ra_script.proofs.Wording.{all_have_text}
use Rattle.ra_script.proofs.laws.choices_have_words_unless_messages_are_repeated.Goals as goal

-- a policy that repeats nothing has words for its choices
written : ((script : ScriptState) (policy : Policy) (moves : List Move) → RepeatsNothing policy → Follows script policy moves → repeated_by moves ≡ [])
    → (format : OutputKind) (policy : Policy) (input : List ℕ) → RepeatsNothing policy → Unwritten format policy input → ⊥
written law Lines policy input unrepeated none = none
written law Trace policy input unrepeated none = none
written law TraceWithSends policy input unrepeated none = none
written law State policy input unrepeated none = none
written law Choices policy input unrepeated none = none.repeats (law none.script policy none.moves unrepeated none.follows)
written law Shrunk policy input unrepeated none = none.repeats (none.least.unrepeated (law none.script policy none.moves unrepeated none.follows))

pub returns : goal.returns
returns c =
    let rest = c.scripts_come_to_rest.ensures in
    record {
      have_text = λ script policy choices moves fit. all_have_text rest.turns rest.most rest.carried_on script fit policy choices moves;
      never_refused = written c.policies_repeat_no_message.ensures;
    }
