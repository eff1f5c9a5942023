use Rattle.std.proofs.Common.{◌<◌, ◌+◌, ◌++◌, ◌∷◌, [], length, lit<, refl, sym, ap, ◌∙◌, arith, inl}
use Rattle.std.specs.Str.Iter.{split_text, split_has_more, split_pattern}
use Rattle.std.proofs.lemmas.Bool.{eqb-false}
use Rattle.std.proofs.lemmas.Iterator.Consumers.{YieldsList-turn, YieldsList-end}
use Rattle.std.proofs.lemmas.Iterator.Splits.{YieldsList-from_str_split}
use Rattle.std.proofs.lemmas.List.{length_push}
use Rattle.std.proofs.lemmas.Result.{err_from_is_err_and}
use Rattle.ra_schedule.specs.declared.error.ChoicesError.TheVariants.{Choice}
use Rattle.ra_schedule.specs.ChoicesText.{choice_of}
use Rattle.ra_schedule.proofs.Numbers.{IsChosenTo-more, IsChosenTo-all, choices_of-some, one_choice_more}
use Rattle.ra_schedule.proofs.Spelled.{refused_word}
use Rattle.ra_schedule.proofs.choice.choices_reading.push_choices.Goals as goal

pub loop-word-preserved : goal.loop-word-preserved
loop-word-preserved c =
    let same = c.into_iter-word-iterator.ensures.into_iter_gives in
    let t = YieldsList-turn (YieldsList-from_str_split 32 c.args.text.now (lit< tt) (ap split_text same ∙ c.split-word-items.ensures.text) (ap split_has_more same ∙ c.split-word-items.ensures.has_more) (ap split_pattern same ∙ c.split-word-items.ensures.pattern)) c.loop-word.yielded _ c.loop-word.yielded_by _ _ c.in-Some.word c.in-Some.is c.next.ensures.steps in
    let seen = ap choice_of (sym c.as_bytes.ensures.value) ∙ sym c.in-Some-choice_of.ensures in
    rw (length_push c.loop-word.yielded c.in-Some.word, c.in_ok-push.ensures.ok) (record {
      so_far = one_choice_more _ _ c.loop-word.choices.items c.in-Some.word.now c.in-Some-choice_of.choice t.0 t.1 seen c.loop-word.invariant.so_far;
      chosen = IsChosenTo-more _ _ c.loop-word.choices.items c.in-Some.word.now c.in-Some-choice_of.choice t.0 t.1 seen c.loop-word.invariant.chosen;
    })

pub returns-in_default-clause-err : goal.returns-in_default-clause-err
returns-in_default-clause-err c =
    let none = ap choice_of (sym c.as_bytes.ensures.value) ∙ sym c.in_default.ensures in
    let same = c.into_iter-word-iterator.ensures.into_iter_gives in
    let t = YieldsList-turn (YieldsList-from_str_split 32 c.args.text.now (lit< tt) (ap split_text same ∙ c.split-word-items.ensures.text) (ap split_has_more same ∙ c.split-word-items.ensures.has_more) (ap split_pattern same ∙ c.split-word-items.ensures.pattern)) c.loop-word.yielded _ c.loop-word.yielded_by _ _ c.in-Some.word c.in-Some.is c.next.ensures.steps in
    let nonempty = eqb-false (length c.args.text.now) 0 (sym c.is_empty.ensures ∙ c.if-is_empty.false) in
    let some : 0 < length c.args.text.now = omega arith in
    refused_word c.args.text.now _ c.loop-word.choices.items c.in-Some.word.now Choice some t.0 t.1 (inl (refl, none)) c.loop-word.invariant.chosen

pub returns-clause-ok : goal.returns-clause-ok
returns-clause-ok c =
    let same = c.into_iter-word-iterator.ensures.into_iter_gives in
    let t = YieldsList-end (YieldsList-from_str_split 32 c.args.text.now (lit< tt) (ap split_text same ∙ c.split-word-items.ensures.text) (ap split_has_more same ∙ c.split-word-items.ensures.has_more) (ap split_pattern same ∙ c.split-word-items.ensures.pattern)) c.loop-word.yielded _ c.loop-word.yielded_by _ _ c.in-None.is c.next.ensures.steps in
    let all = IsChosenTo-all _ _ c.loop-word.choices.items (omega (arith, t.1)) c.loop-word.invariant.chosen in
    let nonempty = eqb-false (length c.args.text.now) 0 (sym c.is_empty.ensures ∙ c.if-is_empty.false) in
    let some : 0 < length c.args.text.now = omega arith in
    choices_of-some c.args.text.now some ∙ all

pub returns-in_err-push-clause-memory : goal.returns-in_err-push-clause-memory
returns-in_err-push-clause-memory c =
    let seen = ap choice_of (sym c.as_bytes.ensures.value) ∙ sym c.in-Some-choice_of.ensures in
    let same = c.into_iter-word-iterator.ensures.into_iter_gives in
    let t = YieldsList-turn (YieldsList-from_str_split 32 c.args.text.now (lit< tt) (ap split_text same ∙ c.split-word-items.ensures.text) (ap split_has_more same ∙ c.split-word-items.ensures.has_more) (ap split_pattern same ∙ c.split-word-items.ensures.pattern)) c.loop-word.yielded _ c.loop-word.yielded_by _ _ c.in-Some.word c.in-Some.is c.next.ensures.steps in
    let more = one_choice_more _ _ c.loop-word.choices.items c.in-Some.word.now c.in-Some-choice_of.choice t.0 t.1 seen c.loop-word.invariant.so_far in
    let p = err_from_is_err_and c.from_residual.result c.from_residual.ensures.1 in
    rw p.1 (λ memory. record {
      count = length c.loop-word.yielded + 1;
      some = omega arith;
      front = c.loop-word.choices.items ++ c.in-Some-choice_of.choice ∷ [];
      read = more;
    })
