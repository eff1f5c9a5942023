use Rattle.std.proofs.Common.{◌++◌, ◌∙◌, ◌∷◌, ℕ, List, [], flat_map, take, ap, subst, sym, arith}
use Rattle.std.proofs.lemmas.List.{flat_map_more, take_all, take_more}
use Rattle.ra_stamp.specs.declared.entry.Mark.{Mark}
use Rattle.ra_text.specs.Drafting.{Says}
use Rattle.ra_json.specs.Settled.{mark_line}
use Rattle.ra_json.proofs.settled.mark_lines.Goals as goal

pub loop-mark-preserved : goal.loop-mark-preserved
loop-mark-preserved c =
    let marks = c.args.marks.now in
    let i = c.loop-mark.mark-index in
    let so_far = flat_map mark_line (take i marks) in
    let line = c.as_str.ensures.value ∙ c.in_ok-line.ensures in
    let more = take_more marks i c.mark-item.result c.loop-mark-test.true in
    let next = ap (λ (part : List ℕ). so_far ++ part) line ∙ flat_map_more mark_line [] (take i marks) c.mark-item.result
    ∙ ap (flat_map mark_line) (ap (λ (mark : Mark). take i marks ++ mark ∷ []) c.mark-item.is ∙ sym more) in
    subst (Says c.push.new.self) next (c.push.ensures.says so_far c.loop-mark.invariant)

pub returns : goal.returns
returns c =
    let marks = c.args.marks.now in
    subst (λ (xs : List Mark). Says c.loop-mark.text (flat_map mark_line xs)) (take_all c.loop-mark.mark-index marks (let past = c.loop-mark-test.false in omega (arith, past)))
    c.loop-mark.invariant
