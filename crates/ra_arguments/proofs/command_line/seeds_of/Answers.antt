use Rattle.std.proofs.Common.{◌≡◌, ◌∙◌, Some, drop, refl, sym, ap₂, arith}
use Rattle.ra_arguments.specs.Meanings.{cut_at_dots}
use Rattle.ra_arguments.proofs.Dots.{cut_nowhere, cut_there}
use Rattle.ra_arguments.proofs.Reading.{above, at_most, no_number_of, number_of}
use Rattle.ra_arguments.proofs.command_line.seeds_of.Goals as goal

pub returns-in_default : goal.returns-in_default
returns-in_default c = rw (cut_nowhere c.args.text.now c.in_default.ensures.cases) refl

pub returns-in_default-parse : goal.returns-in_default-parse
returns-in_default-parse c =
    let text = c.args.text.now in
    let (i, j, found, front, back, least, first_long, last_long) = c.in-Some.ensures.cases in
    let cut : cut_at_dots text ≡ Some (c.in-Some.first.now, c.in-Some.last.now) =
    cut_there text i (drop j text) found.0 found.1.split ∙ ap₂ (λ a b. Some (a, b)) (sym front) (sym back) in
    let first = no_number_of 64 c.in-Some.first.now c.parse.result c.parse.ensures.value.0 c.in_default-parse.not-Ok in
    rw (cut, first) refl

pub returns-in_default-parse-2 : goal.returns-in_default-parse-2
returns-in_default-parse-2 c =
    let text = c.args.text.now in
    let (i, j, found, front, back, least, first_long, last_long) = c.in-Some.ensures.cases in
    let cut : cut_at_dots text ≡ Some (c.in-Some.first.now, c.in-Some.last.now) =
    cut_there text i (drop j text) found.0 found.1.split ∙ ap₂ (λ a b. Some (a, b)) (sym front) (sym back) in
    let first = number_of 64 c.in-Some.first.now c.parse.result c.parse.ensures.value.0 c.in-Ok.first c.in-Ok.is in
    let last = no_number_of 64 c.in-Some.last.now c.parse-2.result c.parse-2.ensures.value.0 c.in_default-parse-2.not-Ok in
    rw (cut, first, last) refl

pub returns-then-first-last : goal.returns-then-first-last
returns-then-first-last c =
    let text = c.args.text.now in
    let (i, j, found, front, back, least, first_long, last_long) = c.in-Some.ensures.cases in
    let cut : cut_at_dots text ≡ Some (c.in-Some.first.now, c.in-Some.last.now) =
    cut_there text i (drop j text) found.0 found.1.split ∙ ap₂ (λ a b. Some (a, b)) (sym front) (sym back) in
    let first = number_of 64 c.in-Some.first.now c.parse.result c.parse.ensures.value.0 c.in-Ok.first c.in-Ok.is in
    let last = number_of 64 c.in-Some.last.now c.parse-2.result c.parse-2.ensures.value.0 c.in-Ok-parse.last c.in-Ok-parse.is in
    rw (cut, first, last, at_most c.in-Ok.first c.in-Ok-parse.last c.if-first-last.true) refl

pub returns-else-first-last : goal.returns-else-first-last
returns-else-first-last c =
    let text = c.args.text.now in
    let (i, j, found, front, back, least, first_long, last_long) = c.in-Some.ensures.cases in
    let cut : cut_at_dots text ≡ Some (c.in-Some.first.now, c.in-Some.last.now) =
    cut_there text i (drop j text) found.0 found.1.split ∙ ap₂ (λ a b. Some (a, b)) (sym front) (sym back) in
    let first = number_of 64 c.in-Some.first.now c.parse.result c.parse.ensures.value.0 c.in-Ok.first c.in-Ok.is in
    let last = number_of 64 c.in-Some.last.now c.parse-2.result c.parse-2.ensures.value.0 c.in-Ok-parse.last c.in-Ok-parse.is in
    rw (cut, first, last, above c.in-Ok.first c.in-Ok-parse.last (λ less. omega (arith, less, c.if-first-last.false))) refl
