use Rattle.std.proofs.Common.{◌≡◌, ◌+◌, ◌-◌, ◌%◌, ◌<◌, ℕ, List, [], ◌∷◌, length, slice_get, Some, None, refl, sym, ap, ◌∙◌, subst, arith}
use Rattle.std.proofs.lemmas.Bool.{true≢false}
use Rattle.std.proofs.lemmas.Option.{slice_get-get_or}
use Rattle.rand_pcg.specs.Lcg.{Lcg}
use Rattle.rand_pcg.specs.Pcg.{pcg64}
use Rattle.ra_world.specs.Traffic.{LeavesUnderWay}
use Rattle.ra_schedule.specs.declared.choice.Choice.{Choice}
use Rattle.ra_schedule.specs.declared.choice.Choice.TheVariants.{Message}
use Rattle.ra_schedule.specs.Schedule.{AreEnabled, AreChoices}
use Rattle.ra_schedule.specs.Enabled.{numbers_from}
use Rattle.ra_schedule.proofs.EnabledFlags.{flags_name}
use Rattle.ra_schedule.proofs.Naming.{names_client, names_message}
use Rattle.ra_schedule.proofs.choice.random_choice.draw.Goals as goal

-- a number below the length of the list has an item
there_is_one : (list : List ℕ) (number : ℕ) → number < length list → None ≡ slice_get list number → ⊥
there_is_one list number less none = let e = slice_get-get_or list number 0 less in absurd cc

same_number : (drawn word clients messages here there : ℕ) → drawn ≡ word → here ≡ clients → there ≡ messages → drawn % (here + there) ≡ word % (clients + messages)
same_number drawn word clients messages here there w c m = cc

empty : {X : Type 0} (list : List X) → length list ≡ 0 → list ≡ []
empty [] is = refl
empty (x ∷ list) is = absurd (omega arith)

pub returns-then-choices-eq0-clause-none : goal.returns-then-choices-eq0-clause-none
returns-then-choices-eq0-clause-none c e =
    let list = numbers_from 1 c.args.enabled.now.flags.items in
    let are = flags_name c.args.script.now c.args.world.now.moves c.args.enabled.now.flags.items c.requires.flags in
    let (left, leaves, len) = c.under_way.ensures.value in
    let clients : c.from-count.result ≡ length list = c.from-count.ensures ∙ c.requires.counted.count_is in
    let messages : c.from.result ≡ length left = c.from.ensures ∙ len in (
      [],
      [],
      subst (AreEnabled c.args.script.now c.args.world.now.moves) (empty list (omega (arith, c.if-choices-eq0.true, clients, messages))) are,
      subst (LeavesUnderWay c.args.world.now.moves) (empty left (omega (arith, c.if-choices-eq0.true, clients, messages))) leaves,
      refl,
    )

pub returns-in_err-client-clause-some : goal.returns-in_err-client-clause-some
returns-in_err-client-clause-some c = rw c.from_residual.ensures tt

pub returns-in_err-client-clause-named : goal.returns-in_err-client-clause-named
returns-in_err-client-clause-named c = rw c.from_residual.ensures tt

pub returns-else-number-count-clause-none : goal.returns-else-number-count-clause-none
returns-else-number-count-clause-none c e = absurd (true≢false e)

pub returns-in_ok-client-clause-none : goal.returns-in_ok-client-clause-none
returns-in_ok-client-clause-none c e = absurd (true≢false e)

pub returns-in_err-client-clause-none : goal.returns-in_err-client-clause-none
returns-in_err-client-clause-none c e =
    let list = numbers_from 1 c.args.enabled.now.flags.items in
    let is = c.requires.counted.count_is in
    absurd (there_is_one list (c.from-2.result % (c.from-count.result + c.from.result))
    (let same = c.from-count.ensures in let less = c.if-number-count.true in omega arith) c.in_err-client.ensures)

pub returns-in_err-client-clause-kept : goal.returns-in_err-client-clause-kept
returns-in_err-client-clause-kept c e =
    let list = numbers_from 1 c.args.enabled.now.flags.items in
    let is = c.requires.counted.count_is in
    absurd (there_is_one list (c.from-2.result % (c.from-count.result + c.from.result))
    (let same = c.from-count.ensures in let less = c.if-number-count.true in omega arith) c.in_err-client.ensures)

pub returns-in_ok-client-clause-some : goal.returns-in_ok-client-clause-some
returns-in_ok-client-clause-some c =
    let list = numbers_from 1 c.args.enabled.now.flags.items in
    let are = flags_name c.args.script.now c.args.world.now.moves c.args.enabled.now.flags.items c.requires.flags in
    let is = c.requires.counted.count_is in
    let (left, leaves, len) = c.under_way.ensures.value in
    let word = (pcg64 c.args.generator.now).0 in
    let drawn : c.from-2.result ≡ word = c.from-2.ensures ∙ ap (λ (p : ℕ × Lcg). p.0) c.next_word.ensures in
    names_client c.args.script.now c.args.world.now.moves list left word (c.from-2.result % (c.from-count.result + c.from.result)) c.in_ok-client.client are leaves
    (same_number c.from-2.result word (length list) (length left) c.from-count.result c.from.result drawn (c.from-count.ensures ∙ is) (c.from.ensures ∙ len))
    c.in_ok-client.ensures

pub returns-else-number-count-clause-some : goal.returns-else-number-count-clause-some
returns-else-number-count-clause-some c =
    let list = numbers_from 1 c.args.enabled.now.flags.items in
    let are = flags_name c.args.script.now c.args.world.now.moves c.args.enabled.now.flags.items c.requires.flags in
    let is = c.requires.counted.count_is in
    let (left, leaves, len) = c.under_way.ensures.value in
    let word = (pcg64 c.args.generator.now).0 in
    let number = c.from-2.result % (c.from-count.result + c.from.result) in
    let drawn : c.from-2.result ≡ word = c.from-2.ensures ∙ ap (λ (p : ℕ × Lcg). p.0) c.next_word.ensures in
    let clients : c.from-count.result ≡ length list = c.from-count.ensures ∙ is in
    let messages : c.from.result ≡ length left = c.from.ensures ∙ len in
    let some = c.if-choices-eq0.false in
    let later = c.if-number-count.false in
    subst (λ (n : ℕ). (all : List Choice) × AreChoices c.args.script.now c.args.world.now.moves all × (slice_get all (word % length all) ≡ Some (Message (number - n)))) (sym clients)
    (names_message c.args.script.now c.args.world.now.moves list left word number are leaves
    (same_number c.from-2.result word (length list) (length left) c.from-count.result c.from.result drawn clients messages)
    (omega arith) (omega arith))
