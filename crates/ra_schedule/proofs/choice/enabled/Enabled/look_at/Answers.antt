use Rattle.std.proofs.Common.{◌≡◌, refl, ◌<◌, ◌-◌, length, slice_index_or, ap, ◌∙◌, length-set, arith}
use Rattle.ra_schedule.proofs.EnabledFlags.{bit, bit_of, bit_at_most, at_most, count_set}
use Rattle.ra_schedule.proofs.LookedAt.{flag_set, flags_kept, looked_at}
use Rattle.ra_schedule.proofs.choice.enabled.Enabled.look_at.Goals as goal

pub returns-then-client-clients-clause-this : goal.returns-then-client-clients-clause-this
returns-then-client-clients-clause-this c k d within at =
    flag_set c.args.script.now c.args.world.now.moves c.args.self.now.flags.items _ c.args.client k d c.is_some-on.result c.enabled_step.result c.is_some-on.ensures
    c.enabled_step.ensures.some c.enabled_step.ensures.none refl within at

pub returns-then-client-clients-clause-others : goal.returns-then-client-clients-clause-others
returns-then-client-clients-clause-others c k d other =
    flags_kept c.args.self.now.flags.items _ c.args.client k d c.is_some-on.result refl c.if-client-ge1.true other

pub enabled_step-requires-clause-progress : goal.enabled_step-requires-clause-progress
enabled_step-requires-clause-progress c =
    looked_at c.args.script.now c.args.world.now c.args.clients.now c.args.client c.clients.result _ c.requires.tracked c.if-client-ge1.true
    c.if-client-clients.true c.clients.ensures.value

pub overflow_add-self : goal.overflow_add-self
overflow_add-self c =
    let on : c.from.result ≡ bit c.is_some-on.result = c.from.ensures ∙ bit_of c.is_some-on.result in
    let few = c.clients.ensures.script.at_most in
    omega (arith, few, c.requires.counted.one_each, c.requires.counted.count_is, on, bit_at_most c.is_some-on.result, at_most 1 c.args.self.now.flags.items)

pub overflow_sub-self : goal.overflow_sub-self
overflow_sub-self c =
    let flags = c.args.self.now.flags.items in
    let place = c.args.client - 1 in
    let within : place < length flags = omega (arith, c.if-client-ge1.true, c.if-client-clients.true, c.clients.ensures.value, c.requires.counted.one_each) in
    let was : c.from-then-client-clients.result ≡ bit (slice_index_or flags place c.index-was.result.now) = c.from-then-client-clients.ensures ∙ bit_of c.index-was.result.now ∙ ap bit c.index-was.ensures in
    let on : c.from.result ≡ bit c.is_some-on.result = c.from.ensures ∙ bit_of c.is_some-on.result in
    omega (arith, c.requires.counted.count_is, on, was, count_set flags place c.is_some-on.result c.index-was.result.now within)

pub returns-then-client-clients-clause-counted : goal.returns-then-client-clients-clause-counted
returns-then-client-clients-clause-counted c =
    let flags = c.args.self.now.flags.items in
    let place = c.args.client - 1 in
    let within : place < length flags = omega (arith, c.if-client-ge1.true, c.if-client-clients.true, c.clients.ensures.value, c.requires.counted.one_each) in
    let was : c.from-then-client-clients.result ≡ bit (slice_index_or flags place c.index-was.result.now) = c.from-then-client-clients.ensures ∙ bit_of c.index-was.result.now ∙ ap bit c.index-was.ensures in
    let on : c.from.result ≡ bit c.is_some-on.result = c.from.ensures ∙ bit_of c.is_some-on.result in
    record {
      one_each = length-set flags place c.is_some-on.result ∙ c.requires.counted.one_each;
      count_is = omega (arith, c.requires.counted.count_is, on, was, count_set flags place c.is_some-on.result c.index-was.result.now within);
    }
