use Rattle.std.proofs.Common.{◌≡◌, ℕ, [], List, None, drop, length, sym, subst, ◌∙◌, ◌≤◌, arith}
use Rattle.ra_frame.specs.declared.frame.Frame.{Frame}
use Rattle.ra_trace.specs.Forms.{cut}
use Rattle.ra_book.specs.Book.{BookState, with_event}
use Rattle.ra_host.specs.Running.{HasTaken}
use Rattle.ra_serve.specs.Events.{BeginsWith}
use Rattle.ra_serve.proofs.EventLists.{all_read, at_end, counts_on, rest_of, when_ok}
use Rattle.ra_serve.proofs.replaying.count_taken.Goals as goal

pub loop-turn-init : goal.loop-turn-init
loop-turn-init c =
    record {
      within = omega arith;
      far = omega arith;
      done = [];
      read = λ left are. are;
      counted = λ old book nodes none more.
          subst (λ (b : BookState). HasTaken b c.in-Ok.counts.counts.items) (sym more) (c.in-Ok.ensures old (nodes ∙ sym c.nodes.ensures.value) none);
    }

pub loop-turn-preserved : goal.loop-turn-preserved
loop-turn-preserved c =
    let events = c.args.events.now in
    let place = c.loop-turn.place in
    let kind = c.in-Ok-Some.kind in
    let counts = c.loop-turn.counts.counts.items in
    let new = c.add.new.self.counts.items in
    let found = rw c.in-Ok-Some.field-0-is at c.in-Ok-Some.ensures in
    let begins = subst (λ (t : List ℕ). BeginsWith t kind c.in-Ok-Some.len) (rest_of events place) found in
    let adds = when_ok c.add.result ((book : BookState) (clock : ℕ) (frames : List Frame) → HasTaken book counts → HasTaken (with_event book clock kind frames) new)
    (sym c.is_err.ensures.value ∙ c.if-is_err.false) c.add.ensures.ok in
    counts_on events place c.loop-turn._turn c.args.settings.now.member.nodes counts new kind c.in-Ok-Some.len c.loop-turn.invariant begins adds

pub returns-in-Ok-None-clause-ok : goal.returns-in-Ok-None-clause-ok
returns-in-Ok-None-clause-ok c =
    let inv = c.loop-turn.invariant in
    let found = rw c.in-Ok-None.field-0-is at c.in-Ok-None.ensures in
    let none : cut 10 (drop c.loop-turn.place c.args.events.now) ≡ None =
    subst (λ (t : List ℕ). cut 10 t ≡ None) (rest_of c.args.events.now c.loop-turn.place) found in
    (inv.done, all_read c.args.events.now c.loop-turn.place c.loop-turn._turn c.args.settings.now.member.nodes c.loop-turn.counts.counts.items inv none, inv.counted)

pub returns-clause-ok : goal.returns-clause-ok
returns-clause-ok c =
    let inv = c.loop-turn.invariant in
    let events = c.args.events.now in
    let past : length events ≤ c.loop-turn.place = (let far = inv.far in omega (arith, far, c.loop-turn-test.false)) in
    (inv.done, all_read events c.loop-turn.place c.loop-turn._turn c.args.settings.now.member.nodes c.loop-turn.counts.counts.items inv (at_end events c.loop-turn.place past), inv.counted)
