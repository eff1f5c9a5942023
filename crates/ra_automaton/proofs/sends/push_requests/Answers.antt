use Rattle.std.proofs.Common.{◌≡◌, ◌≤◌, ℕ, suc, not, arith, add-one}
use Rattle.std.specs.Prelude.{◌==◌}
use Rattle.std.proofs.lemmas.Bool.{false≢true}
use Rattle.ra_stamp.specs.declared.message.Message.TheVariants.{Request}
use Rattle.ra_automaton.proofs.Sent.{to_passing, to_failing, is_other, is_itself}
use Rattle.ra_automaton.proofs.sends.push_requests.Goals as goal
use Rattle.ra_automaton.proofs.sends.push_requests.Goals.{then-place+in_ok-push, else-place}

pub loop-place-preserved : goal.loop-place-preserved
loop-place-preserved c =
    let f = λ (other : ℕ). Request c.node-me.result other c.args.name c.args.mode c.args.seq in
    let p = λ (node : ℕ). not (node == c.node-me.result) in
    let n = c.loop-place.place in
    let items = c.loop-place.invariant.0 in
    let left = c.loop-place.invariant.1 in
    let room : c.nodes-nodes.result ≤ c.args.sends.now.spare → 1 ≤ c.loop-place.sends.spare = λ roomy. omega (arith, roomy, left roomy, c.loop-place-test.true) in
    elim c.if-place.branch [
      | then-place+in_ok-push w ↦
          let here : w.at.result ≡ suc n = omega (arith, w.at.ensures) in
          rw (add-one, w.sends-is)
          (to_passing f p n c.args.sends.now.items c.loop-place.sends.items _ items (is_other n c.node-me.result (λ e. w.if-place.true (omega (arith, e, c.place.ensures.value)))) (rw here at w.in_ok-push.ensures.ok), λ roomy. omega (arith, left roomy, w.in_ok-push.ensures.spare (room roomy)))
      | else-place w ↦
          rw (add-one, w.sends-is)
          (to_failing f p n c.args.sends.now.items c.loop-place.sends.items items (is_itself n c.node-me.result (omega (arith, w.if-place.false, c.place.ensures.value, c.place.ensures.valid.0))), λ roomy. omega (arith, left roomy))
    ]

pub returns-in_err-push-clause-succeeds : goal.returns-in_err-push-clause-succeeds
returns-in_err-push-clause-succeeds c roomy =
    let all : c.nodes-nodes.result ≤ c.args.sends.now.spare = omega (arith, c.nodes-nodes.ensures.value, roomy) in
    let room : 1 ≤ c.loop-place.sends.spare = omega (arith, all, c.loop-place.invariant.1 all, c.loop-place-test.true) in
    absurd (false≢true (c.in_err-push.ensures.succeeds room))
