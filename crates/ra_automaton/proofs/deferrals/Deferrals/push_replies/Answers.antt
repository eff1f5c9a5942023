use Rattle.std.proofs.Common.{◌≡◌, ◌<◌, ◌≤◌, ℕ, suc, ◌-◌, List, [], ◌∷◌, ◌++◌, length, get_or, map, filter, sym, ap, ◌∙◌, arith, add-one}
use Rattle.std.proofs.lemmas.List.{get_or_default}
use Rattle.std.specs.List.{range_with_len}
use Rattle.std.specs.FinSet as set
use Rattle.std.specs.FinMap as finmap
use Rattle.ra_stamp.specs.declared.message.Message.{Message}
use Rattle.ra_stamp.specs.declared.message.Message.TheVariants.{Reply}
use Rattle.ra_automaton.specs.NodeSet.{Deferred}
use Rattle.ra_automaton.proofs.DeferredLemmas.{entries-map_of}
use Rattle.ra_automaton.proofs.Sent.{to_passing, to_failing, map-entries}
use Rattle.ra_automaton.proofs.deferrals.Deferrals.push_replies.Goals as goal
use Rattle.ra_automaton.proofs.deferrals.Deferrals.push_replies.Goals.{then-contains+in_ok-push, else-contains}

pub loop-place-preserved : goal.loop-place-preserved
loop-place-preserved c =
    let p = λ (node : ℕ). set.contains c.self.inside.nodes node in
    let numbers = c.self.inside.numbers.items in
    let n = c.loop-place.place in
    let items = c.loop-place.invariant.0 in
    let left = c.loop-place.invariant.1 in
    let within : n < length numbers = omega (arith, c.loop-place-test.true) in
    let room : length numbers ≤ c.args.sends.now.spare → 1 ≤ c.loop-place.sends.spare = λ roomy. omega (arith, roomy, left roomy, within) in
    let f = λ (node : ℕ). Reply c.args.me node c.args.name (get_or numbers (node - 1) 0) in
    let here : c.at-to.result ≡ suc n = omega (arith, c.at-to.ensures) in
    let place : n ≡ suc n - 1 = omega arith in
    let passes : p (suc n) ≡ c.contains.result = ap p (sym here) ∙ sym c.contains.ensures in
    elim c.if-contains.branch [
      | then-contains+in_ok-push w ↦
          let number : w.index.result.now ≡ get_or numbers (suc n - 1) 0 =
          w.index.ensures ∙ (get_or_default numbers n w.index.result.now 0 within ∙ ap (λ (i : ℕ). get_or numbers i 0) place) in
          let reply : Reply c.args.me c.at-to.result c.args.name w.index.result.now ≡ f (suc n) = λ i. Reply c.args.me (here i) c.args.name (number i) in
          rw (add-one, w.sends-is) (
            to_passing f p n c.args.sends.now.items c.loop-place.sends.items _ items (passes ∙ w.if-contains.true)
                (w.in_ok-push.ensures.ok ∙ ap (λ (message : Message). c.loop-place.sends.items ++ message ∷ []) reply),
            λ roomy. omega (arith, left roomy, w.in_ok-push.ensures.spare (room roomy)),
          )
      | else-contains w ↦
          rw (add-one, w.sends-is)
          (to_failing f p n c.args.sends.now.items c.loop-place.sends.items items (passes ∙ w.if-contains.false), λ roomy. omega (arith, left roomy))
    ]

pub returns-clause-ok : goal.returns-clause-ok
returns-clause-ok c =
    let nodes = c.self.inside.nodes in
    let numbers = c.self.inside.numbers.items in
    let p = λ (node : ℕ). set.contains nodes node in
    let before = c.args.sends.now.items in
    let f = λ (entry : ℕ × ℕ). Reply c.args.me entry.0 c.args.name entry.1 in
    let v = λ (node : ℕ). get_or numbers (node - 1) 0 in
    let all : c.loop-place.place ≡ length numbers = omega (arith, c.loop-place-test.false, c.loop-place.auto.place-end) in
    let replied = λ (nodes : List ℕ). before ++ map (λ node. f (node, v node)) nodes in
    c.loop-place.invariant.0
    ∙ ap (λ (n : ℕ). replied (filter p (range_with_len 1 n))) all
    ∙ ap (λ (sent : List Message). before ++ sent) (sym (map-entries f v (filter p (range_with_len 1 (length numbers)))))
    ∙ ap (λ (entries : List (ℕ × ℕ)). before ++ map f entries) (sym (entries-map_of nodes numbers))
    ∙ ap (λ (d : Deferred). before ++ map f (finmap.entries d.numbers)) c.self.view_is
