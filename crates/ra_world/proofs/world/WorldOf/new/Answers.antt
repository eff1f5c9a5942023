use Rattle.std.proofs.Common.{◌≡◌, ℕ, length, map, refl, ap, ◌∙◌}
use Rattle.std.specs.List.{range_with_len}
use Rattle.std.proofs.lemmas.Bool.{false≢true}
use Rattle.std.proofs.lemmas.List.FromFn.{length-map-range_with_len}
use Rattle.ra_stamp.specs.NodeId.{IsNodeNumber}
use Rattle.ra_node.specs.Node.{opening_node}
use Rattle.ra_world.proofs.Refusing.{no_fault}
use Rattle.ra_world.proofs.Worlds.{begins}
use Rattle.ra_world.proofs.WorldLaws.{kept_runs_go_on}
use Rattle.ra_world.proofs.world.WorldOf.new.Goals as goal

pub invariant_of-result : goal.invariant_of-result
invariant_of-result g c =
    let opened : c.in_ok-opened.opened.items ≡ map (λ i. opening_node i c.args.nodes c.args.start) (range_with_len 1 c.args.nodes) =
    c.in_ok-opened.ensures ∙ ap (λ (n : ℕ). map (λ i. opening_node i n c.args.start) (range_with_len 1 n)) c.in-Some.ensures.value in
    let count : IsNodeNumber c.args.nodes = c.in-Some.ensures.valid.0 refl in
    begins c.args.nodes c.args.start c.in_ok-opened.opened.items c.in_ok-under_way.under_way.items c.new-3.result.moves
    opened c.in_ok-under_way.ensures.empty c.new-3.ensures (kept_runs_go_on.opened c.args.nodes c.args.start count)

pub returns-clause-ok : goal.returns-clause-ok
returns-clause-ok g c =
    let opened : c.in_ok-opened.opened.items ≡ map (λ i. opening_node i c.args.nodes c.args.start) (range_with_len 1 c.args.nodes) =
    c.in_ok-opened.ensures ∙ ap (λ (n : ℕ). map (λ i. opening_node i n c.args.start) (range_with_len 1 n)) c.in-Some.ensures.value in
    let many : length c.in_ok-opened.opened.items ≡ c.args.nodes =
    ap length opened ∙ length-map-range_with_len (λ i. opening_node i c.args.nodes c.args.start) 1 c.args.nodes in
    λ k. record { count = many k; start = c.args.start; moves = c.new-3.ensures k }

pub returns-clause-run : goal.returns-clause-run
returns-clause-run g c =
    let opened : c.in_ok-opened.opened.items ≡ map (λ i. opening_node i c.args.nodes c.args.start) (range_with_len 1 c.args.nodes) =
    c.in_ok-opened.ensures ∙ ap (λ (n : ℕ). map (λ i. opening_node i n c.args.start) (range_with_len 1 n)) c.in-Some.ensures.value in
    let count : IsNodeNumber c.args.nodes = c.in-Some.ensures.valid.0 refl in
    (begins c.args.nodes c.args.start c.in_ok-opened.opened.items c.in_ok-under_way.under_way.items c.new-3.result.moves
    opened c.in_ok-under_way.ensures.empty c.new-3.ensures (kept_runs_go_on.opened c.args.nodes c.args.start count)).run

pub returns-clause-bad_count : goal.returns-clause-bad_count
returns-clause-bad_count g c = (λ is. absurd (no_fault is), λ no. absurd (no (c.in-Some.ensures.valid.0 refl)))

pub returns-in_default-clause-bad_count : goal.returns-in_default-clause-bad_count
returns-in_default-clause-bad_count g c = (λ _ number. absurd (false≢true (c.in_default.ensures.valid.1 number)), λ _. refl)

pub returns-clause-count : goal.returns-clause-count
returns-clause-count g c = c.in-Some.ensures.valid.0 refl
