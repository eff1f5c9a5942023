use Rattle.std.proofs.Common.{rules, ◌≡◌, ℕ, ◌≤◌, true, length, sym, ap, ◌∙◌, subst}
use Rattle.std.specs.Prelude.{◌||◌, ◌==◌, slice_index}
use Rattle.ra_frame.specs.Format.{to_place, mode_place, greatest_node}
use Rattle.ra_frame.specs.Faults.{is_within, node_at}
use Rattle.ra_frame.specs.Checked.{head_checks}
use Rattle.ra_frame.proofs.Checks.{none_failing, different}
use Rattle.ra_frame.proofs.decoding.head_fault.Goals as goal

-- each check passed
pub returns : goal.returns
returns c =
    let f = c.args.format in
    let bytes = c.args.bytes.now in
    let greatest : c.max_node-max.result ≡ greatest_node f = c.max_node-max.ensures in
    let to : c.to_place-to.result ≡ to_place f = c.to_place-to.ensures.value in
    let mode : c.mode_place-mode.result ≡ mode_place f = c.mode_place-mode.ensures.value in
    let from_is : c.from.result ≡ node_at f bytes 2 = c.from.ensures ∙ c.node_number_at.ensures in
    let to_is : c.from-2.result ≡ node_at f bytes (to_place f) = c.from-2.ensures ∙ c.node_number_at-2.ensures ∙ ap (node_at f bytes) to in
    let kind : (slice_index bytes 1 == 1 || slice_index bytes 1 == 2) ≡ true = search rules in
    sym (none_failing (length bytes) (head_checks f bytes) (
      c.if-bytes-lt2.false,
      kind,
      (
        subst (λ (n : ℕ). n ≤ length bytes) to c.if-bytes-to.false,
        (λ i. is_within 1 (sym greatest i) (sym from_is i)) ∙ sym c.is_within.ensures ∙ c.if-not-is_within.false,
        (
          subst (λ (n : ℕ). n ≤ length bytes) mode c.if-bytes-mode.false,
          (λ i. is_within 1 (sym greatest i) (sym to_is i)) ∙ sym c.is_within-2.ensures ∙ c.if-not-is_within-2.false,
          (
            subst (λ (n : ℕ). n ≤ length bytes) mode c.if-bytes-mode-2.false,
            different (λ same. c.if-not-node_number_at.false (c.node_number_at-3.ensures ∙ same ∙ sym (c.node_number_at-4.ensures ∙ ap (node_at f bytes) to))),
            tt,
          ),
        ),
      ),
    ))
