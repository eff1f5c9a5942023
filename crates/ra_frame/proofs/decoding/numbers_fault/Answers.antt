use Rattle.std.proofs.Common.{◌≡◌, ℕ, ◌+◌, ◌^◌, ◌≤◌, length, sym, ap, ◌∙◌, subst}
use Rattle.std.specs.Prelude.{slice_index}
use Rattle.ra_frame.specs.Format.{mode_place}
use Rattle.ra_frame.specs.Faults.{is_within, number_at, greatest_mode_of}
use Rattle.ra_frame.specs.Checked.{numbers_checks}
use Rattle.ra_frame.proofs.Checks.{none_failing, not_above}
use Rattle.ra_frame.proofs.decoding.numbers_fault.Goals as goal

-- each check passed
pub returns : goal.returns
returns c =
    let f = c.args.format in
    let bytes = c.args.bytes.now in
    let mode : c.mode_place-mode.result ≡ mode_place f = c.mode_place-mode.ensures.value in
    sym (none_failing (length bytes) (numbers_checks f bytes) (
      subst (λ (m : ℕ). m + 1 ≤ length bytes) mode c.if-bytes-mode.false,
      not_above (subst (λ (m : ℕ). slice_index bytes m ≤ greatest_mode_of f (slice_index bytes 1)) mode
          (subst (λ (greatest : ℕ). slice_index bytes c.mode_place-mode.result ≤ greatest) c.greatest_mode.ensures c.if-not-bytes-mode.false)),
      (
        subst (λ (m : ℕ). m + 9 ≤ length bytes) mode c.if-bytes-mode-2.false,
        not_above (subst (λ (n : ℕ). 1 ≤ n) (c.number_at.ensures ∙ ap (λ (m : ℕ). number_at bytes (m + 1)) mode) c.if-not-number_at.false),
        (
          subst (λ (m : ℕ). m + 17 ≤ length bytes) mode c.if-bytes-mode-3.false,
          ap (is_within 1 (2 ^ 62)) (sym (c.number_at-2.ensures ∙ ap (λ (m : ℕ). number_at bytes (m + 9)) mode)) ∙ sym c.is_within.ensures ∙ c.if-not-is_within.false,
          tt,
        ),
      ),
    ))
