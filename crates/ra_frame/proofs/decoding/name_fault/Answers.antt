use Rattle.std.proofs.Common.{◌≡◌, ℕ, ◌+◌, ◌≤◌, length, sym, ap, ◌∙◌, subst}
use Rattle.std.specs.Prelude.{slice_index, slice_range}
use Rattle.std.specs.List.{list_all}
use Rattle.ra_stamp.specs.Name.{is_name_byte}
use Rattle.ra_frame.specs.Format.{mode_place}
use Rattle.ra_frame.specs.Faults.{is_within}
use Rattle.ra_frame.specs.Checked.{name_checks}
use Rattle.ra_frame.proofs.Checks.{none_failing, same}
use Rattle.ra_frame.proofs.decoding.name_fault.Goals as goal

-- each check passed
pub returns : goal.returns
returns c =
    let f = c.args.format in
    let bytes = c.args.bytes.now in
    let name : c.mode_place-name.result ≡ mode_place f = c.mode_place-name.ensures.value in
    let long : slice_index bytes (c.mode_place-length.result + 17) ≡ slice_index bytes (mode_place f + 17) =
    ap (λ (m : ℕ). slice_index bytes (m + 17)) c.mode_place-length.ensures.value in
    sym (none_failing (length bytes) (name_checks f bytes) (
      subst (λ (m : ℕ). m + 18 ≤ length bytes) name c.if-bytes-name.false,
      ap (is_within 1 32) (sym (c.from.ensures ∙ long)) ∙ sym c.is_within.ensures ∙ c.if-not-is_within.false,
      (
        subst (λ (n : ℕ). n ≤ length bytes) (λ i. name i + 18 + (c.from-2.ensures ∙ long) i) c.if-bytes-name-2.false,
        (λ i. list_all is_name_byte (slice_range bytes (sym name i + 18) (sym name i + 18 + sym (c.from-3.ensures ∙ long) i))) ∙ sym c.are_name_bytes.ensures ∙ c.if-not-are_name_bytes.false,
        (
          subst (λ (n : ℕ). n ≤ length bytes) (λ i. name i + 18 + (c.from-4.ensures ∙ long) i) c.if-bytes-name-3.false,
          same (c.if-not-bytes-name.false ∙ (λ i. name i + 18 + (c.from-5.ensures ∙ long) i)),
          tt,
        ),
      ),
    ))
