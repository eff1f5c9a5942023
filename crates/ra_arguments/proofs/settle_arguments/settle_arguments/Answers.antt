use Rattle.std.proofs.Common.{◌≡◌, ◌≤◌, ◌-◌, List, [], ◌∷◌, length, length-drop, drop, take_all, map, slice_index_or, None, String, Global, string_bytes, codes, refl, sym, ◌∙◌, arith}
use Rattle.std.specs.Prelude.{if◌then◌else◌}
use Rattle.std.specs.Str.{bytes_eq}
use Rattle.ra_arguments.specs.SettleArguments.{settling_by, settling_of}
use Rattle.ra_arguments.proofs.settle_arguments.settle_arguments.Goals as goal

-- of two arguments and more
after_two : (arguments : List (String Global)) (argument : String Global) → 2 ≤ length arguments → slice_index_or arguments 1 argument ≡ argument
    → settling_of (map string_bytes arguments)
    ≡ (if bytes_eq (string_bytes argument) (codes "settle") then settling_by (map string_bytes (drop 2 arguments)) else None)
after_two [] argument long at = absurd (omega (arith, long))
after_two (a ∷ []) argument long at = absurd (omega (arith, long))
after_two (a ∷ b ∷ rest) argument long at = rw at refl

pub returns-in-settle : goal.returns-in-settle
returns-in-settle c =
    let arguments = c.args.arguments.now in
    let count = length-drop 2 arguments in
    let fit : length (drop 2 arguments) ≤ length arguments - 2 = omega (arith, count) in
    let whole = take_all (length arguments - 2) (drop 2 arguments) fit in
    let is = sym c.as_str.ensures.value ∙ c.in-settle.is in
    rw whole at c.settling_by.ensures ∙ sym (after_two arguments c.argument-item.result c.in-len2-up.len_at_least (sym c.argument-item.is) ∙ rw is refl)
