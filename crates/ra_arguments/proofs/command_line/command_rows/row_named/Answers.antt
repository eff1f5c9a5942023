use Rattle.std.proofs.Common.{◌≡◌, ◌∙◌, ◌≤◌, List, [], ◌∷◌, length, map, slice_index_or, String, Global, string_bytes, refl, ap, arith}
use Rattle.ra_arguments.specs.Helping.{command_called, command_in}
use Rattle.ra_arguments.proofs.command_line.command_rows.row_named.Goals as goal

second : (arguments : List (String Global)) (d : String Global) → 2 ≤ length arguments
    → command_called (string_bytes (slice_index_or arguments 1 d)) ≡ command_in (map string_bytes arguments)
second [] d less = absurd (omega (arith, less))
second (program ∷ []) d less = absurd (omega (arith, less))
second (program ∷ name ∷ rest) d less = refl

pub returns-in-len2-up : goal.returns-in-len2-up
returns-in-len2-up c =
    c.row_of.ensures ∙ ap command_called (c.as_str.ensures.value ∙ ap string_bytes c.name-item.is) ∙ second c.args.arguments.now c.name-item.result c.in-len2-up.len_at_least
