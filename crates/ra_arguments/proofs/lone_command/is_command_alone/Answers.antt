use Rattle.std.proofs.Common.{◌≡◌, ◌↔◌, ℕ, false, List, [], ◌∷◌, length, map, slice_index_or, String, Global, string_bytes, ap, sym, ◌∙◌, arith}
use Rattle.std.specs.Prelude.{IsTrue}
use Rattle.std.proofs.lemmas.Bool.{false≢true}
use Rattle.std.proofs.lemmas.List.{length-map}
use lib.Pointwise.{bytes_decides}
use Rattle.ra_arguments.proofs.lone_command.is_command_alone.Goals as goal

-- the arguments are the program's name and this command
abbrev AreAlone : List (List ℕ) → List ℕ → Type 0
AreAlone arguments command = (name : List ℕ) × (arguments ≡ name ∷ command ∷ [])

-- of two arguments, the second is the command
there : (arguments : List (String Global)) (argument : String Global) (command : List ℕ) → length arguments ≡ 2
    → slice_index_or arguments 1 argument ≡ argument → string_bytes argument ≡ command → AreAlone (map string_bytes arguments) command
there [] argument command two at is = absurd (omega (arith, two))
there (a ∷ []) argument command two at is = absurd (omega (arith, two))
there (a ∷ b ∷ []) argument command two at is =
    (string_bytes a, ap (λ (bytes : List ℕ). string_bytes a ∷ bytes ∷ []) (ap string_bytes at ∙ is))
there (a ∷ b ∷ c ∷ arguments) argument command two at is = absurd (omega (arith, two))

back : (arguments : List (String Global)) (argument : String Global) (command : List ℕ) → length arguments ≡ 2
    → slice_index_or arguments 1 argument ≡ argument → AreAlone (map string_bytes arguments) command → string_bytes argument ≡ command
back [] argument command two at are = absurd (omega (arith, two))
back (a ∷ []) argument command two at are = absurd (omega (arith, two))
back (a ∷ b ∷ []) argument command two at (name, are) = let second : string_bytes b ≡ command = cc in sym (ap string_bytes at) ∙ second
back (a ∷ b ∷ c ∷ arguments) argument command two at are = absurd (omega (arith, two))

pub returns-in-len2 : goal.returns-in-len2
returns-in-len2 c =
    let arguments = c.args.arguments.now in
    let argument = c.argument-item.result in
    let command = c.args.command.now in
    let two : length arguments ≡ 2 = omega (arith, c.in-len2.len_at_least, c.in-len2.len_below) in
    let same = bytes_decides c.as_str.result.now command in (
      λ true. there arguments argument command two (sym c.argument-item.is) (sym c.as_str.ensures.value ∙ same.0 (sym c.eq.ensures ∙ true)),
      λ are. c.eq.ensures ∙ same.1 (c.as_str.ensures.value ∙ back arguments argument command two (sym c.argument-item.is) are),
    )

-- of fewer or more arguments, none is the command alone
other : (arguments : List (String Global)) (command : List ℕ) → (length arguments ≡ 2 → ⊥) → IsTrue false ↔ AreAlone (map string_bytes arguments) command
other arguments command others =
    (λ is. absurd (false≢true is), λ are. let same = length-map arguments string_bytes in let two = ap length are.1 in absurd (others (omega (arith, same, two))))

pub returns-in_default : goal.returns-in_default
returns-in_default c = other c.args.arguments.now c.args.command.now (λ two. omega (arith, two, c.in_default.len_below))

pub returns-in_default-2 : goal.returns-in_default-2
returns-in_default-2 c = other c.args.arguments.now c.args.command.now (λ two. omega (arith, two, c.in_default.len_at_least))
