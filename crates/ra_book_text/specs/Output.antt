-- What is written of answers, and what waits to be written.
use Rattle.std.specs.Prelude.{◌≡◌, ℕ, false, List, ◌++◌, Option}
use Rattle.std.specs.Io.KnownBytes.{Appends}
use Rattle.ra_book_text.specs.declared.answering.waiting_output.Output.{Output}

-- Since the writer was like this at first, this text was put out: the writer took a prefix of it, and the rest waits,
-- unless the writer failed.
pub record HasPut (first now : Option (List ℕ)) (text : List ℕ) (out : Output) : Type 0 where
  pub sent : List ℕ
  pub rest : List ℕ
  pub appends : Appends first now sent
  pub text_is : text ≡ sent ++ rest
  pub waits : out.failed ≡ false → rest ≡ out.waiting.items

-- this text was put out after what was put out before
abbrev pub Puts : Option (List ℕ) → Option (List ℕ) → Output → Output → List ℕ → Type 0
Puts old new before after text =
    (first : Option (List ℕ)) (earlier : List ℕ) → HasPut first old earlier before
    → HasPut first new (earlier ++ text) after
