-- The two lines with which the book of a host begins: the first one of a book of version 2, and the cluster with the
-- first nonce of the book. A host that crashed as it made its book may have left the first line alone, or none.
use Rattle.std.specs.Prelude.{ℕ, ◌+◌, true, false, if◌then◌else◌, List, ◌++◌, length, Option, Some, None, option_and_then, Result, Ok, Err, codes}
use Rattle.std.specs.Str.{bytes_eq}
use Rattle.ra_text.specs.Lines.{field}
use Rattle.ra_trace.specs.Forms.{cut, rest_after}
use Rattle.ra_book_text.specs.BookText.{first_text}
use Rattle.ra_book_text.specs.declared.next_line.book_version.BookVersion.TheVariants.{Two}
use Rattle.ra_host_text.specs.Fields.{nonce_of}
use Rattle.ra_host_text.specs.HostText.{nonce_text}
use Rattle.ra_host_text.specs.declared.fatal.Fatal.{Fatal}
use Rattle.ra_host_text.specs.declared.fatal.Fatal.TheVariants.{Book}
use Rattle.ra_serve.specs.declared.settings.Settings.{Settings}
use Rattle.ra_serve.specs.declared.book_opening.Opening.{Opening}

-- the first line, without its line feed
abbrev pub first_line : Settings → List ℕ
first_line s = first_text Two s.member.node s.member.nodes s.start

-- the words of the second line before the nonce
abbrev pub second_words : Settings → List ℕ
second_words s = codes "cluster" ++ field s.cluster ++ codes " "

-- the second line, without its line feed
abbrev pub second_line : Settings → ℕ → List ℕ
second_line s identity = codes "cluster" ++ field s.cluster ++ field (nonce_text identity)

-- how many bytes two lines have with their line feeds, if the second one names a nonce
abbrev pub with_second : ℕ → ℕ → Option ℕ → Result Opening Fatal
with_second first second None = Err Book
with_second first second (Some identity) =
    Ok (record { has_first = true; identity = Some identity; len = first + 1 + (second + 1) })

-- what follows the first line, which has so many bytes, up to the next line feed and after it, if there is one
abbrev pub after_first : List ℕ → ℕ → Option (List ℕ × List ℕ) → Result Opening Fatal
after_first words first None = Ok (record { has_first = true; identity = None; len = first + 1 })
after_first words first (Some parts) =
    with_second first (length parts.0) (option_and_then nonce_of (rest_after words parts.0))

-- the text up to its first line feed and after it, if there is one
abbrev pub opening_by : (first words : List ℕ) → Option (List ℕ × List ℕ) → Result Opening Fatal
opening_by first words None = Ok (record { has_first = false; identity = None; len = 0 })
opening_by first words (Some parts) =
    if bytes_eq parts.0 first then after_first words (length parts.0) (cut 10 parts.1) else Err Book

-- what a text of whole lines has before the events of a book, or that it is no book of this host
abbrev pub opening_in : Settings → List ℕ → Result Opening Fatal
opening_in s text = opening_by (first_line s) (second_words s) (cut 10 text)
