-- How the fields of a line are read. The contracts of `event_of` and `FirstLine::parse` say what the fields mean.
use Rattle.std.specs.Prelude.{ℕ, List, Option, option_map}
use Rattle.ra_stamp.specs.declared.mode.Mode.{Mode}
use Rattle.ra_trace.specs.Forms as forms
use Rattle.ra_trace.specs.Forms.{fields}
use Rattle.ra_book.specs.declared.book.event.BookKind.{BookKind}
use Rattle.ra_book.specs.declared.book.event.BookKind.TheVariants.{Ask, Leave, Cancel}

abbrev pub name_and_mode_of : List ℕ → Option (List ℕ × Mode)
name_and_mode_of = fields forms.name_of forms.mode_of

abbrev pub ask_of : List ℕ → Option BookKind
ask_of text = option_map (λ f. Ask f.0 f.1.0 f.1.1) (fields forms.client_of name_and_mode_of text)

abbrev pub leave_of : List ℕ → Option BookKind
leave_of text = option_map (λ f. Leave f.0 f.1) (fields forms.client_of forms.name_of text)

abbrev pub cancel_of : List ℕ → Option BookKind
cancel_of text = option_map (λ f. Cancel f.0 f.1) (fields forms.client_of forms.name_of text)

abbrev pub nodes_and_start_of : List ℕ → Option (ℕ × ℕ)
nodes_and_start_of = fields forms.node_of forms.start_of

abbrev pub first_of : List ℕ → Option (ℕ × (ℕ × ℕ))
first_of = fields forms.node_of nodes_and_start_of
