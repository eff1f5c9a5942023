use Rattle.std.proofs.Common.{sym, ◌∙◌}
use Rattle.ra_table.proofs.Written.{is_place_of}
use Rattle.std.proofs.lemmas.Bool.{false≢true}
use Rattle.ra_table.proofs.table.is_at.Goals as goal

pub returns-in-Some : goal.returns-in-Some
returns-in-Some c = λ yes.
    is_place_of c.args.name_tables.now.entries c.args.name.now c.args.place _ _ c.requires c.in-Some.ensures.entry (sym c.eq.ensures ∙ yes)

pub returns-in-None : goal.returns-in-None
returns-in-None c is = absurd (false≢true is)
