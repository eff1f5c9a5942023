use Rattle.clap.specs.Words.{found_of, rows_of}
use Rattle.clap.specs.declared.parser.matches.ArgMatches.TheViews.{out-ArgMatches}
use Rattle.ra_arguments.proofs.Reading.{entered}
use Rattle.ra_arguments.proofs.command_line.task_of.Goals as goal

pub returns : goal.returns
returns c = rw (entered _ _ (out-ArgMatches c.args.matches.now).subcommand c.in-Some.command.now (rows_of (found_of c.in-Some.given.now)) c.in-Some.ensures.name c.in-Some.ensures.rows)
    c.task_in.ensures
