use Rattle.ra_cli.proofs.serving.serve.Goals as goal

pub returns : goal.returns
returns g c = record {
  asked = c.command_of-asked.result;
  asks = c.command_of-asked.ensures.asks;
  help = c.command_of-asked.ensures.help;
  does = c.do_alone.ensures.does;
  unread = c.do_alone.ensures.unread;
}
