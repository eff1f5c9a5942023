use Rattle.ra.proofs.serving_with_notes.serve_with_notes.Goals as goal
use Rattle.ra.proofs.serving_with_notes.serve_with_notes.Goals.{in-Task-Cluster, in_default}

pub returns : goal.returns
returns g c =
    elim c.match-asked.branch [
      | in-Task-Cluster w ↦
          let is = rw w.in-Task-Cluster.is at w.in-Task-Cluster.field-0-is in
          rw (w.reader-is, w.writer-is, w.outcome-is) (record {
            asked = c.read_command_line-line.result.asked;
            asks = c.read_command_line-line.ensures.asks;
            help = c.read_command_line-line.ensures.help;
            does = rw w.in-Task-Cluster.is (rw is w.run_by_threads-outcome.ensures);
            unread = rw w.in-Task-Cluster.is (rw is (λ nothing. absurd nothing));
          })
      | in_default w ↦ rw (w.reader-is, w.writer-is, w.outcome-is) (record {
        asked = c.read_command_line-line.result.asked;
        asks = c.read_command_line-line.ensures.asks;
        help = c.read_command_line-line.ensures.help;
        does = w.do_alone-outcome.ensures.does;
        unread = w.do_alone-outcome.ensures.unread;
      })
    ]
