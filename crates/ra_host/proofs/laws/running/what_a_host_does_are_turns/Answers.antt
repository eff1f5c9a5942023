use Rattle.std.proofs.Common.{◌-◌, Some, None, refl}
use Rattle.ra_link.specs.declared.message.Message.TheVariants.{Hello, Welcome, Frame, Ack, Old}
use Rattle.std.specs.Prelude.{slice_get}
use Rattle.ra_link.specs.Link as rule
use Rattle.ra_book.specs.Pairs.{sent_to}
use Rattle.ra_host.specs.Host.{begins, connects, hears_ack, hears_hello, hears_old, hears_welcome, syncs_book}
use Rattle.ra_host.specs.Hosts.{Event, says, silent}
use Rattle.ra_host.proofs.TurnsOfCalls.{when_down, when_passed, when_said, when_taken, when_up}
use Rattle.ra_host.proofs.laws.running.what_a_host_does_are_turns.Goals as goal

pub returns : goal.returns
returns c =
    record {
      begins = λ back h nonce down fresh. when_down back h (Event.Start nonce) (silent (begins h nonce)) down (fresh, refl);
      connects = λ back h j up other. when_up back h (Event.Connects j) (silent (connects h j)) up (other, refl);
      hello = λ back h j which start question frame up other said.
          when_said back h j which (record { message = Hello start question; frame = frame }) (says (hears_hello h j start) j (Some (rule.welcome_of (h.links j) start question)) None) up other said refl;
      welcome = λ back h j which asker question start kept frame up other said.
          when_said back h j which (record { message = Welcome asker question start kept; frame = frame }) (silent (hears_welcome h j asker question start kept)) up other said refl;
      ack = λ back h j which start asker kept frame up other said.
          when_said back h j which (record { message = Ack start asker kept; frame = frame }) (silent (hears_ack h j start asker kept)) up other said refl;
      old = λ back h j which count frame up other said.
          when_said back h j which (record { message = Old count; frame = frame }) (silent (hears_old h j count)) up other said refl;
      frame = λ back h new j which start number frame up other said yes takes.
          when_said back h j which (record { message = Frame start number; frame = Some frame }) (silent new) up other said (when_taken h new j start number frame yes takes, refl);
      passed = λ back h j which start number frame up other said fails.
          when_said back h j which (record { message = Frame start number; frame = Some frame }) (silent h) up other said (when_passed h j start number frame fails, refl);
      does = λ back h new kind up own happens. when_up back h (Event.Does kind) (silent new) up (own, happens, refl);
      syncs = λ back h up. when_up back h Event.Syncs (silent (syncs_book h)) up refl;
      says_hello = λ back h j up other. when_up back h (Event.Says_hello j) (says h j (rule.hello_of (h.links j)) None) up (other, refl);
      says_ack = λ back h j up other. when_up back h (Event.Says_ack j) (says h j (rule.ack_of (h.links j)) None) up (other, refl);
      says_old = λ back h j up other. when_up back h (Event.Says_old j) (says h j (rule.old_of (h.links j)) None) up (other, refl);
      says_frame = λ back h j number up other.
          when_up back h (Event.Says_frame j number) (says h j (rule.frame_of (h.links j) number) (slice_get (sent_to j h.book) (number - 1))) up (other, refl);
      replays = λ back h new up is. when_up back h Event.Replays (silent new) up (is, refl);
    }
