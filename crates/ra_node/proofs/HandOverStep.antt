-- The end of a request that hands over to the next client, as one step of the automaton, for the proofs of the crates above.
use Rattle.std.proofs.Common.{◌≡◌, ℕ, ◌+◌, List, ◌∷◌, ap, ◌∙◌}
use Rattle.ra_stamp.specs.declared.entry.Entry.{Entry}
use Rattle.ra_stamp.specs.declared.entry.Mark.{Mark}
use Rattle.ra_stamp.specs.declared.message.Message.{Message}
use Rattle.ra_automaton.specs.State.{State}
use Rattle.ra_automaton.specs.Steps.{EndAndRequestStep}
use Rattle.ra_automaton.proofs.Ending.{EndStep}
use Rattle.ra_node.specs.Resource.{Resource, entry_of}
use Rattle.ra_node.specs.Turns.{request_marks, next_entry, EndsToNext}
use Rattle.ra_node.proofs.Endings.{AreEnded}

module _ (Ends : Entry → List Message → Resource → Type 0) (mark : Entry → Mark) (old : Resource) (ended : AreEnded old Ends) (sends : List Message) (marks : List Mark) (new : Resource) (hands : EndsToNext Ends mark old sends marks new) where
  pub handed_step : EndAndRequestStep (EndStep old.state) hands.next.mode sends hands.asks.entered new.state
  handed_step =
      record {
        between = hands.between.state;
        replies = hands.replies;
        requests = hands.requests;
        ends = (ended hands.entry hands.replies hands.between hands.ends).step;
        asks = hands.asks.step;
        sends_are = hands.sends_are;
      }

  -- the next client's request takes the number after the highest that was met before the end
  pub handed_marks : marks ≡ mark hands.entry ∷ request_marks hands.asks.entered (next_entry old hands.next.client hands.next.mode)
  handed_marks =
      let next = hands.next in
      let step = (ended hands.entry hands.replies hands.between hands.ends).step in
      hands.marks_are
      ∙ ap (λ (ms : List Mark). mark hands.entry ∷ ms)
      (hands.asks.marks_are ∙ (λ i. request_marks hands.asks.entered (entry_of (step.me_is i) (step.name_is i) (step.highest_is i + 1) next.client next.mode)))
