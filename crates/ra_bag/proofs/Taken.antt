-- Lists of messages, by places.
use Rattle.std.proofs.Common.{◌≡◌, ◌≢◌, ◌<◌, ℕ, suc, List, length, get_or, take, drop, refl, sym, ◌∙◌, arith}
use Rattle.std.specs.List.{remove}
use Rattle.ra_stamp.proofs.Places.{split_at}
use Rattle.ra_stamp.specs.declared.message.Message.{Message}
use Rattle.ra_bag.specs.Bag.{TakesFirst}
use Rattle.std.proofs.lemmas.List.{get_or-take, get_or_default, length-take-le}

-- the first message that is equal to this one is at a place, and none before it is
pub takes_at : (messages : List Message) (place : ℕ) (message : Message) → place < length messages → get_or messages place message ≡ message
    → ((k : ℕ) → k < place → get_or messages k message ≢ message) → TakesFirst messages message (remove messages place)
takes_at messages place message lt is first =
    record {
      prefix = take place messages;
      suffix = drop (suc place) messages;
      old_is = split_at messages place message lt is;
      first = λ k d below e.
          let before : k < place = omega (arith, below, length-take-le place messages (omega (arith, lt))) in
          first k before (get_or_default messages k message d (omega (arith, before, lt)) ∙ sym (get_or-take place messages k d before) ∙ e);
      new_is = refl;
    }
