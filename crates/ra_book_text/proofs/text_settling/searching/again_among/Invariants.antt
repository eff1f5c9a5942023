use Rattle.std.proofs.Common.{◌≡◌, take}
use Rattle.std.specs.Prelude.{◌≢◌, AllPairs}
use Rattle.ra_book_text.specs.Verdicts.{messages_of}
use Rattle.ra_book_text.proofs.text_settling.searching.again_among.Given as goal

-- the messages so far are in the bag, and are different
abbrev pub invariant-loop-one : goal.invariant-loop-one
invariant-loop-one l = record {
  came : l.bag.items ≡ messages_of (take l.one-index l.came);
  once : AllPairs (λ a b. a ≢ b) (messages_of (take l.one-index l.came));
}
