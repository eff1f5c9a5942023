use Rattle.std.proofs.Common.{◌≡◌, ◌≢◌, ◌+◌, List, [], ◌∷◌, ◌++◌, take, sym, ap, subst, ◌∙◌}
use Rattle.std.specs.Prelude.{AllPairs, Contains}
use Rattle.std.proofs.lemmas.Bool.{false≢true}
use Rattle.std.proofs.lemmas.List.{map_more, take_all}
use Rattle.ra_stamp.specs.declared.message.Message.{Message}
use Rattle.ra_book_text.specs.declared.text_settling.came_frames.Came.{Came}
use Rattle.ra_book_text.specs.Verdicts.{messages_of}
use Rattle.ra_book_text.proofs.Sent.{again_at, apart_more}
use Rattle.ra_book_text.proofs.text_settling.searching.again_among.Goals as goal

abbrev message_of : Came → Message
message_of one = one.frame.message

pub returns-then-is_some : goal.returns-then-is_some
returns-then-is_some c =
    let one = c.one-item.result in
    again_at c.args.came.now c.loop-one.one-index one c.loop-one-test.true c.one-item.is
    (subst (λ (ms : List Message). Contains ms one.frame.message) c.loop-one.invariant.came
    (c.find.ensures.found.0 (sym c.is_some.ensures ∙ c.if-is_some.true)))
    c.loop-one.invariant.once

pub loop-one-preserved : goal.loop-one-preserved
loop-one-preserved c =
    let came = c.args.came.now in
    let i = c.loop-one.one-index in
    let one = c.one-item.result in
    let earlier = messages_of (take i came) in
    let more : messages_of (take (i + 1) came) ≡ earlier ++ one.frame.message ∷ [] =
    map_more message_of came i one c.loop-one-test.true ∙ ap (λ (it : Came). earlier ++ it.frame.message ∷ []) (sym c.one-item.is)
    in
    record {
      came =
          c.in_ok-put.ensures
          ∙ ap (λ (ms : List Message). ms ++ one.frame.message ∷ []) (ap (λ b. b.items) c.find.ensures.same ∙ c.loop-one.invariant.came)
          ∙ sym more;
      once =
          subst (AllPairs (λ (a b : Message). a ≢ b)) (sym more)
          (apart_more earlier one.frame.message c.loop-one.invariant.once
          (λ has. false≢true (sym c.if-is_some.false ∙ c.is_some.ensures
          ∙ c.find.ensures.found.1 (subst (λ (ms : List Message). Contains ms one.frame.message) (sym c.loop-one.invariant.came) has))));
    }

pub returns : goal.returns
returns c =
    subst (λ (cs : List Came). AllPairs (λ (a b : Message). a ≢ b) (messages_of cs)) (take_all c.loop-one.one-index c.args.came.now c.loop-one-test.false)
    c.loop-one.invariant.once
