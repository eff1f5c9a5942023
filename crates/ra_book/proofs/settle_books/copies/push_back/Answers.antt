use Rattle.std.proofs.Common.{◌≡◌, true, false, List, [], ◌∷◌, ◌++◌, reverse, sym, ap, ◌∙◌, subst}
use Rattle.std.specs.BTreeSet as sorted
use Rattle.ra_world.specs.declared.step.Step.{Step}
use Rattle.ra_world.specs.declared.step.Step.TheVariants.{Repeat}
use Rattle.ra_frame.specs.declared.frame.Frame.{Frame}
use Rattle.ra_book.specs.Keys.{OrderKey, FrameKey, message_key, frame_key}
use Rattle.ra_book.specs.EventMerge.{placed_at}
use Rattle.ra_book.specs.Repeats.{AreWithCopies}
use Rattle.ra_book.specs.Settled.{step_at}
use Rattle.ra_book.proofs.KeyOrders.{frame_cmp}
use Rattle.ra_book.proofs.KeySets.{when_new, when_old}
use Rattle.ra_book.proofs.CopiesBack.{none_by, come_same, come_more, comes, comes_not, none_in_front, last_in_front, copy_in_front}
use Rattle.ra_book.proofs.settle_books.copies.push_back.Goals as goal

-- the key of a frame contains the key of its message
key_is : (frame : Frame) (key : OrderKey) → key ≡ message_key frame.message → (frame.clock, key) ≡ frame_key frame
key_is frame key is = ap (λ (k : OrderKey). (frame.clock, k)) is

-- one step more after the same steps
put_one : (back steps : List Step) (one step : Step) → back ≡ steps → one ≡ step → back ++ one ∷ [] ≡ steps ++ step ∷ []
put_one back steps one step same is = ap (λ (ss : List Step). ss ++ one ∷ []) same ∙ ap (λ (s : Step). steps ++ s ∷ []) is

pub returns-in_default : goal.returns-in_default
returns-in_default c placed has done =
    let p = placed_at c.args.one.now in
    let none = none_by p.event.kind c.in_default.not-Receive in
    let are = c.push_reserved.ensures.items ∙ put_one _ c.args.back.now.items _ _ c.reserve.ensures.items c.step_of.ensures in (
      come_same c.args.later.now p placed none has,
      subst (λ (ss : List Step). AreWithCopies (p ∷ placed) (reverse ss)) (sym are) (none_in_front p placed c.args.back.now.items none done),
    )

pub returns-then-branch : goal.returns-then-branch
returns-then-branch c placed has done =
    let p = placed_at c.args.one.now in
    let old = c.args.later.now in
    let f = c.in-Receive.frame in
    let is_new = subst (λ (k : FrameKey). sorted.contains frame_cmp old k ≡ false) (key_is c.in-Receive.frame c.message_key.result c.message_key.ensures) (when_new _ _ c.in_ok-insert.ensures.added c.if-branch.true) in
    let put = subst (λ (k : FrameKey). sorted.Updates frame_cmp old c.insert.new.self k true) (key_is c.in-Receive.frame c.message_key.result c.message_key.ensures) c.in_ok-insert.ensures.updates in
    let are = c.push_reserved.ensures.items ∙ put_one _ c.args.back.now.items _ _ c.reserve.ensures.items c.step_of.ensures in (
      come_more old c.insert.new.self p placed f c.in-Receive.is has put,
      subst (λ (ss : List Step). AreWithCopies (p ∷ placed) (reverse ss)) (sym are)
          (last_in_front p placed c.args.back.now.items f c.in-Receive.is (comes_not old placed f has is_new) done),
    )

pub returns : goal.returns
returns c placed has done =
    let p = placed_at c.args.one.now in
    let old = c.args.later.now in
    let f = c.in-Receive.frame in
    let is_old = subst (λ (k : FrameKey). sorted.contains frame_cmp old k ≡ true) (key_is c.in-Receive.frame c.message_key.result c.message_key.ensures) (when_old _ _ c.in_ok-insert.ensures.added c.if-branch.false) in
    let put = subst (λ (k : FrameKey). sorted.Updates frame_cmp old c.insert.new.self k true) (key_is c.in-Receive.frame c.message_key.result c.message_key.ensures) c.in_ok-insert.ensures.updates in
    let one = c.push_reserved.ensures.items ∙ put_one _ c.args.back.now.items _ _ c.reserve.ensures.items c.step_of.ensures in
    let are : c.push_reserved-2.new.self.items ≡ (c.args.back.now.items ++ step_at p.node p.event.kind ∷ []) ++ Repeat f.message ∷ [] =
    c.push_reserved-2.ensures.items ∙ ap (λ (ss : List Step). ss ++ Repeat f.message ∷ []) one
    in (
      come_more old c.insert.new.self p placed f c.in-Receive.is has put,
      subst (λ (ss : List Step). AreWithCopies (p ∷ placed) (reverse ss)) (sym are)
          (copy_in_front p placed c.args.back.now.items f c.in-Receive.is (comes old placed f has is_old) done),
    )
