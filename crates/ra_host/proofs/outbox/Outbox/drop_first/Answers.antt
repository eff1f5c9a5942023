use Rattle.std.proofs.Common.{◌≡◌, List, [], sym, ap, ◌∙◌, arith}
use Rattle.std.proofs.lemmas.List.{nil_from_length}
use Rattle.ra_frame.specs.declared.frame.Frame.{Frame}
use Rattle.ra_host.specs.Outgoing.{outgoing_of}
use Rattle.ra_host.proofs.OutgoingKept.{drops_empty, drops_more, drops_over}
use Rattle.ra_host.proofs.outbox.Outbox.drop_first.Goals as goal

pub loop-self-preserved : goal.loop-self-preserved
loop-self-preserved c =
    let o = outgoing_of c.loop-self.self in
    drops_more o c.args.count _ c.pop_front.new.self.items c.in-Some.ensures.items c.loop-self-test.true ∙ c.loop-self.invariant

pub returns-in-None : goal.returns-in-None
returns-in-None c =
    let o = outgoing_of c.loop-self.self in
    let left : c.pop_front.new.self.items ≡ [] = nil_from_length c.pop_front.new.self.items (omega (arith, c.in-None.ensures.cases.1, c.pop_front.new.self.ok.0)) in
    let done : outgoing_of (record c.loop-self.self { dropped = c.args.count; frames = c.pop_front.new.self }) ≡ record { made = o.made; dropped = c.args.count; frames = [] } =
    ap (λ (fs : List Frame). record { made = o.made; dropped = c.args.count; frames = fs }) left in
    done ∙ sym (drops_empty o c.args.count (c.in-None.ensures.items ∙ left) c.loop-self-test.true) ∙ c.loop-self.invariant

pub returns : goal.returns
returns c = sym (drops_over (outgoing_of c.loop-self.self) c.args.count c.loop-self-test.false) ∙ c.loop-self.invariant
