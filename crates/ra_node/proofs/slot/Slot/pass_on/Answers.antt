use Rattle.std.proofs.Common.{◌≡◌, ◌∷◌, [], List, ◌++◌, sym, ap, ◌∙◌, subst}
use Rattle.ra_stamp.specs.declared.entry.Entry.{Entry}
use Rattle.ra_stamp.specs.declared.entry.Mark.{Mark}
use Rattle.ra_stamp.specs.declared.entry.Mark.TheVariants.{Withdrawn}
use Rattle.ra_automaton.specs.Steps.{WithdrawStep}
use Rattle.ra_node.specs.Resource.{Resource, clients_of}
use Rattle.ra_node.specs.Turns.{request_marks, next_entry}
use Rattle.ra_node.proofs.Distinct.{Once, leaves_once}
use Rattle.ra_node.proofs.LeaveEndings.{parts_handed_over}
use Rattle.ra_node.proofs.slot.Slot.pass_on.Goals as goal

pub pop_front-requires : goal.pop_front-requires
pop_front-requires c = leaves_once c.self.inside.client c.self.inside.queue (subst (λ (r : Resource). Once (clients_of r)) (sym c.self.view_is) c.requires.once)

pub returns-clause-passed : goal.returns-clause-passed
returns-clause-passed c =
    let s = c.self.inside in
    let handed = c.in-Ok.passed in
    let next = c.args.next in
    let gone = Withdrawn c.args.waiting.now ∷ [] in
    let first : c.push_reserved.new.marks.items ≡ gone = c.push_reserved.ensures.items ∙ ap (λ (ms : List Mark). ms ++ gone) c.requires.nothing.marks in
    let marks : c.push_request.new.marks.items ≡ gone ++ request_marks handed.entered (next_entry c.args.self.now next.client next.mode) =
    c.push_request.ensures
    ∙ ap (λ (ms : List Mark). ms ++ request_marks handed.entered c.next_entry-requested.result) first
    ∙ ap (λ (e : Entry). gone ++ request_marks handed.entered e) c.next_entry-requested.ensures
    in (
      parts_handed_over WithdrawStep s.automaton c.withdraw_and_request_into-left.new.self s.client s.queue c.pop_front.new.self c.args.self.now next c.pop_front.result handed.sends.items gone c.push_request.new.marks.items handed.entered c.self.view_is c.in-Ok.ensures.withdrawn.ok c.requires.first c.pop_front.ensures marks,
      c.withdraw_and_request_into-left.ensures.consistent,
    )
