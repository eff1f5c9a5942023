use Rattle.std.proofs.Common.{refl, ap, inl, inr, ◌∙◌}
use Rattle.ra_audit.specs.Audit.{AuditState}
use Rattle.ra_audit.proofs.AuditRounds.{audits_nothing, audits_all, audits_as, asks_all, audits_noted, none_ready_as, none_reached_as, none_kept_as, none_kept_after, may_be_put_as, not_taken_as, numbers_as, if_done, if_taken, stays_faultless, is_faultless, has_found}
use Rattle.ra_audit.proofs.auditor.audit_round.go_round.Goals as goal

pub returns-in_default-clause-audits : goal.returns-in_default-clause-audits
returns-in_default-clause-audits g c = record {
  audits = audits_nothing c.args.auditor.now (g.O.MarkObserver.told c.args.observer.now) c.requires.audited c.requires.lost c.requires.sent;
  asked = tt;
}

pub find_unsent-requires : goal.find_unsent-requires
find_unsent-requires g c = if_done _ c.advance-advanced.result c.in-Ok-answer_of.ensures.ok.0 c.advance-advanced.ensures.ok

pub returns-in-Some-clause-audits : goal.returns-in-Some-clause-audits
returns-in-Some-clause-audits g c = record {
  audits =
      audits_noted c.args.auditor.now c.advance-advanced.new.self c.find_unsent.new.self _ _ c.in-Some.fault c.in-Some.ensures.found.0
      (audits_all c.args.auditor.now c.take_all-taken.new.auditor c.advance-advanced.new.self _ _ c.take_all-taken.ensures.more.more c.advance-advanced.ensures.advances
      c.advance-advanced.ensures.losses c.advance-advanced.ensures.lost c.advance-advanced.ensures.sent);
  asked = tt;
}

pub returns-in-Ok-answer_of-clause-audits : goal.returns-in-Ok-answer_of-clause-audits
returns-in-Ok-answer_of-clause-audits g c =
    audits_as c.args.auditor.now c.advance-advanced.new.self c.find_unsent.new.self _ _ tt (c.in-None.ensures.none refl).0
    (asks_all c.args.auditor.now c.take_all-taken.new.auditor c.advance-advanced.new.self _ _ tt c.take_all-taken.ensures.more.more
    (if_taken _ c.take_all-taken.result c.in-Ok-answer_of.ensures.ok.1 c.take_all-taken.ensures.more.asked) c.advance-advanced.ensures.advances
    c.advance-advanced.ensures.losses c.advance-advanced.ensures.lost c.advance-advanced.ensures.sent)

pub returns-in-Ok-answer_of-clause-ok : goal.returns-in-Ok-answer_of-clause-ok
returns-in-Ok-answer_of-clause-ok g c =
    none_ready_as c.advance-advanced.new.self c.find_unsent.new.self (c.in-None.ensures.none refl).0
    (if_done _ c.advance-advanced.result c.in-Ok-answer_of.ensures.ok.0 c.advance-advanced.ensures.ok)

pub returns-in-Ok-answer_of-clause-kept : goal.returns-in-Ok-answer_of-clause-kept
returns-in-Ok-answer_of-clause-kept g c =
    none_kept_as c.advance-advanced.new.self c.find_unsent.new.self (c.in-None.ensures.none refl).0
    (none_kept_after c.take_all-taken.new.auditor.nodes c.advance-advanced.new.self.nodes c.advance-advanced.ensures.advances.kept
    (if_taken _ c.take_all-taken.result c.in-Ok-answer_of.ensures.ok.1 c.take_all-taken.ensures.kept))

pub returns-in-Ok-answer_of-clause-may_be_put : goal.returns-in-Ok-answer_of-clause-may_be_put
returns-in-Ok-answer_of-clause-may_be_put g c =
    let none = c.in-None.ensures.none refl in
    may_be_put_as _ _ c.advance-advanced.new.self c.find_unsent.new.self (c.deref.ensures.value ∙ c.in-Ok.ensures) none.0 none.1

pub returns-clause-audits : goal.returns-clause-audits
returns-clause-audits g c = record {
  audits =
      audits_all c.args.auditor.now c.take_all-taken.new.auditor c.advance-advanced.new.self _ _ c.take_all-taken.ensures.more.more c.advance-advanced.ensures.advances
      c.advance-advanced.ensures.losses c.advance-advanced.ensures.lost c.advance-advanced.ensures.sent;
  asked = tt;
}

pub returns-clause-fault : goal.returns-clause-fault
returns-clause-fault g c = λ fault.
    let answered = c.in-Err.ensures.fault fault in
    let put = c.advance-advanced.ensures.fault fault in
    ((λ is. put.0 (answered.0 is)), λ has. answered.1 (put.1 has))

pub returns-in_default-clause-fault : goal.returns-in_default-clause-fault
returns-in_default-clause-fault g c = λ fault. stays_faultless c.args.auditor.now fault c.requires.unfaulted

pub returns-in-Some-clause-fault : goal.returns-in-Some-clause-fault
returns-in-Some-clause-fault g c = λ fault. has_found c.advance-advanced.new.self c.find_unsent.new.self c.in-Some.fault fault c.in-Some.ensures.found.0

pub returns-in-Ok-answer_of-clause-fault : goal.returns-in-Ok-answer_of-clause-fault
returns-in-Ok-answer_of-clause-fault g c =
    is_faultless c.advance-advanced.result c.advance-advanced.new.self c.find_unsent.new.self c.advance-advanced.ensures.fault c.in-Ok-answer_of.ensures.ok.0 (c.in-None.ensures.none refl).0 tt

pub returns-clause-not_taken : goal.returns-clause-not_taken
returns-clause-not_taken g c node cause is =
    let done = c.in-Err.ensures.not_taken node cause is in
    let advances = c.advance-advanced.ensures.advances in (
      if_done _ c.advance-advanced.result done.0 c.advance-advanced.ensures.ok,
      if_done _ c.advance-advanced.result done.0 c.advance-advanced.ensures.none_reached,
      not_taken_as c.take_all-taken.new.auditor.nodes c.advance-advanced.new.self.nodes node cause
          (numbers_as c.args.auditor.now c.take_all-taken.new.auditor c.advance-advanced.new.self _ _ c.take_all-taken.ensures.more.more advances) advances.taken advances.kept
          (c.take_all-taken.ensures.not_taken node cause done.1),
    )

pub returns-in-Ok-answer_of-clause-none_reached : goal.returns-in-Ok-answer_of-clause-none_reached
returns-in-Ok-answer_of-clause-none_reached g c =
    none_reached_as c.advance-advanced.new.self c.find_unsent.new.self (c.in-None.ensures.none refl).0
    (if_done _ c.advance-advanced.result c.in-Ok-answer_of.ensures.ok.0 c.advance-advanced.ensures.none_reached)

pub returns-clause-not_lost : goal.returns-clause-not_lost
returns-clause-not_lost g c frame is = c.advance-advanced.ensures.not_lost frame (c.in-Err.ensures.not_lost frame is)

pub returns-clause-memory : goal.returns-clause-memory
returns-clause-memory g c is = inr (c.advance-advanced.ensures.memory (c.in-Err.ensures.memory.0 is))

pub returns-in_default-clause-memory : goal.returns-in_default-clause-memory
returns-in_default-clause-memory g c _ = inl (refl, refl)

pub returns-clause-found : goal.returns-clause-found
returns-clause-found g c = λ fault is.
    let faultless = ap (λ (a : AuditState). a.fault) c.take_all-taken.ensures.more.more.rest ∙ c.requires.unfaulted in
    inl (c.advance-advanced.ensures.found fault faultless ((c.in-Err.ensures.fault fault).0 is))
