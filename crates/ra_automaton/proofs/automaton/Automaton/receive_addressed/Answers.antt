use Rattle.std.proofs.Common.{rules, Result, Ok, Err, OnErr, ◌∙◌, sym, subst}
use Rattle.ra_automaton.specs.State.{IsConsistent}
use Rattle.ra_automaton.proofs.Consistent.{consistent_taken, consistent_reply}
use Rattle.ra_automaton.proofs.Refusals.{requested_by, request_step, replied_at_once, reply_step, request_enters, reply_enters}
use Rattle.ra_automaton.proofs.automaton.Automaton.receive_addressed.Goals as goal

on_err : {X E : Type 0} (result : Result X E) (P : Type 0) → P → OnErr result P
on_err (Ok x) P p = tt
on_err (Err e) P p = p

-- ---- A REQUEST

pub take_request-requires : goal.take_request-requires
take_request-requires c = requested_by c.args.self.now c.args.message.now c.in-Request.from _ _ _ _ c.in-Request.is c.requires.addressed

pub returns-in_err-sends-in-Request-clause-consistent : goal.returns-in_err-sends-in-Request-clause-consistent
returns-in_err-sends-in-Request-clause-consistent c = subst IsConsistent (c.self.view_is ∙ sym c.in_err-sends-in-Request.ensures.err) c.self.invariant.consistent

pub returns-in_err-sends-in-Request-clause-memory_only_for_reply : goal.returns-in_err-sends-in-Request-clause-memory_only_for_reply
returns-in_err-sends-in-Request-clause-memory_only_for_reply c =
    on_err c.from_residual.result _ (replied_at_once c.args.self.now c.args.message.now c.in-Request.from _ _ _ _ c.in-Request.is c.in_err-sends-in-Request.ensures.memory)

pub returns-in_ok-sends-in-Request-clause-consistent : goal.returns-in_ok-sends-in-Request-clause-consistent
returns-in_ok-sends-in-Request-clause-consistent c =
    let old = subst IsConsistent c.self.view_is c.self.invariant.consistent in
    let other = requested_by c.args.self.now c.args.message.now c.in-Request.from _ _ _ _ c.in-Request.is c.requires.addressed in
    consistent_taken c.args.self.now c.in-Request.from c.in-Request.seq c.in-Request.mode _ c.take_request.new.self old other c.in_ok-sends-in-Request.ensures.ok

pub returns-in_ok-sends-in-Request-clause-received : goal.returns-in_ok-sends-in-Request-clause-received
returns-in_ok-sends-in-Request-clause-received c =
    record {
      ok = request_step c.args.self.now c.args.message.now c.in-Request.from _ _ _ _ c.in-Request.is _ c.take_request.new.self c.in_ok-sends-in-Request.ensures.ok;
      enters = request_enters c.args.self.now c.args.message.now c.in-Request.from _ c.in-Request.seq _ c.in-Request.mode c.in-Request.is;
      err = tt;
    }

-- ---- A REPLY

pub returns-in-Reply-clause-consistent : goal.returns-in-Reply-clause-consistent
returns-in-Reply-clause-consistent c =
    let old = subst IsConsistent c.self.view_is c.self.invariant.consistent in
    consistent_reply c.args.self.now c.in-Reply.from c.in-Reply.seq _ c.take_reply-entered.new.self old c.take_reply-entered.ensures

pub returns-in-Reply-clause-received : goal.returns-in-Reply-clause-received
returns-in-Reply-clause-received c =
    record {
      ok = reply_step c.args.self.now c.args.message.now c.in-Reply.from _ _ _ c.new-sends.result.items _ c.take_reply-entered.new.self c.in-Reply.is (search rules) c.take_reply-entered.ensures;
      enters = reply_enters c.args.self.now c.args.message.now c.in-Reply.from _ c.in-Reply.seq _ _ c.take_reply-entered.new.self c.in-Reply.is c.take_reply-entered.ensures;
      err = tt;
    }
