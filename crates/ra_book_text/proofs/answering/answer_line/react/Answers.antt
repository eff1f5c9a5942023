use Rattle.std.proofs.Common.{◌≡◌, ◌<◌, ◌≤◌, List, ℕ, length, refl, subst, ◌∙◌, inl, arith, rules}
use Rattle.ra_book_text.specs.BookText.{IsEvent, IsUnread}
use Rattle.ra_book_text.proofs.Taking.{reacts, stays}
use Rattle.ra_book_text.proofs.answering.answer_line.react.Goals as goal

pub returns-then-line-clause-reacts : goal.returns-then-line-clause-reacts
returns-then-line-clause-reacts c text kept =
    let long : 256 < length text = rw c.if-line.true at kept in
    record { cause = inl (λ form h. let short : length text ≤ 256 = h.0 in omega (arith, long, short)); new_is = refl }

pub returns-in-Ok-take-clause-reacts : goal.returns-in-Ok-take-clause-reacts
returns-in-Ok-take-clause-reacts c text kept =
    let whole : c.args.line.now.bytes.items ≡ text = rw c.if-line.false at kept in
    let slice : c.as_slice.result.now ≡ c.args.line.now.bytes.items = search rules in
    let event = subst (λ (t : List ℕ). IsEvent t c.in-Ok.kind) (slice ∙ whole) c.in-Ok.ensures.read in
    reacts c.args.version _ _ text c.in-Ok.kind c.in-Ok-take.outcome (c.allows.ensures.0 c.if-not-allows.false, event) c.in-Ok-take.ensures.taken

pub returns-in-Err-take-clause-reacts : goal.returns-in-Err-take-clause-reacts
returns-in-Err-take-clause-reacts c text kept =
    let whole : c.args.line.now.bytes.items ≡ text = rw c.if-line.false at kept in
    let slice : c.as_slice.result.now ≡ c.args.line.now.bytes.items = search rules in
    let event = subst (λ (t : List ℕ). IsEvent t c.in-Ok.kind) (slice ∙ whole) c.in-Ok.ensures.read in
    stays c.args.version _ _ text c.in-Ok.kind c.in-Err-take.cause (c.allows.ensures.0 c.if-not-allows.false, event) c.in-Err-take.ensures.taken

pub returns-in-Err-clause-reacts : goal.returns-in-Err-clause-reacts
returns-in-Err-clause-reacts c text kept =
    let whole : c.args.line.now.bytes.items ≡ text = rw c.if-line.false at kept in
    let slice : c.as_slice.result.now ≡ c.args.line.now.bytes.items = search rules in
    record { cause = inl (subst (λ (t : List ℕ). IsUnread t c.in-Err.why) (slice ∙ whole) c.in-Err.ensures.read); new_is = refl }
