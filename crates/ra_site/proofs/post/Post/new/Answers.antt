use Rattle.std.proofs.Common.{◌≡◌, ℕ, ◌+◌, vec_len, Result, Ok, Err, refl, ap, ◌∙◌, arith}
use Rattle.ra_stamp.specs.NodeId.{IsNodeNumber}
use Rattle.ra_site.specs.declared.post.NewPostError.{NewPostError}
use Rattle.ra_site.specs.declared.post.NewPostError.TheVariants.{BadCount, Memory}
use Rattle.ra_site.proofs.NoError.{not_err}
use Rattle.ra_site.proofs.post.Post.new.Goals as goal

-- what is made is not refused
made : {X : Type 0} (x : X) → ◌≡◌ {A = Result X NewPostError} (Ok x) (Err BadCount) → ⊥
made x is = cc

-- memory that ran out is no bad count
another : {X : Type 0} → ◌≡◌ {A = Result X NewPostError} (Err Memory) (Err BadCount) → ⊥
another is = cc

pub returns : goal.returns
returns c =
    let good : IsNodeNumber c.args.nodes = c.in-Some.ensures.valid.0 refl in
    record {
      inboxes = omega (arith, c.loop-node.invariant);
      count = record { bad_count = (λ is. absurd (made _ is), λ bad. absurd (bad good)); allowed = (λ _. good, λ _. tt) };
    }

pub returns-then-is_err : goal.returns-then-is_err
returns-then-is_err c =
    let good : IsNodeNumber c.args.nodes = c.in-Some.ensures.valid.0 refl in
    record {
      inboxes = tt;
      count = record { bad_count = (λ is. absurd (another is), λ bad. absurd (bad good)); allowed = (λ _. good, λ _. refl) };
    }

pub loop-node-preserved : goal.loop-node-preserved
loop-node-preserved c =
    not_err (vec_len c.open_inbox.new.inboxes ≡ vec_len c.loop-node.inboxes + 1) c.open_inbox.result c.if-is_err.ensures.value c.open_inbox.ensures
    ∙ ap (λ (n : ℕ). n + 1) c.loop-node.invariant
