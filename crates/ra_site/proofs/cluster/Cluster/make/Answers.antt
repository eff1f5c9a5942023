-- The sites belong to the nodes that the post has.
use Rattle.std.proofs.Common.{◌≡◌, ℕ, Result, Ok, Err, vec_len, ap, ◌∙◌, sym}
use Rattle.ra_stamp.specs.NodeId.{IsNodeNumber}
use Rattle.ra_site.specs.declared.post.NewPostError.{NewPostError}
use Rattle.ra_site.specs.declared.post.NewPostError.TheVariants.{BadCount}
use Rattle.ra_site.specs.Sites.{sites_to}
use Rattle.ra_site.proofs.SiteNumbers.{count_of, made_of}
use Rattle.ra_site.proofs.cluster.Cluster.make.Goals as goal

pub invariant_of-result : goal.invariant_of-result
invariant_of-result g c =
    let count : vec_len c.in-Ok.sites ≡ c.args.nodes = c.in-Ok.sites.ok.0 ∙ count_of c.args.nodes c.args.audited c.in-Ok.sites.items c.in-Ok.ensures in (
      rw count (c.in_ok-post.ensures.count.allowed.0 tt),
      c.in-Ok.ensures ∙ ap (λ (k : ℕ). sites_to k c.args.audited) (sym count),
    )

-- what is made is not refused
not_refused : {X : Type 0} (x : X) → ◌≡◌ {A = Result X NewPostError} (Ok x) (Err BadCount) → ⊥
not_refused x is = cc

pub returns : goal.returns
returns g c =
    let good : IsNodeNumber c.args.nodes = c.in_ok-post.ensures.count.allowed.0 tt in
    record {
      made = made_of c.args.nodes c.args.start c.args.audited _ (c.in-Ok.sites.ok.0 ∙ count_of c.args.nodes c.args.audited c.in-Ok.sites.items c.in-Ok.ensures);
      count = record { bad_count = (λ is. absurd (not_refused _ is), λ bad. absurd (bad good)); allowed = (λ _. good, λ _. tt) };
    }
