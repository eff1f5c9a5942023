-- The sites of the rounds that are gone were made.
use Rattle.std.proofs.Common.{◌≡◌}
use Rattle.ra_site.specs.Sites.{sites_to}
use Rattle.ra_site.proofs.cluster.all_sites.make_sites.Given as goal

abbrev pub invariant-loop-place : goal.invariant-loop-place
invariant-loop-place l = l.sites.items ≡ sites_to l.place l.audited
