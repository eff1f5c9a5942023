-- The sites so far belong to the first nodes.
use Rattle.ra_site.proofs.SiteNumbers.{AreFirst}
use Rattle.ra_site.proofs.cluster.all_sites.are_in_order.Given as goal

abbrev pub invariant-loop-place : goal.invariant-loop-place
invariant-loop-place l = AreFirst l.sites l.place
