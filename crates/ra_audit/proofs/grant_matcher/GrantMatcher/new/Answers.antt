use Rattle.std.proofs.Common.{[], false}
use Rattle.ra_audit.proofs.Matching.{is_first, is_as}
use Rattle.ra_audit.proofs.grant_matcher.GrantMatcher.new.Goals as goal

pub invariant_of-result : goal.invariant_of-result
invariant_of-result c = is_as [] _ [] _ [] _ [] _ false c.new.ensures c.new-2.ensures c.new-3.ensures.items c.new-4.ensures.items is_first
