-- As many inboxes were made as rounds were gone.
use Rattle.std.proofs.Common.{◌≡◌, vec_len}
use Rattle.ra_site.proofs.post.Post.new.Given as goal

abbrev pub invariant-loop-node : goal.invariant-loop-node
invariant-loop-node l = vec_len l.inboxes ≡ l._node
