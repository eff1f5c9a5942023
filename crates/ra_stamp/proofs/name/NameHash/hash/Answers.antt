use Rattle.std.proofs.Common.{ℕ, List, ap, ◌∙◌}
use Rattle.ra_stamp.proofs.name.NameHash.hash.Goals as goal

pub returns : goal.returns
returns g c = c.write.ensures ∙ ap (λ (bytes : List ℕ). g.H.Hasher.write c.args.state.now bytes) c.bytes.ensures.value
