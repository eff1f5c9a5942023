-- When no more frames can be numbered.
use Rattle.std.specs.Prelude.{ℕ, ◌+◌, Bool, List, nat_lt}
use Rattle.std.specs.List.{list_any}
use Rattle.ra_link.specs.Link.{greatest}
use Rattle.ra_host.specs.Outgoing.{Outgoing}

-- the most frames that an event makes: two for each of 64 nodes
abbrev pub most_made : ℕ
most_made = 128

-- for a host fewer numbers are left than an event may need
abbrev pub is_full : List Outgoing → Bool
is_full os = list_any (λ o. nat_lt greatest (o.made + most_made)) os
