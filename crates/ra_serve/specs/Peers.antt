-- What a host keeps of the others, beside their links.
use Rattle.std.specs.Prelude.{◌≡◌, ℕ, ◌-◌, false, [], ◌∷◌, slice_index_or, slice_set, None}
use Rattle.ra_serve.specs.declared.peer.Peer.{Peer}
use Rattle.ra_serve.specs.declared.base.Base.{Base}

-- nothing is known of it
abbrev pub unknown : Peer
unknown =
    record {
      identity = None;
      since = 0;
      said = 0;
      is_owed = false;
      shown = 0;
      faults = 0 ∷ 0 ∷ 0 ∷ 0 ∷ 0 ∷ 0 ∷ 0 ∷ [];
    }

-- what is kept of a host, from 1 on; of one beyond the last nothing is known
abbrev pub peer_of : Base → ℕ → Peer
peer_of base j = slice_index_or base.peers.items (j - 1) unknown

-- this is kept of a host from now on, if it is there, and nothing else changes
pub record Puts (old : Base) (j : ℕ) (peer : Peer) (new : Base) : Type 0 where
  pub settings : new.settings ≡ old.settings
  pub nonce : new.nonce ≡ old.nonce
  pub identity : new.identity ≡ old.identity
  pub time : new.time ≡ old.time
  pub out : new.out ≡ old.out
  pub peers : new.peers.items ≡ slice_set old.peers.items (j - 1) peer
