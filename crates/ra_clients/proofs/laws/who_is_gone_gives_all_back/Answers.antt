use Rattle.ra_clients.proofs.Leaving.{can_give_back, gone_leaves, leaving_after, sound_after, starts_sound}
use Rattle.ra_clients.proofs.NamedUses.{one_less}
use Rattle.ra_clients.proofs.laws.who_is_gone_gives_all_back.Goals as goal

pub returns-clause-starts : goal.returns-clause-starts
returns-clause-starts c = starts_sound

pub returns-clause-sound : goal.returns-clause-sound
returns-clause-sound c = sound_after

pub returns-clause-gone : goal.returns-clause-gone
returns-clause-gone c = gone_leaves

pub returns-clause-leaving : goal.returns-clause-leaving
returns-clause-leaving c = leaving_after

pub returns-clause-given : goal.returns-clause-given
returns-clause-given c = can_give_back

pub returns-clause-fewer : goal.returns-clause-fewer
returns-clause-fewer c = one_less
