use Rattle.std.proofs.Common.{rules}
use Rattle.ra_host_text.specs.ClientFields.{mode_and_within_of}
use Rattle.ra_host_text.proofs.client_line.mode_and_within_of.Goals as goal

pub returns-in_err-mode-in-None : goal.returns-in_err-mode-in-None
unfolding mode_and_within_of
returns-in_err-mode-in-None c = search rules

pub returns-in_err-mode-in-Some : goal.returns-in_err-mode-in-Some
unfolding mode_and_within_of
returns-in_err-mode-in-Some c = search rules

pub returns-in_err-within-in-Some : goal.returns-in_err-within-in-Some
unfolding mode_and_within_of
returns-in_err-within-in-Some c = search rules

pub returns-in_ok-mode-in-None : goal.returns-in_ok-mode-in-None
unfolding mode_and_within_of
returns-in_ok-mode-in-None c = search rules

pub returns-in_ok-within-in-Some : goal.returns-in_ok-within-in-Some
unfolding mode_and_within_of
returns-in_ok-within-in-Some c = search rules
