use Rattle.ra_schedule.specs.Progress.{WaitOrAreDone}
use Rattle.ra_schedule.proofs.driver.client_progress.first_free.Given as goal

-- no client so far is free
abbrev pub invariant-loop-place : goal.invariant-loop-place
invariant-loop-place l = WaitOrAreDone l.script l.clients l.place
