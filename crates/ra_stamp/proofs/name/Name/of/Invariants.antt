use Rattle.std.proofs.Common.{◌≡◌, ◌++◌, true, take, drop, replicate}
use Rattle.std.specs.List.{list_all}
use Rattle.ra_stamp.specs.Name.{is_name_byte}
use Rattle.ra_stamp.proofs.name.Name.of.Given as goal

-- the bytes so far are copied, and a name may have each of them
abbrev pub invariant-loop-place : goal.invariant-loop-place
invariant-loop-place l =
    record {
      each : list_all is_name_byte (take l.place l.bytes) ≡ true;
      copied : l.padded ≡ take l.place l.bytes ++ drop l.place (replicate 32 0);
    }
