use Rattle.std.proofs.Common.{arith}
use Rattle.ra_script.proofs.ReadScripts.{read_scripts}
use Rattle.ra_script.proofs.laws.read_scripts_come_to_rest.Goals as goal

pub returns : goal.returns
returns c =
    let rest = c.scripts_come_to_rest.ensures in
    let policies = c.policies_bring_scripts_to_rest.ensures in
    record {
      scripts = read_scripts;
      below_limit = λ format policy input unrepeated refuses.
          let (script, moves, is, follows, stops) = refuses in
          let fit = read_scripts input script is in
          omega (arith, stops.0, policies.turns script policy moves fit unrepeated follows, rest.most script fit);
      never_refused = λ format policy input cause unrepeated itself refuses.
          let (script, moves, is, follows, stops) = refuses in
          let fit = read_scripts input script is in
          let most = rest.most script fit in
          policies.in_time script policy 16777216 moves cause fit itself unrepeated (omega (arith, most)) follows stops;
    }
