use Rattle.std.proofs.Common.{ℕ, Option, subst, inl, inr}
use Rattle.std.specs.Prelude.{string_bytes}
use Rattle.std.proofs.lemmas.Result.{err_from_is_err_and, IfOk-from_err}
use Rattle.ra_schedule.specs.Finding.{IsFirstSeed}
use Rattle.ra_schedule.specs.declared.choice.Policy.{Policy}
use Rattle.ra_script.specs.declared.error.PerformError.{PerformError}
use Rattle.ra_script.specs.Finding.{TellsUpTo}
use Rattle.ra_script.specs.Performed.{IsPerformedAs, RefusesAs, Unwritten, turn_limit}
use Rattle.ra_script.proofs.Firsts.{not_a_choice, not_refused, choice_is_not_memory, memory_is_not_choice}
use Rattle.ra_script.proofs.performing.find_run.find_run.Goals as goal

-- ---- There is no memory to look for it

pub returns-in_err-found : goal.returns-in_err-found
returns-in_err-found g c =
    let result = c.from_residual.result in
    let p = err_from_is_err_and result c.from_residual.ensures.1 in
    record {
      run = λ input is. IfOk-from_err result _ c.from_residual.ensures.0;
      unwritten = λ input is of. not_a_choice result p.0 p.1 p.2 of;
      told = IfOk-from_err result _ c.from_residual.ensures.0;
      choice = λ of. not_a_choice result p.0 p.1 p.2 of;
      memory = λ _. inl c.in_err-found.ensures.err;
    }

-- ---- No seed is found

pub returns-in_default : goal.returns-in_default
returns-in_default g c =
    let chances = c.args.chances.now in
    record {
      run = λ input is.
          record {
            script = c.args.script.now;
            script_is = is;
            none = subst (IsFirstSeed c.args.script.now chances.faults turn_limit c.args.ending chances.seeds.first chances.seeds.last) c.in_default.is c.in_ok-found.ensures.ok;
          };
      unwritten = λ input is of. not_refused _ _ of;
      told = (c.in_ok-found.found, record { first = c.in_ok-found.ensures.ok; told = c.in_ok-found.ensures.told });
      choice = λ of. not_refused _ _ of;
      memory = λ of. not_refused _ _ of;
    }

-- ---- It is written

pub returns-in-Ok : goal.returns-in-Ok
returns-in-Ok g c =
    let chances = c.args.chances.now in
    record {
      run = λ input is.
          record {
            script = c.args.script.now;
            script_is = is;
            seed = c.in-Some.seed;
            seed_is = subst (IsFirstSeed c.args.script.now chances.faults turn_limit c.args.ending chances.seeds.first chances.seeds.last) c.in-Some.is c.in_ok-found.ensures.ok;
            performed = subst (λ (p : Policy). IsPerformedAs c.args.format p input (string_bytes c.in-Ok.printed.text) c.in-Ok.printed.finished) c.chance.ensures
                (c.in-Ok.ensures.ok input is);
          };
      unwritten = λ input is of. not_refused _ _ of;
      told = (c.in_ok-found.found, record { first = c.in_ok-found.ensures.ok; told = c.in_ok-found.ensures.told });
      choice = λ of. not_refused _ _ of;
      memory = λ of. not_refused _ _ of;
    }

-- ---- It is not

pub returns-in-Err-Choice : goal.returns-in-Err-Choice
returns-in-Err-Choice g c =
    let up_to = subst (λ (found : Option ℕ). TellsUpTo c.args.script.now c.args.chances.now c.args.ending found
    (g.O.Observer.told c.args.observer.now) (g.O.Observer.told c.first_seed.new.observer)) c.in-Some.is
    (record { first = c.in_ok-found.ensures.ok; told = c.in_ok-found.ensures.told }) in
    record {
      run = λ input is. tt;
      unwritten = λ input is of.
          let why = subst (λ (fault : PerformError). RefusesAs c.args.format c.chance.result input fault) c.in-Err-Choice.field-0-is (c.in-Err-Choice.ensures.err input is) in
          record {
            script = c.args.script.now;
            script_is = is;
            seed = c.in-Some.seed;
            seed_is = up_to.first;
            unwritten = subst (λ (p : Policy). Unwritten c.args.format p input) c.chance.ensures why;
          };
      told = tt;
      choice = λ _. (c.in-Some.seed, up_to);
      memory = λ of. choice_is_not_memory of;
    }

pub returns : goal.returns
returns g c =
    let up_to = subst (λ (found : Option ℕ). TellsUpTo c.args.script.now c.args.chances.now c.args.ending found
    (g.O.Observer.told c.args.observer.now) (g.O.Observer.told c.first_seed.new.observer)) c.in-Some.is
    (record { first = c.in_ok-found.ensures.ok; told = c.in_ok-found.ensures.told }) in
    record {
      run = λ input is. tt;
      unwritten = λ input is of. memory_is_not_choice of;
      told = tt;
      choice = λ of. memory_is_not_choice of;
      memory = λ _. inr (c.in-Some.seed, up_to);
    }
