-- What a function says of a script that it hands to another one.
use Rattle.std.proofs.Common.{◌≡◌, ℕ, ◌+◌, ◌^◌, ◌<◌, ◌≤◌, Bool, Result, Ok, Err, OnOk, arith, refl, sym, ap, ◌∙◌, subst, inl, inr}
use Rattle.ra_schedule.specs.declared.choice.Policy.{Policy}
use Rattle.ra_schedule.specs.declared.driver.drive_script.Summary.{Summary}
use Rattle.ra_schedule.specs.declared.error.DriveError.{DriveError}
use Rattle.ra_schedule.specs.declared.error.DriveError.TheVariants.{TurnLimit, Memory}
use Rattle.ra_schedule.specs.Script.{ScriptState}
use Rattle.ra_schedule.specs.Drive.{Answers, IsInTime, Drives, IsSummary, IsWholeRun}
use Rattle.ra_schedule.specs.Survey.{HasEnded}

-- the fault of a result, whatever else it could be
err_as : {X Y : Type 0} {d e : DriveError} → ◌≡◌ {A = Result X DriveError} (Err d) (Err e) → ◌≡◌ {A = Result Y DriveError} (Err d) (Err e)
err_as {X} {Y} {d} {e} h = let same : d ≡ e = cc in ap Err same

pub no_ok : {X : Type 0} {x : X} {e : DriveError} → Ok x ≡ Err e → ⊥
no_ok h = absurd cc

-- it is refused for one fault
pub one_refusal : {X : Type 0} (s : Result X DriveError) (d e : DriveError) → s ≡ Err d → s ≡ Err e → d ≡ e
one_refusal s d e f g = cc

-- a turn within the limit can be counted
pub countable_turn : (moves turns limit : ℕ) → moves ≡ turns → turns < limit → limit < 2 ^ 64 → moves + 1 < 2 ^ 64
countable_turn moves turns limit is less fits = omega (arith, is, less, fits)

-- there are as many moves as turns
pub all_turns : (moves turns limit : ℕ) → moves ≡ turns → turns ≤ limit → moves ≤ limit
all_turns moves turns limit is within = omega arith

-- that a turn is left is not that memory ran out
pub no_limit : {X : Type 0} → ◌≡◌ {A = Result X DriveError} (Err TurnLimit) (Err Memory) → ⊥
no_limit is = absurd cc

-- a refusal that is handed on says nothing of what is left
pub no_work : {Y : Type 0} (P : Type 0) (fault : DriveError) (s : Result Y DriveError) → s ≡ Err fault → OnOk s P
no_work {Y} P fault s is = subst (λ (r : Result Y DriveError). OnOk r P) (sym is) tt

-- it answers as it did
err_answers : {X Y : Type 0} (script : ScriptState) (policy : Policy) (limit : ℕ) (fault : DriveError)
    → Answers {X = X} script policy limit (Err fault) → Answers {X = Y} script policy limit (Err fault)
err_answers {X} {Y} script policy limit fault a = record {
  refused = λ cause apart e. a.refused cause apart (err_as {X = Y} {Y = X} e);
  exact = λ cause moves follows stops. elim (a.exact cause moves follows stops) [
    | inl e ↦ inl (err_as {X = X} {Y = Y} e)
    | inr e ↦ inr (err_as {X = X} {Y = Y} e)
  ];
  allowed = λ moves follows ends within. a.allowed moves follows ends within;
}

-- in its time
err_in_time : {X Y : Type 0} (script : ScriptState) (policy : Policy) (limit : ℕ) (fault : DriveError)
    → IsInTime {X = X} script policy limit (Err fault) → IsInTime {X = Y} script policy limit (Err fault)
err_in_time {X} {Y} script policy limit fault t = record {
  below_limit = λ unrepeated less e. t.below_limit unrepeated less (err_as {X = Y} {Y = X} e);
  only_memory = λ unrepeated itself enough. t.only_memory unrepeated itself enough;
}

-- a refusal that is handed on
pub refusal_on : {X Y : Type 0} (script : ScriptState) (policy : Policy) (limit : ℕ) (IsX : X → Type 0) (IsY : Y → Type 0) (fault : DriveError)
    (s : Result Y DriveError) → s ≡ Err fault → Drives script policy limit IsX (Err fault) → Drives script policy limit IsY s
refusal_on {X} {Y} script policy limit IsX IsY fault s is d =
    subst (Drives script policy limit IsY) (sym is) (record {
      ok = tt;
      answers = err_answers script policy limit fault d.answers;
      in_time = err_in_time script policy limit fault d.in_time;
    })

-- a value that is made of another one
pub value_on : {X Y : Type 0} (script : ScriptState) (policy : Policy) (limit : ℕ) (IsX : X → Type 0) (IsY : Y → Type 0) (x : X) (y : Y)
    → Drives script policy limit IsX (Ok x) → IsY y → Drives script policy limit IsY (Ok y)
value_on script policy limit IsX IsY x y d made = record {
  ok = made;
  answers = record {
    refused = λ cause apart e. absurd (no_ok e);
    exact = λ cause moves follows stops. elim (d.answers.exact cause moves follows stops) [
      | inl e ↦ absurd (no_ok e)
      | inr e ↦ absurd (no_ok e)
    ];
    allowed = λ moves follows ends within. tt;
  };
  in_time = record { below_limit = λ unrepeated less e. no_ok e; only_memory = λ unrepeated itself enough. tt };
}

fault_of : {X : Type 0} (a b : DriveError) → ◌≡◌ {A = Result X DriveError} (Err a) (Err b) → a ≡ b
fault_of a b e = cc

-- memory ran out
pub memory_ran_out : {Y : Type 0} (script : ScriptState) (policy : Policy) (limit : ℕ) (IsY : Y → Type 0) (s : Result Y DriveError) (why : DriveError)
    → s ≡ Err why → why ≡ Memory → Drives script policy limit IsY s
memory_ran_out {Y} script policy limit IsY s why is memory =
    subst (Drives script policy limit IsY) (sym is) (record {
      ok = tt;
      answers = record {
        refused = λ cause apart e. absurd (apart (sym (fault_of {X = Y} why cause e) ∙ memory));
        exact = λ cause moves follows stops. inr (ap Err memory);
        allowed = λ moves follows ends within. memory;
      };
      in_time = record {
        below_limit = λ unrepeated less e. let not : Memory ≡ TurnLimit = sym memory ∙ fault_of {X = Y} why TurnLimit e in absurd cc;
        only_memory = λ unrepeated itself enough. memory;
      };
    })

-- what ended is what a summary says
pub ended_as : (script : ScriptState) (policy : Policy) (limit : ℕ) (summary : Summary) (finished : Bool) → summary.finished ≡ finished → IsSummary script policy limit summary
    → HasEnded script policy limit (record { turns = summary.turns; messages = summary.report.sent }) finished
ended_as script policy limit summary finished is s = record {
  moves = s.moves;
  report = summary.report;
  run = subst (IsWholeRun script policy limit s.moves summary.report) is s.run;
  turns = s.turns;
  messages = refl;
}
