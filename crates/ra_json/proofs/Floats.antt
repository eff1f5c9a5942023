-- No object has a float.
use Rattle.std.proofs.Common.{◌≡◌, ℕ, ◌^◌, List, Bool, true, false, Option, Some, None, nat_lt, decimal, refl}
use Rattle.std.specs.Prelude.{if◌then◌else◌}
use Rattle.serde_json.specs.Data.{number, string, unsigned}
use Rattle.serde_json.specs.Written.{has_float}
use Rattle.ra_trace.specs.declared.checker.verdict.Verdict.{Verdict}
use Rattle.ra_trace.specs.declared.checker.verdict.Verdict.TheVariants.{Valid, Invalid}
use Rattle.ra_trace.specs.declared.mark_log.marks_verdict.MarksVerdict.{MarksVerdict}
use Rattle.ra_trace.specs.declared.mark_log.marks_verdict.MarksVerdict.TheVariants as marks
use Rattle.ra_schedule.specs.declared.surveys.seed_outcomes.Spread.{Spread}
use Rattle.ra_schedule.specs.declared.surveys.seed_outcomes.Survey.{Survey}
use Rattle.ra_schedule.specs.declared.surveys.seed_outcomes.Tally.{Tally}
use Rattle.ra_world.specs.declared.text.report.Report.{Report}
use Rattle.ra_json.specs.Objects.{count}
use Rattle.ra_json.specs.Settled.{totals_object}
use Rattle.ra_json.specs.Surveys.{spread_object, survey_object, tally_object}
use Rattle.ra_json.specs.Verdicts.{marks_verdict_object, verdict_object}

by_size : (n : ℕ) (fits : Bool) → has_float (if fits then number (unsigned n) else string (decimal n)) ≡ false
by_size n true = refl
by_size n false = refl

pub none_in_count : (n : ℕ) → has_float (count n) ≡ false
none_in_count n = by_size n (nat_lt n (2 ^ 64))

pub none_in_verdict : (complete : Option Bool) (verdict : Verdict) → has_float (verdict_object complete verdict) ≡ false
none_in_verdict None (Valid requests messages) = rw (none_in_count messages, none_in_count requests) refl
none_in_verdict (Some complete) (Valid requests messages) = rw (none_in_count messages, none_in_count requests) refl
none_in_verdict complete (Invalid line cause) = refl

pub none_in_marks_verdict : (complete : Option Bool) (verdict : MarksVerdict) → has_float (marks_verdict_object complete verdict) ≡ false
none_in_marks_verdict None (marks.Valid requests grants) = refl
none_in_marks_verdict (Some complete) (marks.Valid requests grants) = refl
none_in_marks_verdict complete (marks.Invalid line cause) = refl

none_in_tally : (tally : Option Tally) → has_float (tally_object tally) ≡ false
none_in_tally None = refl
none_in_tally (Some tally) = rw (none_in_count tally.seeds) refl

none_in_spread : (spread : Option Spread) → has_float (spread_object spread) ≡ false
none_in_spread None = refl
none_in_spread (Some spread) = rw (none_in_count spread.least, none_in_count spread.most) refl

pub none_in_survey : (survey : Survey) → has_float (survey_object survey) ≡ false
none_in_survey survey =
    rw (none_in_tally survey.finished, none_in_tally survey.limit, none_in_spread survey.messages, none_in_tally survey.stuck, none_in_spread survey.turns) refl

pub none_in_totals : (report : Report) → has_float (totals_object report) ≡ false
none_in_totals report =
    rw (
      none_in_count report.lost,
      none_in_count report.sent,
      none_in_count report.queued,
      none_in_count report.requests,
      none_in_count report.under_way,
      none_in_count report.waiting,
      none_in_count report.withdrawn,
    ) refl
