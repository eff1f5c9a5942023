-- The object of a survey of many seeds.
use Rattle.std.specs.Prelude.{List, ℕ, Option, Some, None, codes}
use Rattle.serde_json.specs.Data.{Data, null, number, unsigned, object, member, no_members}
use Rattle.ra_schedule.specs.declared.surveys.seed_outcomes.Spread.{Spread}
use Rattle.ra_schedule.specs.declared.surveys.seed_outcomes.Survey.{Survey}
use Rattle.ra_schedule.specs.declared.surveys.seed_outcomes.Tally.{Tally}
use Rattle.ra_json.specs.Objects.{count, line_of}

-- how many seeds came to an end, and the first of them; null if no seed did
abbrev pub tally_object : Option Tally → Data
tally_object None = null
tally_object (Some tally) = object
    (member (codes "first") (number (unsigned tally.first))
    (member (codes "seeds") (count tally.seeds)
    no_members))

-- the least and the greatest value of a figure; null if the figure does not exist
abbrev pub spread_object : Option Spread → Data
spread_object None = null
spread_object (Some spread) = object
    (member (codes "least") (count spread.least)
    (member (codes "most") (count spread.most)
    no_members))

-- the three ends and the two figures
abbrev pub survey_object : Survey → Data
survey_object survey = object
    (member (codes "finished") (tally_object survey.finished)
    (member (codes "limit") (tally_object survey.limit)
    (member (codes "messages") (spread_object survey.messages)
    (member (codes "stuck") (tally_object survey.stuck)
    (member (codes "turns") (spread_object survey.turns)
    no_members)))))

-- its line
abbrev pub survey_line : Survey → List ℕ
survey_line survey = line_of (survey_object survey)
