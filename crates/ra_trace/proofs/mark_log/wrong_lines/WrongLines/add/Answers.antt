use Rattle.std.proofs.Common.{◌+◌, ◌++◌, ◌<◌, ◌∷◌, [], List, ℕ, ap, subst, sym, ◌∙◌}
use Rattle.std.specs.Prelude.{slice_index}
use Rattle.std.specs.List.{slice_set}
use Rattle.std.specs.Map.{keys_of}
use Rattle.ra_trace.specs.declared.mark_log.wrong_lines.WrongLine.{WrongLine}
use Rattle.ra_trace.specs.LeftOut.{is_met}
use Rattle.ra_trace.proofs.WrongOnes.{as_kept, first_kept, other_kept, unmet_in_map}
use Rattle.ra_trace.proofs.mark_log.wrong_lines.WrongLines.add.Goals.{then-is_first+in_ok-keep_first, else-is_first}
use Rattle.ra_trace.proofs.mark_log.wrong_lines.WrongLines.add.Goals as goal

pub keep_first-requires : goal.keep_first-requires
keep_first-requires c =
    unmet_in_map c.args.wrong.now.name c.self.inside.names.entries c.self.inside.all.items c.self.invariant.names_are
    (ap (λ (lines : List WrongLine). is_met c.args.wrong.now.name lines) c.self.view_is ∙ sym c.is_met-is_first.ensures ∙ c.if-is_first.true)

pub invariant_of-self-2 : goal.invariant_of-self-2
invariant_of-self-2 c =
    let old = c.self.inside in
    let wrong = c.args.wrong.now in
    let within = subst (λ (n : ℕ). n < 7) c.cause_place.ensures.place c.cause_place.ensures.few in
    let met = ap (λ (lines : List WrongLine). is_met wrong.name lines) c.self.view_is ∙ sym c.is_met-is_first.ensures in
    elim c.if-is_first.branch [
      | then-is_first+in_ok-keep_first w ↦
          as_kept (ap (λ s. s.firsts.items) w.self-inside-is ∙ w.in_ok-keep_first.ensures.firsts)
          (ap (λ s. keys_of s.names.entries) w.self-inside-is ∙ w.in_ok-keep_first.ensures.names)
          (ap (λ s. slice_set s.counts c.cause_place.result (slice_index s.counts c.cause_place.result + 1)) w.self-inside-is
          ∙ ap (λ (n : ℕ). slice_set old.counts n (slice_index old.counts n + 1)) c.cause_place.ensures.place)
          (ap (λ s. s.has_nameless) w.self-inside-is ∙ w.in_ok-keep_first.ensures.nameless)
          (c.and-self-inside.ensures ∙ ap (λ s. s.all.items ++ wrong ∷ []) w.self-inside-is)
          (first_kept old.firsts.items (keys_of old.names.entries) old.counts old.has_nameless old.all.items c.self.invariant wrong within
          (met ∙ w.if-is_first.true))
      | else-is_first w ↦
          as_kept (ap (λ s. s.firsts.items) w.self-inside-is)
          (ap (λ s. keys_of s.names.entries) w.self-inside-is)
          (ap (λ s. slice_set s.counts c.cause_place.result (slice_index s.counts c.cause_place.result + 1)) w.self-inside-is
          ∙ ap (λ (n : ℕ). slice_set old.counts n (slice_index old.counts n + 1)) c.cause_place.ensures.place)
          (ap (λ s. s.has_nameless) w.self-inside-is)
          (c.and-self-inside.ensures ∙ ap (λ s. s.all.items ++ wrong ∷ []) w.self-inside-is)
          (other_kept old.firsts.items (keys_of old.names.entries) old.counts old.has_nameless old.all.items c.self.invariant wrong within
          (met ∙ w.if-is_first.false))
    ]
