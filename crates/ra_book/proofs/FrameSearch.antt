-- Frames that are sought among those that ascend by clock.
use Rattle.std.proofs.Common.{◌≡◌, ◌≢◌, ℕ, ◌+◌, ◌<◌, ◌≤◌, false, List, length, get_or, sym, ap, ◌∙◌, subst, inl, inr, arith}
use Rattle.std.specs.Prelude.{All, Contains}
use Rattle.std.proofs.lemmas.Bool.{cases_lt}
use Rattle.std.proofs.lemmas.List.{get_or_default}
use Rattle.ra_frame.specs.declared.frame.Frame.{Frame}
use Rattle.ra_book.specs.declared.book.sent.Sent.{Sent}
use Rattle.ra_book.specs.Keeping.{Ascends, IsFirstAt}

-- what is sought: this frame, or this frame that is not flagged lost
abbrev pub IsOf : Frame → Sent → Type 0
IsOf frame s = s.frame ≡ frame

abbrev pub IsKeptOf : Frame → Sent → Type 0
IsKeptOf frame s = s ≡ record { frame = frame; lost = false }

clock_of_it : (frame : Frame) (s : Sent) → IsOf frame s → s.frame.clock ≡ frame.clock
clock_of_it frame s is = ap (λ (f : Frame). f.clock) is

clock_of_kept : (frame : Frame) (s : Sent) → IsKeptOf frame s → s.frame.clock ≡ frame.clock
clock_of_kept frame s is = ap (λ (x : Sent). x.frame.clock) is

-- it is not one of those before the place
abbrev pub NoneBefore : (Sent → Type 0) → List Sent → ℕ → Type 0
NoneBefore P sent place = (k : ℕ) (d : Sent) → k < place → P (get_or sent k d) → ⊥

module _ (P : Sent → Type 0) (clock : ℕ) (at_clock : (s : Sent) → P s → s.frame.clock ≡ clock) (sent : List Sent) (place : ℕ) where
  below : ((k : ℕ) (d : Sent) → k < place → (get_or sent k d).frame.clock < clock) → NoneBefore P sent place
  below low k d before is = omega (arith, low k d before, at_clock (get_or sent k d) is)

  module _ (s : Sent) (within : place < length sent) (at : s ≡ get_or sent place s) (before : NoneBefore P sent place) where
    read : (d : Sent) → get_or sent place d ≡ s
    read d = get_or_default sent place d s within ∙ sym at

    more : (P s → ⊥) → NoneBefore P sent (place + 1)
    more not k d less is =
        elim (cases_lt k place) [
          | inl under ↦ before k d under is
          | inr over ↦
              let here : k ≡ place = omega arith in
              not (subst P (ap (λ n. get_or sent n d) here ∙ read d) is)
        ]

    -- if its clock is passed, it is not there
    none_later : Ascends sent → clock < s.frame.clock → (k : ℕ) (d : Sent) → k < length sent → P (get_or sent k d) → ⊥
    none_later up past k d low is =
        elim (cases_lt k place) [
          | inl under ↦ before k d under is
          | inr over ↦
              let same : (get_or sent place d).frame.clock ≡ s.frame.clock = ap (λ (x : Sent). x.frame.clock) (read d) in
              omega (arith, up place k d (omega (arith, over)) low, at_clock (get_or sent k d) is, same, past)
        ]

-- ---- The frame

module _ (sent : List Sent) (frame : Frame) (place : ℕ) where
  pub none_below : ((k : ℕ) (d : Sent) → k < place → (get_or sent k d).frame.clock < frame.clock) → NoneBefore (IsOf frame) sent place
  none_below low = below (IsOf frame) frame.clock (clock_of_it frame) sent place low

  pub none_at_all : length sent ≤ place → NoneBefore (IsOf frame) sent place → All (λ s. s.frame ≢ frame) sent
  none_at_all end before k d low is = before k d (omega (arith, low, end)) is

  module _ (s : Sent) (within : place < length sent) (at : s ≡ get_or sent place s) (before : NoneBefore (IsOf frame) sent place) where
    pub none_more : (s.frame ≡ frame → ⊥) → NoneBefore (IsOf frame) sent (place + 1)
    none_more not = more (IsOf frame) frame.clock (clock_of_it frame) sent place s within at before not

    pub first_here : s.frame ≡ frame → IsFirstAt sent frame place
    first_here is = record {
      within = within;
      is = λ d. ap (λ (x : Sent). x.frame) (get_or_default sent place d s within ∙ sym at) ∙ is;
      first = before;
    }

    pub none_after : Ascends sent → frame.clock < s.frame.clock → All (λ s. s.frame ≢ frame) sent
    none_after up past = none_later (IsOf frame) frame.clock (clock_of_it frame) sent place s within at before up past

-- ---- The frame, if it is not flagged lost

module _ (sent : List Sent) (frame : Frame) (place : ℕ) where
  pub none_kept_below : ((k : ℕ) (d : Sent) → k < place → (get_or sent k d).frame.clock < frame.clock) → NoneBefore (IsKeptOf frame) sent place
  none_kept_below low = below (IsKeptOf frame) frame.clock (clock_of_kept frame) sent place low

  pub none_kept : length sent ≤ place → NoneBefore (IsKeptOf frame) sent place → Contains sent (record { frame = frame; lost = false }) → ⊥
  none_kept end before is = before is.0 (record { frame = frame; lost = false }) (omega (arith, is.1, end)) is.2

  module _ (s : Sent) (within : place < length sent) (at : s ≡ get_or sent place s) where
    pub kept_here : IsKeptOf frame s → Contains sent (record { frame = frame; lost = false })
    kept_here is = (place, within, get_or_default sent place (record { frame = frame; lost = false }) s within ∙ sym at ∙ is)

    module _ (before : NoneBefore (IsKeptOf frame) sent place) where
      pub none_kept_more : (IsKeptOf frame s → ⊥) → NoneBefore (IsKeptOf frame) sent (place + 1)
      none_kept_more not = more (IsKeptOf frame) frame.clock (clock_of_kept frame) sent place s within at before not

      pub none_kept_after : Ascends sent → frame.clock < s.frame.clock → Contains sent (record { frame = frame; lost = false }) → ⊥
      none_kept_after up past is =
          none_later (IsKeptOf frame) frame.clock (clock_of_kept frame) sent place s within at before up past is.0 (record { frame = frame; lost = false }) is.1 is.2
