-- Each frame was sent and kept, or was not: so if none came that was not, all that came were.
use Rattle.std.proofs.Common.{◌≡◌, ◌⊎◌, zero, suc, Bool, true, false, List, [], ◌∷◌, get_or, refl, sym, ap, ◌∙◌, subst, inl, inr, arith}
use Rattle.std.specs.Prelude.{All, Contains}
use Rattle.std.specs.Ordering.{eq_by_cmp, is_eq}
use Rattle.std.proofs.lemmas.Bool.{false≢true, cases_eq}
use Rattle.std.proofs.lemmas.Cmp.{tied_itself}
use Rattle.std.proofs.lemmas.List.{get_or_default}
use Rattle.std.proofs.lemmas.Map.Views.{tells_apart}
use Rattle.ra_stamp.specs.Message.{from_of}
use Rattle.ra_frame.specs.declared.frame.Frame.{Frame}
use Rattle.ra_book.specs.declared.book.sent.Sent.{Sent}
use Rattle.ra_book.specs.Keys.{message_key}
use Rattle.ra_book.specs.Book.{BookState}
use Rattle.ra_book.specs.Settled.{WasSent, HasUnsent, all_received}
use Rattle.ra_book.proofs.KeyOrders.{key_cmp, key_total, key_exact, one_message}
use Rattle.ra_book.proofs.Parts.{first, later, first_or_later, any_first, any_right}

abbrev OrNot : Type 0 → Type 0
OrNot P = P ⊎ (P → ⊥)

same_or_not : (a b : Frame) → OrNot (a ≡ b)
same_or_not a b = by_clock (cases_eq a.clock b.clock)
  where
    by_test : a.clock ≡ b.clock → (t : Bool) → eq_by_cmp key_cmp (message_key a.message) (message_key b.message) ≡ t → OrNot (a ≡ b)
    by_test clock true e =
        let message = one_message a.message b.message (tells_apart key_exact (message_key a.message) (message_key b.message) e) in
        inl (λ i. record { clock = clock i; message = message i })
    by_test clock false e =
        inr (λ same. false≢true (sym e ∙ ap (λ (x : Frame). eq_by_cmp key_cmp (message_key a.message) (message_key x.message)) (sym same) ∙ ap is_eq (tied_itself key_total (message_key a.message))))

    by_clock : OrNot (a.clock ≡ b.clock) → OrNot (a ≡ b)
    by_clock (inl clock) = by_test clock (eq_by_cmp key_cmp (message_key a.message) (message_key b.message)) refl
    by_clock (inr apart) = inr (λ same. apart (ap (λ (f : Frame). f.clock) same))

-- the frame is in this element, and it is kept
kept_here : (s : Sent) (f : Frame) → OrNot (s ≡ record { frame = f; lost = false })
kept_here s f = by_flag s.lost refl (same_or_not s.frame f)
  where
    by_flag : (b : Bool) → s.lost ≡ b → OrNot (s.frame ≡ f) → OrNot (s ≡ record { frame = f; lost = false })
    by_flag true e either = inr (λ same. false≢true (sym (ap (λ (x : Sent). x.lost) same) ∙ e))
    by_flag false e (inl same) = inl (λ i. record { frame = same i; lost = e i })
    by_flag false e (inr apart) = inr (λ same. apart (ap (λ (x : Sent). x.frame) same))

abbrev kept : Frame → Sent
kept f = record { frame = f; lost = false }

kept_or_not : (sent : List Sent) (f : Frame) → OrNot (Contains sent (kept f))
kept_or_not [] f = inr (λ is. omega (arith, is.1))
kept_or_not (s ∷ sent) f = by_cases (kept_here s f) (kept_or_not sent f)
  where
    by_cases : OrNot (s ≡ kept f) → OrNot (Contains sent (kept f)) → OrNot (Contains (s ∷ sent) (kept f))
    by_cases (inl here) after = inl (subst (λ (x : Sent). Contains (s ∷ sent) x) here (first s sent))
    by_cases (inr not_here) (inl after) = inl (later s sent (kept f) after)
    by_cases (inr not_here) (inr not_after) =
        inr (λ is. elim (first_or_later s sent (kept f) is) [ inl here ↦ not_here here | inr after ↦ not_after after ])

-- the book sent the frame and kept it
abbrev By : Frame → BookState → Type 0
By f b = (b.me ≡ from_of f.message) × Contains b.sent (kept f)

-- a book of these did
some_sent_or_not : (books : List BookState) (f : Frame) → OrNot (WasSent books f)
some_sent_or_not [] f = inr (λ is. omega (arith, is.2))
some_sent_or_not (b ∷ books) f = by_cases (cases_eq b.me (from_of f.message)) (kept_or_not b.sent f) (some_sent_or_not books f)
  where
    not_here : (By f b → ⊥) → (WasSent books f → ⊥) → WasSent (b ∷ books) f → ⊥
    not_here none rest (zero, x, low, at, is) = none (subst (By f) (sym at) is)
    not_here none rest (suc k, x, low, at, is) = rest (k, x, omega (arith, low), at, is)

    by_cases : OrNot (b.me ≡ from_of f.message) → OrNot (Contains b.sent (kept f)) → OrNot (WasSent books f) → OrNot (WasSent (b ∷ books) f)
    by_cases me sent (inl rest) = inl (any_right (By f) (b ∷ []) books rest)
    by_cases (inl me) (inl sent) (inr rest) = inl (any_first (By f) b books (me, sent))
    by_cases (inr me) sent (inr rest) = inr (not_here (λ is. me is.0) rest)
    by_cases (inl me) (inr sent) (inr rest) = inr (not_here (λ is. sent is.1) rest)

pub all_were_sent : (books : List BookState) → (HasUnsent books → ⊥) → All (λ f. WasSent books f) (all_received books)
all_were_sent books none k d low =
    elim (some_sent_or_not books (get_or (all_received books) k d)) [
      | inl is ↦ is
      | inr not ↦ absurd (none (k, get_or (all_received books) k d, low, get_or_default (all_received books) k (get_or (all_received books) k d) d low, not))
    ]
