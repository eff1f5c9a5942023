-- The losses of the frames that are flagged lost.
use Rattle.std.proofs.Common.{◌≡◌, ℕ, ◌+◌, ◌<◌, true, false, cond, List, [], ◌∷◌, ◌++◌, map, length, get_or, take, sym, ap, ◌∙◌, append_assoc}
use Rattle.std.specs.List.{filter}
use Rattle.std.proofs.lemmas.List.{map-append, append-nil, take_more}
use Rattle.std.proofs.lemmas.List.Elements.{filter_more}
use Rattle.std.proofs.lemmas.List.Concat.{flat_map-append}
use Rattle.ra_stamp.specs.declared.message.Message.{Message}
use Rattle.ra_world.specs.declared.step.Step.{Step}
use Rattle.ra_world.specs.declared.step.Step.TheVariants.{Lose}
use Rattle.ra_book.specs.declared.book.sent.Sent.{Sent}
use Rattle.ra_book.specs.Book.{BookState}
use Rattle.ra_book.specs.Settled.{lost_among, all_lost}

abbrev losses : List Message → List Step
losses ms = map (λ m. Lose m) ms

-- another frame
module _ (steps initial : List Step) (sent : List Sent) (i : ℕ) (s : Sent) (within : i < length sent) (at : get_or sent i s ≡ s)
    (before : steps ≡ initial ++ losses (lost_among (take i sent))) where
  more : lost_among (take (i + 1) sent) ≡ lost_among (take i sent) ++ lost_among (s ∷ [])
  more =
      ap (λ (ss : List Sent). map (λ s. s.frame.message) ss) (filter_more (λ s. s.lost) sent i s within ∙ ap (λ (x : Sent). filter (λ s. s.lost) (take i sent) ++ cond x.lost (x ∷ []) []) at)
      ∙ map-append (λ s. s.frame.message) (filter (λ s. s.lost) (take i sent)) (cond s.lost (s ∷ []) [])

  pub lost_more : s.lost ≡ true → steps ++ Lose s.frame.message ∷ [] ≡ initial ++ losses (lost_among (take (i + 1) sent))
  lost_more is =
      ap (λ (xs : List Step). xs ++ Lose s.frame.message ∷ []) before
      ∙ append_assoc initial (losses (lost_among (take i sent))) (Lose s.frame.message ∷ [])
      ∙ ap (λ (xs : List Step). initial ++ xs)
      (sym (map-append (λ m. Lose m) (lost_among (take i sent)) (s.frame.message ∷ []))
      ∙ ap losses (sym (more ∙ ap (λ b. lost_among (take i sent) ++ map (λ s. s.frame.message) (cond b (s ∷ []) [])) is)))

  pub kept_more : s.lost ≡ false → steps ≡ initial ++ losses (lost_among (take (i + 1) sent))
  kept_more is =
      before
      ∙ ap (λ (ms : List Message). initial ++ losses ms)
      (sym (more ∙ ap (λ b. lost_among (take i sent) ++ map (λ s. s.frame.message) (cond b (s ∷ []) [])) is ∙ append-nil (lost_among (take i sent))))

-- another book
pub book_more : (steps steps' initial : List Step) (books : List BookState) (i : ℕ) (b : BookState) → i < length books → b ≡ get_or books i b
    → steps ≡ initial ++ losses (all_lost (take i books)) → steps' ≡ steps ++ losses (lost_among b.sent) → steps' ≡ initial ++ losses (all_lost (take (i + 1) books))
book_more steps steps' initial books i b within at before here =
    let more : all_lost (take (i + 1) books) ≡ all_lost (take i books) ++ lost_among b.sent =
    ap all_lost (take_more books i b within ∙ ap (λ (x : BookState). take i books ++ x ∷ []) (sym at))
    ∙ flat_map-append (λ b. lost_among b.sent) (take i books) (b ∷ [])
    ∙ ap (λ (ms : List Message). all_lost (take i books) ++ ms) (append-nil (lost_among b.sent))
    in
    here
    ∙ ap (λ (xs : List Step). xs ++ losses (lost_among b.sent)) before
    ∙ append_assoc initial (losses (all_lost (take i books))) (losses (lost_among b.sent))
    ∙ ap (λ (xs : List Step). initial ++ xs) (sym (map-append (λ m. Lose m) (all_lost (take i books)) (lost_among b.sent)) ∙ ap losses (sym more))
