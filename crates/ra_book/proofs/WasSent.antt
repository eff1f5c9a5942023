-- Which frames were sent and not lost, by the book of the sender.
use Rattle.std.proofs.Common.{◌≡◌, ◌≢◌, ℕ, ◌+◌, ◌<◌, ◌≤◌, false, Some, List, length, get_or, sym, ap, ◌∙◌, subst, arith}
use Rattle.std.specs.Prelude.{◌↔◌, AllPairs, All, Contains, slice_get}
use Rattle.std.proofs.lemmas.Option.{slice_get_within, get_or_from_slice_get}
use Rattle.ra_stamp.specs.Message.{from_of}
use Rattle.ra_frame.specs.declared.frame.Frame.{Frame}
use Rattle.ra_book.specs.declared.book.sent.Sent.{Sent}
use Rattle.ra_book.specs.Book.{BookState}
use Rattle.ra_book.specs.Settled.{IsCluster, WasSent, HasUnsent, Repeats, all_received}
use Rattle.ra_book.proofs.Merging.{number_at}

abbrev as_kept : Frame → Sent
as_kept f = record { frame = f; lost = false }

-- the book of the sender is at the place one before its number
module _ (books : List BookState) (cluster : IsCluster books) (frame : Frame) (sender : ℕ) (from : sender + 1 ≡ from_of frame.message) where
  place_is : (k : ℕ) (b : BookState) → k < length books → get_or books k b ≡ b → b.me ≡ from_of frame.message → k ≡ sender
  place_is k b low at me =
      let number : b.me ≡ k + 1 = sym (ap (λ (x : BookState). x.me) at) ∙ number_at books cluster k b low in
      omega (arith, number, me, from)

  pub by_its_book : (book : BookState) → slice_get books sender ≡ Some book → Contains book.sent (as_kept frame) ↔ WasSent books frame
  by_its_book book at =
      let within = slice_get_within books sender book at in
      let here : get_or books sender book ≡ book = get_or_from_slice_get books sender book book at in
      let me : book.me ≡ from_of frame.message = sym (ap (λ (x : BookState). x.me) here) ∙ number_at books cluster sender book within ∙ from in (
        λ has. (sender, book, within, here, (me, has)),
        λ is.
            let same = place_is is.0 is.1 is.2 is.3 is.4.0 in
            let one : is.1 ≡ book = sym is.3 ∙ ap (λ k. get_or books k is.1) same ∙ get_or_from_slice_get books sender book is.1 at in
            subst (λ (b : BookState). Contains b.sent (as_kept frame)) one is.4.1,
      )

  pub no_book : length books ≤ sender → WasSent books frame → ⊥
  no_book past is =
      let same = place_is is.0 is.1 is.2 is.3 is.4.0 in
      omega (arith, past, same, is.2)

-- if all were sent, none came that was not
pub all_sent : (books : List BookState) → All (λ f. WasSent books f) (all_received books) → HasUnsent books → ⊥
all_sent books all (k, f, low, at, none) = none (subst (WasSent books) at (all k f low))

-- a list of different elements does not repeat
pub no_repeats : {X : Type 0} (xs : List X) → AllPairs (λ a b. a ≢ b) xs → Repeats xs → ⊥
no_repeats xs apart r = apart r.first r.second r.item r.in_order r.within (r.first_is ∙ sym r.second_is)
